-- Logs of ports one after the other, and the entries of one port in them.
use Rattle.std.proofs.Common.{◌≡◌, ℕ, zero, suc, ◌+◌, ◌<◌, ◌≤◌, List, [], ◌∷◌, ◌++◌, reverse, filter, append-nil, refl, arith, sym, ap, ◌∙◌, subst, inl, inr}
use mathlib.Core.List.{reverse-cons}
use Rattle.std.specs.Prelude.{◌==◌, Bool, true, false, cond}
use Rattle.rdm_model.specs.declared.entry.Entry.{Entry}
use Rattle.rdm_model.specs.Deeds.{log_of}
use Rattle.rdm_port.specs.Views.{PortView}
use Rattle.std.proofs.lemmas.Bool.{cases_Bool}
use Rattle.rdm_law.proofs.Lives.Logs.{log_of-same, log_of-other}
use Rattle.rdm_world.specs.Gathers.{log_or_none, logs_of, IsLater, IsOwnLog}
use Rattle.rdm_world.specs.Joined.{joined}
use Rattle.rdm_world.proofs.GatheredClasses.{filter_yes, filter_no}
use Rattle.rdm_world.proofs.GatheredPairs.{Each, Pairs, each_weaker, each_append, each_reverse, pairs_append, pairs_reverse, pairs_weaker}

-- the entries of one port of two lists in a row
pub log_of-append : (q : ℕ) (xs ys : List Entry) → log_of q (xs ++ ys) ≡ log_of q xs ++ log_of q ys
unfolding log_of
log_of-append q [] ys = refl
log_of-append q (x ∷ xs) ys = by_test (x.port.0 == q) (log_of-append q xs ys)
  where
    by_test : (b : Bool) → log_of q (xs ++ ys) ≡ log_of q xs ++ log_of q ys → cond b (x ∷ log_of q (xs ++ ys)) (log_of q (xs ++ ys)) ≡ cond b (x ∷ log_of q xs) (log_of q xs) ++ log_of q ys
    by_test true h = ap (λ l. x ∷ l) h
    by_test false h = h

-- the entries of one port of a list in the other order
pub log_of-reverse : (q : ℕ) (xs : List Entry) → log_of q (reverse xs) ≡ reverse (log_of q xs)
unfolding log_of
log_of-reverse q [] = refl
log_of-reverse q (x ∷ xs) = ap (log_of q) (reverse-cons x xs) ∙ log_of-append q (reverse xs) (x ∷ []) ∙ ap (λ l. l ++ log_of q (x ∷ [])) (log_of-reverse q xs) ∙ by_test (x.port.0 == q)
  where
    by_test : (b : Bool) → reverse (log_of q xs) ++ cond b (x ∷ []) [] ≡ reverse (cond b (x ∷ log_of q xs) (log_of q xs))
    by_test true = sym (reverse-cons x (log_of q xs))
    by_test false = append-nil (reverse (log_of q xs))

-- the entries of one port are those that pass a test
pub log_is_filter : (q : ℕ) (xs : List Entry) → log_of q xs ≡ filter (λ e. e.port.0 == q) xs
unfolding log_of
log_is_filter q [] = refl
log_is_filter q (x ∷ xs) = ap (λ l. cond (x.port.0 == q) (x ∷ l) l) (log_is_filter q xs)

-- of two tests, either may be made first
pub filters_commute : {A : Type 0} (s t : A → Bool) (xs : List A) → filter s (filter t xs) ≡ filter t (filter s xs)
filters_commute s t [] = refl
filters_commute {A} s t (x ∷ xs) =
    let h = filters_commute s t xs in
    elim (cases_Bool (s x)) [
      | inl a ↦ elim (cases_Bool (t x)) [
        | inl b ↦ ap (filter s) (filter_yes t x xs b) ∙ filter_yes s x (filter t xs) a ∙ ap (λ l. x ∷ l) h ∙ sym (filter_yes t x (filter s xs) b) ∙ sym (ap (filter t) (filter_yes s x xs a))
        | inr b ↦ ap (filter s) (filter_no t x xs b) ∙ h ∙ sym (filter_no t x (filter s xs) b) ∙ sym (ap (filter t) (filter_yes s x xs a))
      ]
      | inr a ↦ elim (cases_Bool (t x)) [
        | inl b ↦ ap (filter s) (filter_yes t x xs b) ∙ filter_no s x (filter t xs) a ∙ h ∙ sym (ap (filter t) (filter_no s x xs a))
        | inr b ↦ ap (filter s) (filter_no t x xs b) ∙ h ∙ sym (ap (filter t) (filter_no s x xs a))
      ]
    ]

-- the entries of a port in its own log are the log
own_all : (q : ℕ) (log : List Entry) → IsOwnLog q log → log_of q log ≡ log
unfolding log_of
own_all q [] own = refl
own_all q (e ∷ before) own = log_of-same q e before own.1 ∙ ap (λ l. e ∷ l) (own_all q before own.0)

-- the log of another port has none of them
own_none : (q p : ℕ) (log : List Entry) → (p ≡ q → ⊥) → IsOwnLog p log → log_of q log ≡ []
unfolding log_of
own_none q p [] other own = refl
own_none q p (e ∷ before) other own = log_of-other q e before (λ is. other (sym own.1 ∙ is)) ∙ own_none q p before other own.0

-- each entry of a port's own log is below one that comes later
own_below : (q top : ℕ) (log : List Entry) → IsOwnLog q log → IsLater top log → Each (λ f. f.stamp.0 < top) log
own_below q top [] own later = tt
own_below q top (e ∷ before) own later =
    (later, each_weaker (λ f. f.stamp.0 < e.stamp.0) (λ f. f.stamp.0 < top) before (λ f lt. less f.stamp.0 e.stamp.0 lt later) (own_below q e.stamp.0 before own.0 own.2))
  where
    less : (a b : ℕ) → a < b → b < top → a < top
    less a b p r = omega arith

-- stamps of a port's own log fall from the newest on
own_falls : (q : ℕ) (log : List Entry) → IsOwnLog q log → Pairs (λ e f. f.stamp.0 < e.stamp.0) log
own_falls q [] own = tt
own_falls q (e ∷ before) own = (own_below q e.stamp.0 before own.0 own.2, own_falls q before own.0)

-- they rise in the order of making
own_rises : (q : ℕ) (log : List Entry) → IsOwnLog q log → Pairs (λ f e. f.stamp.0 < e.stamp.0) (reverse log)
own_rises q log own = pairs_reverse (λ f e. f.stamp.0 < e.stamp.0) log (own_falls q log own)

-- they do not fall
pub own_stamps : (q : ℕ) (log : List Entry) → IsOwnLog q log → Pairs (λ f e. f.stamp.0 ≤ e.stamp.0) (reverse log)
own_stamps q log own = pairs_weaker (λ f e. f.stamp.0 < e.stamp.0) (λ f e. f.stamp.0 ≤ e.stamp.0) (reverse log) (λ f e. less f.stamp.0 e.stamp.0) (own_rises q log own)
  where
    less : (a b : ℕ) → a < b → a ≤ b
    less a b p = omega arith

-- each entry of a port's own log is the port's
own_ports : (q : ℕ) (log : List Entry) → IsOwnLog q log → Each (λ e. e.port.0 ≡ q) log
own_ports q [] own = tt
own_ports q (e ∷ before) own = (own.1, own_ports q before own.0)

-- the logs of ports from that number on are their own
abbrev pub AreOwnFrom : ℕ → List PortView → Type 0
AreOwnFrom b ports = (i : ℕ) → IsOwnLog (b + i) (logs_of ports i)

-- those after the first are the ones from the next number on
own_next : (b : ℕ) (p : PortView) (ps : List PortView) → AreOwnFrom b (p ∷ ps) → AreOwnFrom (suc b) ps
own_next b p ps own i = let e : b + suc i ≡ suc b + i = omega arith in subst (λ n. IsOwnLog n (logs_of ps i)) e (own (suc i))

-- the first is that of this number
own_first : (b : ℕ) (p : PortView) (ps : List PortView) → AreOwnFrom b (p ∷ ps) → IsOwnLog b p.log
unfolding log_or_none
own_first b p ps own = let e : b + 0 ≡ b = omega arith in subst (λ n. IsOwnLog n p.log) e (own 0)

-- an entry of logs from a number on is of no port below it
ports_from : (b : ℕ) (ps : List PortView) → AreOwnFrom b ps → Each (λ e. b ≤ e.port.0) (joined ps)
unfolding joined
ports_from b [] own = tt
ports_from b (p ∷ ps) own =
    each_append (λ e. b ≤ e.port.0) (reverse p.log) (joined ps)
    (each_reverse (λ e. b ≤ e.port.0) p.log (each_weaker (λ e. e.port.0 ≡ b) (λ e. b ≤ e.port.0) p.log (λ e is. same e.port.0 is) (own_ports b p.log (own_first b p ps own))))
    (each_weaker (λ e. suc b ≤ e.port.0) (λ e. b ≤ e.port.0) (joined ps) (λ e le. less e.port.0 le) (ports_from (suc b) ps (own_next b p ps own)))
  where
    same : (n : ℕ) → n ≡ b → b ≤ n
    same n is = omega arith

    less : (n : ℕ) → suc b ≤ n → b ≤ n
    less n le = omega arith

-- where two entries of joined logs have one stamp, the first is of a lower port
pub joined_ports : (b : ℕ) (ps : List PortView) → AreOwnFrom b ps → Pairs (λ f e. f.stamp.0 ≡ e.stamp.0 → f.port.0 < e.port.0) (joined ps)
unfolding joined
joined_ports b [] own = tt
joined_ports b (p ∷ ps) own =
    let R : Entry → Entry → Type 0 = λ f e. f.stamp.0 ≡ e.stamp.0 → f.port.0 < e.port.0 in
    let mine = own_first b p ps own in
    let next = own_next b p ps own in
    let later : Each (λ e. suc b ≤ e.port.0) (joined ps) = ports_from (suc b) ps next in
    pairs_append R (reverse p.log) (joined ps)
    (pairs_weaker (λ f e. f.stamp.0 < e.stamp.0) R (reverse p.log) (λ f e. never f.stamp.0 e.stamp.0 (f.port.0 < e.port.0)) (own_rises b p.log mine))
    (joined_ports (suc b) ps next)
    (each_weaker (λ f. f.port.0 ≡ b) (λ f. Each (R f) (joined ps)) (reverse p.log) (λ f is. each_weaker (λ e. suc b ≤ e.port.0) (R f) (joined ps) (λ e le same. less f.port.0 e.port.0 is le) later) (each_reverse (λ e. e.port.0 ≡ b) p.log (own_ports b p.log mine)))
  where
    never : (m n : ℕ) (Q : Type 0) → m < n → m ≡ n → Q
    never m n Q lt is = absurd (omega arith)

    less : (m n : ℕ) → m ≡ b → suc b ≤ n → m < n
    less m n is le = omega arith

-- joined logs have no entry of a port below the first
joined_below : (b q : ℕ) (ps : List PortView) → q < b → AreOwnFrom b ps → log_of q (joined ps) ≡ []
unfolding joined log_of
joined_below b q [] lt own = refl
joined_below b q (p ∷ ps) lt own =
    log_of-append q (reverse p.log) (joined ps)
    ∙ ap (λ l. l ++ log_of q (joined ps)) (log_of-reverse q p.log ∙ ap reverse (own_none q b p.log (λ is. omega arith) (own_first b p ps own)))
    ∙ joined_below (suc b) q ps (omega arith) (own_next b p ps own)

-- the entries of one port in joined logs are its log in the order of making
pub joined_at : (b i : ℕ) (ps : List PortView) → AreOwnFrom b ps → log_of (b + i) (joined ps) ≡ reverse (logs_of ps i)
unfolding joined log_of log_or_none
joined_at b i [] own = refl
joined_at b zero (p ∷ ps) own =
    let e : b + 0 ≡ b = omega arith in
    let mine = own_first b p ps own in
    ap (λ n. log_of n (reverse p.log ++ joined ps)) e
    ∙ log_of-append b (reverse p.log) (joined ps)
    ∙ ap (λ l. l ++ log_of b (joined ps)) (log_of-reverse b p.log ∙ ap reverse (own_all b p.log mine))
    ∙ ap (λ l. reverse p.log ++ l) (joined_below (suc b) b ps (omega arith) (own_next b p ps own))
    ∙ append-nil (reverse p.log)
joined_at b (suc i) (p ∷ ps) own =
    let e : b + suc i ≡ suc b + i = omega arith in
    log_of-append (b + suc i) (reverse p.log) (joined ps)
    ∙ ap (λ l. l ++ log_of (b + suc i) (joined ps)) (log_of-reverse (b + suc i) p.log ∙ ap reverse (own_none (b + suc i) b p.log (λ is. omega arith) (own_first b p ps own)))
    ∙ ap (λ n. log_of n (joined ps)) e
    ∙ joined_at (suc b) i ps (own_next b p ps own)
