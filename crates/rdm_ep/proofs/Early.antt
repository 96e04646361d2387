-- Of eager deeds: of the messages that were heard of, those that no pair has are as many as all but the pairs.
use Rattle.std.proofs.Common.{◌≡◌, ℕ, zero, suc, ◌+◌, ◌≤◌, Bool, true, false, cond, not, List, [], ◌∷◌, ◌++◌, map, length, Option, Some, None, refl, arith, ap, ◌∙◌, sym, subst, inl, inr}
use Rattle.std.specs.Prelude.{◌==◌, ◌&&◌, find, filter}
use Rattle.std.proofs.lemmas.Bool.{and_parts, eqb-true, false_from_ne_true}
use Rattle.std.proofs.lemmas.List.{map-append, length-append}
use Rattle.std.proofs.lemmas.List.Elements.{filter-append}
use Rattle.rdm_lists.specs.Lists.{Member, without_first, below}
use Rattle.rdm_num.specs.Lives.{same_life}
use Rattle.rdm_num.specs.declared.numbers.Life.{Life}
use Rattle.rdm_match.specs.declared.PostedRecv.{PostedRecv}
use Rattle.rdm_match.specs.declared.Arrived.{Arrived}
use Rattle.rdm_match.specs.Matcher.{Arrive, Pair, Matching, accepts, after_post, after_arrive, after, run}
use Rattle.rdm_model.specs.declared.job.Instr.TheVariants.{Recv, Cancel}
use Rattle.rdm_model.specs.Deeds.{Deed, Did, Took}
use Rattle.rdm_model.specs.Beginnings.{Own, Heads}
use Rattle.rdm_model.specs.Heard.{has_entered, entering}
use Rattle.rdm_model.specs.Matches.{receive, receives, matching}
use Rattle.rdm_model.specs.Completions.{Name}
use Rattle.rdm_model.specs.Local.{heads_by}
use Rattle.rdm_ep.specs.Eager.{IsEager}
use Rattle.rdm_ep.proofs.Apart.{ApartBy, apart_push, apart_filter}
use Rattle.rdm_ep.proofs.Entered.{entered_still}
use Rattle.rdm_ep.proofs.Pairs.{own_matching, message_by, arriving, event_of, matching_step, arriving_enters}
use Rattle.rdm_lists.proofs.Members.{member-append_cases, member-map}
use Rattle.rdm_lists.proofs.Filters.{filter_nothing}
use Rattle.rdm_num.proofs.Lives.{same_life-true}

-- how many elements pass
abbrev pub count : {A : Type 0} → (A → Bool) → List A → ℕ
count t xs = length (filter t xs)

-- the message has that name
abbrev pub named : Arrived → Name → Bool
named a m = same_life a.life m.life && a.no.0 == m.number

-- 1 where it holds
unfoldable pub one_if : Bool → ℕ
one_if true = 1
one_if false = 0

-- of one more, as many as before and it
count_more : {A : Type 0} (t : A → Bool) (xs : List A) (x : A) → count t (xs ++ x ∷ []) ≡ count t xs + one_if (t x)
unfolding one_if
count_more t xs x =
    ap length (filter-append t xs (x ∷ [])) ∙ length-append (filter t xs) (filter t (x ∷ []))
    ∙ (elim (t x) as (λ b. count t xs + length (cond b (x ∷ []) []) ≡ count t xs + one_if b) [ true ↦ refl | false ↦ refl ])

-- the first one counts
pub count_first : {A : Type 0} (t : A → Bool) (x : A) (xs : List A) → count t (x ∷ xs) ≡ one_if (t x) + count t xs
unfolding one_if
count_first t x xs = elim (t x) as (λ b. length (cond b (x ∷ filter t xs) (filter t xs)) ≡ one_if b + length (filter t xs)) [ true ↦ omega arith | false ↦ omega arith ]

-- without the first that passes another test
count_without : {A : Type 0} (u t : A → Bool) (xs : List A) (x : A) → find u xs ≡ Some x → count t (without_first u xs) + one_if (t x) ≡ count t xs
unfolding without_first
count_without u t [] x h = cc
count_without {A} u t (y ∷ ys) x h =
    (elim (u y) as (λ b. cond b (Some y) (find u ys) ≡ Some x → count t (cond b ys (y ∷ without_first u ys)) + one_if (t x) ≡ count t (y ∷ ys)) [
      | true ↦ λ k.
          let is : y ≡ x = cc in
          let c = count_first t y ys in
          let e : one_if (t x) ≡ one_if (t y) = ap (λ z. one_if (t z)) (sym is) in
          omega arith
      | false ↦ λ k.
          let r = count_without u t ys x k in
          let c = count_first t y ys in
          let d = count_first t y (without_first u ys) in
          omega arith
    ]) h

-- how many messages of a matcher have the name
abbrev pub occurs : Matching → Name → ℕ
occurs m x = count (λ a. named a x) m.arrived + count (λ (p : Pair). named p.message x) m.pairs

-- a post moves a message
occurs_post : (m : Matching) (r : PostedRecv) (x : Name) (o : Option Arrived) → find (accepts r) m.arrived ≡ o → occurs (after_post m r o) x ≡ occurs m x
unfolding after_post
occurs_post m r x None e = refl
occurs_post m r x (Some a) e =
    let w = count_without (accepts r) (λ b. named b x) m.arrived a e in
    let c = count_more (λ (p : Pair). named p.message x) m.pairs (record { recv = r; message = a }) in
    omega arith

-- an arrival adds one
occurs_arrive : (m : Matching) (a : Arrived) (x : Name) (o : Option PostedRecv) → occurs (after_arrive m a o) x ≡ occurs m x + one_if (named a x)
unfolding after_arrive
occurs_arrive m a x None = let c = count_more (λ b. named b x) m.arrived a in omega arith
occurs_arrive m a x (Some r) = let c = count_more (λ (p : Pair). named p.message x) m.pairs (record { recv = r; message = a }) in omega arith

-- arrivals add as many as they have
occurs_arrivals : (as' : List Arrived) (m : Matching) (x : Name) → occurs (run m (map Arrive as')) x ≡ occurs m x + count (λ a. named a x) as'
unfolding run after
occurs_arrivals [] m x = omega arith
occurs_arrivals (a ∷ as') m x =
    let o = find (λ r. accepts r a) m.posted in
    let r = occurs_arrivals as' (after_arrive m a o) x in
    let s = occurs_arrive m a x o in
    let c = count_first (λ b. named b x) a as' in
    omega arith

-- a number below another one
below_less : (n k : ℕ) → Member k (below n) → k + 1 ≤ n
unfolding below
below_less zero k m = elim m [ ]
below_less (suc n) k m =
    elim (member-append_cases k (below n) (n ∷ []) m) [
      | inl a ↦ (let r = below_less n k a in omega arith)
      | inr a ↦ elim a [ inl is ↦ omega arith | inr never ↦ elim never [ ] ]
    ]

-- numbers from one on are apart
below_apart : (first n : ℕ) → ApartBy (λ (k : ℕ). k) (map (λ k. first + k) (below n))
unfolding below
below_apart first zero = tt
below_apart first (suc n) =
    subst (ApartBy (λ (k : ℕ). k)) (sym (map-append (λ (k : ℕ). first + k) (below n) (n ∷ [])))
    (apart_push (λ (k : ℕ). k) (map (λ k. first + k) (below n)) (first + n) (below_apart first n)
    (λ y m e. let r = member-map (λ (k : ℕ). first + k) y (below n) m in let l = below_less n r.0 r.1 in let q = r.2 in absurd (omega arith)))

-- of numbers that are apart one at most has a name
count_apart : (heads : Heads) (from : Life) (ns : List ℕ) (x : Name) → ApartBy (λ (k : ℕ). k) ns → count (λ a. named a x) (map (message_by heads from) ns) ≤ 1
unfolding one_if
count_apart heads from [] x h = omega arith
count_apart heads from (n ∷ ns) x h =
    let rest = map (message_by heads from) ns in
    let c = count_first (λ a. named a x) (message_by heads from n) rest in
    let r = count_apart heads from ns x h.1 in
    (elim (named (message_by heads from n) x) as (λ b. named (message_by heads from n) x ≡ b → count (λ a. named a x) (map (message_by heads from) (n ∷ ns)) ≤ 1) [
      | true ↦ λ e.
          let none : filter (λ a. named a x) rest ≡ [] =
          filter_nothing (λ a. named a x) rest (λ a m.
          let q = member-map (message_by heads from) a ns m in
          false_from_ne_true (named a x) (λ t.
          let y : n ≡ x.number = eqb-true n x.number (and_parts (same_life from x.life) (n == x.number) e).1 in
          let z : a.no.0 ≡ x.number = eqb-true a.no.0 x.number (and_parts (same_life a.life x.life) (a.no.0 == x.number) t).1 in
          let w : q.0 ≡ a.no.0 = ap (λ (b : Arrived). b.no.0) q.2 in
          h.0 q.0 q.1 (w ∙ z ∙ sym y))) in
          let l = ap length none in
          let v = ap one_if e in
          omega arith
      | false ↦ λ e. (let v = ap one_if e in omega arith)
    ]) refl

-- no message of a name that has not entered, and one at most of each
pub record AtMostOne (own : Own) (log : List Deed) (x : Name) : Type 0 where
  pub none : has_entered own.limits.first log x.life x.number ≡ false → occurs (own_matching own log) x ≡ 0
  pub most : occurs (own_matching own log) x ≤ 1

-- none is counted where none has the name
counted_none : (as' : List Arrived) (x : Name) → ((a : Arrived) → Member a as' → named a x ≡ true → ⊥) → count (λ a. named a x) as' ≡ 0
counted_none as' x h = ap length (filter_nothing (λ a. named a x) as' (λ a m. false_from_ne_true (named a x) (h a m)))

-- a message that arrives under a name enters under it
arrives_named : (own : Own) (d : Deed) (before : List Deed) (a : Arrived) (x : Name) → Member a (arriving own d before) → named a x ≡ true
    → (has_entered own.limits.first (d ∷ before) x.life x.number ≡ true) × (has_entered own.limits.first before x.life x.number ≡ false)
arrives_named own d before a x m t =
    let e = arriving_enters own d before a m in
    let p = and_parts (same_life a.life x.life) (a.no.0 == x.number) t in
    let l = same_life-true a.life x.life p.0 in
    let n = eqb-true a.no.0 x.number p.1 in
    let now : Life → ℕ → Type 0 = λ y k. has_entered own.limits.first (d ∷ before) y k ≡ true in
    let was : Life → ℕ → Type 0 = λ y k. has_entered own.limits.first before y k ≡ false in
    (subst (λ k. now x.life k) n (subst (λ y. now y a.no.0) l e.entered), subst (λ k. was x.life k) n (subst (λ y. was y a.no.0) l e.not_before))

-- one message of a name arrives by a deed at most
arriving_once : (own : Own) (d : Deed) (before : List Deed) (x : Name) → count (λ a. named a x) (arriving own d before) ≤ 1
unfolding arriving entering
arriving_once own (Took from item) before x =
    let d = Took from item in
    let p = λ (n : ℕ). has_entered own.limits.first (d ∷ before) from n && not (has_entered own.limits.first before from n) in
    count_apart (heads_by (d ∷ before)) from (filter p (map (λ k. own.limits.first + k) (below (length (d ∷ before))))) x
    (apart_filter (λ (k : ℕ). k) p (map (λ k. own.limits.first + k) (below (length (d ∷ before)))) (below_apart own.limits.first (length (d ∷ before))))
arriving_once own _ before x = omega arith

-- what had not entered before had not where it has not now
not_entered : (first : ℕ) (d : Deed) (before : List Deed) (source : Life) (n : ℕ) → has_entered first (d ∷ before) source n ≡ false → has_entered first before source n ≡ false
not_entered first d before source n h = false_from_ne_true (has_entered first before source n) (λ e. let f = entered_still first d before source n e in cc)

-- after messages that arrived by a deed
most_arrived : (own : Own) (d : Deed) (before : List Deed) (x : Name) → AtMostOne own before x
    → (has_entered own.limits.first (d ∷ before) x.life x.number ≡ false → occurs (run (own_matching own before) (map Arrive (arriving own d before))) x ≡ 0)
    × (occurs (run (own_matching own before) (map Arrive (arriving own d before))) x ≤ 1)
most_arrived own d before x k =
    let o = occurs_arrivals (arriving own d before) (own_matching own before) x in
    let once = arriving_once own d before x in (
      λ e.
          let c = counted_none (arriving own d before) x (λ a m t. let z = (arrives_named own d before a x m t).0 in cc) in
          let n = k.none (not_entered own.limits.first d before x.life x.number e) in
          omega arith,
      (elim (has_entered own.limits.first before x.life x.number) as (λ b. has_entered own.limits.first before x.life x.number ≡ b
          → occurs (run (own_matching own before) (map Arrive (arriving own d before))) x ≤ 1) [
            | true ↦ λ e.
                let c = counted_none (arriving own d before) x (λ a m t. let z = (arrives_named own d before a x m t).1 in cc) in
                let n = k.most in
                omega arith
            | false ↦ λ e. let n = k.none e in omega arith
          ]) refl,
    )

-- after an eager deed
most_after : (own : Own) (d : Deed) (before : List Deed) (x : Name) → AtMostOne own before x
    → (has_entered own.limits.first (d ∷ before) x.life x.number ≡ false → occurs (run (own_matching own before) (event_of own d before)) x ≡ 0)
    × (occurs (run (own_matching own before) (event_of own d before)) x ≤ 1)
unfolding event_of run after
most_after own (Did (Recv req)) before x k =
    let m = own_matching own before in
    let r = (receive (length (receives before)) before req).posted in
    let o = occurs_post m r x (find (accepts r) m.arrived) refl in
    let n = k.most in
    (λ e. (let z = k.none (not_entered own.limits.first (Did (Recv req)) before x.life x.number e) in omega arith), omega arith)
most_after own (Did (Cancel recv)) before x k =
    (λ e. k.none (not_entered own.limits.first (Did (Cancel recv)) before x.life x.number e), k.most)
most_after own d before x k = most_arrived own d before x k

-- no name has two messages
pub at_most_one : (own : Own) (log : List Deed) (x : Name) → IsEager own log → AtMostOne own log x
unfolding matching
at_most_one own [] x h = record { none = λ e. refl; most = omega arith }
at_most_one own (d ∷ before) x h =
    let k = most_after own d before x (at_most_one own before x h.0) in
    let step = matching_step own d before h in
    record {
      none = λ e. ap (λ (m : Matching). occurs m x) step ∙ k.0 e;
      most = subst (λ (m : Matching). occurs m x ≤ 1) (sym step) k.1;
    }
