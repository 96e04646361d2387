-- Which life of a port is current: it stays known, and a life that was forgotten is not current again.
use Rattle.std.proofs.Common.{◌≡◌, ℕ, Bool, true, false, List, [], ◌∷◌, ◌++◌, Option, Some, None, refl, ◌⊎◌, inl, inr, sym, ◌∙◌, ap, subst}
use Rattle.std.specs.Prelude.{◌==◌, is_some}
use Rattle.std.specs.Bool.{then_some}
use Rattle.std.proofs.lemmas.Bool.{eqb-true, eq-eqb}
use Rattle.rdm_lists.specs.Lists.{Member, or_else}
use Rattle.rdm_num.specs.declared.numbers.Life.{Life}
use Rattle.rdm_model.specs.declared.job.Instr.TheVariants.{Insert}
use Rattle.rdm_model.specs.Deeds.{Deed, Did, Took, Item}
use Rattle.rdm_model.specs.Currents.{inserted_by, last_inserted, seen_by, first_seen, current, is_current, was_current}
use Rattle.rdm_model.specs.Beginnings.{Own, Messages}
use Rattle.rdm_model.specs.Sends.{Sent, new_sent, sends}
use Rattle.rdm_model.proofs.Numbers.{NewSent, made}
use Rattle.rdm_lists.proofs.Options.{or_else_cases, then_some_parts, some-or_else_left, some-or_else_right}

-- an inserted life is of its port
inserted_port : (port : ℕ) (d : Deed) (l : Life) → inserted_by port d ≡ Some l → (l.port.0 ≡ port) × (d ≡ Did (Insert l))
unfolding inserted_by
inserted_port port (Did (Insert x)) l h =
    let t = then_some_parts (x.port.0 == port) x l h in
    (ap (λ (y : Life). y.port.0) (sym t.1) ∙ eqb-true x.port.0 port t.0, ap (λ (y : Life). Did (Insert y)) t.1)
inserted_port port _ l h = cc

-- so is one that was seen
seen_port : (port : ℕ) (d : Deed) (l : Life) → seen_by port d ≡ Some l → l.port.0 ≡ port
unfolding seen_by
seen_port port (Took from item) l h = let t = then_some_parts (from.port.0 == port) from l h in ap (λ (y : Life). y.port.0) (sym t.1) ∙ eqb-true from.port.0 port t.0
seen_port port _ l h = cc

-- so is the one that was inserted last
last_port : (log : List Deed) (port : ℕ) (l : Life) → last_inserted log port ≡ Some l → l.port.0 ≡ port
unfolding last_inserted
last_port [] port l h = cc
last_port (d ∷ before) port l h =
    elim (or_else_cases (inserted_by port d) (last_inserted before port) l h) [ inl a ↦ (inserted_port port d l a).0 | inr a ↦ last_port before port l a.1 ]

-- and the first that was seen
first_port : (log : List Deed) (port : ℕ) (l : Life) → first_seen log port ≡ Some l → l.port.0 ≡ port
unfolding first_seen
first_port [] port l h = cc
first_port (d ∷ before) port l h =
    elim (or_else_cases (first_seen before port) (seen_by port d) l h) [ inl a ↦ first_port before port l a | inr a ↦ seen_port port d l a.1 ]

-- the current life of a port is of that port
pub current_port : (log : List Deed) (port : ℕ) (l : Life) → current log port ≡ Some l → l.port.0 ≡ port
unfolding current
current_port log port l h =
    elim (or_else_cases (last_inserted log port) (first_seen log port) l h) [ inl a ↦ last_port log port l a | inr a ↦ first_port log port l a.1 ]

-- one of the two is there
some_cases : {A : Type 0} (x y : Option A) → is_some (or_else x y) ≡ true → (is_some x ≡ true) ⊎ (is_some y ≡ true)
unfolding or_else
some_cases None y h = inr h
some_cases (Some a) y h = inl refl

-- a port that has a current life keeps one
pub current_stays : (d : Deed) (before : List Deed) (port : ℕ) → is_some (current before port) ≡ true → is_some (current (d ∷ before) port) ≡ true
unfolding current last_inserted first_seen
current_stays d before port h =
    elim (some_cases (last_inserted before port) (first_seen before port) h) [
      | inl a ↦ some-or_else_left (or_else (inserted_by port d) (last_inserted before port)) (or_else (first_seen before port) (seen_by port d)) (some-or_else_right (inserted_by port d) (last_inserted before port) a)
      | inr a ↦ some-or_else_right (or_else (inserted_by port d) (last_inserted before port)) (or_else (first_seen before port) (seen_by port d)) (some-or_else_left (first_seen before port) (seen_by port d) a)
    ]

-- and keeps one over more deeds
pub current_kept : (newer before : List Deed) (port : ℕ) → is_some (current before port) ≡ true → is_some (current (newer ++ before) port) ≡ true
current_kept [] before port h = h
current_kept (d ∷ newer) before port h = current_stays d (newer ++ before) port (current_kept newer before port h)

-- a deed that takes from a life sees it
seen_some : (d : Deed) (from : Life) (item : Item) → d ≡ Took from item → is_some (seen_by from.port.0 d) ≡ true
unfolding seen_by
seen_some d from item h = rw h (ap (λ (b : Bool). is_some (then_some b from)) (eq-eqb from.port.0 from.port.0 refl))

-- and then its port has a current life
took_now : (d : Deed) (before : List Deed) (from : Life) (item : Item) → d ≡ Took from item → is_some (current (d ∷ before) from.port.0) ≡ true
unfolding current first_seen
took_now d before from item h =
    some-or_else_right (last_inserted (d ∷ before) from.port.0) (or_else (first_seen before from.port.0) (seen_by from.port.0 d)) (some-or_else_right (first_seen before from.port.0) (seen_by from.port.0 d) (seen_some d from item h))

-- a port from which a datagram was taken has a current life
pub took_current : (log : List Deed) (from : Life) (item : Item) → Member (Took from item) log → is_some (current log from.port.0) ≡ true
took_current [] from item m = elim m [ ]
took_current (d ∷ before) from item (inl a) = took_now d before from item a
took_current (d ∷ before) from item (inr a) = current_stays d before from.port.0 (took_current before from item a)

-- the port of a life that was inserted has a current life
inserted_now : (d : Deed) (before : List Deed) (life : Life) → d ≡ Did (Insert life) → is_some (current (d ∷ before) life.port.0) ≡ true
unfolding current last_inserted inserted_by or_else
inserted_now d before life is =
    let t : (life.port.0 == life.port.0) ≡ true = eq-eqb life.port.0 life.port.0 refl in
    rw (is, t) refl

-- so it stays
pub inserted_current : (log : List Deed) (life : Life) → Member (Did (Insert life)) log → is_some (current log life.port.0) ≡ true
inserted_current [] life m = elim m [ ]
inserted_current (d ∷ before) life (inl a) = inserted_now d before life a
inserted_current (d ∷ before) life (inr a) = current_stays d before life.port.0 (inserted_current before life a)

-- a new send goes to the life that is current
pub to_new : (own : Own) (ms : Messages) (before : List Deed) (sents : List Sent) (d : Deed) (s : Sent) (n : NewSent own ms before sents d s) → s.to ≡ n.to
unfolding new_sent
to_new own ms before sents d s n = ap (λ (x : Sent). x.to) n.is

-- the port of a life to which something was sent has a current life
pub sent_current : (own : Own) (ms : Messages) (log : List Deed) (s : Sent) → Member s (sends own ms log) → is_some (current log s.to.port.0) ≡ true
sent_current own ms log s m =
    let e = made own ms log s m in
    let to = to_new own ms e.before (sends own ms e.before) e.deed s e.new in
    let port : e.new.to.port.0 ≡ e.new.req.to.0 = current_port e.before e.new.req.to.0 e.new.to e.new.current in
    let here : is_some (current e.before e.new.req.to.0) ≡ true = ap (λ (o : Option Life). is_some o) e.new.current in
    let there : is_some (current e.before s.to.port.0) ≡ true = subst (λ (n : ℕ). is_some (current e.before n) ≡ true) (sym port ∙ ap (λ (l : Life). l.port.0) (sym to)) here in
    subst (λ (l : List Deed). is_some (current l s.to.port.0) ≡ true) (sym e.split)
    (current_kept e.newer (e.deed ∷ e.before) s.to.port.0 (current_stays e.deed e.before s.to.port.0 there))

-- a life was once current, is not, and another one is
pub record Replaced (log : List Deed) (l : Life) : Type 0 where
  pub once : was_current log l ≡ true
  pub not_now : is_current log l ≡ false
  pub other : is_some (current log l.port.0) ≡ true

-- the current life is as before, or the one that is inserted
kept_by : (i l f s : Option Life) (d : Deed) (port : ℕ) → ((x : Life) → i ≡ Some x → (x.port.0 ≡ port) × (d ≡ Did (Insert x))) → is_some (or_else l f) ≡ true
    → (or_else (or_else i l) (or_else f s) ≡ or_else l f) ⊎ ((x : Life) × (d ≡ Did (Insert x)) × (x.port.0 ≡ port) × (or_else (or_else i l) (or_else f s) ≡ Some x))
unfolding or_else
kept_by (Some x) l f s d port of h = let o = of x refl in inr (x, o.1, o.0, refl)
kept_by None (Some l) f s d port of h = inl refl
kept_by None None (Some f) s d port of h = inl refl
kept_by None None None s d port of h = cc

-- the current life of a port changes only by an insert
pub kept_current : (d : Deed) (before : List Deed) (port : ℕ) → is_some (current before port) ≡ true
    → (current (d ∷ before) port ≡ current before port) ⊎ ((x : Life) × (d ≡ Did (Insert x)) × (x.port.0 ≡ port) × (current (d ∷ before) port ≡ Some x))
unfolding current last_inserted first_seen
kept_current d before port h = kept_by (inserted_by port d) (last_inserted before port) (first_seen before port) (seen_by port d) d port (λ x e. inserted_port port d x e) h
