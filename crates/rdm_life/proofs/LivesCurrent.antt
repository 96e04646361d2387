-- The current life of each port, and the lives that were current.
use Rattle.std.proofs.Common.{◌≡◌, ℕ, Bool, true, false, cond, not, List, [], ◌∷◌, Option, Some, None, refl, inl, inr, sym, ◌∙◌, ap, subst, is_none, is_some}
use Rattle.std.specs.Prelude.{◌==◌, ◌&&◌, ◌||◌}
use Rattle.std.specs.Bool.{then_some}
use Rattle.std.specs.List.{list_any}
use Rattle.std.proofs.lemmas.Bool.{eqb-true, eq-eqb, false_from_ne_true}
use Rattle.rdm_lists.specs.Lists.{or_else, first_case}
use Rattle.rdm_lists.proofs.Bools.{or_true}
use Rattle.rdm_lists.proofs.Options.{or_else-none, or_else-assoc}
use Rattle.rdm_num.specs.Lives.{same_life, is_life}
use Rattle.rdm_num.specs.declared.numbers.Life.{Life}
use Rattle.rdm_num.proofs.Lives.{same_life-true, same_life-refl}
use Rattle.rdm_model.specs.declared.job.Instr.TheVariants.{Insert}
use Rattle.rdm_model.specs.declared.answer.DidWhat.{DidWhat}
use Rattle.rdm_model.specs.declared.answer.DidWhat.TheVariants.{Plain}
use Rattle.rdm_model.specs.declared.answer.Next.TheVariants.{Did as DidAnswer, Refused, NotYet}
use Rattle.rdm_model.specs.declared.answer.Why.TheVariants.{Superseded}
use Rattle.rdm_model.specs.declared.answer.Yet.TheVariants.{Opened}
use Rattle.rdm_model.specs.Answers.{answer_by, insert_answer}
use Rattle.rdm_model.specs.Beginnings.{Own}
use Rattle.rdm_model.specs.Deeds.{Deed, Did, Took, Item}
use Rattle.rdm_model.specs.Currents.{inserted_by, last_inserted, seen_by, first_seen, current, is_current, was_current, is_superseded, other_life, forgotten_by, is_forgotten}
use Rattle.rdm_model.specs.Worlds.{put_at}
use Rattle.rdm_law.proofs.Lives.Lives.{LifeStep, LifeLocal}
use Rattle.rdm_law.proofs.Lives.Held.{Replaced, kept_current, current_stays}
use Rattle.rdm_law.proofs.Lives.Replaced.{forgotten_replaced}
use Rattle.rdm_life.proofs.Tests.{or_none}

-- equal in either order
eqb_turn : (a b : ℕ) → (a == b) ≡ (b == a)
eqb_turn a b =
    (elim (b == a) as (λ t. (b == a) ≡ t → (a == b) ≡ t) [
      | true ↦ λ e. eq-eqb a b (sym (eqb-true b a e))
      | false ↦ λ e. false_from_ne_true (a == b) (λ t. let f = eq-eqb b a (sym (eqb-true a b t)) in cc)
    ]) refl

-- so of lives
pub same_turn : (a b : Life) → same_life a b ≡ same_life b a
same_turn a b =
    (elim (same_life b a) as (λ t. same_life b a ≡ t → same_life a b ≡ t) [
      | true ↦ λ e. let f = same_life-true b a e in rw f (same_life-refl a)
      | false ↦ λ e. false_from_ne_true (same_life a b) (λ t. let f : a ≡ b = same_life-true a b t in let r = same_life-refl a in let g : same_life b a ≡ true = subst (λ (x : Life). same_life x a ≡ true) f r in cc)
    ]) refl

-- ---- the current life

-- an insert of the port, or what was current
insert_first : (b : Bool) (life : Life) (l s : Option Life) → or_else (or_else (then_some b life) l) (or_else s None) ≡ cond b (Some life) (or_else l s)
unfolding or_else
insert_first true life l s = refl
insert_first false life l s = ap (λ (x : Option Life). or_else l x) (or_else-none s)

-- the current life of a port after an insert
pub current_inserted : (life : Life) (log : List Deed) (port : ℕ) → current (Did (Insert life) ∷ log) port ≡ put_at life.port.0 (Some life) (current log) port
unfolding current last_inserted first_seen inserted_by seen_by put_at
current_inserted life log port =
    insert_first (life.port.0 == port) life (last_inserted log port) (first_seen log port)
    ∙ ap (λ (b : Bool). cond b (Some life) (or_else (last_inserted log port) (first_seen log port))) (eqb_turn life.port.0 port)

-- and after a datagram was taken
pub current_taken : (from : Life) (item : Item) (log : List Deed) (port : ℕ)
    → current (Took from item ∷ log) port ≡ or_else (current log port) (then_some (from.port.0 == port) from)
unfolding current last_inserted first_seen inserted_by seen_by or_else
current_taken from item log port = sym (or_else-assoc (last_inserted log port) (first_seen log port) (then_some (from.port.0 == port) from))

-- a source is current where no life of its port was
source_first : (now : ℕ → Option Life) (from : Life) (port : ℕ)
    → cond (is_none (now from.port.0)) (put_at from.port.0 (Some from) now) now port ≡ or_else (now port) (then_some (from.port.0 == port) from)
unfolding put_at or_else
source_first now from port =
    (elim (from.port.0 == port) as (λ b. (from.port.0 == port) ≡ b → cond (is_none (now from.port.0)) (put_at from.port.0 (Some from) now) now port ≡ or_else (now port) (then_some b from)) [
      | true ↦ λ e.
          let p : from.port.0 ≡ port = eqb-true from.port.0 port e in
          let t : (port == from.port.0) ≡ true = sym (eqb_turn from.port.0 port) ∙ e in
          ap (λ (n : ℕ). cond (is_none (now n)) (put_at from.port.0 (Some from) now) now port) p
          ∙ (elim (now port) as (λ o. now port ≡ o → cond (is_none o) (put_at from.port.0 (Some from) now) now port ≡ or_else o (Some from)) [
            | None ↦ λ h. rw t refl
            | Some x ↦ λ h. h
          ]) refl
      | false ↦ λ e.
          let f : (port == from.port.0) ≡ false = sym (eqb_turn from.port.0 port) ∙ e in
          (elim (is_none (now from.port.0)) as (λ c. cond c (put_at from.port.0 (Some from) now) now port ≡ or_else (now port) None) [
            | true ↦ rw f (sym (or_else-none (now port)))
            | false ↦ sym (or_else-none (now port))
          ])
    ]) refl

-- what no insert and no datagram changes
current_left : (log : List Deed) (port : ℕ) → or_else (or_else None (last_inserted log port)) (or_else (first_seen log port) None) ≡ current log port
unfolding current or_else
current_left log port = ap (λ (x : Option Life). or_else (last_inserted log port) x) (or_else-none (first_seen log port))

-- how a deed changes the current lives of ports
unfoldable pub current_by : Deed → (ℕ → Option Life) → (port : ℕ) → Option Life
current_by (Did (Insert life)) now port = put_at life.port.0 (Some life) now port
current_by (Took from item) now port = cond (is_none (now from.port.0)) (put_at from.port.0 (Some from) now) now port
current_by _ now port = now port

-- the current life of a port after a deed
pub current_next : (d : Deed) (log : List Deed) (port : ℕ) → current_by d (current log) port ≡ current (d ∷ log) port
unfolding current_by current last_inserted first_seen inserted_by seen_by
current_next (Did (Insert life)) log port = sym (current_inserted life log port)
current_next (Took from item) log port = source_first (current log) from port ∙ sym (current_taken from item log port)
current_next _ log port = sym (current_left log port)

-- ---- lives that were current

-- of a port that has no current life none was
pub never_current : (log : List Deed) (life : Life) → current log life.port.0 ≡ None → was_current log life ≡ false
unfolding was_current is_current is_life
never_current [] life h = refl
never_current (d ∷ before) life h =
    (elim (current before life.port.0) as (λ o. current before life.port.0 ≡ o → (was_current before life || is_life (current (d ∷ before) life.port.0) life) ≡ false) [
      | None ↦ λ e. let w = never_current before life e in rw (w, h) refl
      | Some x ↦ λ e. let s = current_stays d before life.port.0 (ap (λ (o : Option Life). is_some o) e) in let n : is_some (current (d ∷ before) life.port.0) ≡ false = ap (λ (o : Option Life). is_some o) h in cc
    ]) refl

-- what was current and is not, where nothing is forgotten
was_not : (w c n : Bool) → (c ≡ true → n ≡ true) → (w ≡ true → c ≡ false → n ≡ false) → (w && not c) ≡ ((w || n) && not n)
was_not true true n h k = let t = h refl in rw t refl
was_not true false n h k = let f = k refl refl in rw f refl
was_not false c true h k = refl
was_not false c false h k = refl

-- an insert that did was of no life that was replaced
insert_told : (a b : Bool) (what : DidWhat) → first_case ((not a, NotYet Opened) ∷ (b, Refused Superseded) ∷ []) (DidAnswer Plain) ≡ DidAnswer what → b ≡ false
unfolding first_case
insert_told false b what h = cc
insert_told true true what h = cc
insert_told true false what h = refl

-- so a life that is inserted was not superseded
insert_fresh : (own : Own) (log : List Deed) (life : Life) → LifeStep own log (Did (Insert life)) → is_superseded log life ≡ false
unfolding answer_by insert_answer
insert_fresh own log life step = insert_told _ (is_superseded log life) step.2 step.3

-- the current life of a port, by the test for it
current_some : (o : Option Life) (life : Life) → is_life o life ≡ true → o ≡ Some life
unfolding is_life
current_some None life h = cc
current_some (Some x) life h = ap Some (same_life-true x life h)

-- whether a life is current, by the current life of its port
is_current_by : (log : List Deed) (life : Life) (o : Option Life) → current log life.port.0 ≡ o → is_current log life ≡ is_life o life
unfolding is_current
is_current_by log life o h = ap (λ (x : Option Life). is_life x life) h

-- a current life that another one replaces is forgotten
replaced_forgets : (new old : Life) → same_life old new ≡ false → list_any (same_life old) (other_life new (Some old)) ≡ true
unfolding other_life
replaced_forgets new old h = let r = same_life-refl old in rw (h, r) refl

-- a current life stays so, unless it is forgotten
stays_current : (d : Deed) (log : List Deed) (life : Life) → list_any (same_life life) (forgotten_by log d) ≡ false → is_current log life ≡ true → is_current (d ∷ log) life ≡ true
unfolding forgotten_by is_life
stays_current d log life f c =
    let is : current log life.port.0 ≡ Some life = current_some (current log life.port.0) life (sym (is_current_by log life (current log life.port.0) refl) ∙ c) in
    elim (kept_current d log life.port.0 (ap (λ (o : Option Life). is_some o) is)) [
      | inl same ↦ is_current_by (d ∷ log) life (current log life.port.0) same ∙ sym (is_current_by log life (current log life.port.0) refl) ∙ c
      | inr new ↦
          (elim (same_life life new.0) as (λ b. same_life life new.0 ≡ b → is_current (d ∷ log) life ≡ true) [
            | true ↦ λ e. is_current_by (d ∷ log) life (Some new.0) new.3 ∙ sym (same_turn life new.0) ∙ e
            | false ↦ λ e.
                let at : current log new.0.port.0 ≡ Some life = ap (λ (n : ℕ). current log n) new.2 ∙ is in
                let g : forgotten_by log d ≡ other_life new.0 (Some life) = ap (λ (x : Deed). forgotten_by log x) new.1 ∙ ap (λ (o : Option Life). other_life new.0 o) at in
                let t : list_any (same_life life) (forgotten_by log d) ≡ true = ap (λ (ls : List Life). list_any (same_life life) ls) g ∙ replaced_forgets new.0 life e in
                cc
          ]) refl
    ]

-- a life that was current and is not doesn't become so again
stays_past : (own : Own) (d : Deed) (log : List Deed) (life : Life) → LifeStep own log d → was_current log life ≡ true → is_current log life ≡ false → is_current (d ∷ log) life ≡ false
unfolding is_superseded is_life
stays_past own d log life step w c =
    (elim (current log life.port.0) as (λ o. current log life.port.0 ≡ o → is_current (d ∷ log) life ≡ false) [
      | None ↦ λ e. let n = never_current log life e in cc
      | Some x ↦ λ e.
          elim (kept_current d log life.port.0 (ap (λ (o : Option Life). is_some o) e)) [
            | inl same ↦ is_current_by (d ∷ log) life (current log life.port.0) same ∙ sym (is_current_by log life (current log life.port.0) refl) ∙ c
            | inr new ↦ is_current_by (d ∷ log) life (Some new.0) new.3 ∙ false_from_ne_true (same_life new.0 life) (λ t.
                let l : new.0 ≡ life = same_life-true new.0 life t in
                let s : LifeStep own log (Did (Insert life)) = subst (λ (x : Deed). LifeStep own log x) (new.1 ∙ ap (λ (x : Life). Did (Insert x)) l) step in
                let fresh : (was_current log life && not (is_current log life)) ≡ false = insert_fresh own log life s in
                let is : (was_current log life && not (is_current log life)) ≡ true = rw (w, c) refl in
                cc)
          ]
    ]) refl

-- a life that was replaced is superseded
replaced_superseded : (log : List Deed) (life : Life) → Replaced log life → is_superseded log life ≡ true
unfolding is_superseded
replaced_superseded log life r = let a = r.once in let b = r.not_now in rw (a, b) refl

-- the lives that a deed forgets are superseded, and the others as before
pub superseded_next : (own : Own) (d : Deed) (log : List Deed) (life : Life) → LifeLocal own (d ∷ log)
    → (is_superseded log life || list_any (same_life life) (forgotten_by log d)) ≡ is_superseded (d ∷ log) life
unfolding is_superseded was_current is_forgotten
superseded_next own d log life local =
    (elim (list_any (same_life life) (forgotten_by log d)) as (λ b. list_any (same_life life) (forgotten_by log d) ≡ b → (is_superseded log life || b) ≡ is_superseded (d ∷ log) life) [
      | true ↦ λ f.
          let forgot : is_forgotten (d ∷ log) life ≡ true = ap (λ (b : Bool). is_forgotten log life || b) f ∙ or_true (is_forgotten log life) in
          or_true (is_superseded log life) ∙ sym (replaced_superseded (d ∷ log) life (forgotten_replaced own (d ∷ log) life local forgot))
      | false ↦ λ f.
          or_none (is_superseded log life)
          ∙ was_not (was_current log life) (is_current log life) (is_current (d ∷ log) life) (stays_current d log life f) (stays_past own d log life local.1)
    ]) refl
