-- A life that was forgotten was replaced, and stays so.
use Rattle.std.proofs.Common.{◌≡◌, ℕ, Bool, true, false, cond, not, List, [], ◌∷◌, Option, Some, None, refl, inl, inr, sym, ◌∙◌, ap, subst}
use Rattle.std.specs.Prelude.{is_some}
use Rattle.std.specs.List.{list_any}
use Rattle.std.proofs.lemmas.Bool.{and_from, or_cases, or_left, or_right, not_from_false, false_from_ne_true, eq-eqb}
use Rattle.rdm_lists.specs.Lists.{or_else, first_case}
use Rattle.rdm_num.specs.Lives.{same_life, is_life}
use Rattle.rdm_num.specs.declared.numbers.Life.{Life}
use Rattle.rdm_model.specs.declared.job.Instr.TheVariants.{Insert}
use Rattle.rdm_model.specs.declared.answer.DidWhat.{DidWhat}
use Rattle.rdm_model.specs.declared.answer.Next.{Next as Answer}
use Rattle.rdm_model.specs.declared.answer.Next.TheVariants.{Did as DidAnswer}
use Rattle.rdm_model.specs.Deeds.{Deed, Did}
use Rattle.rdm_model.specs.Currents.{inserted_by, last_inserted, first_seen, current, is_current, was_current, is_superseded, other_life, forgotten_by, is_forgotten}
use Rattle.rdm_model.specs.Sources.{is_other}
use Rattle.rdm_model.specs.Beginnings.{Own}
use Rattle.rdm_model.specs.Answers.{answer_of, answer_by, insert_answer}
use Rattle.rdm_law.proofs.Lives.Lives.{life_scene, LifeStep, LifeLocal}
use Rattle.rdm_law.proofs.Lives.Held.{Replaced, kept_current, current_port}
use Rattle.rdm_num.proofs.Lives.{same_life-true, same_life-refl}

-- an instruction that did passed the tests before
second_false : (a b : Bool) (x y z : Answer) (what : DidWhat) → first_case ((a, x) ∷ (b, y) ∷ []) z ≡ DidAnswer what → ((w : DidWhat) → y ≡ DidAnswer w → ⊥) → ((w : DidWhat) → x ≡ DidAnswer w → ⊥) → b ≡ false
unfolding first_case
second_false true b x y z what h ny nx = absurd (nx what h)
second_false false true x y z what h ny nx = absurd (ny what h)
second_false false false x y z what h ny nx = refl

-- an insert that did was of no life that was replaced
insert_fresh : (ports : ℕ) (own : Own) (port_log log : List Deed) (l : Life) (what : DidWhat) → answer_of (life_scene ports own port_log log) (Insert l) ≡ DidAnswer what → is_superseded log l ≡ false
unfolding answer_by insert_answer
insert_fresh ports own port_log log l what h = second_false _ (is_superseded log l) _ _ _ what h (λ w e. cc) (λ w e. cc)

-- a life that was replaced is superseded
superseded : (log : List Deed) (l : Life) → Replaced log l → is_superseded log l ≡ true
unfolding is_superseded
superseded log l r = and_from (was_current log l) (not (is_current log l)) r.once (not_from_false (is_current log l) r.not_now)

-- a life that was current once stays so
once_still : (d : Deed) (before : List Deed) (l : Life) → was_current before l ≡ true → was_current (d ∷ before) l ≡ true
unfolding was_current
once_still d before l h = or_left (was_current before l) (is_current (d ∷ before) l) h

-- whether a life is current, by the current life of its port
pub life_at : (log : List Deed) (l : Life) (o : Option Life) → current log l.port.0 ≡ o → is_current log l ≡ is_life o l
unfolding is_current
life_at log l o h = ap (λ (x : Option Life). is_life x l) h

-- one that is there
life_some : (x l : Life) → is_life (Some x) l ≡ same_life x l
unfolding is_life
life_some x l = refl

-- a life that was replaced stays so
replaced_still : (own : Own) (d : Deed) (before : List Deed) (l : Life) → LifeStep own before d → Replaced before l → Replaced (d ∷ before) l
replaced_still own d before l step r =
    elim (kept_current d before l.port.0 r.other) [
      | inl same ↦ record {
        once = once_still d before l r.once;
        not_now = life_at (d ∷ before) l (current before l.port.0) same ∙ sym (life_at before l (current before l.port.0) refl) ∙ r.not_now;
        other = ap (λ (o : Option Life). is_some o) same ∙ r.other;
      }
      | inr new ↦ record {
        once = once_still d before l r.once;
        not_now = life_at (d ∷ before) l (Some new.0) new.3 ∙ life_some new.0 l ∙ false_from_ne_true (same_life new.0 l) (λ t.
            let e : new.0 ≡ l = same_life-true new.0 l t in
            let s : LifeStep own before (Did (Insert l)) = subst (λ (x : Deed). LifeStep own before x) (new.1 ∙ ap (λ (x : Life). Did (Insert x)) e) step in
            let fresh = insert_fresh s.0 own s.1 before l s.2 s.3 in
            let was = superseded before l r in
            cc);
        other = ap (λ (o : Option Life). is_some o) new.3;
      }
    ]

-- the current life was current
current_once : (log : List Deed) (l : Life) → current log l.port.0 ≡ Some l → was_current log l ≡ true
unfolding was_current is_current is_life current last_inserted first_seen or_else
current_once [] l h = cc
current_once (d ∷ before) l h = or_right (was_current before l) (is_current (d ∷ before) l) (ap (λ (x : Option Life). is_life x l) h ∙ same_life-refl l)

-- an insert of another life forgets the current one
forgets_other : (x : Life) (o : Option Life) (l : Life) → list_any (same_life l) (other_life x o) ≡ true → (o ≡ Some l) × (same_life l x ≡ false)
unfolding other_life
forgets_other x None l h = cc
forgets_other x (Some old) l h =
    (elim (same_life old x) as (λ b. same_life old x ≡ b → list_any (same_life l) (cond b [] (old ∷ [])) ≡ true → (Some old ≡ Some l) × (same_life l x ≡ false)) [
      | true ↦ λ t k. cc
      | false ↦ λ t k. elim (or_cases (same_life l old) false k) [
        | inl a ↦ (let e : old ≡ l = sym (same_life-true l old a) in (ap Some e, subst (λ (y : Life). same_life y x ≡ false) e t))
        | inr a ↦ cc
      ]
    ]) refl h

-- a life that a deed forgets was current, and another one is now
pub forgets_now : (before : List Deed) (d : Deed) (l : Life) → list_any (same_life l) (forgotten_by before d) ≡ true
    → (x : Life) × (d ≡ Did (Insert x)) × (current before x.port.0 ≡ Some l) × (same_life l x ≡ false)
unfolding forgotten_by
forgets_now before (Did (Insert x)) l h = let r = forgets_other x (current before x.port.0) l h in (x, refl, r.0, r.1)
forgets_now before _ l h = cc

-- an inserted life is current
inserted_now : (before : List Deed) (x : Life) → current (Did (Insert x) ∷ before) x.port.0 ≡ Some x
unfolding current last_inserted inserted_by or_else
inserted_now before x = rw (eq-eqb x.port.0 x.port.0 refl) refl

-- a life that was forgotten was replaced
pub forgotten_replaced : (own : Own) (log : List Deed) (l : Life) → LifeLocal own log → is_forgotten log l ≡ true → Replaced log l
unfolding is_forgotten
forgotten_replaced own [] l local h = cc
forgotten_replaced own (d ∷ before) l local h =
    elim (or_cases (is_forgotten before l) (list_any (same_life l) (forgotten_by before d)) h) [
      | inl a ↦ replaced_still own d before l local.1 (forgotten_replaced own before l local.0 a)
      | inr a ↦ (
          let f = forgets_now before d l a in
          let port : l.port.0 ≡ f.0.port.0 = current_port before f.0.port.0 l f.2 in
          let was : current before l.port.0 ≡ Some l = ap (λ (n : ℕ). current before n) port ∙ f.2 in
          let now : current (d ∷ before) l.port.0 ≡ Some f.0 = ap (λ (x : Deed). current (x ∷ before) l.port.0) f.1 ∙ ap (λ (n : ℕ). current (Did (Insert f.0) ∷ before) n) port ∙ inserted_now before f.0 in
          record {
            once = once_still d before l (current_once before l was);
            not_now = life_at (d ∷ before) l (Some f.0) now ∙ life_some f.0 l ∙ false_from_ne_true (same_life f.0 l) (λ t.
                let e : f.0 ≡ l = same_life-true f.0 l t in
                let r : same_life l f.0 ≡ true = subst (λ (y : Life). same_life l y ≡ true) (sym e) (same_life-refl l) in
                let o = f.3 in
                cc);
            other = ap (λ (o : Option Life). is_some o) now;
          })
    ]

-- a port whose current life is another one
other_at : (o : Option Life) (l : Life) → is_some o ≡ true → is_life o l ≡ false → is_other o l ≡ true
unfolding is_other is_life
other_at None l h k = cc
other_at (Some x) l h k = not_from_false (same_life x l) k

-- a life that may still be heard was not forgotten
pub not_forgotten : (own : Own) (log : List Deed) (l : Life) → LifeLocal own log → is_other (current log l.port.0) l ≡ false → is_forgotten log l ≡ false
not_forgotten own log l local h =
    false_from_ne_true (is_forgotten log l) (λ f.
    let r = forgotten_replaced own log l local f in
    let o = other_at (current log l.port.0) l r.other (sym (life_at log l (current log l.port.0) refl) ∙ r.not_now) in
    cc)
