-- Of eager deeds: no life is forgotten, and the current life of a port stays.
use Rattle.std.proofs.Common.{◌≡◌, ℕ, true, false, cond, not, List, [], ◌∷◌, Option, Some, None, refl, inl, inr, ap, ◌∙◌, sym, subst}
use Rattle.std.specs.Prelude.{◌==◌, ◌&&◌}
use Rattle.std.specs.Bool.{then_some}
use Rattle.std.proofs.lemmas.Bool.{eqb-true, or_cases}
use Rattle.rdm_lists.specs.Lists.{or_else}
use Rattle.rdm_num.specs.Lives.{same_life, is_life}
use Rattle.rdm_num.specs.declared.numbers.Life.{Life}
use Rattle.rdm_model.specs.declared.job.Instr.TheVariants.{Insert}
use Rattle.rdm_model.specs.Deeds.{Deed, Did, Took}
use Rattle.rdm_model.specs.Beginnings.{Own}
use Rattle.rdm_model.specs.Currents.{inserted_by, last_inserted, seen_by, first_seen, current, is_current, was_current, is_superseded, other_life, forgotten_by, is_forgotten}
use Rattle.rdm_ep.specs.Eager.{IsEagerDeed, IsEager}
use Rattle.rdm_lists.proofs.Options.{or_else-none, or_else-assoc}
use Rattle.rdm_num.proofs.Lives.{same_life-true, same_life-refl}

-- an eager deed forgets no life
pub forgotten_none : (own : Own) (before : List Deed) (d : Deed) → IsEagerDeed own before d → forgotten_by before d ≡ []
unfolding forgotten_by
forgotten_none own before (Did (Insert life)) h = h.0
forgotten_none own before _ h = refl

-- no life is forgotten
pub never_forgotten : (own : Own) (log : List Deed) (life : Life) → IsEager own log → is_forgotten log life ≡ false
unfolding is_forgotten
never_forgotten own [] life h = refl
never_forgotten own (d ∷ before) life h = rw (never_forgotten own before life h.0, forgotten_none own before d h.1) refl

-- the life, for its own port
abbrev pub of_port : ℕ → Life → Option Life
of_port port life = then_some (life.port.0 == port) life

-- the life that a deed shows
unfoldable pub shown_by : ℕ → Deed → Option Life
shown_by port (Did (Insert life)) = of_port port life
shown_by port (Took from item) = of_port port from
shown_by port _ = None

-- an insert that takes the place of no other life names the current one
other_none : (life : Life) (now : Option Life) → other_life life now ≡ [] → Some life ≡ or_else now (Some life)
unfolding other_life or_else
other_none life None h = refl
other_none life (Some old) h =
    (elim (same_life old life) as (λ b. same_life old life ≡ b → cond b [] (old ∷ []) ≡ [] → Some life ≡ Some old) [
      | true ↦ λ is k. ap Some (sym (same_life-true old life is))
      | false ↦ λ is k. cc
    ]) refl h

-- such an insert leaves the current life of a port, or shows the first one
insert_shows : (l s : Option Life) (port : ℕ) (life : Life) (now : ℕ → Option Life) → now port ≡ or_else l s → other_life life (now life.port.0) ≡ []
    → or_else (or_else (of_port port life) l) s ≡ or_else (or_else l s) (of_port port life)
unfolding or_else
insert_shows l s port life now is none =
    (elim (life.port.0 == port) as (λ b. (life.port.0 == port) ≡ b → or_else (or_else (then_some b life) l) s ≡ or_else (or_else l s) (then_some b life)) [
      | true ↦ λ e.
          let p : life.port.0 ≡ port = eqb-true life.port.0 port e in
          other_none life (or_else l s) (subst (λ (x : Option Life). other_life life x ≡ []) (ap now p ∙ is) none)
      | false ↦ λ e. sym (or_else-none (or_else l s))
    ]) refl

-- an eager deed makes the life current that it shows, where no life of the port was
pub current_step : (own : Own) (d : Deed) (before : List Deed) (port : ℕ) → IsEagerDeed own before d
    → current (d ∷ before) port ≡ or_else (current before port) (shown_by port d)
unfolding current last_inserted first_seen inserted_by seen_by shown_by forgotten_by or_else
current_step own (Did (Insert life)) before port h =
    ap (λ (x : Option Life). or_else (or_else (of_port port life) (last_inserted before port)) x) (or_else-none (first_seen before port))
    ∙ insert_shows (last_inserted before port) (first_seen before port) port life (λ (n : ℕ). or_else (last_inserted before n) (first_seen before n)) refl h.0
current_step own (Took from item) before port h = sym (or_else-assoc (last_inserted before port) (first_seen before port) (of_port port from))
current_step own _ before port h =
    ap (λ (x : Option Life). or_else (last_inserted before port) x) (or_else-none (first_seen before port))
    ∙ sym (or_else-none (or_else (last_inserted before port) (first_seen before port)))

-- the current life of a port stays
pub current_stays : (own : Own) (d : Deed) (before : List Deed) (port : ℕ) (life : Life) → IsEagerDeed own before d
    → current before port ≡ Some life → current (d ∷ before) port ≡ Some life
unfolding or_else
current_stays own d before port life h is = current_step own d before port h ∙ rw is refl

-- a current life is the one that its port has
is_current_parts : (log : List Deed) (life : Life) → is_current log life ≡ true → current log life.port.0 ≡ Some life
unfolding is_current is_life
is_current_parts log life h =
    (elim (current log life.port.0) as (λ o. is_life o life ≡ true → o ≡ Some life) [
      | None ↦ λ k. cc
      | Some old ↦ λ k. ap Some (same_life-true old life k)
    ]) h

-- the life that a port has is current
is_current_from : (log : List Deed) (life : Life) → current log life.port.0 ≡ Some life → is_current log life ≡ true
unfolding is_current is_life
is_current_from log life h = rw h (same_life-refl life)

-- a life that was current is so
was_current_is : (own : Own) (log : List Deed) (life : Life) → IsEager own log → was_current log life ≡ true → is_current log life ≡ true
unfolding was_current
was_current_is own [] life h w = cc
was_current_is own (d ∷ before) life h w =
    elim (or_cases (was_current before life) (is_current (d ∷ before) life) w) [
      | inl a ↦ is_current_from (d ∷ before) life (current_stays own d before life.port.0 life h.1 (is_current_parts before life (was_current_is own before life h.0 a)))
      | inr a ↦ a
    ]

-- no life was current once and is not now
pub never_superseded : (own : Own) (log : List Deed) (life : Life) → IsEager own log → is_superseded log life ≡ false
unfolding is_superseded
never_superseded own log life h =
    (elim (was_current log life) as (λ b. was_current log life ≡ b → (b && not (is_current log life)) ≡ false) [
      | true ↦ λ w. let e = was_current_is own log life h w in rw e refl
      | false ↦ λ w. refl
    ]) refl
