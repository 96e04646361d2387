-- The receives beside the entries under whose numbers their places stand.
use Rattle.std.proofs.Common.{◌≡◌, refl, sym, ap, ◌∙◌, inl, inr, ℕ, ◌+◌, suc, ◌==◌, true, false, cond, List, [], ◌∷◌, length, Option, Some, None}
use Rattle.std.specs.Prelude.{find}
use Rattle.std.specs.List.{cons_option}
use Rattle.rdm_num.specs.declared.numbers.OpId.{OpId}
use Rattle.rdm_lists.specs.Lists.{Member}
use Rattle.rdm_pool.specs.Numbered.{RisesWithin, value_at as found_at}
use Rattle.rdm_slots.specs.Places.{Slots, value_at}
use Rattle.rdm_receives.specs.View.{ReceiveView}
use Rattle.rdm_live.specs.View.{has_number, NumbersRise}
use Rattle.rdm_live.specs.Kept.{receives_at, Stands}

module _ (slots : Slots ReceiveView) where
  -- each entry has its receive
  abbrev pub AllStand : List (ℕ × ℕ) → Type 0
  AllStand es = (e : ℕ × ℕ) → Member e es → Stands slots e

  -- a receive stands first where the first entry has one
  pub first_stands : (e : ℕ × ℕ) (es : List (ℕ × ℕ)) (r : ReceiveView) → value_at slots e.1 ≡ Some r → receives_at (e ∷ es) slots ≡ r ∷ receives_at es slots
  first_stands e es r is = λ i. cons_option (is i) (receives_at es slots)

  -- there are as many receives as entries
  pub length_at : (es : List (ℕ × ℕ)) → AllStand es → length (receives_at es slots) ≡ length es
  length_at [] all = refl
  length_at (e ∷ es) all =
      let s = all e (inl refl) in
      ap length (first_stands e es s.0 s.1) ∙ ap suc (length_at es (λ d m. all d (inr m)))

  -- what stands at a place, if there is one
  abbrev pub standing : Option ℕ → Option ReceiveView
  standing None = None
  standing (Some place) = value_at slots place

  -- the receive of a number stands at the place under it
  pub numbered_at : (es : List (ℕ × ℕ)) (number : OpId) → AllStand es → find (has_number number) (receives_at es slots) ≡ standing (found_at es number.0)
  unfolding found_at
  numbered_at [] number all = refl
  numbered_at (e ∷ es) number all =
      let s = all e (inl refl) in
      let rest = numbered_at es number (λ d m. all d (inr m)) in
      ap (find (has_number number)) (first_stands e es s.0 s.1)
      ∙ ap (λ n. cond (n == number.0) (Some s.0) (find (has_number number) (receives_at es slots))) s.2
      ∙ (elim (e.0 == number.0) as (λ b. cond b (Some s.0) (find (has_number number) (receives_at es slots)) ≡ standing (cond b (Some e.1) (found_at es number.0))) [
        | true ↦ sym s.1
        | false ↦ rest
      ])

  -- the numbers of the receives rise as those of the entries do
  pub rises_at : (least : ℕ) (es : List (ℕ × ℕ)) (bound : ℕ) → AllStand es → RisesWithin least es bound → NumbersRise least (receives_at es slots) bound
  rises_at least [] bound all rise = tt
  rises_at least (e ∷ es) bound all rise =
      let s = all e (inl refl) in
      rw (first_stands e es s.0 s.1, s.2) (rise.0, rise.1, rises_at (e.0 + 1) es bound (λ d m. all d (inr m)) rise.2)
