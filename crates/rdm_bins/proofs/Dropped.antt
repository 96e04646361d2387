-- Items that are taken out where they pass, from place to place.
use Rattle.std.proofs.Common.{◌≡◌, refl, sym, ap, ◌∙◌, ℕ, zero, suc, ◌+◌, ◌<◌, Bool, true, false, List, [], ◌∷◌, Option, Some, None, length}
use Rattle.std.specs.Prelude.{cond, not, filter}
use Rattle.std.specs.Map.{values_of}
use Rattle.rdm_bins.specs.Shelf.{item_at, without_at, entries_from, passes, without_passing}
use Rattle.rdm_bins.proofs.Places.{apart_turned}
use Rattle.rdm_bins.proofs.Items.{length_without, emptied, others_stay}
use Rattle.rdm_bins.proofs.Along.{up_to_here}

module _ {X : Type 0} (p : X → Bool) where
  -- there are as many places
  pub as_many : (items : List (Option X)) (k : ℕ) → length (without_passing p items k) ≡ length items
  as_many items k =
      elim (passes p (item_at items k)) as (λ t. length (cond t (without_at items k) items) ≡ length items) [
        | true ↦ length_without items k
        | false ↦ refl
      ]

  rest_without : (n : ℕ) (items : List (Option X)) (k : ℕ) → passes p (item_at items k) ≡ true → filter (λ x. not (p x)) (values_of (entries_from n (without_at items k))) ≡ filter (λ x. not (p x)) (values_of (entries_from n items))
  rest_without n [] k passed = refl
  rest_without n (None ∷ items) zero passed = refl
  rest_without n (Some x ∷ items) zero passed =
      let rest = filter (λ x. not (p x)) (values_of (entries_from (suc n) items)) in
      sym (ap (λ t. cond (not t) (x ∷ rest) rest) passed)
  rest_without n (None ∷ items) (suc k) passed = rest_without (suc n) items k passed
  rest_without n (Some x ∷ items) (suc k) passed = ap (λ l. cond (not (p x)) (x ∷ l) l) (rest_without (suc n) items k passed)

  -- those that do not pass stay
  pub rest_stays : (items : List (Option X)) (k : ℕ) → filter (λ x. not (p x)) (values_of (entries_from 0 (without_passing p items k))) ≡ filter (λ x. not (p x)) (values_of (entries_from 0 items))
  rest_stays items k =
      elim (passes p (item_at items k)) as (λ t. passes p (item_at items k) ≡ t → filter (λ x. not (p x)) (values_of (entries_from 0 (cond t (without_at items k) items))) ≡ filter (λ x. not (p x)) (values_of (entries_from 0 items))) [
        | true ↦ λ passed. rest_without 0 items k passed
        | false ↦ λ failed. refl
      ] refl

  -- one place more holds none that passes
  pub gone_up_to : (items : List (Option X)) (k : ℕ) → ((j : ℕ) → j < k → passes p (item_at items j) ≡ false) → (j : ℕ) → j < k + 1 → passes p (item_at (without_passing p items k) j) ≡ false
  gone_up_to items k gone =
      elim (passes p (item_at items k)) as (λ t. passes p (item_at items k) ≡ t → (j : ℕ) → j < k + 1 → passes p (item_at (cond t (without_at items k) items) j) ≡ false) [
        | true ↦ λ passed. up_to_here (λ j. passes p (item_at (without_at items k) j)) k (λ j less. ap (passes p) (others_stay items k j (apart_turned k j less)) ∙ gone j less) (ap (passes p) (emptied items k))
        | false ↦ λ failed. up_to_here (λ j. passes p (item_at items j)) k gone failed
      ] refl

  -- where none passes, all stay
  pub none_dropped : (n : ℕ) (items : List (Option X)) → ((j : ℕ) → passes p (item_at items j) ≡ false) → filter (λ x. not (p x)) (values_of (entries_from n items)) ≡ values_of (entries_from n items)
  none_dropped n [] none = refl
  none_dropped n (None ∷ items) none = none_dropped (suc n) items (λ j. none (suc j))
  none_dropped n (Some x ∷ items) none =
      let rest = filter (λ x. not (p x)) (values_of (entries_from (suc n) items)) in
      ap (λ t. cond (not t) (x ∷ rest) rest) (none 0) ∙ ap (λ l. x ∷ l) (none_dropped (suc n) items (λ j. none (suc j)))
