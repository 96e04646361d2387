-- The items that pass, gathered from place to place.
use Rattle.std.proofs.Common.{◌≡◌, refl, sym, ap, subst, ◌∙◌, ℕ, zero, suc, ◌+◌, ◌≤◌, Bool, true, false, List, [], ◌∷◌, ◌++◌, Option, Some, None, length, drop, append_assoc, arith}
use Rattle.std.specs.Prelude.{cond, filter}
use Rattle.std.specs.Map.{values_of}
use Rattle.std.proofs.lemmas.List.{append-nil, drop_all}
use Rattle.rdm_bins.specs.Shelf.{item_at, entries_from}
use Rattle.rdm_bins.proofs.Items.{not_both}

next : (i : ℕ) → suc i ≡ i + 1
next i = omega arith

module _ {X : Type 0} where
  -- the values do not depend on the first place's number
  values_shifted : (m n : ℕ) (items : List (Option X)) → values_of (entries_from m items) ≡ values_of (entries_from n items)
  values_shifted m n [] = refl
  values_shifted m n (None ∷ items) = values_shifted (suc m) (suc n) items
  values_shifted m n (Some x ∷ items) = ap (λ l. x ∷ l) (values_shifted (suc m) (suc n) items)

  -- the values from a place on
  abbrev pub values_from : ℕ → List (Option X) → List X
  values_from i items = values_of (entries_from 0 (drop i items))

  -- an item's value comes first from its place on
  values_some : (items : List (Option X)) (i : ℕ) (x : X) → item_at items i ≡ Some x → values_from i items ≡ x ∷ values_from (suc i) items
  values_some [] i x there = not_both None x refl there
  values_some (None ∷ items) zero x there = not_both None x refl there
  values_some (Some y ∷ items) zero x there = (λ i. values_of (entries_from 0 (there i ∷ items))) ∙ ap (λ l. x ∷ l) (values_shifted 1 0 items)
  values_some (o ∷ items) (suc i) x there = values_some items i x there

  -- an empty place adds no value
  values_none : (items : List (Option X)) (i : ℕ) → item_at items i ≡ None → values_from i items ≡ values_from (suc i) items
  values_none [] zero none = refl
  values_none [] (suc i) none = refl
  values_none (None ∷ items) zero none = values_shifted 1 0 items
  values_none (Some y ∷ items) zero none = not_both (Some y) y none refl
  values_none (o ∷ items) (suc i) none = values_none items i none

  -- what was kept so far and what passes from a place on is what passes
  abbrev pub IsKept : (X → Bool) → List (Option X) → List X → ℕ → Type 0
  IsKept p items done i = done ++ filter p (values_from i items) ≡ filter p (values_of (entries_from 0 items))

  -- an item that passes is kept
  kept_next : (p : X → Bool) (items : List (Option X)) (done : List X) (i : ℕ) (x : X) → item_at items i ≡ Some x → p x ≡ true → IsKept p items done i → IsKept p items (done ++ x ∷ []) (suc i)
  kept_next p items done i x there passed kept =
      append_assoc done (x ∷ []) (filter p (values_from (suc i) items))
      ∙ sym (ap (λ l. done ++ filter p l) (values_some items i x there) ∙ ap (λ t. done ++ cond t (x ∷ filter p (values_from (suc i) items)) (filter p (values_from (suc i) items))) passed)
      ∙ kept

  -- an item that does not pass is not
  dropped_next : (p : X → Bool) (items : List (Option X)) (done : List X) (i : ℕ) (x : X) → item_at items i ≡ Some x → p x ≡ false → IsKept p items done i → IsKept p items done (suc i)
  dropped_next p items done i x there failed kept =
      sym (ap (λ l. done ++ filter p l) (values_some items i x there) ∙ ap (λ t. done ++ cond t (x ∷ filter p (values_from (suc i) items)) (filter p (values_from (suc i) items))) failed)
      ∙ kept

  -- nor is what isn't there
  none_next : (p : X → Bool) (items : List (Option X)) (done : List X) (i : ℕ) → item_at items i ≡ None → IsKept p items done i → IsKept p items done (suc i)
  none_next p items done i none kept = sym (ap (λ l. done ++ filter p l) (values_none items i none)) ∙ kept

  -- at the end all is kept that passes
  pub all_kept : (p : X → Bool) (items : List (Option X)) (done : List X) (i : ℕ) → length items ≤ i → IsKept p items done i → done ≡ filter p (values_of (entries_from 0 items))
  all_kept p items done i h kept = sym (append-nil done) ∙ sym (ap (λ l. done ++ filter p (values_of (entries_from 0 l))) (drop_all i items h)) ∙ kept

  -- an item that passes is kept
  pub one_kept : (p : X → Bool) (items : List (Option X)) (done : List X) (i : ℕ) (x : X) → item_at items i ≡ Some x → p x ≡ true → IsKept p items done i → IsKept p items (done ++ x ∷ []) (i + 1)
  one_kept p items done i x there passed kept = subst (IsKept p items (done ++ x ∷ [])) (next i) (kept_next p items done i x there passed kept)

  -- an item that does not pass is not
  pub one_dropped : (p : X → Bool) (items : List (Option X)) (done : List X) (i : ℕ) (x : X) → item_at items i ≡ Some x → p x ≡ false → IsKept p items done i → IsKept p items done (i + 1)
  one_dropped p items done i x there failed kept = subst (IsKept p items done) (next i) (dropped_next p items done i x there failed kept)

  -- nor is what isn't there
  pub none_kept : (p : X → Bool) (items : List (Option X)) (done : List X) (i : ℕ) → item_at items i ≡ None → IsKept p items done i → IsKept p items done (i + 1)
  none_kept p items done i none kept = subst (IsKept p items done) (next i) (none_next p items done i none kept)

-- where all pass, all stay
pub all_stay : {A : Type 0} (xs : List A) → filter (λ x. true) xs ≡ xs
all_stay [] = refl
all_stay (x ∷ xs) = ap (λ l. x ∷ l) (all_stay xs)
