-- The items of a shelf, by their places.
use Rattle.std.proofs.Common.{◌≡◌, refl, sym, ap, subst, ◌∙◌, ℕ, zero, suc, ◌+◌, ◌<◌, ◌≤◌, Bool, true, false, List, [], ◌∷◌, ◌++◌, Option, Some, None, length, get_or, arith}
use Rattle.std.specs.Prelude.{cond, nat_eq, T, is_some, option_map}
use Rattle.std.specs.List.{AllByRecursion}
use Rattle.std.proofs.Math.ListN.{set}
use Rattle.std.specs.List.Sorted.{IsStrictlySortedBy}
use Rattle.std.specs.Ordering.{nat_cmp}
use Rattle.std.specs.declared.cmp.Ordering.TheVariants.{Less}
use Rattle.std.specs.Cmp.{unsigned_tied, nat_cmp_is}
use Rattle.std.specs.Map.{keys_of, values_of, remove_entry}
use Rattle.std.specs.BTreeMap.{is_at}
use Rattle.rdm_bins.specs.Shelf.{item_at, without_at, entries_from, passes, first_passing}
use Rattle.rdm_bins.proofs.Places.{not_both_ways, itself, apart, apart_turned, both_suc}

-- nothing is both there and not
pub not_both : {A P : Type 0} (o : Option A) (x : A) → o ≡ None → o ≡ Some x → P
not_both o x none there = absurd (subst (λ p. T (is_some p)) (sym there ∙ none) tt)

module _ {X : Type 0} where
  all_above : (m n : ℕ) (items : List (Option X)) → m < n → AllByRecursion (λ y. nat_cmp m y ≡ Less) (keys_of (entries_from n items))
  all_above m n [] less = tt
  all_above m n (None ∷ items) less = all_above m (suc n) items (omega arith)
  all_above m n (Some x ∷ items) less = (sym (nat_cmp_is m n Less less), all_above m (suc n) items (omega arith))

  -- the places rise
  pub places_rise : (n : ℕ) (items : List (Option X)) → IsStrictlySortedBy nat_cmp (keys_of (entries_from n items))
  unfolding IsStrictlySortedBy
  places_rise n [] = tt
  places_rise n (None ∷ items) = places_rise (suc n) items
  places_rise n (Some x ∷ items) = (all_above n (suc n) items (omega arith), places_rise (suc n) items)

  -- the last value is the new one
  pub values_last : (n : ℕ) (items : List (Option X)) (x : X) → values_of (entries_from n (items ++ Some x ∷ [])) ≡ values_of (entries_from n items) ++ x ∷ []
  values_last n [] x = refl
  values_last n (None ∷ items) x = values_last (suc n) items x
  values_last n (Some y ∷ items) x = ap (λ l. y ∷ l) (values_last (suc n) items x)

  none_removed : (m n : ℕ) (items : List (Option X)) → m < n → entries_from n items ≡ remove_entry (is_at (nat_cmp m)) (entries_from n items)
  none_removed m n [] less = refl
  none_removed m n (None ∷ items) less = none_removed m (suc n) items (omega arith)
  none_removed m n (Some x ∷ items) less =
      ap (λ l. (n, x) ∷ l) (none_removed m (suc n) items (omega arith))
      ∙ sym (ap (λ t. cond t (entries_from (suc n) items) ((n, x) ∷ remove_entry (is_at (nat_cmp m)) (entries_from (suc n) items))) (unsigned_tied m n ∙ apart m n less))

  -- the entries without the one of a place
  pub entries_without : (n k m : ℕ) (items : List (Option X)) → m ≡ n + k → entries_from n (without_at items k) ≡ remove_entry (is_at (nat_cmp m)) (entries_from n items)
  entries_without n k m [] is = refl
  entries_without n zero m (None ∷ items) is = none_removed m (suc n) items (omega arith)
  entries_without n zero m (Some x ∷ items) is =
      let same : n ≡ m = omega arith in
      sym (ap (λ t. cond t (entries_from (suc n) items) ((n, x) ∷ remove_entry (is_at (nat_cmp m)) (entries_from (suc n) items))) (unsigned_tied m n ∙ subst (λ p. nat_eq m p ≡ true) (sym same) (itself m)))
  entries_without n (suc k) m (None ∷ items) is = entries_without (suc n) k m items (omega arith)
  entries_without n (suc k) m (Some x ∷ items) is =
      ap (λ l. (n, x) ∷ l) (entries_without (suc n) k m items (omega arith))
      ∙ sym (ap (λ t. cond t (entries_from (suc n) items) ((n, x) ∷ remove_entry (is_at (nat_cmp m)) (entries_from (suc n) items))) (unsigned_tied m n ∙ apart_turned m n (omega arith)))

  -- the items are as many without one
  pub length_without : (items : List (Option X)) (k : ℕ) → length (without_at items k) ≡ length items
  length_without [] k = refl
  length_without (o ∷ items) zero = refl
  length_without (o ∷ items) (suc k) = ap suc (length_without items k)

  -- the place that was emptied
  pub emptied : (items : List (Option X)) (k : ℕ) → item_at (without_at items k) k ≡ None
  emptied [] k = refl
  emptied (o ∷ items) zero = refl
  emptied (o ∷ items) (suc k) = emptied items k

  -- the other places stay
  pub others_stay : (items : List (Option X)) (k n : ℕ) → nat_eq k n ≡ false → item_at (without_at items k) n ≡ item_at items n
  others_stay [] k n other = refl
  others_stay (o ∷ items) zero zero other = not_both_ways (nat_eq 0 0) (itself 0) other
  others_stay (o ∷ items) zero (suc n) other = refl
  others_stay (o ∷ items) (suc k) zero other = refl
  others_stay (o ∷ items) (suc k) (suc n) other = others_stay items k n (sym (both_suc k n) ∙ other)

  -- a new last place changes no other one
  pub item_front : (items : List (Option X)) (o : Option X) (k : ℕ) → k < length items → item_at (items ++ o ∷ []) k ≡ item_at items k
  item_front [] o k h = absurd (omega arith)
  item_front (p ∷ items) o zero h = refl
  item_front (p ∷ items) o (suc k) h = item_front items o k (omega arith)

  -- the new last place
  pub item_last : (items : List (Option X)) (o : Option X) → item_at (items ++ o ∷ []) (length items) ≡ o
  item_last [] o = refl
  item_last (p ∷ items) o = item_last items o

  -- past the places there is nothing
  pub item_past : (items : List (Option X)) (k : ℕ) → length items ≤ k → item_at items k ≡ None
  item_past [] k h = refl
  item_past (p ∷ items) zero h = absurd (omega arith)
  item_past (p ∷ items) (suc k) h = item_past items k (omega arith)

  -- where no place holds one that passes, none is found
  pub none_found : (n : ℕ) (p : X → Bool) (items : List (Option X)) → ((k : ℕ) → passes p (item_at items k) ≡ false) → first_passing p (entries_from n items) ≡ None
  none_found n p [] none = refl
  none_found n p (None ∷ items) none = none_found (suc n) p items (λ k. none (suc k))
  none_found n p (Some x ∷ items) none = ap (λ t. cond t (Some (n, x)) (first_passing p (entries_from (suc n) items))) (none 0) ∙ none_found (suc n) p items (λ k. none (suc k))

  -- the first place that holds one that passes is found
  pub one_found : (n k m : ℕ) (p : X → Bool) (x : X) (items : List (Option X)) → m ≡ n + k → item_at items k ≡ Some x → p x ≡ true → ((j : ℕ) → j < k → passes p (item_at items j) ≡ false) → first_passing p (entries_from n items) ≡ Some (m, x)
  one_found n k m p x [] is there passed before = not_both None x refl there
  one_found n zero m p x (None ∷ items) is there passed before = not_both None x refl there
  one_found n (suc k) m p x (None ∷ items) is there passed before = one_found (suc n) k m p x items (omega arith) there passed (λ j h. before (suc j) (omega arith))
  one_found n zero m p x (Some y ∷ items) is there passed before =
      let same : n ≡ m = omega arith in
      ap (λ t. cond t (Some (n, y)) (first_passing p (entries_from (suc n) items))) (ap (passes p) there ∙ passed)
      ∙ (λ i. option_map (λ z. (same i, z)) (there i))
  one_found n (suc k) m p x (Some y ∷ items) is there passed before =
      ap (λ t. cond t (Some (n, y)) (first_passing p (entries_from (suc n) items))) (before 0 (omega arith))
      ∙ one_found (suc n) k m p x items (omega arith) there passed (λ j h. before (suc j) (omega arith))

  -- what a read of a place gives
  pub item_read : (items : List (Option X)) (k : ℕ) (o : Option X) → k < length items → o ≡ get_or items k o → item_at items k ≡ o
  item_read [] k o h is = absurd (omega arith)
  item_read (p ∷ items) zero o h is = sym is
  item_read (p ∷ items) (suc k) o h is = item_read items k o (omega arith) is

  -- a write of none to a place
  pub set_without : (items : List (Option X)) (k : ℕ) → set items k None ≡ without_at items k
  set_without [] k = refl
  set_without (o ∷ items) zero = refl
  set_without (o ∷ items) (suc k) = ap (λ l. o ∷ l) (set_without items k)

  -- past the places nothing is taken out
  pub without_past : (items : List (Option X)) (k : ℕ) → length items ≤ k → items ≡ without_at items k
  without_past [] k h = refl
  without_past (o ∷ items) zero h = absurd (omega arith)
  without_past (o ∷ items) (suc k) h = ap (λ l. o ∷ l) (without_past items k (omega arith))

  -- where a place is empty nothing is taken out
  pub without_none : (items : List (Option X)) (k : ℕ) → item_at items k ≡ None → items ≡ without_at items k
  without_none [] k none = refl
  without_none (o ∷ items) zero none = ap (λ p. p ∷ items) none
  without_none (o ∷ items) (suc k) none = ap (λ l. o ∷ l) (without_none items k none)

  -- a new item is one more
  pub one_more : (n : ℕ) (items : List (Option X)) (x : X) → length (entries_from n (items ++ Some x ∷ [])) ≡ length (entries_from n items) + 1
  one_more n [] x = refl
  one_more n (None ∷ items) x = one_more (suc n) items x
  one_more n (Some y ∷ items) x = let more = one_more (suc n) items x in omega arith

  -- without the item of a place there is one less
  pub one_less : (n : ℕ) (items : List (Option X)) (k : ℕ) (x : X) → item_at items k ≡ Some x → length (entries_from n (without_at items k)) + 1 ≡ length (entries_from n items)
  one_less n [] k x there = not_both None x refl there
  one_less n (None ∷ items) zero x there = not_both None x refl there
  one_less n (Some y ∷ items) zero x there = omega arith
  one_less n (None ∷ items) (suc k) x there = one_less (suc n) items k x there
  one_less n (Some y ∷ items) (suc k) x there = let less = one_less (suc n) items k x there in omega arith

  -- there are no more items than places
  pub within_places : (n : ℕ) (items : List (Option X)) → length (entries_from n items) ≤ length items
  within_places n [] = omega arith
  within_places n (None ∷ items) = let within = within_places (suc n) items in omega arith
  within_places n (Some x ∷ items) = let within = within_places (suc n) items in omega arith
