-- The first item that passes, among items under rising numbers.
use Rattle.std.proofs.Common.{◌≡◌, refl, sym, ap, subst, ◌∙◌, ℕ, ◌<◌, Bool, true, false, List, [], ◌∷◌, Option, Some, None, arith}
use Rattle.std.specs.Prelude.{cond, ◌&&◌, ◌||◌, nat_lt, T, filter, find, option_map}
use Rattle.std.specs.List.{AllByRecursion}
use Rattle.std.specs.List.Sorted.{IsStrictlySortedBy}
use Rattle.std.specs.Ordering.{nat_cmp, is_eq}
use Rattle.std.specs.declared.cmp.Ordering.TheVariants.{Less}
use Rattle.std.specs.Cmp.{nat_cmp_total, eq_by_cmp_equiv}
use Rattle.std.specs.Map.{keys_of, values_of, remove_entry}
use Rattle.std.specs.BTreeMap.{is_at}
use Rattle.std.proofs.lemmas.Cmp.{ranked}
use Rattle.rdm_lists.specs.Lists.{without_first}
use Rattle.rdm_bins.specs.Shelf.{first_passing, earlier}
use Rattle.rdm_bins.proofs.Items.{not_both}

narrow : (s t : Bool) → (t ≡ true → s ≡ true) → (s && t) ≡ t
narrow true t h = refl
narrow false true h = h refl
narrow false false h = refl

later_not_lower : (m n : ℕ) → m < n → nat_lt n m ≡ false
later_not_lower m n less = grind arith

lower : (m n : ℕ) → m < n → nat_lt m n ≡ true
lower m n less = grind arith

either : {A : Type 0} (t : Bool) (x : A) → cond t x x ≡ x
either true x = refl
either false x = refl

module _ {X : Type 0} where
  -- where all that pass are in the bin, the first of the bin that passes is the first of all
  pub first_of_bin : (in_bin p : X → Bool) (es : List (ℕ × X)) → ((x : X) → p x ≡ true → in_bin x ≡ true) → first_passing (λ x. in_bin x && p x) es ≡ first_passing p es
  first_of_bin in_bin p es h = λ i. first_passing (λ x. narrow (in_bin x) (p x) (h x) i) es

  -- the value of the first entry that passes is the first value that passes
  pub find_values : (p : X → Bool) (es : List (ℕ × X)) → find p (values_of es) ≡ option_map (λ e. e.1) (first_passing p es)
  find_values p [] = refl
  find_values p (e ∷ es) =
      elim (p e.1) as (λ t. cond t (Some e.1) (find p (values_of es)) ≡ option_map (λ e. e.1) (cond t (Some e) (first_passing p es))) [
        | true ↦ refl
        | false ↦ find_values p es
      ]

  -- values that are left where entries are dropped by their values
  pub values_of-filter : (keep : X → Bool) (es : List (ℕ × X)) → values_of (filter (λ e. keep e.1) es) ≡ filter keep (values_of es)
  values_of-filter keep [] = refl
  values_of-filter keep (e ∷ es) =
      elim (keep e.1) as (λ t. values_of (cond t (e ∷ filter (λ e. keep e.1) es) (filter (λ e. keep e.1) es)) ≡ cond t (e.1 ∷ filter keep (values_of es)) (filter keep (values_of es))) [
        | true ↦ ap (λ xs. e.1 ∷ xs) (values_of-filter keep es)
        | false ↦ values_of-filter keep es
      ]

  -- where none passes, the list without the first that passes is the list
  pub none_without : (p : X → Bool) (es : List (ℕ × X)) → first_passing p es ≡ None → values_of es ≡ without_first p (values_of es)
  unfolding without_first
  none_without p [] none = refl
  none_without p (e ∷ es) none =
      elim (p e.1) as (λ t. cond t (Some e) (first_passing p es) ≡ None → e.1 ∷ values_of es ≡ cond t (values_of es) (e.1 ∷ without_first p (values_of es))) [
        | true ↦ λ h. not_both (Some e) e h refl
        | false ↦ λ h. ap (λ xs. e.1 ∷ xs) (none_without p es h)
      ] none

  number_of : Option (ℕ × X) → ℕ
  number_of None = 0
  number_of (Some e) = e.0

  -- an item behind the first stands under a greater number
  behind : (n : ℕ) (p : X → Bool) (es : List (ℕ × X)) (f : ℕ × X) → AllByRecursion (λ y. nat_cmp n y ≡ Less) (keys_of es) → first_passing p es ≡ Some f → nat_cmp n f.0 ≡ Less
  unfolding number_of
  behind n p [] f less found = not_both None f refl found
  behind n p (e ∷ es) f less found =
      elim (p e.1) as (λ t. cond t (Some e) (first_passing p es) ≡ Some f → nat_cmp n f.0 ≡ Less) [
        | true ↦ λ h. subst (λ k. nat_cmp n k ≡ Less) (ap number_of h) less.0
        | false ↦ λ h. behind n p es f less.1 h
      ] found

  -- the list without the first that passes, where that one is taken out by its number
  pub first_without : (p : X → Bool) (es : List (ℕ × X)) (f : ℕ × X) → IsStrictlySortedBy nat_cmp (keys_of es) → first_passing p es ≡ Some f → values_of (remove_entry (is_at (nat_cmp f.0)) es) ≡ without_first p (values_of es)
  unfolding without_first IsStrictlySortedBy number_of
  first_without p [] f rising found = not_both None f refl found
  first_without p (e ∷ es) f rising found =
      elim (p e.1) as (λ t. cond t (Some e) (first_passing p es) ≡ Some f → values_of (cond (is_at (nat_cmp f.0) e.0) es (e ∷ remove_entry (is_at (nat_cmp f.0)) es)) ≡ cond t (values_of es) (e.1 ∷ without_first p (values_of es))) [
        | true ↦ λ h. ap (λ t. values_of (cond t es (e ∷ remove_entry (is_at (nat_cmp f.0)) es))) (subst (λ n. is_at (nat_cmp f.0) n ≡ true) (sym (ap number_of h)) ((eq_by_cmp_equiv nat_cmp_total).refl f.0))
        | false ↦ λ h.
            ap (λ t. values_of (cond t es (e ∷ remove_entry (is_at (nat_cmp f.0)) es))) ((eq_by_cmp_equiv nat_cmp_total).symm f.0 e.0 ∙ ap is_eq (behind e.0 p es f rising.0 h))
            ∙ ap (λ xs. e.1 ∷ xs) (first_without p es f rising.1 h)
      ] found

  first_alone : (e : ℕ × X) (o : Option (ℕ × X)) → ((f : ℕ × X) → o ≡ Some f → e.0 < f.0) → earlier (Some e) o ≡ Some e
  unfolding earlier
  first_alone e None less = refl
  first_alone e (Some f) less = ap (λ t. cond t (Some f) (Some e)) (later_not_lower e.0 f.0 (less f refl))

  second_alone : (e : ℕ × X) (o : Option (ℕ × X)) → ((f : ℕ × X) → o ≡ Some f → e.0 < f.0) → earlier o (Some e) ≡ Some e
  unfolding earlier
  second_alone e None less = refl
  second_alone e (Some f) less = ap (λ t. cond t (Some e) (Some f)) (lower e.0 f.0 (less f refl))

  -- one more entry in front of what two searches went through
  earlier_step : (s t q : Bool) (e : ℕ × X) (one other all : Option (ℕ × X)) → (q ≡ true → (s || t) ≡ true) → ((f : ℕ × X) → one ≡ Some f → e.0 < f.0) → ((f : ℕ × X) → other ≡ Some f → e.0 < f.0) → earlier one other ≡ all → earlier (cond (s && q) (Some e) one) (cond (t && q) (Some e) other) ≡ cond q (Some e) all
  unfolding earlier
  earlier_step true true true e one other all h less_one less_other is = either (nat_lt e.0 e.0) (Some e)
  earlier_step true false true e one other all h less_one less_other is = first_alone e other less_other
  earlier_step false true true e one other all h less_one less_other is = second_alone e one less_one
  earlier_step false false true e one other all h less_one less_other is = absurd (subst T (sym (h refl)) tt)
  earlier_step true true false e one other all h less_one less_other is = is
  earlier_step true false false e one other all h less_one less_other is = is
  earlier_step false true false e one other all h less_one less_other is = is
  earlier_step false false false e one other all h less_one less_other is = is

  none_earlier : earlier {X = X} None None ≡ None
  unfolding earlier
  none_earlier = refl

  -- where each that passes is in one of two bins, the earlier of the first two that pass is the first of all
  pub earlier_of_bins : (one other p : X → Bool) (es : List (ℕ × X)) → IsStrictlySortedBy nat_cmp (keys_of es) → ((x : X) → p x ≡ true → (one x || other x) ≡ true) → earlier (first_passing (λ x. one x && p x) es) (first_passing (λ x. other x && p x) es) ≡ first_passing p es
  unfolding IsStrictlySortedBy
  earlier_of_bins one other p [] rising h = none_earlier
  earlier_of_bins one other p (e ∷ es) rising h =
      earlier_step (one e.1) (other e.1) (p e.1) e _ _ _ (h e.1)
      (λ f found. ranked e.0 f.0 Less (sym (behind e.0 (λ x. one x && p x) es f rising.0 found)))
      (λ f found. ranked e.0 f.0 Less (sym (behind e.0 (λ x. other x && p x) es f rising.0 found)))
      (earlier_of_bins one other p es rising.1 h)
