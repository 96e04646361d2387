-- What is found before an end.
use Rattle.std.proofs.Common.{◌≡◌, refl, sym, ap, ℕ, suc, ◌+◌, ◌<◌, ◌≤◌, Bool, true, false, List, [], ◌∷◌, Option, Some, None, arith}
use Rattle.std.specs.Prelude.{cond, nat_lt, option_map}
use Rattle.rdm_bins.specs.Shelf.{item_at, entries_from, passes, first_passing, earlier, is_within, below}
use Rattle.rdm_bins.proofs.Places.{by_test, by_order, not_both_ways}

-- places before one that comes before the end do so too
pub within_down : (end : Option ℕ) (m k : ℕ) → m ≤ k → is_within end k ≡ true → is_within end m ≡ true
within_down None m k less within = refl
within_down (Some end) m k less within = grind arith

module _ {X : Type 0} where
  -- where nothing is found, nothing is
  pub below_none : (end : Option ℕ) → below {X = X} end None ≡ None
  below_none None = refl
  below_none (Some end) = refl

  -- what stands before the end is found
  pub within_kept : (end : Option ℕ) (e : ℕ × X) → is_within end e.0 ≡ true → below end (Some e) ≡ Some e
  within_kept None e within = refl
  within_kept (Some end) e within = ap (λ t. cond t (Some e) None) within

  past_dropped : (end : Option ℕ) (e : ℕ × X) → is_within end e.0 ≡ false → below end (Some e) ≡ None
  past_dropped None e past = not_both_ways true refl past
  past_dropped (Some end) e past = ap (λ t. cond t (Some e) None) past

  none_from : (end : Option ℕ) (n : ℕ) (p : X → Bool) (items : List (Option X)) → ((k m : ℕ) → m ≡ n + k → is_within end m ≡ true → passes p (item_at items k) ≡ false) → below end (first_passing p (entries_from n items)) ≡ None
  none_from end n p [] none = below_none end
  none_from end n p (None ∷ items) none = none_from end (suc n) p items (λ k m is within. none (suc k) m (omega arith) within)
  none_from end n p (Some x ∷ items) none =
      elim (p x) as (λ t. p x ≡ t → below end (cond t (Some (n, x)) (first_passing p (entries_from (suc n) items))) ≡ None) [
        | true ↦ λ passed. by_test (is_within end n) (λ within. not_both_ways (p x) passed (none 0 n (omega arith) within)) (λ past. past_dropped end (n, x) past)
        | false ↦ λ failed. none_from end (suc n) p items (λ k m is within. none (suc k) m (omega arith) within)
      ] refl

  -- where no place before one past the end passes, nothing is found
  pub none_within : (end : Option ℕ) (place : ℕ) (p : X → Bool) (items : List (Option X)) → is_within end place ≡ false → ((k : ℕ) → k < place → passes p (item_at items k) ≡ false) → below end (first_passing p (entries_from 0 items)) ≡ None
  none_within end place p items past none =
      none_from end 0 p items (λ k m is within.
      by_order k place (none k) (λ more. not_both_ways (is_within end place) (within_down end place m (omega arith) within) past))

  -- of two entries the earlier one is found, where the second is not looked for behind the first
  pub earlier_below : (one other : Option (ℕ × X)) → earlier one (below (option_map (λ e. e.0) one) other) ≡ earlier one other
  unfolding earlier
  earlier_below None other = refl
  earlier_below (Some a) None = refl
  earlier_below (Some a) (Some b) =
      elim (nat_lt b.0 a.0) as (λ t. nat_lt b.0 a.0 ≡ t → earlier (Some a) (cond t (Some b) None) ≡ earlier (Some a) (Some b)) [
        | true ↦ λ less. refl
        | false ↦ λ no. sym (ap (λ t. cond t (Some b) (Some a)) no)
      ] refl
