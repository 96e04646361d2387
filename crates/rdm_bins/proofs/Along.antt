-- A walk along a chain.
use Rattle.std.proofs.Common.{◌≡◌, refl, ap, subst, ◌∙◌, ℕ, ◌+◌, ◌-◌, ◌<◌, ◌≤◌, Bool, true, false, Option, Some, None, arith}
use Rattle.std.specs.Prelude.{◌&&◌}
use Rattle.rdm_bins.specs.Chains.{IsFirstFrom}
use Rattle.rdm_bins.specs.Shelf.{is_in, passes}
use Rattle.rdm_bins.proofs.Places.{by_order}

-- the place, if there is one, is in the chain
abbrev pub IsThere : (ℕ → Bool) → Option ℕ → Type 0
IsThere here None = Unit {0}
IsThere here (Some n) = here n ≡ true

-- the place comes before another one, or there is no other
abbrev pub IsBefore : ℕ → Option ℕ → Type 0
IsBefore k None = Unit {0}
IsBefore k (Some n) = k < n

-- how far a walk has to go at most
abbrev pub ahead : ℕ → Option ℕ → ℕ
ahead size None = 0
ahead size (Some n) = size - n

-- the first place that is looked at is in the chain
pub first_there : (here : ℕ → Bool) (n : ℕ) (o : Option ℕ) → IsFirstFrom here n o → IsThere here o
first_there here n None first = tt
first_there here n (Some s) first = first.1

-- places before the first one of the chain do not pass
pub none_before : (here passed : ℕ → Bool) (n : ℕ) (o : Option ℕ) → IsFirstFrom here n o → ((k : ℕ) → here k ≡ false → passed k ≡ false) → ((k : ℕ) → k < n → passed k ≡ false) → (k : ℕ) → IsBefore k o → passed k ≡ false
none_before here passed n None first only none k before = by_order k n (λ less. none k less) (λ more. only k (first k more))
none_before here passed n (Some s) first only none k before = by_order k n (λ less. none k less) (λ more. only k (first.2 k more before))

-- one place more that does not pass
pub up_to_here : (passed : ℕ → Bool) (n : ℕ) → ((k : ℕ) → k < n → passed k ≡ false) → passed n ≡ false → (k : ℕ) → k < n + 1 → passed k ≡ false
up_to_here passed n none here k less = by_order k n (λ below. none k below) (λ more. let same : n ≡ k = omega arith in subst (λ m. passed m ≡ false) same here)

-- the walk comes nearer to its end
pub nearer : (here : ℕ → Bool) (size n : ℕ) (o : Option ℕ) → n < size → IsFirstFrom here (n + 1) o → ahead size o < size - n
nearer here size n None less first = omega arith
nearer here size n (Some s) less first = let from : n + 1 ≤ s = first.0 in omega arith

module _ {X : Type 0} where
  -- what is not of the bin does not pass
  pub not_in : (bin : X → Option ℕ) (b : Option ℕ) (p : X → Bool) (o : Option X) → is_in bin b o ≡ false → passes (λ x. is_in bin b (Some x) && p x) o ≡ false
  not_in bin b p None h = refl
  not_in bin b p (Some x) h = ap (λ t. t && p x) h

  -- an item of the bin passes as it does by itself
  pub in_passes : (bin : X → Option ℕ) (b : Option ℕ) (p : X → Bool) (x : X) (t : Bool) → is_in bin b (Some x) ≡ true → p x ≡ t → (is_in bin b (Some x) && p x) ≡ t
  in_passes bin b p x t there is = ap (λ s. s && p x) there ∙ is
