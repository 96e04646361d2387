-- Ranges that share a place, and sums over ranges.
use Rattle.std.proofs.Common.{◌≡◌, refl, sym, ap, ◌∙◌, ℕ, ◌+◌, ◌<◌, ◌≤◌, Bool, true, false, cond, ltb, leb, List, [], ◌∷◌, arith}
use Rattle.std.specs.Prelude.{◌||◌}
use Rattle.std.specs.List.{list_any, sum_by}
use Rattle.std.proofs.lemmas.Bool.Decides.{nat_tests}
use Rattle.std.proofs.lemmas.List.Sums.{sum_by-cons}
use Rattle.rdm_num.specs.Pieces.{overlaps}
use Rattle.rdm_num.specs.declared.parts.Span.{Span}
use Rattle.rdm_regions.specs.Ranges.{meets}
use Rattle.rdm_regions.specs.Weights.{at_start, at_end, has}

-- both are of one region, neither is empty, and each begins below the other's end
pub record Share (x y : Span) : Type 0 where
  pub region : x.region.0 ≡ y.region.0
  pub left : 0 < x.len
  pub right : 0 < y.len
  pub below : x.at < y.at + y.len
  pub above : y.at < x.at + x.len

pub meets_shares : (x y : Span) → meets x y ≡ true → Share x y
unfolding meets overlaps
meets_shares x y h = grind (arith, nat_tests)

pub shares_meet : (x y : Span) → Share x y → meets x y ≡ true
unfolding meets overlaps
shares_meet x y s = grind (arith, nat_tests)

-- one of them passes
pub found : (p : Span → Bool) (ys : List Span) → list_any p ys ≡ true → (y : Span) × (p y ≡ true) × ((f : Span → ℕ) → f y ≤ sum_by f ys)
found p [] h = absurd (no h)
  where
    no : false ≡ true → ⊥
    no e = cc
found p (y ∷ ys) h =
    elim (p y) as (λ b. p y ≡ b → (z : Span) × (p z ≡ true) × ((f : Span → ℕ) → f z ≤ sum_by f (y ∷ ys))) [
      | true ↦ λ e. (y, e, λ f. omega (arith, sum_by-cons f y ys))
      | false ↦ λ e. let rest = found p ys (ap (λ b. b || list_any p ys) (sym e) ∙ h) in (rest.0, rest.1, λ f. let le = rest.2 f in omega (arith, sum_by-cons f y ys))
    ] refl

-- where none passes, and what fails weighs nothing, all weigh nothing
pub weightless : (p : Span → Bool) (f : Span → ℕ) → ((y : Span) → p y ≡ false → f y ≡ 0) → (ys : List Span) → list_any p ys ≡ false → sum_by f ys ≡ 0
weightless p f none [] h = refl
weightless p f none (y ∷ ys) h =
    elim (p y) as (λ b. p y ≡ b → sum_by f (y ∷ ys) ≡ 0) [
      | true ↦ λ e. absurd (no (ap (λ b. b || list_any p ys) (sym e) ∙ h))
      | false ↦ λ e. let rest = weightless p f none ys (ap (λ b. b || list_any p ys) (sym e) ∙ h) in omega (arith, sum_by-cons f y ys, none y e)
    ] refl
  where
    no : true ≡ false → ⊥
    no e = cc

-- a range that has a place of another's shares it
pub has_none : (x y : Span) (place : ℕ) → x.at ≤ place → place < x.at + x.len → meets x y ≡ false → has x.region.0 place y ≡ 0
unfolding meets overlaps
has_none x y place low high h = grind (arith, nat_tests)

pub has_one : (y : Span) (region place : ℕ) → y.region.0 ≡ region → y.at ≤ place → place < y.at + y.len → has region place y ≡ 1
has_one y region place is low high = grind (arith, nat_tests)

-- one, if they share a place
abbrev pub meeting : Span → Span → ℕ
meeting x y = cond (meets x y) 1 0

-- a range that begins below another's end ends by its begin, or meets it
pub begins_or_ends : (x y : Span) → 0 < x.len
    → at_start x.region.0 (λ n. cond (ltb n (x.at + x.len)) 1 0) y ≡ at_end x.region.0 (λ n. cond (leb n x.at) 1 0) y + meeting x y
unfolding meets overlaps
begins_or_ends x y some = grind (arith, nat_tests)

pub all_begin_or_end : (x : Span) (ys : List Span) → 0 < x.len
    → sum_by (at_start x.region.0 (λ n. cond (ltb n (x.at + x.len)) 1 0)) ys ≡ sum_by (at_end x.region.0 (λ n. cond (leb n x.at) 1 0)) ys + sum_by (meeting x) ys
all_begin_or_end x [] some = refl
all_begin_or_end x (y ∷ ys) some =
    omega (arith, begins_or_ends x y some, all_begin_or_end x ys some, sum_by-cons (at_start x.region.0 (λ n. cond (ltb n (x.at + x.len)) 1 0)) y ys, sum_by-cons (at_end x.region.0 (λ n. cond (leb n x.at) 1 0)) y ys, sum_by-cons (meeting x) y ys)
