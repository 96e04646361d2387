-- Ranges of regions.
use Rattle.std.specs.Prelude.{refl, ℕ, Bool, ◌&&◌, ◌==◌}
use Rattle.std.specs.declared.cmp.Ordering.{Ordering}
use Rattle.std.specs.Coded.{Coded, code_by, coded×, coded_ℕ}
use Rattle.std.specs.List.{list_any}
use Rattle.std.specs.Ordering.{nat_cmp, ordering_then}
use Rattle.std.specs.FinMap as map
use Rattle.rdm_num.specs.declared.parts.Span.{Span}
use Rattle.rdm_num.specs.Pieces.{overlaps}
use Rattle.rdm_regions.specs.declared.key.HoldKey.{HoldKey}

-- the len places from `at` on of a region
abbrev pub range : ℕ → ℕ → ℕ → Span
range region at len = record { region = record { 0 = region }; at = at; len = len }

-- it is stored as the tuple of its numbers
abbrev pub range_code : Coded Span
range_code = code_by (ℕ × (ℕ × ℕ)) (coded× coded_ℕ (coded× coded_ℕ coded_ℕ)) (λ x. (x.region.0, (x.at, x.len))) (λ t. record { region = record { 0 = t.0 }; at = t.1.0; len = t.1.1 }) (λ _. refl)

-- that part of the send
abbrev pub hold_key : ℕ → ℕ → HoldKey
hold_key send part = record { send = send; part = part }

-- by send, and then by part
abbrev pub key_cmp : HoldKey → HoldKey → Ordering
key_cmp a b = ordering_then (nat_cmp a.send b.send) (nat_cmp a.part b.part)

-- it is stored as the pair of its numbers
abbrev pub key_code : Coded HoldKey
key_code = code_by (ℕ × ℕ) (coded× coded_ℕ coded_ℕ) (λ k. (k.send, k.part)) (λ p. record { send = p.0; part = p.1 }) (λ _. refl)

-- the ranges that sends hold, each under a part of its send
abbrev pub HeldRanges : Type 0
HeldRanges = map.FinMap key_cmp Span

-- the ranges that receives have out, each under its receive
abbrev pub LeasedRanges : Type 0
LeasedRanges = map.FinMap nat_cmp Span

-- both are of one region, and share a place of it
unfoldable pub meets : Span → Span → Bool
meets x y = (x.region.0 == y.region.0) && overlaps x.at x.len y.at y.len

-- the range shares a place with one of them
abbrev pub meets_one : {K : Type 0} {R : K → K → Ordering} → Span → map.FinMap R Span → Bool
meets_one x ranges = list_any (meets x) (map.values ranges)
