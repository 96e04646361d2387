-- Ranges of a message, in order.
use Rattle.std.specs.Prelude.{refl, ℕ, ◌-◌, ◌+◌, ◌<◌, ◌≤◌, Bool, true, false, if◌then◌else◌, eqb, leb, ltb, ◌&&◌, ◌||◌, List, [], ◌∷◌}
use Rattle.std.specs.Coded.{Coded, code_by, coded×, coded_ℕ}
use Rattle.rdm_gaps.specs.Places.{with_range}
use Rattle.rdm_land.specs.declared.spans.Span.{Span}

-- the len places from off on
abbrev pub span : ℕ → ℕ → Span
span off len = record { start = off; end = off + len }

-- it is stored as the pair of its ends
abbrev pub span_code : Coded Span
span_code = code_by (ℕ × ℕ) (coded× coded_ℕ coded_ℕ) (λ s. (s.start, s.end)) (λ p. record { start = p.0; end = p.1 }) (λ _. refl)

-- the range has the place
abbrev pub has : ℕ → Span → Bool
has place s = leb s.start place && ltb place s.end

-- one of the ranges has the place
abbrev pub have : ℕ → List Span → Bool
have place [] = false
have place (s ∷ spans) = has place s || have place spans

-- the ranges, with s before the first that ends after its start
abbrev pub with_span : Span → List Span → List Span
with_span s [] = s ∷ []
with_span s (t ∷ spans) = if leb t.end s.start then t ∷ with_span s spans else s ∷ t ∷ spans

-- the ranges have the same places
abbrev pub same : Span → Span → Bool
same s t = eqb s.start t.start && eqb s.end t.end

-- the ranges, without s
abbrev pub without_span : Span → List Span → List Span
without_span s [] = []
without_span s (t ∷ spans) = if same s t then spans else t ∷ without_span s spans

-- the tests, with true for each place of the ranges
abbrev pub with_spans : List Span → List Bool → List Bool
with_spans [] places = places
with_spans (s ∷ spans) places = with_range true s.start (s.end - s.start) (with_spans spans places)

-- the ranges lie in order from lo up to n, none is empty, no two share a place, and each begins below the capacity
abbrev pub AreApart : ℕ → ℕ → ℕ → List Span → Type 0
AreApart lo n capacity [] = lo ≤ n
AreApart lo n capacity (s ∷ spans) = (lo ≤ s.start) × (s.start < s.end) × (s.start < capacity) × AreApart s.end n capacity spans

-- the ranges lie in order
abbrev pub AreInOrder : List Span → Type 0
AreInOrder spans = (n capacity : ℕ) × AreApart 0 n capacity spans
