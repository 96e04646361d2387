-- What the regions keep, once one of them changes.
use Rattle.std.proofs.Common.{◌≡◌, refl, sym, ap, ◌∙◌, ℕ, ◌+◌, ◌-◌, ◌<◌, ◌≤◌, Bool, true, false, cond, ltb, List, length, map as each, replicate, Option, Some, None, inl, inr, arith}
use Rattle.std.specs.Prelude.{is_none}
use Rattle.std.specs.List.{sum_by}
use Rattle.std.proofs.lemmas.Bool.{cases_lt}
use Rattle.std.proofs.lemmas.Bool.Decides.{nat_tests}
use Rattle.std.proofs.lemmas.List.{length-replicate, length-map, get_or-replicate, get_or-map}
use Rattle.rdm_mr.specs.Tiles.{Tiles, laid, AreHome, AreOut}
use Rattle.rdm_num.specs.declared.parts.Span.{Span}
use Rattle.rdm_regions.specs.declared.region.Region.{Region}
use Rattle.rdm_regions.specs.Weights.{at_start, at_end, counts, has}
use Rattle.rdm_regions.specs.Steps.{Marked, Unmarked, one_unless_empty}
use Rattle.rdm_regions.specs.Tallies.{Marks, Tiled}
use Rattle.rdm_regions.proofs.Places.{out_at, length-laid, laid_before, laid_within, laid_after, home_at, out_from}

-- what a range weighs in a region
start_here : (x : Span) (f : ℕ → ℕ) → at_start x.region.0 f x ≡ cond (ltb 0 x.len) (f x.at) 0
start_here x f = grind (arith, nat_tests)

end_here : (x : Span) (f : ℕ → ℕ) → at_end x.region.0 f x ≡ cond (ltb 0 x.len) (f (x.at + x.len)) 0
end_here x f = grind (arith, nat_tests)

counts_here : (x : Span) → counts x.region.0 x ≡ one_unless_empty x
counts_here x = grind (arith, nat_tests)

start_elsewhere : (k : ℕ) (x : Span) (f : ℕ → ℕ) → (k ≡ x.region.0 → ⊥) → at_start k f x ≡ 0
start_elsewhere k x f ne = grind (arith, nat_tests)

end_elsewhere : (k : ℕ) (x : Span) (f : ℕ → ℕ) → (k ≡ x.region.0 → ⊥) → at_end k f x ≡ 0
end_elsewhere k x f ne = grind (arith, nat_tests)

counts_elsewhere : (k : ℕ) (x : Span) → (k ≡ x.region.0 → ⊥) → counts k x ≡ 0
counts_elsewhere k x ne = grind (arith, nat_tests)

has_elsewhere : (k place : ℕ) (x : Span) → (k ≡ x.region.0 → ⊥) → has k place x ≡ 0
has_elsewhere k place x ne = grind (arith, nat_tests)

has_within : (place : ℕ) (x : Span) → x.at ≤ place → place < x.at + x.len → has x.region.0 place x ≡ 1
has_within place x low high = grind (arith, nat_tests)

has_before : (place : ℕ) (x : Span) → place < x.at → has x.region.0 place x ≡ 0
has_before place x lt = grind (arith, nat_tests)

has_after : (place : ℕ) (x : Span) → x.at + x.len ≤ place → has x.region.0 place x ≡ 0
has_after place x le = grind (arith, nat_tests)

-- the sums over ys are those over xs and what x weighs
abbrev pub IsWith : Span → List Span → List Span → Type 0
IsWith x xs ys = (f : Span → ℕ) → sum_by f ys ≡ sum_by f xs + f x

module _ (x : Span) (xs ys : List Span) (sums : IsWith x xs ys) where
  -- one range more, or one less, in another region
  pub marks_with_other : (k : ℕ) (r : Region) → (k ≡ x.region.0 → ⊥) → Marks k xs r → Marks k ys r
  marks_with_other k r ne m = record {
    starts_rise = m.starts_rise;
    ends_rise = m.ends_rise;
    starts = λ f. omega (arith, m.starts f, sums (at_start k f), start_elsewhere k x f ne);
    ends = λ f. omega (arith, m.ends f, sums (at_end k f), end_elsewhere k x f ne);
  }

  pub marks_without_other : (k : ℕ) (r : Region) → (k ≡ x.region.0 → ⊥) → Marks k ys r → Marks k xs r
  marks_without_other k r ne m = record {
    starts_rise = m.starts_rise;
    ends_rise = m.ends_rise;
    starts = λ f. omega (arith, m.starts f, sums (at_start k f), start_elsewhere k x f ne);
    ends = λ f. omega (arith, m.ends f, sums (at_end k f), end_elsewhere k x f ne);
  }

  pub tiled_with_other : (k : ℕ) (home : Tiles) → (k ≡ x.region.0 → ⊥) → Tiled k xs home → Tiled k ys home
  tiled_with_other k home ne t = record {
    start = t.start;
    whole = t.whole;
    out = omega (arith, t.out, sums (counts k), counts_elsewhere k x ne);
    places = λ place lt. omega (arith, t.places place lt, sums (has k place), has_elsewhere k place x ne);
  }

  pub tiled_without_other : (k : ℕ) (home : Tiles) → (k ≡ x.region.0 → ⊥) → Tiled k ys home → Tiled k xs home
  tiled_without_other k home ne t = record {
    start = t.start;
    whole = t.whole;
    out = omega (arith, t.out, sums (counts k), counts_elsewhere k x ne);
    places = λ place lt. omega (arith, t.places place lt, sums (has k place), has_elsewhere k place x ne);
  }

  -- in its own region
  pub marks_with : (r s : Region) → Marked x r s → Marks x.region.0 xs r → Marks x.region.0 ys s
  marks_with r s h m = record {
    starts_rise = h.starts_rise;
    ends_rise = h.ends_rise;
    starts = λ f. omega (arith, m.starts f, h.starts f, sums (at_start x.region.0 f), start_here x f);
    ends = λ f. omega (arith, m.ends f, h.ends f, sums (at_end x.region.0 f), end_here x f);
  }

  pub marks_without : (r s : Region) → Unmarked x r s → Marks x.region.0 ys r → Marks x.region.0 xs s
  marks_without r s h m = record {
    starts_rise = h.1;
    ends_rise = h.2;
    starts = λ f. omega (arith, m.starts f, h.3 f, sums (at_start x.region.0 f), start_here x f);
    ends = λ f. omega (arith, m.ends f, h.4 f, sums (at_end x.region.0 f), end_here x f);
  }

  pub tiled_with : (home : Tiles) → x.at + x.len ≤ length home.cells → AreHome x.at x.len home.cells → Tiled x.region.0 xs home
      → Tiled x.region.0 ys (record home { cells = laid x.at (replicate x.len None) home.cells; out = home.out + one_unless_empty x })
  tiled_with home fits is t =
      let new = replicate {A = Option ℕ} x.len None in
      let size : length new ≡ x.len = length-replicate x.len None in
      let within : x.at + length new ≤ length home.cells = omega arith in
      let long = length-laid x.at new home.cells within in
      record {
        start = t.start;
        whole = t.whole ∙ sym long;
        out = omega (arith, t.out, sums (counts x.region.0), counts_here x);
        places = λ place lt.
            let old = t.places place (omega (arith, long)) in
            let sum = sums (has x.region.0 place) in
            elim (cases_lt place x.at) [
              | inl before ↦
                  let cell = ap (λ (o : Option ℕ). cond {A = ℕ} (is_none o) 1 0) (laid_before x.at new home.cells within place before) in
                  omega (arith, old, sum, cell, has_before place x before)
              | inr low ↦ elim (cases_lt place (x.at + x.len)) [
                | inl high ↦
                    let at : x.at + (place - x.at) ≡ place = omega arith in
                    let free : out_at home.cells place ≡ false = ap (out_at home.cells) (sym at) ∙ home_at x.at x.len home.cells is (place - x.at) (omega arith) in
                    let none = ap (λ (b : Bool). cond {A = ℕ} b 1 0) free in
                    let cell = ap (λ (o : Option ℕ). cond {A = ℕ} (is_none o) 1 0) (laid_within x.at new home.cells within place low (omega arith) ∙ get_or-replicate x.len (place - x.at) None None (omega arith)) in
                    omega (arith, old, sum, none, cell, has_within place x low high)
                | inr after ↦
                    let cell = ap (λ (o : Option ℕ). cond {A = ℕ} (is_none o) 1 0) (laid_after x.at new home.cells within place (omega arith)) in
                    omega (arith, old, sum, cell, has_after place x after)
              ]
            ];
      }

  pub tiled_without : (home : Tiles) (bytes : List ℕ) → length bytes ≡ x.len → x.at + x.len ≤ length home.cells → Tiled x.region.0 ys home
      → Tiled x.region.0 xs (record home { cells = laid x.at (each Some bytes) home.cells; out = home.out - one_unless_empty x })
  tiled_without home bytes is fits t =
      let new : List (Option ℕ) = each Some bytes in
      let size : length new ≡ x.len = length-map bytes Some ∙ is in
      let within : x.at + length new ≤ length home.cells = omega arith in
      let long = length-laid x.at new home.cells within in
      record {
        start = t.start;
        whole = t.whole ∙ sym long;
        out = omega (arith, t.out, sums (counts x.region.0), counts_here x);
        places = λ place lt.
            let old = t.places place (omega (arith, long)) in
            let sum = sums (has x.region.0 place) in
            elim (cases_lt place x.at) [
              | inl before ↦
                  let cell = ap (λ (o : Option ℕ). cond {A = ℕ} (is_none o) 1 0) (laid_before x.at new home.cells within place before) in
                  omega (arith, old, sum, cell, has_before place x before)
              | inr low ↦ elim (cases_lt place (x.at + x.len)) [
                | inl high ↦
                    let most = at_most_one (out_at home.cells place) in
                    let cell = ap (λ (o : Option ℕ). cond {A = ℕ} (is_none o) 1 0) (laid_within x.at new home.cells within place low (omega arith) ∙ get_or-map Some bytes (place - x.at) 0 None (omega arith)) in
                    omega (arith, old, sum, most, cell, has_within place x low high)
                | inr after ↦
                    let cell = ap (λ (o : Option ℕ). cond {A = ℕ} (is_none o) 1 0) (laid_after x.at new home.cells within place (omega arith)) in
                    omega (arith, old, sum, cell, has_after place x after)
              ]
            ];
      }
    where
      at_most_one : (b : Bool) → cond {A = ℕ} b 1 0 ≤ 1
      at_most_one true = omega arith
      at_most_one false = omega arith

  -- a range that is leased is out, and one unless it is empty
  pub leased_out : (home : Tiles) → x.at + x.len ≤ length home.cells → Tiled x.region.0 ys home → AreOut x.at x.len home.cells × (0 < x.len → 0 < home.out)
  leased_out home fits t = (
    out_from x.at x.len home.cells fits (λ k lt.
        weighs (out_at home.cells (x.at + k)) (omega (arith, t.places (x.at + k) (omega arith), sums (has x.region.0 (x.at + k)), has_within (x.at + k) x (omega arith) (omega arith)))),
    λ some. omega (arith, t.out, sums (counts x.region.0), one_of x some),
  )
    where
      weighs : (b : Bool) → 0 < cond {A = ℕ} b 1 0 → b ≡ true
      weighs true h = refl
      weighs false h = absurd (omega arith)

      one_of : (x : Span) → 0 < x.len → counts x.region.0 x ≡ 1
      one_of x some = grind (arith, nat_tests)
