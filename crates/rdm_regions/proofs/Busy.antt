-- When a range overlaps a leased one, and when a held one.
use Rattle.std.proofs.Common.{◌≡◌, ◌↔◌, refl, sym, ap, ◌∙◌, ℕ, ◌+◌, ◌-◌, ◌<◌, ◌≤◌, Bool, true, false, cond, ltb, leb, List, length, inl, inr, arith}
use Rattle.std.specs.List.{list_any, count_by}
use Rattle.std.proofs.lemmas.Bool.{cases_lt}
use Rattle.rdm_mr.specs.Tiles.{Tiles, AreHome}
use Rattle.rdm_num.specs.declared.parts.Span.{Span}
use Rattle.rdm_regions.specs.declared.region.Region.{Region}
use Rattle.rdm_regions.specs.Ranges.{meets}
use Rattle.rdm_regions.specs.Weights.{has}
use Rattle.rdm_regions.specs.Tallies.{Marks, Tiled}
use Rattle.rdm_regions.proofs.Places.{out_at, home_from, home_at}
use Rattle.rdm_regions.proofs.Meets.{meets_shares, found, weightless, has_none, has_one, meeting, all_begin_or_end}

-- what weighs nothing is not so
pub weighs_none : (b : Bool) → ◌≡◌ {A = ℕ} 0 (cond b 1 0) → b ≡ false
weighs_none true e = absurd (omega arith)
weighs_none false e = refl

weighs_one : (b : Bool) → ◌≡◌ {A = ℕ} (cond b 1 0) 0 → b ≡ true → ⊥
weighs_one true e h = omega arith
weighs_one false e h = cc

-- a test that says what another says
same_test : (a b : Bool) → (a ≡ true → b ≡ true) → (b ≡ true → a ≡ true) → a ≡ b
same_test true b f g = sym (f refl)
same_test false true f g = g refl
same_test false false f g = refl

module _ (x : Span) (leased : List Span) (home : Tiles) (t : Tiled x.region.0 leased home) (fits : x.at + x.len ≤ length home.cells) where
  -- where no lease shares a place with a range, it is at home
  pub free_home : list_any (meets x) leased ≡ false → AreHome x.at x.len home.cells
  free_home none =
      home_from x.at x.len home.cells fits (λ k lt.
      weighs_none (out_at home.cells (x.at + k)) (sym (weightless (meets x) (has x.region.0 (x.at + k)) (λ y e. has_none x y (x.at + k) (omega arith) (omega arith) e) leased none) ∙ t.places (x.at + k) (omega arith)))

  -- the first place that two ranges share is out
  shared_out : AreHome x.at x.len home.cells → list_any (meets x) leased ≡ true → ⊥
  shared_out home_is some =
      let one = found (meets x) leased some in
      let y = one.0 in
      let s = meets_shares x y one.1 in
      let place_out : (place : ℕ) → x.at ≤ place → place < x.at + x.len → y.at ≤ place → place < y.at + y.len → ⊥ =
      λ place a b c d.
      let le = one.2 (has x.region.0 place) in
      let is = has_one y x.region.0 place (sym s.region) c d in
      let at : x.at + (place - x.at) ≡ place = omega arith in
      let home_there : out_at home.cells place ≡ false = ap (out_at home.cells) (sym at) ∙ home_at x.at x.len home.cells home_is (place - x.at) (omega arith) in
      let none : ◌≡◌ {A = ℕ} (cond (out_at home.cells place) 1 0) 0 = ap (λ (b : Bool). cond {A = ℕ} b 1 0) home_there in
      omega (arith, t.places place (omega arith), le, is, none) in
      elim (cases_lt x.at y.at) [
        | inl lt ↦ place_out y.at (omega arith) s.above (omega arith) (omega (arith, s.right))
        | inr le ↦ place_out x.at (omega arith) (omega (arith, s.left)) le s.below
      ]

  -- a range is not at home exactly where a lease shares a place with it
  pub leased_meets : (busy : Bool) → (busy ≡ true ↔ (AreHome x.at x.len home.cells → ⊥)) → busy ≡ list_any (meets x) leased
  leased_meets busy h =
      same_test busy (list_any (meets x) leased)
      (λ e. elim (list_any (meets x) leased) as (λ b. list_any (meets x) leased ≡ b → b ≡ true) [
        | true ↦ λ f. refl
        | false ↦ λ f. absurd (h.0 e (free_home f))
      ] refl)
      (λ e. h.1 (λ is. shared_out is e))

-- more of the held ranges begin before the end of a range than end by its begin exactly where one shares a place with it
pub held_meets : (x : Span) (held : List Span) (r : Region) → Marks x.region.0 held r → (busy : Bool)
    → (busy ≡ true ↔ ((0 < x.len) × (count_by (λ n. leb n x.at) r.ends.items < count_by (λ n. ltb n (x.at + x.len)) r.starts.items))) → busy ≡ list_any (meets x) held
held_meets x held r m busy h =
    same_test busy (list_any (meets x) held)
    (λ e.
    let both = h.0 e in
    let starts = m.starts (λ n. cond (ltb n (x.at + x.len)) 1 0) in
    let ends = m.ends (λ n. cond (leb n x.at) 1 0) in
    let sum = all_begin_or_end x held both.0 in
    elim (list_any (meets x) held) as (λ b. list_any (meets x) held ≡ b → b ≡ true) [
      | true ↦ λ f. refl
      | false ↦ λ f.
          let none = weightless (meets x) (meeting x) (λ y e. ap (λ (b : Bool). cond {A = ℕ} b 1 0) e) held f in
          absurd (omega (arith, both.1, starts, ends, sum, none))
    ] refl)
    (λ e.
    let one = found (meets x) held e in
    let s = meets_shares x one.0 one.1 in
    let starts = m.starts (λ n. cond (ltb n (x.at + x.len)) 1 0) in
    let ends = m.ends (λ n. cond (leb n x.at) 1 0) in
    let sum = all_begin_or_end x held s.left in
    let le = one.2 (meeting x) in
    let is : ◌≡◌ {A = ℕ} (meeting x one.0) 1 = ap (λ (b : Bool). cond {A = ℕ} b 1 0) one.1 in
    h.1 (s.left, omega (arith, starts, ends, sum, le, is)))
