-- The bytes of a range that is at home.
use Rattle.std.proofs.Common.{◌≡◌, refl, sym, ap, ◌∙◌, ℕ, ◌+◌, ◌-◌, ◌<◌, List, [], ◌∷◌, length, take, drop, map, replicate, Option, Some, None, arith}
use Rattle.std.specs.List.{filter_map}
use Rattle.std.proofs.lemmas.Bool.Decides.{nat_tests}
use Rattle.std.proofs.lemmas.List.{length-map}
use Rattle.rdm_mr.specs.Part.{Piece}
use Rattle.rdm_mr.specs.Tiles.{Tiles, laid, IsPartAt, AreBytes, without}
use Rattle.rdm_num.specs.declared.parts.Span.{Span}
use Rattle.rdm_regions.specs.declared.region.Region.{Region}
use Rattle.rdm_regions.specs.Steps.{home_bytes, IsLiftedPart, one_unless_empty}

-- what is at home of bytes that are all at home
pub all_of_them : (bytes : List ℕ) → filter_map (λ (c : Option ℕ). c) (map Some bytes) ≡ bytes
all_of_them [] = refl
all_of_them (b ∷ bytes) = ap (λ bs. b ∷ bs) (all_of_them bytes)

pub bytes_are : (at len : ℕ) (bytes : List ℕ) (cells : List (Option ℕ)) → length bytes ≡ len → AreBytes at bytes cells → home_bytes at len cells ≡ bytes
bytes_are at len bytes cells is lie =
    let long : len ≡ length (map Some bytes) = sym (length-map bytes Some ∙ is) in
    ap (λ n. filter_map (λ (c : Option ℕ). c) (take n (drop at cells))) long ∙ (ap (filter_map (λ (c : Option ℕ). c)) lie.1 ∙ all_of_them bytes)

pub counted_once : (x : Span) → 0 < x.len → one_unless_empty x ≡ 1
counted_once x some = grind (arith, nat_tests)

-- the part that was taken out of what is at home is that of the range
pub lifted : (x : Span) (r : Region) (part : Piece) (home : Tiles) → 0 < x.len → r.home.start ≡ 0 → IsPartAt r.home x.at x.len part → home ≡ without r.home part
    → IsLiftedPart x r part × (home ≡ record r.home { cells = laid x.at (replicate x.len None) r.home.cells; out = r.home.out + one_unless_empty x })
lifted x r part home some start is after =
    let at : part.start - r.home.start ≡ x.at = omega (arith, is.1) in (
      (record { len = is.2; placed = λ _. (is.0.0, is.0.1, omega (arith, is.1)); apart = λ none. absurd (omega arith) }, sym (bytes_are x.at x.len part.bytes r.home.cells is.2 is.3)),
      after
          ∙ ap (λ a. record r.home { cells = laid a (replicate (length part.bytes) None) r.home.cells; out = r.home.out + 1 }) at
          ∙ ap (λ n. record r.home { cells = laid x.at (replicate n None) r.home.cells; out = r.home.out + 1 }) is.2
          ∙ ap (λ n. record r.home { cells = laid x.at (replicate x.len None) r.home.cells; out = r.home.out + n }) (sym (counted_once x some)),
    )
