-- A landing as its calls have it.
use Rattle.std.proofs.Common.{◌≡◌, ℕ, ◌+◌, ◌-◌, ◌<◌, Bool, true, false, List, ◌++◌, length, take, drop, map, replicate, min, Ok, Some, None, sym, ap, subst, ◌∙◌, arith, drop-drop, ◌≤◌}
use Rattle.std.proofs.lemmas.List.{length-take, length-take-le, length-replicate, take-append-drop}
use Rattle.std.specs.List.{Contains}
use Rattle.rdm_gaps.specs.Places.{Missing, AreMissing, AreTaken, with_range, with_taken, after_take, after_reserved_take}
use Rattle.rdm_gaps.proofs.Covered.{set_between}
use Rattle.rdm_mr.specs.Part.{Piece}
use Rattle.rdm_mr.specs.Tiles.{Tiles, laid, AreHome, AreOut, IsPartAt, with_part, without, overwritten}
use Rattle.rdm_mr.proofs.Undone.{laid_nothing}
use Rattle.rdm_land.specs.declared.spans.Span.{Span}
use Rattle.rdm_land.specs.Spans.{span, with_span, without_span}
use Rattle.rdm_land.specs.Landed.{Landed, IsLent}
use Rattle.rdm_land.specs.Inside.{Agrees}
use Rattle.rdm_mr.proofs.Overlays.{by_lt}
use Rattle.rdm_land.proofs.Agreed.{agrees_along, are_home, agrees_take, agrees_place, agrees_lend, agrees_land, agrees_unlend, bounds, are_taken, are_out, some_below}

-- what is kept, and what a clause sees of it
module _ (home : Tiles) (missing : List Bool) (lent : List Span) {room : ℕ} (agrees : Agrees missing home.cells lent) (l : Landed) (view : record { tiles = home; missing = missing; lent = lent; room = room } ≡ l) where
  tiles : home ≡ l.tiles
  tiles = ap (λ (x : Landed). x.tiles) view

  pub agrees_seen : Agrees l.missing l.tiles.cells l.lent
  agrees_seen = agrees_along (sym (ap (λ (x : Landed). x.missing) view)) (sym (ap (λ (t : Tiles). t.cells) tiles)) (sym (ap (λ (x : Landed). x.lent) view)) agrees

  -- a range that is lent with a part
  module _ (off len : ℕ) (part : Piece) (is : IsLent l off len part) where
    pub there : Contains lent (span off len)
    there = subst (λ spans. Contains spans (span off len)) (sym (ap (λ (x : Landed). x.lent) view)) is.0

    begins : part.start - home.start ≡ off
    begins = let s = ap (λ (x : Tiles). x.start) tiles in omega (arith, s, is.2)

    long : length part.bytes ≡ min len (length home.cells - off)
    long = is.3 ∙ ap (λ (x : Tiles). min len (length x.cells - off)) (sym tiles)

    pub some_bytes : 0 < length part.bytes
    some_bytes = some_below missing home.cells lent agrees off len there (length part.bytes) long

    pub is_out : AreOut (part.start - home.start) (length part.bytes) home.cells
    is_out = subst (λ k. AreOut k (length part.bytes) home.cells) (sym begins) (are_out missing home.cells lent agrees off len there (length part.bytes) long)

    pub ends_inside : off + len ≤ length missing
    ends_inside = (bounds missing home.cells lent agrees off len there).2

    pub is_taken : AreTaken off len missing
    is_taken = are_taken missing home.cells lent agrees off len there

    pub some_places : 0 < len
    some_places = let some = some_bytes in omega (arith, some, long)

    pub agrees_landed : Agrees missing ((with_part home part).cells) (without_span (span off len) lent)
    agrees_landed = subst (λ k. Agrees missing (laid k (map Some part.bytes) home.cells) (without_span (span off len) lent)) (sym begins) (agrees_land missing home.cells lent agrees off len there part.bytes long)

    pub agrees_unlent : Agrees (with_range true off len missing) ((with_part home part).cells) (without_span (span off len) lent)
    agrees_unlent = subst (λ k. Agrees (with_range true off len missing) (laid k (map Some part.bytes) home.cells) (without_span (span off len) lent)) (sym begins) (agrees_unlend missing home.cells lent agrees off len there part.bytes long)

  -- a range that is missing
  module _ (off len : ℕ) (m : AreMissing off len missing) where
    pub fits_home : off < length home.cells → AreHome off (min len (length home.cells - off)) home.cells
    fits_home lt = are_home missing home.cells lent agrees off len (min len (length home.cells - off)) m (omega arith) (omega arith)

    -- a part of it that is taken out
    module _ (part : Piece) (some : 0 < len) (below : off < length home.cells) (is : IsPartAt home off (min len (length home.cells - off)) part) where
      pub agrees_lent : Agrees (with_range false off len missing) ((without home part).cells) (with_span (span off len) lent)
      agrees_lent =
          let at : part.start - home.start ≡ off = omega (arith, is.1) in
          subst (λ k. Agrees (with_range false off len missing) (laid k (replicate (length part.bytes) None) home.cells) (with_span (span off len) lent)) (sym at)
          (agrees_lend missing home.cells lent agrees off len (length part.bytes) m some below is.2)

  -- bytes whose range is missing
  module _ (off : ℕ) (bytes : List ℕ) (m : AreMissing off (length bytes) missing) where
    kept_long : length (take (length home.cells - off) bytes) ≡ min (length home.cells - off) (length bytes)
    kept_long = length-take (length home.cells - off) bytes

    pub agrees_placed : Agrees (with_range false off (length bytes) missing) ((overwritten home off (take (length home.cells - off) bytes)).cells) lent
    agrees_placed =
        let kept = take (length home.cells - off) bytes in
        by_lt (length home.cells) off
        (λ lt.
        let none : length home.cells - off ≡ 0 = omega arith in
        let is : laid off (map Some kept) home.cells ≡ home.cells = ap (λ n. laid off (map Some (take n bytes)) home.cells) none ∙ laid_nothing off home.cells in
        subst (λ cells. Agrees (with_range false off (length bytes) missing) cells lent) (sym is) (agrees_take missing home.cells lent agrees off (length bytes) m))
        (λ le. agrees_place missing home.cells lent agrees off (length bytes) kept m (omega (arith, kept_long)) (omega (arith, kept_long)))

-- what a `take` that answered true left
pub taken_is : (E : Type 0) (off len : ℕ) (m : Missing) (b : Bool) → b ≡ true → after_take {E = E} m off len (Ok b) ≡ with_taken m off len
taken_is E off len m b e = ap (λ v. after_take {E = E} m off len (Ok v)) e

pub taken_reserved_is : (off len : ℕ) (m : Missing) (b : Bool) → b ≡ true → after_reserved_take m off len b ≡ record { places = with_range false off len m.places; spare = m.spare - 1 }
taken_reserved_is off len m b e = ap (after_reserved_take m off len) e

-- a range that was missing, and is missing again
pub set_back : (off len : ℕ) (places : List Bool) → AreMissing off len places → with_range true off len (with_range false off len places) ≡ places
set_back off len places m =
    let F = take off places in
    let B = drop (off + len) places in
    let f : length F ≡ off = length-take-le off places (omega (arith, m.0)) in
    set_between true F (replicate len false) B off len f (length-replicate len false)
    ∙ ap (λ l. F ++ (l ++ B)) (sym m.1) ∙ ap (λ l. F ++ (take len (drop off places) ++ l)) (sym (drop-drop len off places)) ∙ ap (λ l. F ++ l) (take-append-drop len (drop off places)) ∙ take-append-drop off places
