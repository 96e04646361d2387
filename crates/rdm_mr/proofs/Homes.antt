-- What a `Home` keeps, as its calls have it.
use Rattle.std.proofs.Common.{◌≡◌, ◌==◌, false, ℕ, zero, suc, ◌+◌, ◌-◌, ◌^◌, ◌<◌, ◌≤◌, List, length, get_or, take, drop, replicate, set, Option, Some, None, sym, ap, subst, ◌∙◌, arith}
use Rattle.std.proofs.lemmas.List.{length-map, length-take-le, length-drop, get_or_default}
use Rattle.std.proofs.lemmas.Bool.{false≢true}
use Rattle.std.specs.List.{AllWithin}
use denote.RawPtr.{Ptr}
use Rattle.rdm_mr.specs.Part.{Piece, end_of}
use Rattle.rdm_mr.specs.Ordered.{cells_of, AreApart, AreOf, LacksOne, HasAll, IsLifted, overwritten_part, put_at}
use Rattle.rdm_mr.specs.Tiles.{Tiles, laid, AreHome, AreOut, AreBytes, IsPartAt, with_part, without}
use Rattle.rdm_mr.proofs.Cells.{length-cells_of, within_front}
use Rattle.rdm_mr.proofs.Order.{lacks_is_not_home}
use Rattle.rdm_mr.proofs.Lifts.{hit, gives, Gives}
use Rattle.rdm_mr.proofs.Writes.{written, Written}
use Rattle.rdm_mr.proofs.Puts.{put, later, inside, Put}

-- a range at home lies inside
pub home_within : (at len : ℕ) (cells : List (Option ℕ)) → AreHome at len cells → at + len ≤ length cells
home_within at len cells h = let l = length-map h.0 Some in omega (arith, l, h.1, h.2.0)

-- a test that finds bytes
pub some_bytes : (n : ℕ) → false ≡ (n == 0) → 0 < n
some_bytes zero e = absurd (false≢true e)
some_bytes (suc n) e = omega arith

-- the parts at home of a range that begins at lo, and what a clause sees of it
module _ (block : Ptr) (whole lo size out : ℕ) (parts : List Piece) (t : Tiles) (apart : AreApart lo (lo + size) parts)
    (view : record { block = block; whole = whole; start = lo; cells = cells_of lo (lo + size) parts; out = out } ≡ t) where
  cells : cells_of lo (lo + size) parts ≡ t.cells
  cells = ap (λ (x : Tiles). x.cells) view

  pub length-cells : length t.cells ≡ size
  length-cells =
      let l = length-cells_of lo (lo + size) parts apart in
      let e = ap length cells in
      omega (arith, l, e)

  -- a range that is asked for fits the numbers
  pub fits : (at len : ℕ) → at + len ≤ length t.cells → lo + size < 2 ^ 63 → lo + at + len < 2 ^ 63
  fits at len inside small = let l = length-cells in omega (arith, l)

  -- no part has all of it
  pub not_home : (at len from : ℕ) (slice : List Piece) → slice ≡ parts → from ≡ lo + at → LacksOne from (from + len) slice → AreHome at len t.cells → ⊥
  not_home at len from slice is e lacks home = lacks_is_not_home lo (lo + size) at len from slice parts is e apart lacks (subst (AreHome at len) (sym cells) home)

  -- the part at i has all of it
  module _ (at len from i : ℕ) (slice : List Piece) (p : Piece) (is : slice ≡ parts) (e : from ≡ lo + at) (has : HasAll from (from + len) slice i) (read : p ≡ get_or parts i p) where
    has_here : HasAll from (from + len) parts i
    has_here = subst (λ l. HasAll from (from + len) l i) is has

    pub below : i < length parts
    below = has_here.0

    pub begins : p.start ≤ from
    begins = subst (λ (q : Piece). q.start ≤ from) (sym read) (has_here.1 p).0

    pub ends : from + len ≤ end_of p
    ends = subst (λ (q : Piece). from + len ≤ end_of q) (sym read) (has_here.1 p).1

    pub length-read : length (take len (drop (from - p.start) p.bytes)) ≡ len
    length-read =
        let d = length-drop (from - p.start) p.bytes in
        length-take-le len (drop (from - p.start) p.bytes) (omega (arith, begins, ends))

    pub reads : 0 < len → AreBytes at (take len (drop (from - p.start) p.bytes)) t.cells
    reads some =
        let q = get_or parts i p in
        let h = hit lo (lo + size) at len i parts apart some p below (from - q.start) (omega (arith, (has_here.1 p).0)) (omega (arith, (has_here.1 p).0, (has_here.1 p).1)) in
        subst (AreBytes at (take len (drop (from - p.start) p.bytes))) cells (subst (λ (x : Piece). AreBytes at (take len (drop (from - x.start) x.bytes)) (cells_of lo (lo + size) parts)) (sym read) h.lies)

  -- a part that is taken out
  module _ (at len from i : ℕ) (slice new : List Piece) (r : Piece) (is : slice ≡ parts) (e : from ≡ lo + at) (some : 0 < len) (has : HasAll from (from + len) slice i) (lifted : IsLifted i from len r parts new) where
    pub given : Gives lo (lo + size) at len parts new r
    given = gives lo (lo + size) at len i from parts new r apart some e (subst (λ l. HasAll from (from + len) l i) is has) lifted

    pub is_part : AreOf block whole parts → IsPartAt t at len r
    is_part o =
        let of = given.of block whole o in
        let start = ap (λ (x : Tiles). x.start) view in (
          (of.0 ∙ ap (λ (x : Tiles). x.block) view, of.1 ∙ ap (λ (x : Tiles). x.whole) view),
          given.start ∙ ap (λ k. k + at) start,
          given.long,
          subst (AreBytes at r.bytes) cells given.lies,
        )

    pub out_is : record { block = block; whole = whole; start = lo; cells = cells_of lo (lo + size) new; out = out + 1 } ≡ without t r
    out_is =
        let place : at ≡ r.start - lo = let g = given.start in omega (arith, g) in
        ap (λ (cs : List (Option ℕ)). record { block = block; whole = whole; start = lo; cells = cs; out = out + 1 })
        (given.places ∙ ap (λ k. laid k (replicate len None) (cells_of lo (lo + size) parts)) place ∙ ap (λ k. laid (r.start - lo) (replicate k None) (cells_of lo (lo + size) parts)) (sym given.long))
        ∙ ap (λ x. without x r) view

  -- a part that is overwritten: g was read at its place before, and p is what is overwritten
  pub wrote : (at from i skip : ℕ) (bytes : List ℕ) (slice : List Piece) (g p q : Piece) → slice ≡ parts → from ≡ lo + at → 0 < length bytes → HasAll from (from + length bytes) slice i → g ≡ get_or parts i g → p ≡ get_or parts i p → skip ≡ from - g.start
      → q ≡ overwritten_part p skip bytes → Written lo (lo + size) at bytes parts (set parts i q)
  wrote at from i skip bytes slice g p q is e some has gis pis skips qis =
      let lt = below at (length bytes) from i slice p is e has pis in
      let low = begins at (length bytes) from i slice p is e has pis in
      let high = ends at (length bytes) from i slice p is e has pis in
      let same = ap (λ (x : Piece). x.start) (gis ∙ get_or_default parts i g p lt ∙ sym pis) in
      let there : skip ≡ (lo + at) - p.start = omega (arith, skips, e, same) in
      subst (λ x. Written lo (lo + size) at bytes parts (set parts i x)) (sym (qis ∙ ap (λ k. overwritten_part p k bytes) there))
      (written lo (lo + size) at i bytes parts p apart some lt pis (omega (arith, low, e)) (omega (arith, high, e)))

  -- a part that is put back, where the search for its start stopped
  module _ (q : Piece) (above : t.start ≤ q.start) (some : 0 < length q.bytes) (gone : AreOut (q.start - t.start) (length q.bytes) t.cells) (i place : ℕ) (slice : List Piece) (is : slice ≡ parts) (e : place ≡ q.start)
      (le : i ≤ length slice) (before : AllWithin (λ (p : Piece). end_of p ≤ place) slice 0 i) (after : AllWithin (λ (p : Piece). place < end_of p) slice i (length slice)) where
    start : lo ≡ t.start
    start = ap (λ (x : Tiles). x.start) view

    above_lo : lo ≤ q.start
    above_lo = let s = start in omega (arith, s, above)

    gone_here : AreOut (q.start - lo) (length q.bytes) (cells_of lo (lo + size) parts)
    gone_here = subst (AreOut (q.start - lo) (length q.bytes)) (sym cells) (subst (λ k. AreOut (q.start - k) (length q.bytes) t.cells) (sym start) gone)

    le_here : i ≤ length parts
    le_here = subst (λ l. i ≤ length l) is le

    before_here : AllWithin (λ (p : Piece). end_of p ≤ q.start) parts 0 i
    before_here = subst (λ k. AllWithin (λ (p : Piece). end_of p ≤ k) parts 0 i) e (subst (λ l. AllWithin (λ (p : Piece). end_of p ≤ place) l 0 i) is before)

    after_here : i < length parts → q.start < end_of (get_or parts i q)
    after_here lt = subst (λ k. k < end_of (get_or parts i q)) e (subst (λ l. AllWithin (λ (p : Piece). place < end_of p) l i (length l)) is after i q (omega arith) lt)

    pub done : Put lo (lo + size) q parts (put_at parts i q)
    done =
        let high = later lo (lo + size) q parts apart some above_lo gone_here i (omega arith) le_here after_here in
        put lo (lo + size) q parts apart some above_lo (inside lo (lo + size) q parts apart some above_lo gone_here (omega arith)) i le_here (within_front (λ (p : Piece). end_of p ≤ q.start) i parts le_here before_here) high

    pub back_is : record { block = block; whole = whole; start = lo; cells = cells_of lo (lo + size) (put_at parts i q); out = out - 1 } ≡ with_part t q
    back_is = ap (λ (cs : List (Option ℕ)). record { block = block; whole = whole; start = lo; cells = cs; out = out - 1 }) done.places ∙ ap (λ x. with_part x q) view
