-- The piece of a number, without the pieces before it.
use Rattle.std.proofs.Common.{◌≡◌, ℕ, zero, suc, ◌+◌, ◌-◌, ◌*◌, ◌<◌, ◌≤◌, Bool, true, false, List, length, take, drop, Option, Some, None, refl, arith, inl, inr, sym, ◌∙◌, ap}
use Rattle.std.specs.Prelude.{nat_le, nat_lt, ◌==◌, ◌||◌, min, slice_get}
use Rattle.std.specs.Bool.{then_some}
use Rattle.std.specs.List.{slice_range}
use Rattle.std.proofs.Math.Nat.{suc-mul, zero-mul, add_comm}
use Rattle.std.proofs.lemmas.Bool.{le-leb, lt-ltb, le-ltb, lt-leb, cases_lt}
use Rattle.std.proofs.lemmas.Bool.Decides.{nat_tests}
use Rattle.std.proofs.lemmas.List.{length-drop, length-take, take_all, take_min, take-take, drop-take, drop-drop}
use Rattle.rdm_hdr.proofs.Opts.{some-then}
use Rattle.rdm_num.specs.Pieces.{Piece, cut, pieces}

-- bytes have a piece of that number: the first one, or one that begins before their end
abbrev pub has_piece : (n place len : ℕ) → Bool
has_piece n place len = n == 0 || nat_lt place len

-- the piece at a place, at an offset of the message
abbrev pub piece_at : (size offset place : ℕ) → List ℕ → Piece
piece_at size offset place bytes = record { offset = offset; bytes = take size (drop place bytes) }

-- a number after the first one isn't the first
pub later : (n : ℕ) → (suc n == 0) ≡ false
later n = grind (arith, nat_tests)

-- a piece more, and bytes that are longer by it
step_test : (n size place len : ℕ) → size < len → place ≡ n * size → has_piece n place (len - size) ≡ has_piece (suc n) (size + place) len
step_test zero size place len h e =
    let z : 0 * size ≡ 0 = zero-mul size in
    rw (lt-ltb (size + place) len (omega arith)) refl
step_test (suc n) size place len h e =
    rw (later n, later (suc n)) (grind (arith, nat_tests))

-- the piece of that number from an offset on
abbrev pub nth : (size offset n : ℕ) → List ℕ → Option Piece
nth size offset n bytes = then_some (has_piece n (n * size) (length bytes)) (piece_at size (offset + n * size) (n * size) bytes)

-- the first of the pieces, which all bytes have
first_piece : (size offset : ℕ) (bytes : List ℕ) → nth size offset 0 bytes ≡ Some (record { offset = offset; bytes = take size bytes })
first_piece size offset bytes =
    let z : 0 * size ≡ 0 = zero-mul size in
    let a : offset + 0 * size ≡ offset = omega arith in
    rw (a, z) refl

-- bytes that one piece holds have no second one
no_more : (size offset n : ℕ) (bytes : List ℕ) → length bytes ≤ size → nth size offset (suc n) bytes ≡ None
no_more size offset n bytes h =
    let m : suc n * size ≡ n * size + size = suc-mul n size in
    let t : nat_lt (suc n * size) (length bytes) ≡ false = le-ltb (suc n * size) (length bytes) (omega arith) in
    rw (later n, t) refl

-- the pieces after the first one are those of what it leaves
next_piece : (size offset n : ℕ) (bytes : List ℕ) → size < length bytes → nth size (offset + size) n (drop size bytes) ≡ nth size offset (suc n) bytes
next_piece size offset n bytes h =
    let m : suc n * size ≡ size + n * size = suc-mul n size ∙ add_comm (n * size) size in
    let a : offset + size + n * size ≡ offset + (size + n * size) = omega arith in
    rw (m, drop-drop (n * size) size bytes, length-drop size bytes, step_test n size (n * size) (length bytes) h refl, a) refl

-- the piece of that number in bytes that are cut
cut_nth : (fuel size offset n : ℕ) (bytes : List ℕ) → 0 < size → length bytes ≤ fuel → slice_get (cut fuel size offset bytes) n ≡ nth size offset n bytes
unfolding cut
cut_nth zero size offset zero bytes h l = rw (first_piece size offset bytes, take_all size bytes (omega arith)) refl
cut_nth zero size offset (suc n) bytes h l = sym (no_more size offset n bytes (omega arith))
cut_nth (suc fuel) size offset zero bytes h l =
    elim (cases_lt size (length bytes)) [
      | inl less ↦
          let t : nat_le (length bytes) size ≡ false = lt-leb (length bytes) size less in
          rw (first_piece size offset bytes, t) refl
      | inr more ↦
          let t : nat_le (length bytes) size ≡ true = le-leb (length bytes) size more in
          rw (first_piece size offset bytes, t, take_all size bytes more) refl
    ]
cut_nth (suc fuel) size offset (suc n) bytes h l =
    elim (cases_lt size (length bytes)) [
      | inl less ↦
          let t : nat_le (length bytes) size ≡ false = lt-leb (length bytes) size less in
          let d = length-drop size bytes in
          rw t (cut_nth fuel size (offset + size) n (drop size bytes) h (omega arith) ∙ next_piece size offset n bytes less)
      | inr more ↦
          let t : nat_le (length bytes) size ≡ true = le-leb (length bytes) size more in
          rw t (sym (no_more size offset n bytes more))
    ]

pub nth_piece : (size n : ℕ) (bytes : List ℕ) → 0 < size → slice_get (pieces size bytes) n ≡ then_some (n == 0 || nat_lt (n * size) (length bytes)) (record { offset = n * size; bytes = take size (drop (n * size) bytes) })
unfolding pieces
nth_piece size n bytes h =
    let e : 0 + n * size ≡ n * size = omega arith in
    cut_nth (length bytes) size 0 n bytes h (omega arith) ∙ ap (λ (o : ℕ). then_some (n == 0 || nat_lt (n * size) (length bytes)) (piece_at size o (n * size) bytes)) e

-- ---- where pieces stand

-- bytes that stand in a range of others
abbrev pub range : List ℕ → (offset len : ℕ) → List ℕ
range bytes offset len = slice_range bytes offset (offset + len)

-- the first bytes of those from an offset on are as many as they are
pub front_range : (size offset : ℕ) (bytes : List ℕ) → take size (drop offset bytes) ≡ range bytes offset (length (take size (drop offset bytes)))
front_range size offset bytes =
    let l = length-take size (drop offset bytes) in
    let e : offset + min size (length (drop offset bytes)) - offset ≡ min size (length (drop offset bytes)) = omega arith in
    rw (l, e) (sym (take_min size (drop offset bytes)))

-- a piece has the bytes that stand there
pub piece_carried : (size n : ℕ) (bytes : List ℕ) (p : Piece) → 0 < size → slice_get (pieces size bytes) n ≡ Some p → p.bytes ≡ range bytes p.offset (length p.bytes)
piece_carried size n bytes p h e =
    let s = some-then _ _ _ (sym (nth_piece size n bytes h) ∙ e) in
    rw (s.1) (front_range size (n * size) bytes)

-- a piece that begins before the end, or the first one, ends by the end
ends_by : (n size place len l : ℕ) → (n == 0 || nat_lt place len) ≡ true → place ≡ n * size → l ≡ min size (len - place) → place + l ≤ len
ends_by zero size place len l t e m =
    let z : 0 * size ≡ 0 = zero-mul size in
    omega arith
ends_by (suc n) size place len l t e m = let w : nat_lt place len ≡ true = rw (later n) at t in grind (arith, nat_tests)

-- the bytes of a piece lie within
pub piece_within : (size n : ℕ) (bytes : List ℕ) (p : Piece) → 0 < size → slice_get (pieces size bytes) n ≡ Some p → p.offset + length p.bytes ≤ length bytes
piece_within size n bytes p h e =
    let s = some-then _ _ _ (sym (nth_piece size n bytes h) ∙ e) in
    rw (s.1) (ends_by n size (n * size) (length bytes) _ (s.0) refl (length-take size (drop (n * size) bytes) ∙ ap (min size) (length-drop (n * size) bytes)))

-- bytes in a range of the first bytes stand there in all of them
pub range_of_first : (runt offset len : ℕ) (bytes : List ℕ) → offset + len ≤ length (take runt bytes) → range (take runt bytes) offset len ≡ range bytes offset len
range_of_first runt offset len bytes h =
    let l = length-take runt bytes in
    let m : offset + (runt - offset) ≡ runt = omega arith in
    let d = drop-take offset (runt - offset) bytes in
    let e : offset + len - offset ≡ len = omega arith in
    let dd : drop offset (take runt bytes) ≡ take (runt - offset) (drop offset bytes) = rw m at d in
    rw (e, dd) (take-take len (runt - offset) (drop offset bytes) (omega arith))
