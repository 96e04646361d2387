-- Pieces that stand in a row, each a part of one message.
use Rattle.std.proofs.Common.{◌≡◌, ℕ, zero, suc, ◌+◌, ◌-◌, ◌<◌, ◌≤◌, true, false, cond, List, [], ◌∷◌, ◌++◌, length, take, drop, refl, arith, inl, inr, sym, ◌∙◌, ap, subst}
use Rattle.std.specs.Prelude.{nat_le}
use Rattle.std.proofs.lemmas.Bool.{leb-false, cases_lt}
use Rattle.std.proofs.lemmas.List.{length-take, length-drop, take_all, take-take, drop-drop, length-take-le}
use Rattle.rdm_num.specs.Pieces.{Piece, piece_bytes, cut, pieces}

-- the piece has bytes of the message at its offset
abbrev pub Part : Piece → List ℕ → Type 0
Part p bytes = p.bytes ≡ take (length p.bytes) (drop p.offset bytes)

-- the pieces follow each other from a place on, and each is a part of the message
abbrev pub InRow : List ℕ → ℕ → List Piece → Type 0
InRow bytes from [] = Unit {0}
InRow bytes from (p ∷ ps) = (p.offset ≡ from) × Part p bytes × InRow bytes (from + length p.bytes) ps

-- the same row, from the same place written in another way
pub row_from : (bytes : List ℕ) (m n : ℕ) (ps : List Piece) → m ≡ n → InRow bytes m ps → InRow bytes n ps
row_from bytes m n ps e r = subst (λ (k : ℕ). InRow bytes k ps) e r

-- a row is the row of its first pieces and that of the others
pub row_parts : (bytes : List ℕ) (from : ℕ) (ps qs : List Piece) → InRow bytes from (ps ++ qs) → InRow bytes from ps × InRow bytes (from + piece_bytes ps) qs
unfolding piece_bytes
row_parts bytes from [] qs r = (tt, row_from bytes from (from + 0) qs (omega arith) r)
row_parts bytes from (p ∷ ps) qs r =
    let later = row_parts bytes (from + length p.bytes) ps qs r.2 in
    ((r.0, r.1, later.0), row_from bytes (from + length p.bytes + piece_bytes ps) (from + (length p.bytes + piece_bytes ps)) qs (omega arith) later.1)

-- rows that follow each other are one row
pub row_append : (bytes : List ℕ) (from : ℕ) (ps qs : List Piece) → InRow bytes from ps → InRow bytes (from + piece_bytes ps) qs → InRow bytes from (ps ++ qs)
unfolding piece_bytes
row_append bytes from [] qs r s = row_from bytes (from + 0) from qs (omega arith) s
row_append bytes from (p ∷ ps) qs r s =
    (r.0, r.1, row_append bytes (from + length p.bytes) ps qs r.2 (row_from bytes (from + (length p.bytes + piece_bytes ps)) (from + length p.bytes + piece_bytes ps) qs (omega arith) s))

-- pieces in two parts have the bytes of both
pub piece_bytes-append : (ps qs : List Piece) → piece_bytes (ps ++ qs) ≡ piece_bytes ps + piece_bytes qs
unfolding piece_bytes
piece_bytes-append [] qs = omega arith
piece_bytes-append (p ∷ ps) qs = let e = piece_bytes-append ps qs in omega arith

-- one piece has its own bytes
pub single_bytes : (p : Piece) → piece_bytes (p ∷ []) ≡ length p.bytes
unfolding piece_bytes
single_bytes p = omega arith

-- the rest of a message is a part of it
pub rest_part : (whole bytes : List ℕ) (offset : ℕ) → bytes ≡ drop offset whole → Part (record { offset = offset; bytes = bytes }) whole
rest_part whole bytes offset e = sym (ap (take (length bytes)) (sym e) ∙ take_all (length bytes) bytes (omega arith))

-- the first bytes from a place on are a part of the message
pub front_part : (whole bytes : List ℕ) (n offset : ℕ) → bytes ≡ take n (drop offset whole) → bytes ≡ take (length bytes) (drop offset whole)
front_part whole bytes n offset e =
    elim (cases_lt (length (drop offset whole)) n) [
      | inl less ↦
          let all : bytes ≡ drop offset whole = e ∙ take_all n (drop offset whole) (omega arith) in
          all ∙ sym (take_all (length bytes) (drop offset whole) (let l = ap length all in omega arith))
      | inr more ↦
          let l : length bytes ≡ n = ap length e ∙ length-take-le n (drop offset whole) more in
          e ∙ ap (λ (k : ℕ). take k (drop offset whole)) (sym l)
    ]

-- the cuts of what is left of a message stand in a row
pub cut_in_row : (fuel size offset : ℕ) (bytes whole : List ℕ) → bytes ≡ drop offset whole → InRow whole offset (cut fuel size offset bytes)
unfolding cut
cut_in_row zero size offset bytes whole e = (refl, rest_part whole bytes offset e, tt)
cut_in_row (suc fuel) size offset bytes whole e =
    (elim (nat_le (length bytes) size) as (λ t. nat_le (length bytes) size ≡ t
    → InRow whole offset (cond t (record { offset = offset; bytes = bytes } ∷ []) (record { offset = offset; bytes = take size bytes } ∷ cut fuel size (offset + size) (drop size bytes)))) [
      | true ↦ λ is. (refl, rest_part whole bytes offset e, tt)
      | false ↦ λ is.
          let more = leb-false (length bytes) size is in
          let l : length (take size bytes) ≡ size = length-take-le size bytes (omega arith) in
          let rest : drop size bytes ≡ drop (offset + size) whole = ap (drop size) e ∙ drop-drop size offset whole in (
            refl,
            front_part whole (take size bytes) size offset (ap (take size) e),
            row_from whole (offset + size) (offset + length (take size bytes)) (cut fuel size (offset + size) (drop size bytes)) (omega arith)
                (cut_in_row fuel size (offset + size) (drop size bytes) whole rest),
          )
    ]) refl

-- the cuts have all the bytes
pub cut_bytes : (fuel size offset : ℕ) (bytes : List ℕ) → piece_bytes (cut fuel size offset bytes) ≡ length bytes
unfolding cut piece_bytes
cut_bytes zero size offset bytes = omega arith
cut_bytes (suc fuel) size offset bytes =
    (elim (nat_le (length bytes) size) as (λ t. nat_le (length bytes) size ≡ t
    → piece_bytes (cond t (record { offset = offset; bytes = bytes } ∷ []) (record { offset = offset; bytes = take size bytes } ∷ cut fuel size (offset + size) (drop size bytes))) ≡ length bytes) [
      | true ↦ λ is. omega arith
      | false ↦ λ is.
          let more = leb-false (length bytes) size is in
          let l : length (take size bytes) ≡ size = length-take-le size bytes (omega arith) in
          let d = length-drop size bytes in
          let rest = cut_bytes fuel size (offset + size) (drop size bytes) in
          omega arith
    ]) refl

-- the pieces of a message stand in a row from its start, and have all its bytes
pub pieces_in_row : (size : ℕ) (bytes : List ℕ) → InRow bytes 0 (pieces size bytes)
unfolding pieces
pieces_in_row size bytes = cut_in_row (length bytes) size 0 bytes bytes refl

-- the pieces of a message have all its bytes
pub pieces_bytes : (size : ℕ) (bytes : List ℕ) → piece_bytes (pieces size bytes) ≡ length bytes
unfolding pieces
pieces_bytes size bytes = cut_bytes (length bytes) size 0 bytes

-- what is left of the first bytes
pub drop_of_take : (n m : ℕ) (xs : List ℕ) → drop n (take m xs) ≡ take (m - n) (drop n xs)
drop_of_take zero m xs = let e : m - 0 ≡ m = omega arith in rw e refl
drop_of_take (suc n) zero xs = let e : 0 - suc n ≡ 0 = omega arith in rw e refl
drop_of_take (suc n) (suc m) [] = sym (take_all (suc m - suc n) [] (omega arith))
drop_of_take (suc n) (suc m) (x ∷ xs) = let e : suc m - suc n ≡ m - n = omega arith in rw e (drop_of_take n m xs)

-- the first of the first bytes
pub take_of_take : (k m : ℕ) (xs ys : List ℕ) → ys ≡ take k (take m xs) → ys ≡ take (length ys) xs
take_of_take k m xs ys e =
    elim (cases_lt m k) [
      | inl less ↦ front_part xs ys m 0 (e ∙ take_all k (take m xs) (let l = length-take m xs in omega arith))
      | inr more ↦ front_part xs ys k 0 (e ∙ take-take k m xs more)
    ]

-- a part of the first bytes is a part of the message
pub part_of_front : (n : ℕ) (p : Piece) (whole : List ℕ) → Part p (take n whole) → Part p whole
part_of_front n p whole h = take_of_take (length p.bytes) (n - p.offset) (drop p.offset whole) p.bytes (h ∙ ap (take (length p.bytes)) (drop_of_take p.offset n whole))

-- a row of the first bytes is a row of the message
pub row_of_front : (n : ℕ) (whole : List ℕ) (from : ℕ) (ps : List Piece) → InRow (take n whole) from ps → InRow whole from ps
row_of_front n whole from [] r = tt
row_of_front n whole from (p ∷ ps) r = (r.0, part_of_front n p whole r.1, row_of_front n whole (from + length p.bytes) ps r.2)

-- a row from the start ends within the message
pub row_within : (whole : List ℕ) (from : ℕ) (ps : List Piece) → InRow whole from ps → from ≤ length whole → from + piece_bytes ps ≤ length whole
unfolding piece_bytes
row_within whole from [] r le = omega arith
row_within whole from (p ∷ ps) r le =
    let o = r.0 in
    let l : length p.bytes ≡ length (take (length p.bytes) (drop p.offset whole)) = ap length r.1 in
    let t = length-take (length p.bytes) (drop p.offset whole) in
    let d = length-drop p.offset whole in
    let later = row_within whole (from + length p.bytes) ps r.2 (omega arith) in
    omega arith

-- there is a piece
cut_some : (fuel size offset : ℕ) (bytes : List ℕ) → 0 < length (cut fuel size offset bytes)
unfolding cut
cut_some zero size offset bytes = omega arith
cut_some (suc fuel) size offset bytes =
    elim (nat_le (length bytes) size) as (λ t. 0 < length (cond t (record { offset = offset; bytes = bytes } ∷ []) (record { offset = offset; bytes = take size bytes } ∷ cut fuel size (offset + size) (drop size bytes)))) [
      | true ↦ omega arith
      | false ↦ omega arith
    ]

-- a message has a piece, even where it has no byte
pub pieces_some : (size : ℕ) (bytes : List ℕ) → 0 < length (pieces size bytes)
unfolding pieces
pieces_some size bytes = cut_some (length bytes) size 0 bytes
