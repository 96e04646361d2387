-- Which places a row of pieces has, and which places two of its pieces have.
use Rattle.std.proofs.Common.{◌≡◌, ℕ, ◌+◌, ◌-◌, ◌<◌, ◌≤◌, true, false, ◌&&◌, List, [], ◌∷◌, length, Option, None, refl, arith, inl, inr, ◌∙◌, ap, subst}
use Rattle.std.specs.Prelude.{is_some, nat_lt}
use Rattle.std.proofs.lemmas.Bool.{ltb-true, lt-ltb, le-ltb, and_parts, and_from, cases_lt, false_from_ne_true}
use Rattle.rdm_lists.specs.Lists.{Member, or_else}
use Rattle.rdm_num.specs.Pieces.{Piece, overlaps, byte_in, byte_at, covers, piece_bytes}
use Rattle.rdm_model.proofs.Cuts.{InRow}
use Rattle.rdm_lists.proofs.Below.{each_below_at, each_below_from}
use Rattle.rdm_lists.proofs.Places.{slice_get_some}
use Rattle.rdm_lists.proofs.Options.{some-or_else_left}
use Rattle.std.proofs.lemmas.Option.{slice_get_past}

-- a piece has the places from its offset to its end
pub byte_in_some : (p : Piece) (place : ℕ) → p.offset ≤ place → place < p.offset + length p.bytes → is_some (byte_in p place) ≡ true
unfolding byte_in
byte_in_some p place low high = rw (le-ltb place p.offset low) (slice_get_some p.bytes (place - p.offset) (omega arith))

-- a piece has no place before its offset
pub byte_in_before : (p : Piece) (place : ℕ) → place < p.offset → byte_in p place ≡ None
unfolding byte_in
byte_in_before p place low = rw (lt-ltb place p.offset low) refl

-- a piece has no place past its end
pub byte_in_after : (p : Piece) (place : ℕ) → p.offset + length p.bytes ≤ place → byte_in p place ≡ None
unfolding byte_in
byte_in_after p place high = rw (le-ltb place p.offset (omega arith)) (slice_get_past p.bytes (place - p.offset) (omega arith))

-- where there is no first value it is the second
none_first : {A : Type 0} (x y : Option A) → x ≡ None → or_else x y ≡ y
unfolding or_else
none_first x y h = rw h refl

-- a row has the places from its start to its end, and no others
pub row_has : (bytes : List ℕ) (from : ℕ) (ps : List Piece) (place : ℕ) → InRow bytes from ps → from ≤ place → place < from + piece_bytes ps → is_some (byte_at ps place) ≡ true
unfolding byte_at piece_bytes
row_has bytes from [] place r low high = absurd (omega arith)
row_has bytes from (p ∷ ps) place r low high =
    let o = r.0 in
    elim (cases_lt place (p.offset + length p.bytes)) [
      | inl here ↦ some-or_else_left (byte_in p place) (byte_at ps place) (byte_in_some p place (omega arith) here)
      | inr later ↦ ap (λ (v : Option ℕ). is_some v) (none_first (byte_in p place) (byte_at ps place) (byte_in_after p place later))
          ∙ row_has bytes (from + length p.bytes) ps place r.2 (omega arith) (omega arith)
    ]

-- a row has no place past its end
pub row_lacks : (bytes : List ℕ) (from : ℕ) (ps : List Piece) (place : ℕ) → InRow bytes from ps → from + piece_bytes ps ≤ place → byte_at ps place ≡ None
unfolding byte_at piece_bytes
row_lacks bytes from [] place r high = refl
row_lacks bytes from (p ∷ ps) place r high =
    let o = r.0 in
    none_first (byte_in p place) (byte_at ps place) (byte_in_after p place (omega arith)) ∙ row_lacks bytes (from + length p.bytes) ps place r.2 (omega arith)

-- a row from the start covers as much as it has bytes
pub row_covers : (bytes : List ℕ) (ps : List Piece) (n : ℕ) → InRow bytes 0 ps → n ≤ piece_bytes ps → covers ps n ≡ true
unfolding covers
row_covers bytes ps n r h = each_below_from (λ place. is_some (byte_at ps place)) n (λ k l. row_has bytes 0 ps k r (omega arith) (omega arith))

-- a row covers no more than it has bytes
pub row_covered : (bytes : List ℕ) (ps : List Piece) (n : ℕ) → InRow bytes 0 ps → covers ps n ≡ true → n ≤ piece_bytes ps
unfolding covers
row_covered bytes ps n r h =
    elim (cases_lt (piece_bytes ps) n) [
      | inl less ↦
          let there : is_some (byte_at ps (piece_bytes ps)) ≡ true = each_below_at (λ place. is_some (byte_at ps place)) n (piece_bytes ps) h less in
          let lacks : byte_at ps (piece_bytes ps) ≡ None = row_lacks bytes 0 ps (piece_bytes ps) r (omega arith) in
          cc
      | inr more ↦ more
    ]

-- ranges that overlap begin below each other's end
pub overlap_parts : (at len at' len' : ℕ) → overlaps at len at' len' ≡ true → (0 < len) × (0 < len') × (at < at' + len') × (at' < at + len)
unfolding overlaps
overlap_parts at len at' len' h =
    let a = and_parts (nat_lt 0 len && nat_lt 0 len' && nat_lt at (at' + len')) (nat_lt at' (at + len)) h in
    let b = and_parts (nat_lt 0 len && nat_lt 0 len') (nat_lt at (at' + len')) a.0 in
    let c = and_parts (nat_lt 0 len) (nat_lt 0 len') b.0 in
    (ltb-true 0 len c.0, ltb-true 0 len' c.1, ltb-true at (at' + len') b.1, ltb-true at' (at + len) a.1)

-- ranges that begin below each other's end overlap
pub overlaps_from : (at len at' len' : ℕ) → 0 < len → 0 < len' → at < at' + len' → at' < at + len → overlaps at len at' len' ≡ true
unfolding overlaps
overlaps_from at len at' len' a b c d =
    and_from _ _ (and_from _ _ (and_from _ _ (lt-ltb 0 len a) (lt-ltb 0 len' b)) (lt-ltb at (at' + len') c)) (lt-ltb at' (at + len) d)

-- ranges that follow each other share no place
pub apart : (at len at' len' : ℕ) → at + len ≤ at' → overlaps at len at' len' ≡ false
apart at len at' len' h = false_from_ne_true (overlaps at len at' len') (λ o. let x = overlap_parts at len at' len' o in let y = x.3 in absurd (omega arith))

-- ranges that follow each other the other way round share no place
pub apart_after : (at len at' len' : ℕ) → at' + len' ≤ at → overlaps at len at' len' ≡ false
apart_after at len at' len' h = false_from_ne_true (overlaps at len at' len') (λ o. let x = overlap_parts at len at' len' o in let y = x.2 in absurd (omega arith))

-- no part of a row's front shares a place with what begins at or after its end
pub row_apart : (bytes : List ℕ) (from : ℕ) (ps : List Piece) (q p : Piece) → InRow bytes from ps → Member q ps → from + piece_bytes ps ≤ p.offset
    → q.offset + length q.bytes ≤ p.offset
unfolding piece_bytes
row_apart bytes from [] q p r m h = elim m [ ]
row_apart bytes from (x ∷ ps) q p r (inl a) h =
    let o : x.offset ≡ from = r.0 in
    let b : x.offset + length x.bytes ≤ p.offset = omega arith in
    subst (λ (y : Piece). y.offset + length y.bytes ≤ p.offset) a b
row_apart bytes from (x ∷ ps) q p r (inr a) h = row_apart bytes (from + length x.bytes) ps q p r.2 a (omega arith)
