-- A message put together from parts that have all of its places is the message.
use Rattle.std.proofs.Common.{◌≡◌, ℕ, zero, suc, ◌+◌, ◌-◌, ◌<◌, true, false, cond, List, [], ◌∷◌, length, map, take, drop, Some, None, refl, arith, inl, inr, sym, ◌∙◌, ap, subst}
use Rattle.std.specs.Prelude.{slice_get, nat_lt}
use Rattle.std.proofs.lemmas.Bool.{ltb-false}
use Rattle.std.proofs.lemmas.List.{get_or-map, length-map, same_lists}
use Rattle.std.proofs.lemmas.Option.{get_or_from_slice_get}
use Rattle.rdm_lists.specs.Lists.{Member, below}
use Rattle.rdm_num.specs.Pieces.{Piece, byte_in, byte_at}
use Rattle.rdm_model.proofs.Cuts.{Part}
use Rattle.rdm_lists.proofs.Options.{or_else_cases}
use Rattle.rdm_lists.proofs.Below.{length-below, get_or-below}

-- bytes that are known at each place
pub put_together : (f : ℕ → ℕ) (n : ℕ) (xs : List ℕ) → length xs ≡ n → ((k : ℕ) → k < n → slice_get xs k ≡ Some (f k)) → map f (below n) ≡ xs
put_together f n xs e h =
    let l : length (map f (below n)) ≡ n = length-map (below n) f ∙ length-below n in
    same_lists (map f (below n)) xs (l ∙ sym e)
    (λ k d lt. let b : k < length (below n) = (let q = length-below n in let r = length-map (below n) f in omega arith) in
    let c : k < n = (let q = length-below n in omega arith) in
    get_or-map f (below n) k k d b ∙ ap f (get_or-below n k k c) ∙ sym (get_or_from_slice_get xs k (f k) d (h k c)))

-- an element of the front of a list
slice_get-take : (n : ℕ) (xs : List ℕ) (k b : ℕ) → slice_get (take n xs) k ≡ Some b → slice_get xs k ≡ Some b
slice_get-take zero xs k b h = cc
slice_get-take (suc n) [] k b h = h
slice_get-take (suc n) (x ∷ xs) zero b h = h
slice_get-take (suc n) (x ∷ xs) (suc k) b h = slice_get-take n xs k b h

-- an element of the rest of a list
slice_get-drop : (n : ℕ) (xs : List ℕ) (k j b : ℕ) → j ≡ n + k → slice_get (drop n xs) k ≡ Some b → slice_get xs j ≡ Some b
slice_get-drop zero xs k j b e h = let s : j ≡ k = omega arith in rw s h
slice_get-drop (suc n) [] k j b e h = cc
slice_get-drop (suc n) (x ∷ xs) k zero b e h = absurd (omega arith)
slice_get-drop (suc n) (x ∷ xs) k (suc j) b e h = slice_get-drop n xs k j b (omega arith) h

-- a byte of a part stands at its place in the message
pub part_byte : (p : Piece) (whole : List ℕ) (place b : ℕ) → Part p whole → byte_in p place ≡ Some b → slice_get whole place ≡ Some b
unfolding byte_in
part_byte p whole place b part h =
    (elim (nat_lt place p.offset) as (λ t. nat_lt place p.offset ≡ t → cond t None (slice_get p.bytes (place - p.offset)) ≡ Some b → slice_get whole place ≡ Some b) [
      | true ↦ λ is k. cc
      | false ↦ λ is k.
          let le = ltb-false place p.offset is in
          let t : slice_get (take (length p.bytes) (drop p.offset whole)) (place - p.offset) ≡ Some b = subst (λ (xs : List ℕ). slice_get xs (place - p.offset) ≡ Some b) part k in
          slice_get-drop p.offset whole (place - p.offset) place b (omega arith) (slice_get-take (length p.bytes) (drop p.offset whole) (place - p.offset) b t)
    ]) refl h

-- a byte of pieces is one of a piece
pub byte_of_piece : (ps : List Piece) (place b : ℕ) → byte_at ps place ≡ Some b → (q : Piece) × Member q ps × (byte_in q place ≡ Some b)
unfolding byte_at
byte_of_piece [] place b h = cc
byte_of_piece (p ∷ ps) place b h =
    elim (or_else_cases (byte_in p place) (byte_at ps place) b h) [
      | inl a ↦ (p, inl refl, a)
      | inr a ↦ let r = byte_of_piece ps place b a.1 in (r.0, inr r.1, r.2)
    ]

-- where each piece is a part, each of their bytes stands at its place in the message
pub parts_byte : (ps : List Piece) (whole : List ℕ) (place b : ℕ) → ((q : Piece) → Member q ps → Part q whole) → byte_at ps place ≡ Some b → slice_get whole place ≡ Some b
parts_byte ps whole place b parts h = let r = byte_of_piece ps place b h in part_byte r.0 whole place b (parts r.0 r.1) r.2
