-- The lengths of contents, and their bytes one after the other.
use Rattle.std.proofs.Common.{◌≡◌, ◌≤◌, ◌<◌, ℕ, zero, suc, ◌+◌, ◌-◌, ◌*◌, ◌/◌, List, [], ◌∷◌, ◌++◌, length, get_or, drop, refl, ap, sym, ◌∙◌, arith, append_assoc, append-nil, drop-cons, length-drop}
use Rattle.rdm_script.specs.Contents.{hex_value, hex_bytes, fill_byte, fill_bytes}

-- two digits spell one byte
pub length-hex_bytes : (text : List ℕ) → length (hex_bytes text) ≡ length text / 2
unfolding hex_bytes
length-hex_bytes [] = refl
length-hex_bytes (high ∷ []) = refl
length-hex_bytes (high ∷ low ∷ rest) = omega (arith, length-hex_bytes rest)

pub length-fill_bytes : (seed place count : ℕ) → length (fill_bytes seed place count) ≡ count
unfolding fill_bytes
length-fill_bytes seed place zero = refl
length-fill_bytes seed place (suc count) = ap suc (length-fill_bytes seed (place + 1) count)

-- the next byte of a fill goes to those before it
pub fill_bytes-next : (done : List ℕ) (seed place count : ℕ) → place < count
    → (done ++ fill_byte seed place ∷ []) ++ fill_bytes seed (place + 1) (count - (place + 1)) ≡ done ++ fill_bytes seed place (count - place)
unfolding fill_bytes
fill_bytes-next done seed place count h =
    let e : count - place ≡ suc (count - (place + 1)) = omega arith in
    rw (append_assoc, e)

-- no byte of a fill is left at its end
pub fill_bytes-end : (done all : List ℕ) (seed place count : ℕ) → count ≤ place → done ++ fill_bytes seed place (count - place) ≡ all → done ≡ all
unfolding fill_bytes
fill_bytes-end done all seed place count h e =
    let none : count - place ≡ 0 = omega arith in
    sym (append-nil done) ∙ rw none at e

-- the next byte of digits goes to those before it
pub hex_bytes-next : (done text : List ℕ) (i : ℕ) → i < length text / 2
    → (done ++ (hex_value (get_or text (2 * i) 0) * 16 + hex_value (get_or text (2 * i + 1) 0)) ∷ []) ++ hex_bytes (drop (2 * (i + 1)) text) ≡ done ++ hex_bytes (drop (2 * i) text)
unfolding hex_bytes
hex_bytes-next done text i h =
    let first : drop (2 * i) text ≡ get_or text (2 * i) 0 ∷ drop (suc (2 * i)) text = drop-cons text (2 * i) 0 (omega arith) in
    let second : drop (suc (2 * i)) text ≡ get_or text (suc (2 * i)) 0 ∷ drop (suc (suc (2 * i))) text = drop-cons text (suc (2 * i)) 0 (omega arith) in
    let one : 2 * i + 1 ≡ suc (2 * i) = omega arith in
    let two : 2 * (i + 1) ≡ suc (suc (2 * i)) = omega arith in
    rw (append_assoc, first, second, one, two)

-- less than two digits spell nothing
hex_bytes-short : (text : List ℕ) → length text < 2 → hex_bytes text ≡ []
unfolding hex_bytes
hex_bytes-short [] h = refl
hex_bytes-short (high ∷ []) h = refl
hex_bytes-short (high ∷ low ∷ rest) h = absurd (omega arith)

-- no byte of digits is left at their end
pub hex_bytes-end : (done all text : List ℕ) (i : ℕ) → length text / 2 ≤ i → done ++ hex_bytes (drop (2 * i) text) ≡ all → done ≡ all
hex_bytes-end done all text i h e =
    let none = hex_bytes-short (drop (2 * i) text) (simp length-drop (omega arith)) in
    sym (append-nil done) ∙ rw none at e
