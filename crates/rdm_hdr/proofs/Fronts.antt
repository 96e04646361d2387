-- What it is for bytes to begin with fields.
use Rattle.std.proofs.Common.{◌≡◌, ℕ, zero, suc, ◌+◌, ◌*◌, ◌/◌, ◌%◌, ◌^◌, ◌<◌, ◌≤◌, Bool, true, false, List, [], ◌∷◌, ◌++◌, length, take, drop, get_or, refl, sym, ap, ◌∙◌, arith}
use Rattle.std.specs.Prelude.{nat_le, ◌==◌, ◌&&◌}
use Rattle.std.specs.Bool.{one_answer, Decides}
use Rattle.std.specs.Int.{bytes_low_first}
use Rattle.std.proofs.lemmas.Bool.{and_parts, and_from, leb-true, le-leb}
use Rattle.std.proofs.lemmas.Bool.Decides.{Decides-eqb}
use Rattle.std.proofs.Math.Bool.{and_assoc, and-true, and-false}
use Rattle.std.proofs.Math.Dec.{leb-zero, leb-suc-zero, leb-suc-suc}
use Rattle.std.proofs.lemmas.List.{drop-drop, get_or-drop, length-drop}
use Rattle.std.proofs.Math.Nat.{div-div-eq-div-mul, pow-suc}
use Rattle.byteorder.specs.Endian.{little_number, little_bytes, little_from}
use Rattle.byteorder.specs.Numbers.{little_from-cons, little_from-lt}
use Rattle.rdm_hdr.specs.Fields.{Number, field_bytes, number_at}
use Rattle.rdm_hdr.specs.Reading.{begins}

-- each of them is a byte
abbrev pub AreBytes : List ℕ → Type 0
AreBytes bytes = (i : ℕ) → get_or bytes i 0 < 256

-- the bytes from the second on are those of a 256th
low_first-up : (j n x : ℕ) → bytes_low_first (suc j) n x ≡ bytes_low_first j n (x / 256)
low_first-up j zero x = refl
low_first-up zero (suc n) x = ap (λ (rest : List ℕ). x / 256 % 256 ∷ rest) (low_first-up 1 n x)
low_first-up (suc j) (suc n) x =
    let e256 : 256 * 256 ^ suc j ≡ 256 ^ suc (suc j) = omega (arith, pow-suc 256 (suc j)) in
    let e : x / 256 / 256 ^ suc j ≡ x / 256 ^ suc (suc j) = div-div-eq-div-mul x 256 (256 ^ suc j) ∙ ap (λ (p : ℕ). x / p) (e256) in
    rw (e, low_first-up (suc (suc j)) n x) refl

-- the number that stands at the front is spelled as the front is
pub number-stands : (n : ℕ) (bytes : List ℕ) → AreBytes bytes → n ≤ length bytes → little_bytes n (little_number n bytes) ≡ take n bytes
number-stands zero bytes h enough = refl
number-stands (suc n) [] h enough = absurd (omega arith)
number-stands (suc n) (b ∷ bs) h enough =
    let rest = little_from-cons 0 n b bs in
    let low : (b + 256 * little_from 1 n (b ∷ bs)) % 256 ≡ b = let hb : b < 256 = h 0 in omega arith in
    let high : (b + 256 * little_from 1 n (b ∷ bs)) / 256 ≡ little_from 0 n bs = let hb : b < 256 = h 0 in omega (arith, rest) in
    let again = number-stands n bs (λ i. h (suc i)) (omega arith) in
    rw (low, low_first-up 0 n (b + 256 * little_from 1 n (b ∷ bs)), high, again) refl

-- a test on a number by its lowest byte and the rest
split-eqb : (b rest x : ℕ) → b < 256 → ((x % 256 == b) && (rest == x / 256)) ≡ (b + 256 * rest == x)
split-eqb b rest x h =
    let both : Decides ((x % 256 == b) && (rest == x / 256)) (b + 256 * rest ≡ x) = (
      λ p. let q = and_parts (x % 256 == b) (rest == x / 256) p in
          let low = (Decides-eqb (x % 256) b).0 q.0 in
          let high = (Decides-eqb rest (x / 256)).0 q.1 in
          omega arith,
      λ e. let low : x % 256 ≡ b = omega arith in
          let high : rest ≡ x / 256 = omega arith in
          and_from (x % 256 == b) (rest == x / 256) ((Decides-eqb (x % 256) b).1 low) ((Decides-eqb rest (x / 256)).1 high),
    ) in
    one_answer ((x % 256 == b) && (rest == x / 256)) (b + 256 * rest == x) both (Decides-eqb (b + 256 * rest) x)

-- tests in another order
regroup-and : (a b c d : Bool) → (a && ((b && c) && d)) ≡ ((b && (a && c)) && d)
regroup-and true b c d = refl
regroup-and false true c d = refl
regroup-and false false c d = refl

-- bytes begin with a number and more where there is room for the number, it stands there, and more follows
pub begins-number : (n x : ℕ) (more bytes : List ℕ) → AreBytes bytes → x < 256 ^ n → begins (little_bytes n x ++ more) bytes ≡ ((nat_le n (length bytes) && (little_number n bytes == x)) && begins more (drop n bytes))
unfolding begins
begins-number zero x more [] h small = let none : x ≡ 0 = omega arith in rw none refl
begins-number zero x more (b ∷ bs) h small = let none : x ≡ 0 = omega arith in rw (none, leb-zero (suc (length bs))) refl
begins-number (suc n) x more [] h small = rw (leb-suc-zero n) refl
begins-number (suc n) x more (b ∷ bs) h small =
    let hb : b < 256 = h 0 in
    let less : x / 256 < 256 ^ n = let p = pow-suc 256 n in omega arith in
    let again = begins-number n (x / 256) more bs (λ i. h (suc i)) less in
    rw (low_first-up 0 n x, again, leb-suc-suc n (length bs), little_from-cons 0 n b bs, ← split-eqb b (little_from 0 n bs) x hb)
    (regroup-and (x % 256 == b) (nat_le n (length bs)) (little_from 0 n bs == x / 256) (begins more (drop n bs)))

-- bytes begin with nothing
pub begins-nothing : (bytes : List ℕ) → begins [] bytes ≡ true
unfolding begins
begins-nothing bytes = refl

-- bytes begin with two fronts where they begin with the first, and what follows with the second
pub begins-append : (front more bytes : List ℕ) → begins (front ++ more) bytes ≡ (begins front bytes && begins more (drop (length front) bytes))
unfolding begins
begins-append [] more bytes = refl
begins-append (x ∷ front) more [] = refl
begins-append (x ∷ front) more (b ∷ bs) = rw (begins-append front more bs) (sym (and_assoc (x == b) (begins front bs) (begins more (drop (length front) bs))))

-- bytes do not begin with what is longer
pub begins-longer : (front bytes : List ℕ) → length bytes < length front → begins front bytes ≡ false
unfolding begins
begins-longer [] bytes h = absurd (omega arith)
begins-longer (x ∷ front) [] h = refl
begins-longer (x ∷ front) (b ∷ bs) h = rw (begins-longer front bs (omega arith)) (and-false (x == b))

-- what stands after a place of bytes are bytes
pub bytes-after : (place : ℕ) (bytes : List ℕ) → AreBytes bytes → AreBytes (drop place bytes)
bytes-after place bytes h = λ i. rw (get_or-drop place bytes i 0) (h (place + i))

-- a number that stands in bytes fits its size
pub number_at-fits : (place n : ℕ) (bytes : List ℕ) → AreBytes bytes → number_at place n bytes < 256 ^ n
unfolding number_at
number_at-fits place n bytes h = little_from-lt 0 n (drop place bytes) (bytes-after place bytes h)

-- there is room for a number after a place
room-after : (place n : ℕ) (bytes : List ℕ) → 0 < n → nat_le n (length (drop place bytes)) ≡ nat_le (place + n) (length bytes)
room-after place n bytes some =
    let e = length-drop place bytes in
    one_answer {P = place + n ≤ length bytes} (nat_le n (length (drop place bytes))) (nat_le (place + n) (length bytes))
    (λ h. let g = leb-true n (length (drop place bytes)) h in omega arith, λ h. le-leb n (length (drop place bytes)) (omega arith))
    (leb-true (place + n) (length bytes), le-leb (place + n) (length bytes))

-- a number and more stand at a place where there is room for the number, it is the one there, and more follows
pub number-stands_at : (place n x : ℕ) (more bytes : List ℕ) → AreBytes bytes → 0 < n → x < 256 ^ n → begins (field_bytes (Number n x) ++ more) (drop place bytes) ≡ ((nat_le (place + n) (length bytes) && (number_at place n bytes == x)) && begins more (drop (place + n) bytes))
unfolding field_bytes number_at
number-stands_at place n x more bytes h some small =
    rw (begins-number n x more (drop place bytes) (bytes-after place bytes h) small, room-after place n bytes some, drop-drop n place bytes) refl

-- the number that is there stands there where there is room for it
pub own_number-stands_at : (place n : ℕ) (more bytes : List ℕ) → AreBytes bytes → 0 < n → begins (field_bytes (Number n (number_at place n bytes)) ++ more) (drop place bytes) ≡ (nat_le (place + n) (length bytes) && begins more (drop (place + n) bytes))
own_number-stands_at place n more bytes h some =
    let itself : (number_at place n bytes == number_at place n bytes) ≡ true = (Decides-eqb (number_at place n bytes) (number_at place n bytes)).1 refl in
    rw (number-stands_at place n (number_at place n bytes) more bytes h some (number_at-fits place n bytes h), itself, and-true) refl
