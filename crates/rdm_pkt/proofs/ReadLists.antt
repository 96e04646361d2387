-- Read lists.
use Rattle.std.proofs.Common.{◌≡◌, ℕ, zero, suc, ◌+◌, ◌-◌, ◌*◌, ◌<◌, ◌≤◌, ◌^◌, Bool, true, false, List, [], ◌∷◌, ◌++◌, length, take, get_or, refl, sym, ap, ◌∙◌, append_assoc, append-nil, arith}
use Rattle.std.specs.Prelude.{nat_le, nat_lt, ◌==◌, ◌&&◌, sum_by, flat_map}
use Rattle.std.specs.List.{list_all}
use Rattle.std.specs.Bool.{one_answer}
use Rattle.std.proofs.lemmas.List.Folds.{list_all_at}
use Rattle.std.proofs.lemmas.List.Sums.{sum_by_more_le}
use Rattle.std.proofs.lemmas.Bool.{and_parts, leb-true, eqb-true, le-leb, false_from_ne_true}
use Rattle.std.proofs.lemmas.Bool.Decides.{Decides-eqb}
use Rattle.rdm_num.specs.declared.lists.IovEntry.{IovEntry}
use Rattle.rdm_hdr.specs.Fields.{Field, Number, fields_fit, number_at}
use Rattle.rdm_hdr.proofs.Fronts.{AreBytes}
use Rattle.rdm_pkt.specs.Grammar.{iov_fits, entry_fields}
use Rattle.rdm_pkt.specs.Reading.{iov_at}
use Rattle.rdm_pkt.proofs.Stands.{stands, stands-own}
use Rattle.rdm_pkt.proofs.Rows.{fit-own}

-- a range is not empty, and its end has room in 64 bits
abbrev pub entry_test : IovEntry → Bool
entry_test e = nat_le 1 e.length && nat_lt (e.offset + e.length) (2 ^ 64)

-- how long a range is
abbrev pub entry_length : IovEntry → ℕ
entry_length e = e.length

-- one range more is read
pub iov_at-next : (count k place : ℕ) (read : List IovEntry) (bytes : List ℕ) → k < count
    → (read ++ record { offset = number_at (place + 24 * k) 8 bytes; length = number_at (place + 24 * k + 8) 8 bytes; key = number_at (place + 24 * k + 16) 8 bytes } ∷ []) ++ iov_at (place + 24 * (k + 1)) (count - (k + 1)) bytes
    ≡ read ++ iov_at (place + 24 * k) (count - k) bytes
unfolding iov_at
iov_at-next count k place read bytes more =
    let left : count - k ≡ suc (count - (k + 1)) = omega arith in
    let next : place + 24 * k + 24 ≡ place + 24 * (k + 1) = omega arith in
    rw (left, next) (append_assoc read (record { offset = number_at (place + 24 * k) 8 bytes; length = number_at (place + 24 * k + 8) 8 bytes; key = number_at (place + 24 * k + 16) 8 bytes } ∷ []) (iov_at (place + 24 * (k + 1)) (count - (k + 1)) bytes))

-- all ranges are read
pub iov_at-last : (count k place : ℕ) (read : List IovEntry) (bytes : List ℕ) → count ≤ k → read ++ iov_at (place + 24 * k) (count - k) bytes ≡ read
unfolding iov_at
iov_at-last count k place read bytes done = let none : count - k ≡ 0 = omega arith in rw none (append-nil read)

-- there are so many ranges
pub length-iov_at : (place count : ℕ) (bytes : List ℕ) → length (iov_at place count bytes) ≡ count
unfolding iov_at
length-iov_at place zero bytes = refl
length-iov_at place (suc n) bytes = let e = length-iov_at (place + 24) n bytes in omega (arith, e)

-- ranges that stand there are in their ranges
pub fit-iov : (place count : ℕ) (more : List Field) (bytes : List ℕ) → AreBytes bytes → fields_fit more ≡ true → fields_fit (flat_map entry_fields (iov_at place count bytes) ++ more) ≡ true
unfolding iov_at entry_fields
fit-iov place zero more bytes h rest = rest
fit-iov place (suc n) more bytes h rest =
    let after : List Field = flat_map entry_fields (iov_at (place + 24) n bytes) ++ more in
    let keys : List Field = Number 8 (number_at (place + 16) 8 bytes) ∷ after in
    let lengths : List Field = Number 8 (number_at (place + 8) 8 bytes) ∷ keys in
    fit-own place 8 lengths bytes h (fit-own (place + 8) 8 keys bytes h (fit-own (place + 16) 8 after bytes h (fit-iov (place + 24) n more bytes h rest)))

-- ranges that are there stand there
pub stands-iov : (place count : ℕ) (more : List Field) (bytes : List ℕ) → AreBytes bytes → place + 24 * count ≤ length bytes → stands place (flat_map entry_fields (iov_at place count bytes) ++ more) bytes ≡ stands (place + 24 * count) more bytes
unfolding iov_at entry_fields
stands-iov place zero more bytes h room = let e : place ≡ place + 24 * 0 = omega arith in ap (λ (at : ℕ). stands at more bytes) e
stands-iov place (suc n) more bytes h room =
    let after : List Field = flat_map entry_fields (iov_at (place + 24) n bytes) ++ more in
    let keys : List Field = Number 8 (number_at (place + 16) 8 bytes) ∷ after in
    let lengths : List Field = Number 8 (number_at (place + 8) 8 bytes) ∷ keys in
    let e : (place + 24) + 24 * n ≡ place + 24 * suc n = omega arith in
    let k : place + 8 + 8 ≡ place + 16 = omega arith in
    let m : place + 16 + 8 ≡ place + 24 = omega arith in
    stands-own place 8 lengths bytes h (omega arith) (omega arith)
    ∙ stands-own (place + 8) 8 keys bytes h (omega arith) (omega arith)
    ∙ ap (λ (at : ℕ). stands at keys bytes) k
    ∙ stands-own (place + 16) 8 after bytes h (omega arith) (omega arith)
    ∙ ap (λ (at : ℕ). stands at after bytes) m
    ∙ stands-iov (place + 24) n more bytes h (omega arith)
    ∙ ap (λ (at : ℕ). stands at more bytes) e

-- ---- the conditions of a read list

-- a test has one answer
two-answers : {b : Bool} → b ≡ false → b ≡ true → ⊥
two-answers p q = cc

-- a read list that cannot meet its conditions
iov-never : (iov : List IovEntry) (size : ℕ) → (1 ≤ length iov → length iov ≤ 4 → list_all entry_test iov ≡ true → sum_by entry_length iov ≡ size → ⊥) → iov_fits iov size ≡ false
unfolding iov_fits
iov-never iov size wrong =
    let counts : Bool = nat_le 1 (length iov) && nat_le (length iov) 4 in
    false_from_ne_true (counts && list_all entry_test iov && (sum_by entry_length iov == size)) (λ h.
    let a = and_parts (counts && list_all entry_test iov) (sum_by entry_length iov == size) h in
    let b = and_parts counts (list_all entry_test iov) a.0 in
    let d = and_parts (nat_le 1 (length iov)) (nat_le (length iov) 4) b.0 in
    wrong (leb-true 1 (length iov) d.0) (leb-true (length iov) 4 d.1) b.1 (eqb-true (sum_by entry_length iov) size a.1))

-- an empty read list is none
pub iov-none : (iov : List IovEntry) (size : ℕ) → length iov ≡ 0 → iov_fits iov size ≡ false
iov-none iov size none = iov-never iov size (λ some few good sum. omega arith)

-- a read list has no more than four ranges
pub iov-many : (iov : List IovEntry) (size : ℕ) → 4 < length iov → iov_fits iov size ≡ false
iov-many iov size many = iov-never iov size (λ some few good sum. omega arith)

-- each range meets its conditions
pub iov-bad : (iov : List IovEntry) (size i : ℕ) (d : IovEntry) → i < length iov → entry_test (get_or iov i d) ≡ false → iov_fits iov size ≡ false
iov-bad iov size i d within bad = iov-never iov size (λ some few good sum. two-answers (list_all_at entry_test iov i d within bad) good)

-- the ranges are no longer than the message
pub iov-long : (iov : List IovEntry) (size i left : ℕ) (d : IovEntry) → i < length iov → sum_by entry_length (take i iov) + left ≡ size → left < entry_length (get_or iov i d) → iov_fits iov size ≡ false
iov-long iov size i left d within so_far long = let more = sum_by_more_le entry_length iov i d within in iov-never iov size (λ some few good sum. omega arith)

-- as many ranges as there are
take-whole : (i : ℕ) (iov : List IovEntry) → length iov ≤ i → take i iov ≡ iov
take-whole zero [] h = refl
take-whole zero (e ∷ iov) h = absurd (omega arith)
take-whole (suc i) [] h = refl
take-whole (suc i) (e ∷ iov) h = ap (λ (rest : List IovEntry). e ∷ rest) (take-whole i iov (omega arith))

-- a read list that is looked through
pub iov-all : (iov : List IovEntry) (size left i : ℕ) → 1 ≤ length iov → length iov ≤ 4 → length iov ≤ i → list_all entry_test (take i iov) ≡ true → sum_by entry_length (take i iov) + left ≡ size → iov_fits iov size ≡ (left == 0)
unfolding iov_fits
iov-all iov size left i some few end good sum =
    let whole : take i iov ≡ iov = take-whole i iov end in
    let each : list_all entry_test iov ≡ true = ap (list_all entry_test) (sym whole) ∙ good in
    let all : sum_by entry_length (take i iov) ≡ sum_by entry_length iov = ap (sum_by entry_length) whole in
    let last : (sum_by entry_length iov == size) ≡ (left == 0) =
    one_answer {P = left ≡ 0} (sum_by entry_length iov == size) (left == 0)
    (λ p. let e = eqb-true (sum_by entry_length iov) size p in omega arith, λ p. (Decides-eqb (sum_by entry_length iov) size).1 (omega arith))
    (eqb-true left 0, λ p. (Decides-eqb left 0).1 p) in
    rw (le-leb 1 (length iov) some, le-leb (length iov) 4 few, each, last) refl

-- what is not above 0 is 0
none-of : (n : ℕ) → nat_lt 0 n ≡ false → n ≡ 0
none-of zero e = refl
none-of (suc n) e = absurd (two-answers e (le-leb 1 (suc n) (omega arith)))

-- a read list that has no ranges meets no conditions
pub no-ranges : (place count count' size : ℕ) (bytes : List ℕ) → nat_lt 0 count ≡ false → count ≡ count' → iov_fits (iov_at place count' bytes) size ≡ true → ⊥
no-ranges place count count' size bytes none same fit =
    two-answers (iov-none (iov_at place count' bytes) size (length-iov_at place count' bytes ∙ sym same ∙ none-of count none)) fit
