-- Which row the first byte names.
use Rattle.std.proofs.Common.{◌≡◌, ℕ, ◌+◌, ◌≤◌, ◌<◌, false, List, [], ◌∷◌, Some, None, refl, arith, ◌⊎◌, inl, inr}
use Rattle.std.specs.Prelude.{◌==◌, nat_le, slice_get}
use Rattle.std.proofs.lemmas.Bool.{eqb-true, leb-true, le-leb, false_from_ne_true}
use Rattle.std.proofs.lemmas.Bool.Decides.{leb_tells}
use Rattle.rdm_hdr.specs.Fields.{number_at}
use Rattle.rdm_pkt.specs.Reading.{Row, EagerRow, MediumRow, LongCtsRow, LongReadRow, RuntRow, CtsRow, CtsDataRow, EorRow, HandshakeRow, ReceiptRow, row_of, rtm_row, confirm_at, rtm_at, values_at, if_spelled, packet_in}

-- the first byte is the first number
pub first-by : (bytes : List ℕ) (kind : ℕ) → Some kind ≡ slice_get bytes 0 → number_at 0 1 bytes ≡ kind
unfolding number_at
first-by [] kind e = absurd (cc)
first-by (b ∷ bs) kind e = let same : kind ≡ b = cc in omega arith

-- whether a type asks for a receipt, from 200 on
pub confirm-above : (bytes : List ℕ) (kind : ℕ) → number_at 0 1 bytes ≡ kind → 200 ≤ kind → nat_le kind 205 ≡ confirm_at bytes
unfolding confirm_at
confirm-above bytes kind first h = rw (first, le-leb 200 kind h) refl

-- and below
pub confirm-below : (bytes : List ℕ) (kind : ℕ) → number_at 0 1 bytes ≡ kind → kind < 200 → nat_le 200 kind ≡ confirm_at bytes
unfolding confirm_at
confirm-below bytes kind first h =
    let below : nat_le 200 kind ≡ false = false_from_ne_true (nat_le 200 kind) (λ e. let above = leb-true 200 kind e in absurd (omega arith)) in
    rw (first, below) refl

-- without a first byte nothing is asked for
pub confirm-empty : (bytes : List ℕ) → None ≡ slice_get bytes 0 → false ≡ confirm_at bytes
unfolding confirm_at number_at
confirm-empty [] e = refl
confirm-empty (b ∷ bs) e = absurd (cc)

-- without a first byte there is no packet
pub empty-none : (bytes : List ℕ) → None ≡ slice_get bytes 0 → packet_in bytes ≡ None
unfolding packet_in row_of rtm_row number_at
empty-none [] e = refl
empty-none (b ∷ bs) e = absurd (cc)

-- bytes of a row are the packet with the values that stand there
pub of-row : (bytes : List ℕ) (kind : ℕ) (row : Row) → Some kind ≡ slice_get bytes 0 → row_of kind ≡ Some row → packet_in bytes ≡ if_spelled bytes (values_at row bytes)
unfolding packet_in
of-row bytes kind row first named = rw (first-by bytes kind first, named) refl

-- bytes of no row are no packet
of-none : (bytes : List ℕ) (kind : ℕ) → Some kind ≡ slice_get bytes 0 → row_of kind ≡ None → packet_in bytes ≡ None
unfolding packet_in
of-none bytes kind first none = rw (first-by bytes kind first, none) refl

-- the types of packets that do not open a message
pub row-3 : (kind : ℕ) → kind ≡ 3 → row_of kind ≡ Some CtsRow
unfolding row_of
row-3 kind e = rw e refl

pub row-4 : (kind : ℕ) → kind ≡ 4 → row_of kind ≡ Some CtsDataRow
unfolding row_of
row-4 kind e = rw e refl

pub row-7 : (kind : ℕ) → kind ≡ 7 → row_of kind ≡ Some EorRow
unfolding row_of
row-7 kind e = rw e refl

pub row-9 : (kind : ℕ) → kind ≡ 9 → row_of kind ≡ Some HandshakeRow
unfolding row_of
row-9 kind e = rw e refl

pub row-10 : (kind : ℕ) → kind ≡ 10 → row_of kind ≡ Some ReceiptRow
unfolding row_of
row-10 kind e = rw e refl

-- a number or the next one
one_of_two : (a kind : ℕ) → a ≤ kind → kind ≤ a + 1 → (kind ≡ a) ⊎ (kind ≡ a + 1)
one_of_two a kind least most = elim (leb_tells kind a) [ inl h ↦ inl (let e = h.1 in omega arith) | inr h ↦ inr (let e = h.1 in omega arith) ]

-- bytes of type 64 or 65, or of type 200 or 201
pub of-eager : (bytes : List ℕ) (kind : ℕ) → Some kind ≡ slice_get bytes 0 → 64 ≤ kind → kind ≤ 65 → packet_in bytes ≡ if_spelled bytes (rtm_at EagerRow bytes)
unfolding row_of rtm_row values_at
of-eager bytes kind first least most = of-row bytes kind EagerRow first (elim (one_of_two 64 kind least most) [ inl e ↦ rw e refl | inr e ↦ rw e refl ])

pub of-eager_confirmed : (bytes : List ℕ) (kind : ℕ) → Some kind ≡ slice_get bytes 0 → 200 ≤ kind → kind ≤ 201 → packet_in bytes ≡ if_spelled bytes (rtm_at EagerRow bytes)
unfolding row_of rtm_row values_at
of-eager_confirmed bytes kind first least most = of-row bytes kind EagerRow first (elim (one_of_two 200 kind least most) [ inl e ↦ rw e refl | inr e ↦ rw e refl ])

-- bytes of type 66 or 67, or of type 202 or 203
pub of-medium : (bytes : List ℕ) (kind : ℕ) → Some kind ≡ slice_get bytes 0 → 66 ≤ kind → kind ≤ 67 → packet_in bytes ≡ if_spelled bytes (rtm_at MediumRow bytes)
unfolding row_of rtm_row values_at
of-medium bytes kind first least most = of-row bytes kind MediumRow first (elim (one_of_two 66 kind least most) [ inl e ↦ rw e refl | inr e ↦ rw e refl ])

pub of-medium_confirmed : (bytes : List ℕ) (kind : ℕ) → Some kind ≡ slice_get bytes 0 → 202 ≤ kind → kind ≤ 203 → packet_in bytes ≡ if_spelled bytes (rtm_at MediumRow bytes)
unfolding row_of rtm_row values_at
of-medium_confirmed bytes kind first least most = of-row bytes kind MediumRow first (elim (one_of_two 202 kind least most) [ inl e ↦ rw e refl | inr e ↦ rw e refl ])

-- bytes of type 68 or 69, or of type 204 or 205
pub of-long_cts : (bytes : List ℕ) (kind : ℕ) → Some kind ≡ slice_get bytes 0 → 68 ≤ kind → kind ≤ 69 → packet_in bytes ≡ if_spelled bytes (rtm_at LongCtsRow bytes)
unfolding row_of rtm_row values_at
of-long_cts bytes kind first least most = of-row bytes kind LongCtsRow first (elim (one_of_two 68 kind least most) [ inl e ↦ rw e refl | inr e ↦ rw e refl ])

pub of-long_cts_confirmed : (bytes : List ℕ) (kind : ℕ) → Some kind ≡ slice_get bytes 0 → 204 ≤ kind → kind ≤ 205 → packet_in bytes ≡ if_spelled bytes (rtm_at LongCtsRow bytes)
unfolding row_of rtm_row values_at
of-long_cts_confirmed bytes kind first least most = of-row bytes kind LongCtsRow first (elim (one_of_two 204 kind least most) [ inl e ↦ rw e refl | inr e ↦ rw e refl ])

-- bytes of type 128 or 129
pub of-long_read : (bytes : List ℕ) (kind : ℕ) → Some kind ≡ slice_get bytes 0 → 128 ≤ kind → kind ≤ 129 → packet_in bytes ≡ if_spelled bytes (rtm_at LongReadRow bytes)
unfolding row_of rtm_row values_at
of-long_read bytes kind first least most = of-row bytes kind LongReadRow first (elim (one_of_two 128 kind least most) [ inl e ↦ rw e refl | inr e ↦ rw e refl ])

-- bytes of type 192 or 193
pub of-runt : (bytes : List ℕ) (kind : ℕ) → Some kind ≡ slice_get bytes 0 → 192 ≤ kind → kind ≤ 193 → packet_in bytes ≡ if_spelled bytes (rtm_at RuntRow bytes)
unfolding row_of rtm_row values_at
of-runt bytes kind first least most = of-row bytes kind RuntRow first (elim (one_of_two 192 kind least most) [ inl e ↦ rw e refl | inr e ↦ rw e refl ])

-- two numbers that differ
differ : (a b : ℕ) → (a ≡ b → ⊥) → (a == b) ≡ false
differ a b wrong = false_from_ne_true (a == b) (λ h. wrong (eqb-true a b h))

-- a type of no row
of-other : (bytes : List ℕ) (kind : ℕ) → Some kind ≡ slice_get bytes 0
    → (kind ≡ 3 → ⊥) → (kind ≡ 4 → ⊥) → (kind ≡ 7 → ⊥) → (kind ≡ 9 → ⊥) → (kind ≡ 10 → ⊥) → (kind ≡ 64 → ⊥) → (kind ≡ 65 → ⊥) → (kind ≡ 66 → ⊥) → (kind ≡ 67 → ⊥) → (kind ≡ 68 → ⊥) → (kind ≡ 69 → ⊥)
    → (kind ≡ 128 → ⊥) → (kind ≡ 129 → ⊥) → (kind ≡ 192 → ⊥) → (kind ≡ 193 → ⊥) → (kind ≡ 200 → ⊥) → (kind ≡ 201 → ⊥) → (kind ≡ 202 → ⊥) → (kind ≡ 203 → ⊥) → (kind ≡ 204 → ⊥) → (kind ≡ 205 → ⊥) → packet_in bytes ≡ None
unfolding row_of rtm_row
of-other bytes kind first a b d e f g h i j k l m n o p q r s t u v =
    of-none bytes kind first
    (rw (differ kind 3 a, differ kind 4 b, differ kind 7 d, differ kind 9 e, differ kind 10 f, differ kind 64 g, differ kind 65 h, differ kind 66 i, differ kind 67 j, differ kind 68 k, differ kind 69 l, differ kind 128 m, differ kind 129 n, differ kind 192 o, differ kind 193 p, differ kind 200 q, differ kind 201 r, differ kind 202 s, differ kind 203 t, differ kind 204 u, differ kind 205 v) refl)

-- a type below those that open messages
pub of-low : (bytes : List ℕ) (kind : ℕ) → Some kind ≡ slice_get bytes 0 → kind < 64 → (kind ≡ 3 → ⊥) → (kind ≡ 4 → ⊥) → (kind ≡ 7 → ⊥) → (kind ≡ 9 → ⊥) → (kind ≡ 10 → ⊥) → packet_in bytes ≡ None
of-low bytes kind first h a b d e f = of-other bytes kind first a b d e f (λ x. omega arith) (λ x. omega arith) (λ x. omega arith) (λ x. omega arith) (λ x. omega arith) (λ x. omega arith) (λ x. omega arith) (λ x. omega arith) (λ x. omega arith) (λ x. omega arith) (λ x. omega arith) (λ x. omega arith) (λ x. omega arith) (λ x. omega arith) (λ x. omega arith) (λ x. omega arith)

-- a type between segments and reads
pub of-middle : (bytes : List ℕ) (kind : ℕ) → Some kind ≡ slice_get bytes 0 → 70 ≤ kind → kind < 128 → packet_in bytes ≡ None
of-middle bytes kind first low high = of-other bytes kind first (λ x. omega arith) (λ x. omega arith) (λ x. omega arith) (λ x. omega arith) (λ x. omega arith) (λ x. omega arith) (λ x. omega arith) (λ x. omega arith) (λ x. omega arith) (λ x. omega arith) (λ x. omega arith) (λ x. omega arith) (λ x. omega arith) (λ x. omega arith) (λ x. omega arith) (λ x. omega arith) (λ x. omega arith) (λ x. omega arith) (λ x. omega arith) (λ x. omega arith) (λ x. omega arith)

-- a type between reads and first parts ahead of one
pub of-upper : (bytes : List ℕ) (kind : ℕ) → Some kind ≡ slice_get bytes 0 → 130 ≤ kind → kind < 192 → packet_in bytes ≡ None
of-upper bytes kind first low high = of-other bytes kind first (λ x. omega arith) (λ x. omega arith) (λ x. omega arith) (λ x. omega arith) (λ x. omega arith) (λ x. omega arith) (λ x. omega arith) (λ x. omega arith) (λ x. omega arith) (λ x. omega arith) (λ x. omega arith) (λ x. omega arith) (λ x. omega arith) (λ x. omega arith) (λ x. omega arith) (λ x. omega arith) (λ x. omega arith) (λ x. omega arith) (λ x. omega arith) (λ x. omega arith) (λ x. omega arith)

-- a type between first parts ahead of a read and messages whose sender waits for a receipt
pub of-late : (bytes : List ℕ) (kind : ℕ) → Some kind ≡ slice_get bytes 0 → 194 ≤ kind → kind < 200 → packet_in bytes ≡ None
of-late bytes kind first low high = of-other bytes kind first (λ x. omega arith) (λ x. omega arith) (λ x. omega arith) (λ x. omega arith) (λ x. omega arith) (λ x. omega arith) (λ x. omega arith) (λ x. omega arith) (λ x. omega arith) (λ x. omega arith) (λ x. omega arith) (λ x. omega arith) (λ x. omega arith) (λ x. omega arith) (λ x. omega arith) (λ x. omega arith) (λ x. omega arith) (λ x. omega arith) (λ x. omega arith) (λ x. omega arith) (λ x. omega arith)

-- a type above all
pub of-high : (bytes : List ℕ) (kind : ℕ) → Some kind ≡ slice_get bytes 0 → 206 ≤ kind → packet_in bytes ≡ None
of-high bytes kind first low = of-other bytes kind first (λ x. omega arith) (λ x. omega arith) (λ x. omega arith) (λ x. omega arith) (λ x. omega arith) (λ x. omega arith) (λ x. omega arith) (λ x. omega arith) (λ x. omega arith) (λ x. omega arith) (λ x. omega arith) (λ x. omega arith) (λ x. omega arith) (λ x. omega arith) (λ x. omega arith) (λ x. omega arith) (λ x. omega arith) (λ x. omega arith) (λ x. omega arith) (λ x. omega arith) (λ x. omega arith)
