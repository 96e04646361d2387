-- When bytes are the packets that do not open a message.
use Rattle.std.proofs.Common.{◌≡◌, ℕ, suc, ◌+◌, ◌-◌, ◌<◌, ◌≤◌, ◌^◌, Bool, true, List, [], ◌∷◌, ◌++◌, length, drop, Some, None, refl, sym, ◌∙◌, arith}
use Rattle.std.specs.Prelude.{nat_le, nat_lt, ◌==◌, ◌&&◌}
use Rattle.std.specs.List.{list_all}
use Rattle.std.proofs.lemmas.List.{length-drop}
use Rattle.std.proofs.lemmas.List.Folds.{list_all-append}
use Rattle.std.proofs.lemmas.Bool.{and_parts, and_from, leb-true, le-leb}
use Rattle.std.proofs.lemmas.Bool.Decides.{Decides-eqb}
use Rattle.rdm_hdr.specs.Fields.{Field, Number, Data, field_fits, fields_bytes, fields_fit, number_at}
use Rattle.rdm_hdr.specs.Headers.{base_fields}
use Rattle.rdm_hdr.specs.Reading.{begins}
use Rattle.rdm_hdr.proofs.Fronts.{AreBytes, number_at-fits, bytes-after}
use Rattle.rdm_pkt.specs.declared.Packet.{Packet}
use Rattle.rdm_pkt.specs.declared.Packet.TheVariants.{Cts, CtsData, Eor, Receipt}
use Rattle.rdm_pkt.specs.Grammar.{head_fields, layout, packet_fits}
use Rattle.rdm_pkt.specs.Reading.{CtsRow, CtsDataRow, EorRow, ReceiptRow, values_at, if_spelled}
use Rattle.rdm_pkt.proofs.PacketSizes.{head-size, packet-size}
use Rattle.rdm_pkt.proofs.Stands.{stands, stands-append, stands-nothing, stands-own, stands-number, stands-rest, is-spelled, not-spelled}

-- a number that stands there is in its range
pub fits-own : (place n : ℕ) (bytes : List ℕ) → AreBytes bytes → field_fits (Number n (number_at place n bytes)) ≡ true
unfolding field_fits
fits-own place n bytes h = le-leb (suc (number_at place n bytes)) (256 ^ n) (let e = number_at-fits place n bytes h in omega arith)

-- nothing is out of range
pub fit-nothing : fields_fit [] ≡ true
unfolding fields_fit
fit-nothing = refl

-- fields and more are in their ranges
pub fit-append : (fields more : List Field) → fields_fit fields ≡ true → fields_fit more ≡ true → fields_fit (fields ++ more) ≡ true
unfolding fields_fit
fit-append fields more a b = rw (list_all-append field_fits fields more) (and_from (list_all field_fits fields) (list_all field_fits more) a b)

-- a number that stands there and more are in their ranges
pub fit-own : (place n : ℕ) (more : List Field) (bytes : List ℕ) → AreBytes bytes → fields_fit more ≡ true → fields_fit (Number n (number_at place n bytes) ∷ more) ≡ true
unfolding fields_fit
fit-own place n more bytes h b = and_from (field_fits (Number n (number_at place n bytes))) (list_all field_fits more) (fits-own place n bytes h) b

-- each byte is below 256
all_small : (bytes : List ℕ) → AreBytes bytes → list_all (λ b. nat_lt b 256) bytes ≡ true
all_small [] h = refl
all_small (b ∷ bs) h = let hb : b < 256 = h 0 in and_from (nat_lt b 256) (list_all (λ x. nat_lt x 256) bs) (le-leb (suc b) 256 (omega arith)) (all_small bs (λ i. h (suc i)))

-- bytes are in their range
pub fit-data : (bytes : List ℕ) → AreBytes bytes → fields_fit (Data bytes ∷ []) ≡ true
unfolding fields_fit field_fits
fit-data bytes h = and_from (list_all (λ b. nat_lt b 256) bytes) true (all_small bytes h) refl

-- the bytes begin with the base header of a packet that carries its sender's identifier
abbrev pub is_head : (kind : ℕ) → List ℕ → Bool
is_head kind bytes = begins (fields_bytes (head_fields kind 32768)) bytes

-- after the base header, fields stand at the fourth byte
pub after-head : (kind : ℕ) (more : List Field) (bytes : List ℕ) → stands 0 (head_fields kind 32768 ++ more) bytes ≡ (is_head kind bytes && stands 4 more bytes)
after-head kind more bytes = rw (stands-append 0 (head_fields kind 32768) more bytes, head-size kind 32768) refl

-- what stands from the front on begins with its base header
pub head-of : (kind : ℕ) (more : List Field) (bytes : List ℕ) → stands 0 (head_fields kind 32768 ++ more) bytes ≡ true → is_head kind bytes ≡ true
head-of kind more bytes there = let parts = and_parts (is_head kind bytes) (stands 4 more bytes) (sym (after-head kind more bytes) ∙ there) in parts.0

-- a base header and more are in their ranges
fit-head : (kind : ℕ) (more : List Field) → nat_lt kind 256 ≡ true → fields_fit more ≡ true → fields_fit (head_fields kind 32768 ++ more) ≡ true
unfolding head_fields base_fields fields_fit field_fits
fit-head kind more a b = rw (a, b) refl

-- ---- the end of an operation

-- 16 bytes with the right base header are an EOR
pub eor-is : (bytes : List ℕ) → AreBytes bytes → length bytes ≡ 16 → is_head 7 bytes ≡ true → if_spelled bytes (values_at EorRow bytes) ≡ Some (values_at EorRow bytes)
unfolding values_at layout packet_fits fields_fit field_fits head_fields base_fields
eor-is bytes h size head =
    let p : Packet = Eor (record { 0 = number_at 4 4 bytes }) (record { 0 = number_at 8 4 bytes }) (record { 0 = number_at 12 4 bytes }) in
    let fit : fields_fit (layout p) ≡ true = fit-own 4 4 (Number 4 (number_at 8 4 bytes) ∷ Number 4 (number_at 12 4 bytes) ∷ []) bytes h (fit-own 8 4 (Number 4 (number_at 12 4 bytes) ∷ []) bytes h (fit-own 12 4 [] bytes h refl)) in
    let there : stands 0 (layout p) bytes ≡ true =
    rw (after-head 7 (Number 4 (number_at 4 4 bytes) ∷ Number 4 (number_at 8 4 bytes) ∷ Number 4 (number_at 12 4 bytes) ∷ []) bytes, head, stands-own 4 4 (Number 4 (number_at 8 4 bytes) ∷ Number 4 (number_at 12 4 bytes) ∷ []) bytes h (omega arith) (omega arith), stands-own 8 4 (Number 4 (number_at 12 4 bytes) ∷ []) bytes h (omega arith) (omega arith), stands-own 12 4 [] bytes h (omega arith) (omega arith)) (stands-nothing 16 bytes) in
    is-spelled p bytes refl fit there (packet-size p ∙ sym size)

-- what an EOR takes
pub eor-takes : (bytes : List ℕ) → (length bytes ≡ 16 → is_head 7 bytes ≡ true → ⊥) → if_spelled bytes (values_at EorRow bytes) ≡ None
unfolding values_at layout
eor-takes bytes wrong =
    let p : Packet = Eor (record { 0 = number_at 4 4 bytes }) (record { 0 = number_at 8 4 bytes }) (record { 0 = number_at 12 4 bytes }) in
    not-spelled p bytes (λ fit there size. wrong (sym size ∙ packet-size p) (head-of 7 (Number 4 (number_at 4 4 bytes) ∷ Number 4 (number_at 8 4 bytes) ∷ Number 4 (number_at 12 4 bytes) ∷ []) bytes there))

-- ---- a receipt

-- 12 bytes with the right base header are a receipt
pub receipt-is : (bytes : List ℕ) → AreBytes bytes → length bytes ≡ 12 → is_head 10 bytes ≡ true → if_spelled bytes (values_at ReceiptRow bytes) ≡ Some (values_at ReceiptRow bytes)
unfolding values_at layout packet_fits
receipt-is bytes h size head =
    let p : Packet = Receipt (record { 0 = number_at 4 4 bytes }) (record { 0 = number_at 8 4 bytes }) in
    let b : List Field = Number 4 (number_at 8 4 bytes) ∷ [] in
    let a : List Field = Number 4 (number_at 4 4 bytes) ∷ b in
    let fit : fields_fit (layout p) ≡ true = fit-head 10 a refl (fit-own 4 4 b bytes h (fit-own 8 4 [] bytes h fit-nothing)) in
    let there : stands 0 (layout p) bytes ≡ true =
    after-head 10 a bytes
    ∙ and_from (is_head 10 bytes) (stands 4 a bytes) head
    (stands-own 4 4 b bytes h (omega arith) (omega arith) ∙ stands-own 8 4 [] bytes h (omega arith) (omega arith) ∙ stands-nothing 12 bytes) in
    is-spelled p bytes refl fit there (packet-size p ∙ sym size)

-- what a receipt takes
pub receipt-takes : (bytes : List ℕ) → (length bytes ≡ 12 → is_head 10 bytes ≡ true → ⊥) → if_spelled bytes (values_at ReceiptRow bytes) ≡ None
unfolding values_at layout
receipt-takes bytes wrong =
    let p : Packet = Receipt (record { 0 = number_at 4 4 bytes }) (record { 0 = number_at 8 4 bytes }) in
    not-spelled p bytes (λ fit there size. wrong (sym size ∙ packet-size p) (head-of 10 (Number 4 (number_at 4 4 bytes) ∷ Number 4 (number_at 8 4 bytes) ∷ []) bytes there))

-- ---- a grant

-- 24 bytes with the right base header that grant something are a grant
pub cts-is : (bytes : List ℕ) → AreBytes bytes → length bytes ≡ 24 → is_head 3 bytes ≡ true → 0 < number_at 12 8 bytes → if_spelled bytes (values_at CtsRow bytes) ≡ Some (values_at CtsRow bytes)
unfolding values_at layout packet_fits
cts-is bytes h size head some =
    let p : Packet = Cts (record { 0 = number_at 4 4 bytes }) (record { 0 = number_at 8 4 bytes }) (number_at 12 8 bytes) (record { 0 = number_at 20 4 bytes }) in
    let d : List Field = Number 4 (number_at 20 4 bytes) ∷ [] in
    let c : List Field = Number 8 (number_at 12 8 bytes) ∷ d in
    let b : List Field = Number 4 (number_at 8 4 bytes) ∷ c in
    let a : List Field = Number 4 (number_at 4 4 bytes) ∷ b in
    let fit : fields_fit (layout p) ≡ true = fit-head 3 a refl (fit-own 4 4 b bytes h (fit-own 8 4 c bytes h (fit-own 12 8 d bytes h (fit-own 20 4 [] bytes h fit-nothing)))) in
    let there : stands 0 (layout p) bytes ≡ true =
    after-head 3 a bytes
    ∙ and_from (is_head 3 bytes) (stands 4 a bytes) head
    (stands-own 4 4 b bytes h (omega arith) (omega arith)
    ∙ stands-own 8 4 c bytes h (omega arith) (omega arith)
    ∙ stands-own 12 8 d bytes h (omega arith) (omega arith)
    ∙ stands-own 20 4 [] bytes h (omega arith) (omega arith)
    ∙ stands-nothing 24 bytes) in
    is-spelled p bytes (le-leb 1 (number_at 12 8 bytes) (omega arith)) fit there (packet-size p ∙ sym size)

-- what a grant takes
pub cts-takes : (bytes : List ℕ) → (length bytes ≡ 24 → is_head 3 bytes ≡ true → 0 < number_at 12 8 bytes → ⊥) → if_spelled bytes (values_at CtsRow bytes) ≡ None
unfolding values_at layout packet_fits
cts-takes bytes wrong =
    let p : Packet = Cts (record { 0 = number_at 4 4 bytes }) (record { 0 = number_at 8 4 bytes }) (number_at 12 8 bytes) (record { 0 = number_at 20 4 bytes }) in
    let a : List Field = Number 4 (number_at 4 4 bytes) ∷ Number 4 (number_at 8 4 bytes) ∷ Number 8 (number_at 12 8 bytes) ∷ Number 4 (number_at 20 4 bytes) ∷ [] in
    not-spelled p bytes (λ fit there size. wrong (sym size ∙ packet-size p) (head-of 3 a bytes there) (let some = leb-true 1 (number_at 12 8 bytes) fit in omega arith))

-- ---- granted data

-- bytes with the right base header, as long as they say, are granted data
pub cts_data-is : (bytes : List ℕ) → AreBytes bytes → 28 < length bytes → is_head 4 bytes ≡ true → number_at 8 8 bytes ≡ length (drop 28 bytes) → number_at 16 8 bytes + length (drop 28 bytes) < 2 ^ 64
    → if_spelled bytes (values_at CtsDataRow bytes) ≡ Some (values_at CtsDataRow bytes)
unfolding values_at layout packet_fits
cts_data-is bytes h size head same room =
    let data' : List ℕ = drop 28 bytes in
    let p : Packet = CtsData (record { 0 = number_at 4 4 bytes }) (number_at 16 8 bytes) (record { 0 = number_at 24 4 bytes }) data' in
    let d : List Field = Data data' ∷ [] in
    let c : List Field = Number 4 (number_at 24 4 bytes) ∷ d in
    let b : List Field = Number 8 (number_at 16 8 bytes) ∷ c in
    let a : List Field = Number 8 (number_at 8 8 bytes) ∷ b in
    let z : List Field = Number 4 (number_at 4 4 bytes) ∷ a in
    let whole : length data' ≡ length bytes - 28 = length-drop 28 bytes in
    let all : packet_fits p ≡ true = and_from (nat_le 1 (length data')) (nat_lt (number_at 16 8 bytes + length data') (2 ^ 64)) (le-leb 1 (length data') (omega arith)) (le-leb (suc (number_at 16 8 bytes + length data')) (2 ^ 64) (omega arith)) in
    let fit : fields_fit (layout p) ≡ true =
    rw (← same) (fit-head 4 z refl (fit-own 4 4 a bytes h (fit-own 8 8 b bytes h (fit-own 16 8 c bytes h (fit-own 24 4 d bytes h (fit-data data' (bytes-after 28 bytes h))))))) in
    let there : stands 0 (layout p) bytes ≡ true =
    rw (← same)
    (after-head 4 z bytes
    ∙ and_from (is_head 4 bytes) (stands 4 z bytes) head
    (stands-own 4 4 a bytes h (omega arith) (omega arith)
    ∙ stands-own 8 8 b bytes h (omega arith) (omega arith)
    ∙ stands-own 16 8 c bytes h (omega arith) (omega arith)
    ∙ stands-own 24 4 d bytes h (omega arith) (omega arith)
    ∙ stands-rest 28 bytes)) in
    is-spelled p bytes all fit there (packet-size p ∙ (let e : 28 + length data' ≡ length bytes = omega arith in e))

-- what granted data take
pub cts_data-takes : (bytes : List ℕ) → AreBytes bytes → (28 < length bytes → is_head 4 bytes ≡ true → number_at 8 8 bytes ≡ length (drop 28 bytes) → number_at 16 8 bytes + length (drop 28 bytes) < 2 ^ 64 → ⊥)
    → if_spelled bytes (values_at CtsDataRow bytes) ≡ None
unfolding values_at layout packet_fits
cts_data-takes bytes h wrong =
    let data' : List ℕ = drop 28 bytes in
    let p : Packet = CtsData (record { 0 = number_at 4 4 bytes }) (number_at 16 8 bytes) (record { 0 = number_at 24 4 bytes }) data' in
    let b : List Field = Number 8 (number_at 16 8 bytes) ∷ Number 4 (number_at 24 4 bytes) ∷ Data data' ∷ [] in
    let a : List Field = Number 8 (length data') ∷ b in
    let z : List Field = Number 4 (number_at 4 4 bytes) ∷ a in
    not-spelled p bytes (λ fit there size.
    let few = and_parts (nat_le 1 (length data')) (nat_lt (number_at 16 8 bytes + length data') (2 ^ 64)) fit in
    let some : 1 ≤ length data' = leb-true 1 (length data') few.0 in
    let room : suc (number_at 16 8 bytes + length data') ≤ 2 ^ 64 = leb-true (suc (number_at 16 8 bytes + length data')) (2 ^ 64) few.1 in
    let whole : 28 + length data' ≡ length bytes = sym (packet-size p) ∙ size in
    let parts = and_parts (is_head 4 bytes) (stands 4 z bytes) (sym (after-head 4 z bytes) ∙ there) in
    let after : stands 8 a bytes ≡ true = sym (stands-own 4 4 a bytes h (omega arith) (omega arith)) ∙ parts.1 in
    let small : length data' < 256 ^ 8 = omega arith in
    let number = and_parts (number_at 8 8 bytes == length data') (stands 16 b bytes) (sym (stands-number 8 8 (length data') b bytes h (omega arith) small (omega arith)) ∙ after) in
    wrong (omega arith) parts.0 ((Decides-eqb (number_at 8 8 bytes) (length data')).0 number.0) (omega arith))
