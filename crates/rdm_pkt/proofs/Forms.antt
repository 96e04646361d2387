-- When bytes are a packet of each row that opens a message.
use Rattle.std.proofs.Common.{◌≡◌, ℕ, zero, suc, ◌+◌, ◌<◌, ◌≤◌, Bool, true, false, List, [], ◌∷◌, length, drop, Some, None, refl, sym, ◌∙◌, arith}
use Rattle.std.specs.Prelude.{nat_le, nat_lt, ◌==◌, ◌&&◌}
use Rattle.std.proofs.lemmas.List.{length-drop}
use Rattle.std.proofs.lemmas.Bool.{and_parts, and_from, leb-true, leb-false, eqb-true, le-leb}
use Rattle.rdm_hdr.specs.Fields.{Field, Number, Data, number_at}
use Rattle.rdm_hdr.proofs.Fronts.{AreBytes, bytes-after}
use Rattle.rdm_pkt.specs.declared.Form.{Form}
use Rattle.rdm_pkt.specs.declared.Form.TheVariants.{Eager, Medium, LongCts}
use Rattle.rdm_pkt.specs.Grammar.{type_of, form_fields, last_fields, confirm_fits, form_fits}
use Rattle.rdm_pkt.specs.Reading.{EagerRow, MediumRow, LongCtsRow, header_size, form_at, rtm_at, if_spelled}
use Rattle.rdm_pkt.specs.Opened.{last_place}
use Rattle.rdm_pkt.proofs.PacketSizes.{size_of, size_of-data}
use Rattle.rdm_pkt.proofs.Stands.{stands-nothing, stands-own, stands-rest}
use Rattle.rdm_pkt.proofs.Rows.{fit-nothing, fit-own, fit-data}
use Rattle.rdm_pkt.proofs.Openers.{Opened, opened, is-opened, opened-room, rtm_of, rtm-row, rtm-is, rtm-takes, size-room, kind_at, kind-small, true-not-false}

-- data that are all that is left end with the bytes
ends : (place : ℕ) (bytes : List ℕ) → place ≤ length bytes → place + size_of (Data (drop place bytes) ∷ []) ≡ length bytes
ends place bytes room = let e = length-drop place bytes in rw (size_of-data (drop place bytes)) (omega arith)

-- a list that is empty
pub is-empty : (n : ℕ) (test : Bool) → test ≡ (n == 0) → test ≡ true → n ≡ 0
is-empty n test e holds = eqb-true n 0 (sym e ∙ holds)

-- a list that is not
pub not-empty : (n : ℕ) (test : Bool) → test ≡ (n == 0) → test ≡ false → 1 ≤ n
not-empty zero test e none = absurd (true-not-false none (e ∙ refl))
not-empty (suc n) test e none = omega arith

-- a number that is not the greater
pub not-above : (a b : ℕ) (test : Bool) → test ≡ nat_le a b → test ≡ false → b < a
not-above a b test e none = leb-false a b (sym e ∙ none)

-- a number that is not the less
pub not-below : (a b : ℕ) (test : Bool) → test ≡ nat_le a b → test ≡ true → a ≤ b
not-below a b test e holds = leb-true a b (sym e ∙ holds)

-- ---- whole in one packet

-- bytes with the headers of an eager packet are one
pub eager-is : (bytes : List ℕ) → AreBytes bytes → Opened (kind_at 64 bytes) 8 bytes → if_spelled bytes (rtm_at EagerRow bytes) ≡ Some (rtm_of 8 bytes (Eager (drop (last_place 8 bytes) bytes)))
unfolding header_size form_at type_of confirm_fits form_fits form_fields last_fields
eager-is bytes h o =
    let place : ℕ = last_place 8 bytes in
    let form : Form = Eager (drop place bytes) in
    rw (rtm-row EagerRow bytes)
    (rtm-is (kind_at 64 bytes) 8 form bytes h refl (kind-small 64 bytes (omega arith)) refl (is-opened (kind_at 64 bytes) 8 bytes o) refl refl fit-nothing (fit-data (drop place bytes) (bytes-after place bytes h)) (stands-nothing 8 bytes) (stands-rest place bytes) (ends place bytes (opened-room (kind_at 64 bytes) 8 bytes o)))

-- what an eager packet takes
pub eager-takes : (bytes : List ℕ) → AreBytes bytes → (Opened (kind_at 64 bytes) 8 bytes → ⊥) → if_spelled bytes (rtm_at EagerRow bytes) ≡ None
unfolding header_size form_at type_of
eager-takes bytes h wrong =
    rw (rtm-row EagerRow bytes)
    (rtm-takes (kind_at 64 bytes) 8 (Eager (drop (last_place 8 bytes) bytes)) bytes h refl refl (λ test fit form_there last_there end. wrong (opened (kind_at 64 bytes) 8 bytes test)))

-- ---- segments

-- the form with the values that stand there
abbrev medium_at : List ℕ → Form
medium_at bytes = Medium (number_at 8 8 bytes) (number_at 16 8 bytes) (drop (last_place 24 bytes) bytes)

-- bytes with the headers of a segment are one where there are data, and they end in their message
pub medium-is : (bytes : List ℕ) → AreBytes bytes → Opened (kind_at 66 bytes) 24 bytes → 1 ≤ length (drop (last_place 24 bytes) bytes) → number_at 16 8 bytes + length (drop (last_place 24 bytes) bytes) ≤ number_at 8 8 bytes
    → if_spelled bytes (rtm_at MediumRow bytes) ≡ Some (rtm_of 24 bytes (medium_at bytes))
unfolding header_size form_at type_of confirm_fits form_fits form_fields last_fields
medium-is bytes h o some within =
    let place : ℕ = last_place 24 bytes in
    let data' : List ℕ = drop place bytes in
    let room = size-room (kind_at 66 bytes) 24 bytes o in
    let b : List Field = Number 8 (number_at 16 8 bytes) ∷ [] in
    rw (rtm-row MediumRow bytes)
    (rtm-is (kind_at 66 bytes) 24 (medium_at bytes) bytes h refl (kind-small 66 bytes (omega arith)) refl (is-opened (kind_at 66 bytes) 24 bytes o) refl
    (and_from (nat_le 1 (length data')) (nat_le (number_at 16 8 bytes + length data') (number_at 8 8 bytes)) (le-leb 1 (length data') some) (le-leb (number_at 16 8 bytes + length data') (number_at 8 8 bytes) within))
    (fit-own 8 8 b bytes h (fit-own 16 8 [] bytes h fit-nothing)) (fit-data data' (bytes-after place bytes h))
    (stands-own 8 8 b bytes h (omega arith) (omega arith) ∙ stands-own 16 8 [] bytes h (omega arith) (omega arith) ∙ stands-nothing 24 bytes)
    (stands-rest place bytes) (ends place bytes (opened-room (kind_at 66 bytes) 24 bytes o)))

-- what a segment takes
pub medium-takes : (bytes : List ℕ) → AreBytes bytes → (Opened (kind_at 66 bytes) 24 bytes → 1 ≤ length (drop (last_place 24 bytes) bytes) → number_at 16 8 bytes + length (drop (last_place 24 bytes) bytes) ≤ number_at 8 8 bytes → ⊥)
    → if_spelled bytes (rtm_at MediumRow bytes) ≡ None
unfolding header_size form_at type_of form_fits
medium-takes bytes h wrong =
    let data' : List ℕ = drop (last_place 24 bytes) bytes in
    rw (rtm-row MediumRow bytes)
    (rtm-takes (kind_at 66 bytes) 24 (medium_at bytes) bytes h refl refl (λ test fit form_there last_there end.
    let parts = and_parts (nat_le 1 (length data')) (nat_le (number_at 16 8 bytes + length data') (number_at 8 8 bytes)) fit in
    wrong (opened (kind_at 66 bytes) 24 bytes test) (leb-true 1 (length data') parts.0) (leb-true (number_at 16 8 bytes + length data') (number_at 8 8 bytes) parts.1)))

-- ---- a first part that asks for grants

-- the form with the values that stand there
abbrev long_cts_at : List ℕ → Form
long_cts_at bytes = LongCts (number_at 8 8 bytes) (record { 0 = number_at 16 4 bytes }) (number_at 20 4 bytes) (drop (last_place 24 bytes) bytes)

-- bytes with the headers of a first part are one where there are data, fewer than the message has, and credits
pub long_cts-is : (bytes : List ℕ) → AreBytes bytes → Opened (kind_at 68 bytes) 24 bytes → 1 ≤ length (drop (last_place 24 bytes) bytes) → length (drop (last_place 24 bytes) bytes) < number_at 8 8 bytes → 1 ≤ number_at 20 4 bytes
    → if_spelled bytes (rtm_at LongCtsRow bytes) ≡ Some (rtm_of 24 bytes (long_cts_at bytes))
unfolding header_size form_at type_of confirm_fits form_fits form_fields last_fields
long_cts-is bytes h o some part credits =
    let place : ℕ = last_place 24 bytes in
    let data' : List ℕ = drop place bytes in
    let room = size-room (kind_at 68 bytes) 24 bytes o in
    let d : List Field = Number 4 (number_at 20 4 bytes) ∷ [] in
    let b : List Field = Number 4 (number_at 16 4 bytes) ∷ d in
    rw (rtm-row LongCtsRow bytes)
    (rtm-is (kind_at 68 bytes) 24 (long_cts_at bytes) bytes h refl (kind-small 68 bytes (omega arith)) refl (is-opened (kind_at 68 bytes) 24 bytes o) refl
    (and_from (nat_le 1 (length data') && nat_lt (length data') (number_at 8 8 bytes)) (nat_le 1 (number_at 20 4 bytes))
    (and_from (nat_le 1 (length data')) (nat_lt (length data') (number_at 8 8 bytes)) (le-leb 1 (length data') some) (le-leb (suc (length data')) (number_at 8 8 bytes) (omega arith)))
    (le-leb 1 (number_at 20 4 bytes) credits))
    (fit-own 8 8 b bytes h (fit-own 16 4 d bytes h (fit-own 20 4 [] bytes h fit-nothing))) (fit-data data' (bytes-after place bytes h))
    (stands-own 8 8 b bytes h (omega arith) (omega arith) ∙ stands-own 16 4 d bytes h (omega arith) (omega arith) ∙ stands-own 20 4 [] bytes h (omega arith) (omega arith) ∙ stands-nothing 24 bytes)
    (stands-rest place bytes) (ends place bytes (opened-room (kind_at 68 bytes) 24 bytes o)))

-- what a first part takes
pub long_cts-takes : (bytes : List ℕ) → AreBytes bytes → (Opened (kind_at 68 bytes) 24 bytes → 1 ≤ length (drop (last_place 24 bytes) bytes) → length (drop (last_place 24 bytes) bytes) < number_at 8 8 bytes → 1 ≤ number_at 20 4 bytes → ⊥)
    → if_spelled bytes (rtm_at LongCtsRow bytes) ≡ None
unfolding header_size form_at type_of form_fits
long_cts-takes bytes h wrong =
    let data' : List ℕ = drop (last_place 24 bytes) bytes in
    rw (rtm-row LongCtsRow bytes)
    (rtm-takes (kind_at 68 bytes) 24 (long_cts_at bytes) bytes h refl refl (λ test fit form_there last_there end.
    let halves = and_parts (nat_le 1 (length data') && nat_lt (length data') (number_at 8 8 bytes)) (nat_le 1 (number_at 20 4 bytes)) fit in
    let parts = and_parts (nat_le 1 (length data')) (nat_lt (length data') (number_at 8 8 bytes)) halves.0 in
    let less : suc (length data') ≤ number_at 8 8 bytes = leb-true (suc (length data')) (number_at 8 8 bytes) parts.1 in
    wrong (opened (kind_at 68 bytes) 24 bytes test) (leb-true 1 (length data') parts.0) (omega arith) (leb-true 1 (number_at 20 4 bytes) halves.1)))
