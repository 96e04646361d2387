-- When bytes are a packet of a row that has a read list.
use Rattle.std.proofs.Common.{◌≡◌, ℕ, suc, ◌+◌, ◌*◌, ◌<◌, ◌≤◌, ◌^◌, true, List, [], ◌∷◌, ◌++◌, length, drop, min, Some, None, refl, sym, ap, ◌∙◌, append-nil, arith}
use Rattle.std.specs.Prelude.{◌==◌, ◌&&◌, flat_map}
use Rattle.std.proofs.lemmas.List.{length-drop}
use Rattle.std.proofs.lemmas.Bool.{and_parts, leb-true, eqb-true, le-leb}
use Rattle.rdm_num.specs.declared.lists.IovEntry.{IovEntry}
use Rattle.rdm_hdr.specs.Fields.{Field, Number, Data, fields_fit, number_at}
use Rattle.rdm_hdr.proofs.Fronts.{AreBytes, bytes-after}
use Rattle.rdm_pkt.specs.declared.Form.{Form}
use Rattle.rdm_pkt.specs.declared.Form.TheVariants.{LongRead, Runt}
use Rattle.rdm_pkt.specs.Grammar.{type_of, form_fields, last_fields, confirm_fits, form_fits, iov_fits, entry_fields}
use Rattle.rdm_pkt.specs.Reading.{LongReadRow, RuntRow, header_size, form_at, rtm_at, iov_at, if_spelled}
use Rattle.rdm_pkt.specs.Opened.{last_place}
use Rattle.rdm_pkt.proofs.PacketSizes.{size_of, size_of-data, size_of-append, iov-size}
use Rattle.rdm_pkt.proofs.Stands.{stands, stands-nothing, stands-own, stands-number, stands-rest}
use Rattle.rdm_pkt.proofs.Rows.{fit-nothing, fit-own, fit-data}
use Rattle.rdm_pkt.proofs.ReadLists.{length-iov_at, fit-iov, stands-iov}
use Rattle.rdm_pkt.proofs.Openers.{Opened, opened, is-opened, rtm_of, rtm-row, rtm-is, rtm-takes, size-room, opened-plain}

-- how many ranges are read
abbrev pub count_at : List ℕ → ℕ
count_at bytes = min 4 (number_at 20 4 bytes)

-- four or fewer have room in four bytes
few-below : (n : ℕ) → min 4 n < 256 ^ 4
few-below n = omega arith

-- the count of ranges stands there where it is no more than four
count-stands : (more : List Field) (bytes : List ℕ) (place : ℕ) → AreBytes bytes → 24 ≤ length bytes
    → stands 20 (Number 4 (length (iov_at place (count_at bytes) bytes)) ∷ more) bytes ≡ ((number_at 20 4 bytes == count_at bytes) && stands 24 more bytes)
count-stands more bytes place h room =
    rw (length-iov_at place (count_at bytes) bytes) (stands-number 20 4 (count_at bytes) more bytes h (omega arith) (few-below (number_at 20 4 bytes)) room)

-- ---- a read

-- the form with the values that stand there
abbrev pub long_read_at : List ℕ → Form
long_read_at bytes = LongRead (number_at 8 8 bytes) (record { 0 = number_at 16 4 bytes }) (iov_at (last_place 24 bytes) (count_at bytes) bytes)

-- bytes with the headers of a read are one where they end with a read list that meets its conditions
pub long_read-is : (bytes : List ℕ) → AreBytes bytes → Opened 128 24 bytes → number_at 20 4 bytes ≤ 4 → length bytes ≡ last_place 24 bytes + 24 * count_at bytes → iov_fits (iov_at (last_place 24 bytes) (count_at bytes) bytes) (number_at 8 8 bytes) ≡ true
    → if_spelled bytes (rtm_at LongReadRow bytes) ≡ Some (rtm_of 24 bytes (long_read_at bytes))
unfolding header_size form_at type_of confirm_fits form_fits form_fields last_fields
long_read-is bytes h o few end fit =
    let place : ℕ = last_place 24 bytes in
    let iov : List IovEntry = iov_at place (count_at bytes) bytes in
    let counted = length-iov_at place (count_at bytes) bytes in
    let room = size-room 128 24 bytes o in
    let all : count_at bytes ≡ number_at 20 4 bytes = omega arith in
    let same : length iov ≡ number_at 20 4 bytes = counted ∙ all in
    let d : List Field = Number 4 (number_at 20 4 bytes) ∷ [] in
    let b : List Field = Number 4 (number_at 16 4 bytes) ∷ d in
    let last : fields_fit (flat_map entry_fields iov) ≡ true =
    ap fields_fit (sym (append-nil (flat_map entry_fields iov))) ∙ fit-iov place (count_at bytes) [] bytes h fit-nothing in
    let there : stands place (flat_map entry_fields iov) bytes ≡ true =
    ap (λ (fields : List Field). stands place fields bytes) (sym (append-nil (flat_map entry_fields iov)))
    ∙ stands-iov place (count_at bytes) [] bytes h (omega arith) ∙ stands-nothing (place + 24 * count_at bytes) bytes in
    let whole : place + size_of (flat_map entry_fields iov) ≡ length bytes = let e = iov-size iov in omega (arith, e, counted, end) in
    rw (rtm-row LongReadRow bytes)
    (rtm-is 128 24 (long_read_at bytes) bytes h refl (omega arith) refl (is-opened 128 24 bytes o) (opened-plain 128 24 bytes h (omega arith) (omega arith) o) fit
    (rw same (fit-own 8 8 b bytes h (fit-own 16 4 d bytes h (fit-own 20 4 [] bytes h fit-nothing)))) last
    (rw same (stands-own 8 8 b bytes h (omega arith) (omega arith) ∙ stands-own 16 4 d bytes h (omega arith) (omega arith) ∙ stands-own 20 4 [] bytes h (omega arith) (omega arith) ∙ stands-nothing 24 bytes))
    there whole)

-- what a read takes
pub long_read-takes : (bytes : List ℕ) → AreBytes bytes
    → (Opened 128 24 bytes → number_at 20 4 bytes ≤ 4 → length bytes ≡ last_place 24 bytes + 24 * count_at bytes → iov_fits (iov_at (last_place 24 bytes) (count_at bytes) bytes) (number_at 8 8 bytes) ≡ true → ⊥)
    → if_spelled bytes (rtm_at LongReadRow bytes) ≡ None
unfolding header_size form_at type_of form_fits form_fields last_fields
long_read-takes bytes h wrong =
    let place : ℕ = last_place 24 bytes in
    let iov : List IovEntry = iov_at place (count_at bytes) bytes in
    let counted = length-iov_at place (count_at bytes) bytes in
    let d : List Field = Number 4 (length iov) ∷ [] in
    let b : List Field = Number 4 (number_at 16 4 bytes) ∷ d in
    rw (rtm-row LongReadRow bytes)
    (rtm-takes 128 24 (long_read_at bytes) bytes h refl refl (λ test fit form_there last_there end.
    let o = opened 128 24 bytes test in
    let room = size-room 128 24 bytes o in
    let at_count : stands 20 d bytes ≡ true = sym (stands-own 8 8 b bytes h (omega arith) (omega arith) ∙ stands-own 16 4 d bytes h (omega arith) (omega arith)) ∙ form_there in
    let count = and_parts (number_at 20 4 bytes == count_at bytes) (stands 24 [] bytes) (sym (count-stands [] bytes place h room) ∙ at_count) in
    let same : number_at 20 4 bytes ≡ count_at bytes = eqb-true (number_at 20 4 bytes) (count_at bytes) count.0 in
    let size = iov-size iov in
    wrong o (omega (arith, same)) (omega (arith, size, counted, end)) fit))

-- ---- a first part ahead of a read

-- where the data of a first part begin
abbrev pub runt_place : List ℕ → ℕ
runt_place bytes = last_place 40 bytes + 24 * count_at bytes

-- the form with the values that stand there
abbrev pub runt_at : List ℕ → Form
runt_at bytes =
    Runt (number_at 8 8 bytes) (record { 0 = number_at 16 4 bytes }) (iov_at (last_place 40 bytes) (count_at bytes) bytes) (number_at 24 8 bytes) (number_at 32 8 bytes) (drop (runt_place bytes) bytes)

-- what is asked of a first part beside its headers
pub record RuntParts (bytes : List ℕ) : Type 0 where
  pub few : number_at 20 4 bytes ≤ 4
  pub some : runt_place bytes < length bytes
  pub iov : iov_fits (iov_at (last_place 40 bytes) (count_at bytes) bytes) (number_at 8 8 bytes) ≡ true
  pub within : number_at 32 8 bytes + length (drop (runt_place bytes) bytes) ≤ number_at 24 8 bytes
  pub part : number_at 24 8 bytes < number_at 8 8 bytes

-- bytes with the headers of a first part are one where the parts are as they must be
pub runt-is : (bytes : List ℕ) → AreBytes bytes → Opened 192 40 bytes → RuntParts bytes → if_spelled bytes (rtm_at RuntRow bytes) ≡ Some (rtm_of 40 bytes (runt_at bytes))
unfolding header_size form_at type_of confirm_fits form_fits form_fields last_fields
runt-is bytes h o parts =
    let place : ℕ = last_place 40 bytes in
    let iov : List IovEntry = iov_at place (count_at bytes) bytes in
    let data' : List ℕ = drop (runt_place bytes) bytes in
    let counted = length-iov_at place (count_at bytes) bytes in
    let room = size-room 192 40 bytes o in
    let few = parts.few in
    let some = parts.some in
    let within = parts.within in
    let left = length-drop (runt_place bytes) bytes in
    let all : count_at bytes ≡ number_at 20 4 bytes = omega arith in
    let same : length iov ≡ number_at 20 4 bytes = counted ∙ all in
    let f : List Field = Number 8 (number_at 32 8 bytes) ∷ [] in
    let e : List Field = Number 8 (number_at 24 8 bytes) ∷ f in
    let d : List Field = Number 4 (number_at 20 4 bytes) ∷ e in
    let b : List Field = Number 4 (number_at 16 4 bytes) ∷ d in
    let fit : form_fits (runt_at bytes) ≡ true =
    rw (parts.iov, le-leb 1 (length data') (omega arith), le-leb (number_at 32 8 bytes + length data') (number_at 24 8 bytes) within, le-leb 1 (number_at 24 8 bytes) (omega arith), le-leb (suc (number_at 24 8 bytes)) (number_at 8 8 bytes) (let part = parts.part in omega arith)) refl in
    let whole : place + size_of (flat_map entry_fields iov ++ Data data' ∷ []) ≡ length bytes =
    rw (size_of-append (flat_map entry_fields iov) (Data data' ∷ []), size_of-data data', iov-size iov, counted) (omega arith) in
    rw (rtm-row RuntRow bytes)
    (rtm-is 192 40 (runt_at bytes) bytes h refl (omega arith) refl (is-opened 192 40 bytes o) (opened-plain 192 40 bytes h (omega arith) (omega arith) o) fit
    (rw same (fit-own 8 8 b bytes h (fit-own 16 4 d bytes h (fit-own 20 4 e bytes h (fit-own 24 8 f bytes h (fit-own 32 8 [] bytes h fit-nothing))))))
    (fit-iov place (count_at bytes) (Data data' ∷ []) bytes h (fit-data data' (bytes-after (runt_place bytes) bytes h)))
    (rw same (stands-own 8 8 b bytes h (omega arith) (omega arith) ∙ stands-own 16 4 d bytes h (omega arith) (omega arith) ∙ stands-own 20 4 e bytes h (omega arith) (omega arith) ∙ stands-own 24 8 f bytes h (omega arith) (omega arith) ∙ stands-own 32 8 [] bytes h (omega arith) (omega arith) ∙ stands-nothing 40 bytes))
    (stands-iov place (count_at bytes) (Data data' ∷ []) bytes h (omega arith) ∙ stands-rest (runt_place bytes) bytes) whole)

-- what a first part takes
pub runt-takes : (bytes : List ℕ) → AreBytes bytes → (Opened 192 40 bytes → RuntParts bytes → ⊥) → if_spelled bytes (rtm_at RuntRow bytes) ≡ None
unfolding header_size form_at type_of form_fits form_fields last_fields
runt-takes bytes h wrong =
    let place : ℕ = last_place 40 bytes in
    let iov : List IovEntry = iov_at place (count_at bytes) bytes in
    let data' : List ℕ = drop (runt_place bytes) bytes in
    let counted = length-iov_at place (count_at bytes) bytes in
    let left = length-drop (runt_place bytes) bytes in
    let e : List Field = Number 8 (number_at 24 8 bytes) ∷ Number 8 (number_at 32 8 bytes) ∷ [] in
    let d : List Field = Number 4 (length iov) ∷ e in
    let b : List Field = Number 4 (number_at 16 4 bytes) ∷ d in
    rw (rtm-row RuntRow bytes)
    (rtm-takes 192 40 (runt_at bytes) bytes h refl refl (λ test fit form_there last_there end.
    let o = opened 192 40 bytes test in
    let room = size-room 192 40 bytes o in
    let at_count : stands 20 d bytes ≡ true = sym (stands-own 8 8 b bytes h (omega arith) (omega arith) ∙ stands-own 16 4 d bytes h (omega arith) (omega arith)) ∙ form_there in
    let count = and_parts (number_at 20 4 bytes == count_at bytes) (stands 24 e bytes) (sym (count-stands e bytes place h (omega arith)) ∙ at_count) in
    let same : number_at 20 4 bytes ≡ count_at bytes = eqb-true (number_at 20 4 bytes) (count_at bytes) count.0 in
    let p = and_parts _ _ fit in
    let q = and_parts _ _ p.0 in
    let r = and_parts _ _ q.0 in
    let s = and_parts _ _ r.0 in
    let some : 1 ≤ length data' = leb-true 1 (length data') s.1 in
    let within : number_at 32 8 bytes + length data' ≤ number_at 24 8 bytes = leb-true (number_at 32 8 bytes + length data') (number_at 24 8 bytes) r.1 in
    let part : suc (number_at 24 8 bytes) ≤ number_at 8 8 bytes = leb-true (suc (number_at 24 8 bytes)) (number_at 8 8 bytes) p.1 in
    wrong o (record { few = omega (arith, same); some = omega arith; iov = s.0; within = within; part = omega arith })))

-- the same ranges, from equal places and counts
pub same-iov : (place place' count count' : ℕ) (bytes : List ℕ) → place ≡ place' → count ≡ count' → iov_at place count bytes ≡ iov_at place' count' bytes
same-iov place place' count count' bytes p q = rw (p, q) refl
