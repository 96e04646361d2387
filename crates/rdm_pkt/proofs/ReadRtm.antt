-- Packets that open a message are read as they are spelled, and so is each packet.
use Rattle.std.proofs.Common.{◌≡◌, ℕ, ◌+◌, ◌*◌, min, Bool, true, false, cond, ◌&&◌, List, [], ◌∷◌, ◌++◌, length, Option, Some, None, refl, sym, ap, ◌∙◌, arith, subst}
use Rattle.std.specs.Prelude.{is_some, bytes_eq}
use Rattle.std.proofs.lemmas.Slice.Eq.{bytes_eq-Decides}
use Rattle.std.proofs.lemmas.Option.{option_and_then_some}
use Rattle.std.specs.List.{flat_map}
use Rattle.std.specs.Bool.{then_some}
use Rattle.std.proofs.lemmas.Bool.{and_parts, leb-true}
use Rattle.std.proofs.lemmas.List.{append-nil}
use Rattle.std.proofs.Math.Nat.{min-eq_right}
use Rattle.rdm_hdr.specs.declared.Opt.{Opt}
use Rattle.rdm_hdr.specs.Fields.{Field, Number, Data, number_at, has_bit}
use Rattle.rdm_hdr.specs.Headers.{base_fields, opt_fields, opt_flags, opt_size, opt_at}
use Rattle.rdm_num.specs.declared.numbers.MsgNo.{MsgNo}
use Rattle.rdm_num.specs.declared.lists.IovEntry.{IovEntry}
use Rattle.rdm_pkt.specs.declared.Packet.{Packet}
use Rattle.rdm_pkt.specs.declared.Packet.TheVariants.{Rtm, Cts, CtsData, Eor, Handshake, Receipt}
use Rattle.rdm_pkt.specs.declared.Form.{Form}
use Rattle.rdm_pkt.specs.declared.Form.TheVariants.{Eager, Medium, LongCts, LongRead, Runt}
use Rattle.rdm_pkt.specs.Grammar.{type_of, form_fields, entry_fields, last_fields, tag_fields, rtm_flags, head_fields, layout, packet_fits, form_fits, iov_fits, confirm_fits, opt_fits, fits, spelling, Spells}
use Rattle.rdm_pkt.specs.Reading.{Row, row_of, iov_at, confirm_at, header_size, form_at, rtm_at, values_at, if_spelled, packet_in, IsReadAs}
use Rattle.rdm_pkt.specs.Laws.{OneSpelling, OnePacket}
use Rattle.rdm_pkt.proofs.ReadFields.{At, at_number, at_data, at_place}
use Rattle.rdm_pkt.proofs.ReadFixed.{at_layout, packet_fit, after_head, read_by, cts_is_read, cts_data_is_read, eor_is_read, receipt_is_read}
use Rattle.rdm_pkt.proofs.ReadHandshakes.{handshake_is_read}
use Rattle.rdm_pkt.proofs.ReadOpenings.{form_row, row_of_type, confirm_back, Flags, flags_tell, after_number, opt_back}

-- a tag is read
tag_back : (place : ℕ) (tag : Option ℕ) (bytes : List ℕ) (rest : List Field) → At place bytes (tag_fields tag ++ rest)
    → (then_some (is_some tag) (number_at place 8 bytes) ≡ tag) × At (place + (cond (is_some tag) 8 0)) bytes rest
unfolding tag_fields
tag_back place None bytes rest a = (refl, at_place place (place + 0) bytes rest (omega arith) a)
tag_back place (Some n) bytes rest a = let r = at_number place 8 n bytes rest a in (ap Some r.0, r.1)

-- a read list is read
iov_back : (place : ℕ) (iov : List IovEntry) (bytes : List ℕ) (rest : List Field) → At place bytes (flat_map entry_fields iov ++ rest)
    → (iov_at place (length iov) bytes ≡ iov) × At (place + 24 * length iov) bytes rest
unfolding iov_at entry_fields
iov_back place [] bytes rest a = (refl, at_place place (place + 24 * length {A = IovEntry} []) bytes rest (omega arith) a)
iov_back place (e ∷ es) bytes rest a =
    let offset = at_number place 8 e.offset bytes (Number 8 e.length ∷ Number 8 e.key ∷ (flat_map entry_fields es ++ rest)) a in
    let size = at_number (place + 8) 8 e.length bytes (Number 8 e.key ∷ (flat_map entry_fields es ++ rest)) offset.1 in
    let key = at_number (place + 16) 8 e.key bytes (flat_map entry_fields es ++ rest) (at_place (place + 8 + 8) (place + 16) bytes _ (omega arith) size.1) in
    let others = iov_back (place + 24) es bytes rest (at_place (place + 16 + 8) (place + 24) bytes _ (omega arith) key.1) in
    (rw (offset.0, size.0, key.0, others.0) refl, at_place (place + 24 + 24 * length es) (place + 24 * length (e ∷ es)) bytes rest (omega arith) others.1)

-- the values of the mandatory header of a form stand at their places
abbrev HasHeader : Form → List ℕ → Type 0
HasHeader (Eager data') bytes = Unit {0}
HasHeader (Medium size offset data') bytes = (number_at 8 8 bytes ≡ size) × (number_at 16 8 bytes ≡ offset)
HasHeader (LongCts size send credits data') bytes = (number_at 8 8 bytes ≡ size) × (number_at 16 4 bytes ≡ send.0) × (number_at 20 4 bytes ≡ credits)
HasHeader (LongRead size send iov) bytes = (number_at 8 8 bytes ≡ size) × (number_at 16 4 bytes ≡ send.0) × (number_at 20 4 bytes ≡ length iov)
HasHeader (Runt size send iov runt offset data') bytes =
    (number_at 8 8 bytes ≡ size) × (number_at 16 4 bytes ≡ send.0) × (number_at 20 4 bytes ≡ length iov) × (number_at 24 8 bytes ≡ runt) × (number_at 32 8 bytes ≡ offset)

-- the mandatory header of a form is read
header_back : (form : Form) (bytes : List ℕ) (rest : List Field) → At 8 bytes (form_fields form ++ rest)
    → HasHeader form bytes × At (header_size (form_row form)) bytes rest
unfolding form_fields header_size form_row
header_back (Eager data') bytes rest a = (tt, a)
header_back (Medium size offset data') bytes rest a =
    let x = at_number 8 8 size bytes (Number 8 offset ∷ rest) a in
    let y = at_number 16 8 offset bytes rest x.1 in
    ((x.0, y.0), y.1)
header_back (LongCts size send credits data') bytes rest a =
    let x = at_number 8 8 size bytes (Number 4 send.0 ∷ Number 4 credits ∷ rest) a in
    let y = at_number 16 4 send.0 bytes (Number 4 credits ∷ rest) x.1 in
    let z = at_number 20 4 credits bytes rest y.1 in
    ((x.0, y.0, z.0), z.1)
header_back (LongRead size send iov) bytes rest a =
    let x = at_number 8 8 size bytes (Number 4 send.0 ∷ Number 4 (length iov) ∷ rest) a in
    let y = at_number 16 4 send.0 bytes (Number 4 (length iov) ∷ rest) x.1 in
    let z = at_number 20 4 (length iov) bytes rest y.1 in
    ((x.0, y.0, z.0), z.1)
header_back (Runt size send iov runt offset data') bytes rest a =
    let x = at_number 8 8 size bytes (Number 4 send.0 ∷ Number 4 (length iov) ∷ Number 8 runt ∷ Number 8 offset ∷ rest) a in
    let y = at_number 16 4 send.0 bytes (Number 4 (length iov) ∷ Number 8 runt ∷ Number 8 offset ∷ rest) x.1 in
    let z = at_number 20 4 (length iov) bytes (Number 8 runt ∷ Number 8 offset ∷ rest) y.1 in
    let u = at_number 24 8 runt bytes (Number 8 offset ∷ rest) z.1 in
    let v = at_number 32 8 offset bytes rest u.1 in
    ((x.0, y.0, z.0, u.0, v.0), v.1)

-- a read list of at most 4 ranges is counted
iov_count : (iov : List IovEntry) (size m : ℕ) → iov_fits iov size ≡ true → m ≡ length iov → min 4 m ≡ length iov
unfolding iov_fits
iov_count iov size m h e =
    let parts = and_parts _ _ (and_parts _ _ (and_parts _ _ h).0).0 in
    rw e (min-eq_right (leb-true (length iov) 4 parts.1))

-- a form is read
form_back : (form : Form) (place : ℕ) (bytes : List ℕ) → form_fits form ≡ true → HasHeader form bytes → At place bytes (last_fields form)
    → form_at (form_row form) place bytes ≡ form
unfolding form_fits form_at form_row last_fields
form_back (Eager data') place bytes f h a = ap Eager (at_data place bytes data' a)
form_back (Medium size offset data') place bytes f h a = rw (h.0, h.1, at_data place bytes data' a) refl
form_back (LongCts size send credits data') place bytes f h a = rw (h.0, h.1, h.2, at_data place bytes data' a) refl
form_back (LongRead size send iov) place bytes f h a =
    let list = iov_back place iov bytes [] (subst (λ (fs : List Field). At place bytes fs) (sym (append-nil (flat_map entry_fields iov))) a) in
    let count = iov_count iov size (number_at 20 4 bytes) f h.2 in
    rw (h.0, h.1, count, list.0) refl
form_back (Runt size send iov runt offset data') place bytes f h a =
    let list = iov_back place iov bytes (Data data' ∷ []) a in
    let count = iov_count iov size (number_at 20 4 bytes) (and_parts _ _ (and_parts _ _ (and_parts _ _ (and_parts _ _ f).0).0).0).0 h.2 in
    rw (h.0, h.1, h.3, h.4, count, list.0, at_data (place + 24 * length iov) bytes data' list.1) refl

-- a row that opens a message
opens : (form : Form) (bytes : List ℕ) → values_at (form_row form) bytes ≡ rtm_at (form_row form) bytes
unfolding values_at form_row
opens (Eager data') bytes = refl
opens (Medium size offset data') bytes = refl
opens (LongCts size send credits data') bytes = refl
opens (LongRead size send iov) bytes = refl
opens (Runt size send iov runt offset data') bytes = refl

-- a packet that opens a message, where all its values are read
rtm_at_from : (row : Row) (number : MsgNo) (tag : Option ℕ) (confirm : Bool) (opt : Opt) (form : Form) (bytes : List ℕ)
    → number_at 4 4 bytes ≡ number.0
    → has_bit 3 (number_at 2 2 bytes) ≡ is_some tag
    → then_some (is_some tag) (number_at (header_size row) 8 bytes) ≡ tag
    → confirm_at bytes ≡ confirm
    → opt_at (header_size row + (cond (is_some tag) 8 0)) (number_at 2 2 bytes) bytes ≡ opt
    → form_at row (header_size row + (cond (is_some tag) 8 0) + opt_size opt) bytes ≡ form
    → rtm_at row bytes ≡ Rtm number tag confirm opt form
unfolding rtm_at
rtm_at_from row number tag confirm opt form bytes n t g d o f = rw (t, g, d, o, f, n) refl

-- a packet that opens a message is read
pub rtm_is_read : (number : MsgNo) (tag : Option ℕ) (confirm : Bool) (opt : Opt) (form : Form) (bytes : List ℕ) → Spells (Rtm number tag confirm opt form) bytes
    → packet_in bytes ≡ Some (Rtm number tag confirm opt form)
unfolding layout packet_fits rtm_flags opt_flags head_fields base_fields
rtm_is_read number tag confirm opt form bytes s =
    let kind : ℕ = type_of confirm form + (cond (is_some tag) 1 0) in
    let fit = and_parts (confirm_fits confirm form && opt_fits opt) (form_fits form) (packet_fit (Rtm number tag confirm opt form) bytes s) in
    let agrees = and_parts (confirm_fits confirm form) (opt_fits opt) fit.0 in
    let flags = flags_tell (is_some tag) (is_some opt.raw) (is_some opt.cq_data) (is_some opt.connid) in
    let head = after_head kind (rtm_flags tag opt) bytes (Number 4 number.0 ∷ (((form_fields form ++ tag_fields tag) ++ opt_fields opt) ++ last_fields form)) (at_layout (Rtm number tag confirm opt form) bytes s) in
    let number' = after_number number.0 bytes (form_fields form) (tag_fields tag) (opt_fields opt) (last_fields form) head.2 in
    let header = header_back form bytes (tag_fields tag ++ (opt_fields opt ++ last_fields form)) number'.1 in
    let tag' = tag_back (header_size (form_row form)) tag bytes (opt_fields opt ++ last_fields form) header.1 in
    let own_flags : Flags (number_at 2 2 bytes) (is_some tag) (is_some opt.raw) (is_some opt.cq_data) (is_some opt.connid) =
    subst (λ (f : ℕ). Flags f (is_some tag) (is_some opt.raw) (is_some opt.cq_data) (is_some opt.connid)) (sym head.1) flags in
    let opt' = opt_back (header_size (form_row form) + (cond (is_some tag) 8 0)) (number_at 2 2 bytes) (is_some tag) opt bytes (last_fields form) own_flags tag'.1 in
    let form' = form_back form (header_size (form_row form) + (cond (is_some tag) 8 0) + opt_size opt) bytes fit.1 header.0 opt'.1 in
    read_by (form_row form) kind (Rtm number tag confirm opt form) bytes s head.0 (row_of_type confirm form tag)
    (opens form bytes ∙ rtm_at_from (form_row form) number tag confirm opt form bytes number'.0 own_flags.0 tag'.0 (confirm_back confirm form tag bytes agrees.0 head.0) opt'.0 form')

-- bytes are read as the packet that they spell
pub packet_is_read : (p : Packet) (bytes : List ℕ) → Spells p bytes → packet_in bytes ≡ Some p
packet_is_read (Rtm number tag confirm opt form) bytes s = rtm_is_read number tag confirm opt form bytes s
packet_is_read (Cts send recv size connid) bytes s = cts_is_read send recv size connid bytes s
packet_is_read (CtsData recv offset connid data') bytes s = cts_data_is_read recv offset connid data' bytes s
packet_is_read (Eor send recv connid) bytes s = eor_is_read send recv connid bytes s
packet_is_read (Handshake words connid raw) bytes s = handshake_is_read words connid raw bytes s
packet_is_read (Receipt number connid) bytes s = receipt_is_read number connid bytes s

-- bytes spell one packet at most
pub one_packet : OnePacket
one_packet p q bytes a b = let x = packet_is_read p bytes a in let y = packet_is_read q bytes b in cc

-- what passes the test was spelled
passed_is_spelled : (bytes : List ℕ) (p q : Packet) → if_spelled bytes p ≡ Some q → Spells q bytes
unfolding if_spelled
passed_is_spelled bytes p q h =
    (elim (fits p && bytes_eq (spelling p) bytes) as (λ b. (fits p && bytes_eq (spelling p) bytes) ≡ b → then_some b p ≡ Some q → Spells q bytes) [
      | true ↦ λ is k.
          let parts = and_parts (fits p) (bytes_eq (spelling p) bytes) is in
          let own : Spells p bytes = (parts.0, sym ((bytes_eq-Decides (spelling p) bytes).0 parts.1)) in
          let same : p ≡ q = cc in
          subst (λ (x : Packet). Spells x bytes) same own
      | false ↦ λ is k. cc
    ]) refl h

-- a packet that is read was spelled
pub read_is_spelled : (bytes : List ℕ) (p : Packet) → packet_in bytes ≡ Some p → Spells p bytes
unfolding packet_in
read_is_spelled bytes p h =
    option_and_then_some (λ row. if_spelled bytes (values_at row bytes)) (row_of (number_at 0 1 bytes)) p h (λ row r k. passed_is_spelled bytes (values_at row bytes) p k)

-- so bytes are read as what they spell, and as nothing where they spell no packet
pub read_as : (bytes : List ℕ) (r : Option Packet) → r ≡ packet_in bytes → IsReadAs bytes r
read_as bytes (Some p) is = read_is_spelled bytes p (sym is)
read_as bytes None is = λ p s. let x = packet_is_read p bytes s in cc

-- a packet has one spelling at most
pub one_spelling : OneSpelling
one_spelling p a b s t = s.1 ∙ sym t.1
