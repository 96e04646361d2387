-- Packets of one shape are read as they are spelled: grants, granted bytes, ends, and receipts.
use Rattle.std.proofs.Common.{◌≡◌, ℕ, Bool, true, List, [], ◌∷◌, ◌++◌, length, Some, refl, sym, ap}
use Rattle.std.specs.Prelude.{bytes_eq}
use Rattle.std.specs.Bool.{then_some}
use Rattle.std.proofs.lemmas.Bool.{and_parts, and_from}
use Rattle.std.proofs.lemmas.Slice.Eq.{bytes_eq-Decides}
use Rattle.rdm_hdr.specs.Fields.{Field, Number, Data, fields_fit, number_at}
use Rattle.rdm_hdr.specs.Headers.{base_fields}
use Rattle.rdm_num.specs.declared.numbers.OpId.{OpId}
use Rattle.rdm_num.specs.declared.numbers.Connid.{Connid}
use Rattle.rdm_num.specs.declared.numbers.MsgNo.{MsgNo}
use Rattle.rdm_pkt.specs.declared.Packet.{Packet}
use Rattle.rdm_pkt.specs.declared.Packet.TheVariants.{Cts, CtsData, Eor, Receipt}
use Rattle.rdm_pkt.specs.Grammar.{head_fields, layout, packet_fits, fits, spelling, Spells}
use Rattle.rdm_pkt.specs.Reading.{Row, CtsRow, CtsDataRow, EorRow, ReceiptRow, row_of, values_at, if_spelled, packet_in}
use Rattle.rdm_pkt.proofs.ReadFields.{At, at_start, at_number, at_data}

-- the fields of a packet stand at the start of its bytes
pub at_layout : (p : Packet) (bytes : List ℕ) → Spells p bytes → At 0 bytes (layout p)
unfolding fits spelling
at_layout p bytes s = at_start bytes (layout p) (and_parts (packet_fits p) (fields_fit (layout p)) s.0).1 s.1

-- a packet meets its conditions
pub packet_fit : (p : Packet) (bytes : List ℕ) → Spells p bytes → packet_fits p ≡ true
unfolding fits
packet_fit p bytes s = (and_parts (packet_fits p) (fields_fit (layout p)) s.0).0

-- the packet that was spelled passes the test
pub spelled_passes : (p : Packet) (bytes : List ℕ) → Spells p bytes → if_spelled bytes p ≡ Some p
unfolding if_spelled
spelled_passes p bytes s = ap (λ (b : Bool). then_some b p) (and_from (fits p) (bytes_eq (spelling p) bytes) s.0 ((bytes_eq-Decides (spelling p) bytes).1 (sym s.1)))

-- bytes are the packet that they spell, if its type has that row and the values there are its own
pub read_by : (row : Row) (kind : ℕ) (p : Packet) (bytes : List ℕ) → Spells p bytes → number_at 0 1 bytes ≡ kind → row_of kind ≡ Some row → values_at row bytes ≡ p
    → packet_in bytes ≡ Some p
unfolding packet_in
read_by row kind p bytes s k r v = rw (k, r, v) (spelled_passes p bytes s)

-- the type and the fields after the base header
pub after_head : (kind flags : ℕ) (bytes : List ℕ) (rest : List Field) → At 0 bytes (head_fields kind flags ++ rest)
    → (number_at 0 1 bytes ≡ kind) × (number_at 2 2 bytes ≡ flags) × At 4 bytes rest
unfolding head_fields base_fields
after_head kind flags bytes rest a =
    let kind' = at_number 0 1 kind bytes (Number 1 4 ∷ Number 2 flags ∷ rest) a in
    let version = at_number 1 1 4 bytes (Number 2 flags ∷ rest) kind'.1 in
    let flags' = at_number 2 2 flags bytes rest version.1 in
    (kind'.0, flags'.0, flags'.1)

-- a grant is read
pub cts_is_read : (send recv : OpId) (size : ℕ) (connid : Connid) (bytes : List ℕ) → Spells (Cts send recv size connid) bytes
    → packet_in bytes ≡ Some (Cts send recv size connid)
unfolding layout row_of values_at
cts_is_read send recv size connid bytes s =
    let head = after_head 3 32768 bytes (Number 4 send.0 ∷ Number 4 recv.0 ∷ Number 8 size ∷ Number 4 connid.0 ∷ []) (at_layout (Cts send recv size connid) bytes s) in
    let a = at_number 4 4 send.0 bytes (Number 4 recv.0 ∷ Number 8 size ∷ Number 4 connid.0 ∷ []) head.2 in
    let b = at_number 8 4 recv.0 bytes (Number 8 size ∷ Number 4 connid.0 ∷ []) a.1 in
    let c = at_number 12 8 size bytes (Number 4 connid.0 ∷ []) b.1 in
    let d = at_number 20 4 connid.0 bytes [] c.1 in
    read_by CtsRow 3 (Cts send recv size connid) bytes s head.0 refl (rw (a.0, b.0, c.0, d.0) refl)

-- granted bytes are read
pub cts_data_is_read : (recv : OpId) (offset : ℕ) (connid : Connid) (data' bytes : List ℕ) → Spells (CtsData recv offset connid data') bytes
    → packet_in bytes ≡ Some (CtsData recv offset connid data')
unfolding layout row_of values_at
cts_data_is_read recv offset connid data' bytes s =
    let head = after_head 4 32768 bytes (Number 4 recv.0 ∷ Number 8 (length data') ∷ Number 8 offset ∷ Number 4 connid.0 ∷ Data data' ∷ []) (at_layout (CtsData recv offset connid data') bytes s) in
    let a = at_number 4 4 recv.0 bytes (Number 8 (length data') ∷ Number 8 offset ∷ Number 4 connid.0 ∷ Data data' ∷ []) head.2 in
    let b = at_number 8 8 (length data') bytes (Number 8 offset ∷ Number 4 connid.0 ∷ Data data' ∷ []) a.1 in
    let c = at_number 16 8 offset bytes (Number 4 connid.0 ∷ Data data' ∷ []) b.1 in
    let d = at_number 24 4 connid.0 bytes (Data data' ∷ []) c.1 in
    let e = at_data 28 bytes data' d.1 in
    read_by CtsDataRow 4 (CtsData recv offset connid data') bytes s head.0 refl (rw (a.0, c.0, d.0, e) refl)

-- the end of a read is read
pub eor_is_read : (send recv : OpId) (connid : Connid) (bytes : List ℕ) → Spells (Eor send recv connid) bytes
    → packet_in bytes ≡ Some (Eor send recv connid)
unfolding layout row_of values_at
eor_is_read send recv connid bytes s =
    let head = after_head 7 32768 bytes (Number 4 send.0 ∷ Number 4 recv.0 ∷ Number 4 connid.0 ∷ []) (at_layout (Eor send recv connid) bytes s) in
    let a = at_number 4 4 send.0 bytes (Number 4 recv.0 ∷ Number 4 connid.0 ∷ []) head.2 in
    let b = at_number 8 4 recv.0 bytes (Number 4 connid.0 ∷ []) a.1 in
    let c = at_number 12 4 connid.0 bytes [] b.1 in
    read_by EorRow 7 (Eor send recv connid) bytes s head.0 refl (rw (a.0, b.0, c.0) refl)

-- a receipt is read
pub receipt_is_read : (number : MsgNo) (connid : Connid) (bytes : List ℕ) → Spells (Receipt number connid) bytes
    → packet_in bytes ≡ Some (Receipt number connid)
unfolding layout row_of values_at
receipt_is_read number connid bytes s =
    let head = after_head 10 32768 bytes (Number 4 number.0 ∷ Number 4 connid.0 ∷ []) (at_layout (Receipt number connid) bytes s) in
    let a = at_number 4 4 number.0 bytes (Number 4 connid.0 ∷ []) head.2 in
    let b = at_number 8 4 connid.0 bytes [] a.1 in
    read_by ReceiptRow 10 (Receipt number connid) bytes s head.0 refl (rw (a.0, b.0) refl)
