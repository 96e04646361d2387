-- Packets that open a message are read as they are spelled.
use Rattle.std.proofs.Common.{◌≡◌, ℕ, ◌+◌, Bool, true, false, cond, List, ◌∷◌, ◌++◌, Option, Some, None, refl, ap, ◌∙◌, arith, subst, append_assoc}
use Rattle.std.specs.Prelude.{is_some, nat_le, ◌&&◌}
use Rattle.std.specs.Bool.{then_some}
use Rattle.rdm_hdr.specs.declared.Opt.{Opt}
use Rattle.rdm_hdr.specs.Fields.{Field, Number, fields_bytes, field_bytes, number_at, has_bit}
use Rattle.rdm_hdr.specs.Headers.{raw_fields, cq_data_fields, connid_fields, opt_fields, opt_size, opt_at}
use Rattle.rdm_pkt.specs.declared.Form.{Form}
use Rattle.rdm_pkt.specs.declared.Form.TheVariants.{Eager, Medium, LongCts, LongRead, Runt}
use Rattle.rdm_pkt.specs.Grammar.{type_of, confirm_fits}
use Rattle.rdm_pkt.specs.Reading.{Row, EagerRow, MediumRow, LongCtsRow, LongReadRow, RuntRow, rtm_row, row_of, confirm_at}
use Rattle.rdm_pkt.proofs.ReadFields.{At, at_number, at_place}

-- the row of a form
unfoldable pub form_row : Form → Row
form_row (Eager bytes) = EagerRow
form_row (Medium size offset bytes) = MediumRow
form_row (LongCts size send credits bytes) = LongCtsRow
form_row (LongRead size send iov) = LongReadRow
form_row (Runt size send iov runt offset bytes) = RuntRow

-- the type of a packet that opens a message tells its row
pub row_of_type : (confirm : Bool) (form : Form) (tag : Option ℕ) → row_of (type_of confirm form + (cond (is_some tag) 1 0)) ≡ Some (form_row form)
unfolding row_of rtm_row type_of form_row
row_of_type true (Eager bytes) None = refl
row_of_type false (Eager bytes) None = refl
row_of_type true (Eager bytes) (Some tag) = refl
row_of_type false (Eager bytes) (Some tag) = refl
row_of_type true (Medium size offset bytes) None = refl
row_of_type false (Medium size offset bytes) None = refl
row_of_type true (Medium size offset bytes) (Some tag) = refl
row_of_type false (Medium size offset bytes) (Some tag) = refl
row_of_type true (LongCts size send credits bytes) None = refl
row_of_type false (LongCts size send credits bytes) None = refl
row_of_type true (LongCts size send credits bytes) (Some tag) = refl
row_of_type false (LongCts size send credits bytes) (Some tag) = refl
row_of_type confirm (LongRead size send iov) None = refl
row_of_type confirm (LongRead size send iov) (Some tag) = refl
row_of_type confirm (Runt size send iov runt offset bytes) None = refl
row_of_type confirm (Runt size send iov runt offset bytes) (Some tag) = refl

-- the type of a packet that meets its conditions tells whether its sender waits for a receipt
type_tells : (confirm : Bool) (form : Form) (tag : Option ℕ) → confirm_fits confirm form ≡ true
    → (nat_le 200 (type_of confirm form + (cond (is_some tag) 1 0)) && nat_le (type_of confirm form + (cond (is_some tag) 1 0)) 205) ≡ confirm
unfolding type_of confirm_fits
type_tells true (Eager bytes) None h = refl
type_tells true (Eager bytes) (Some tag) h = refl
type_tells false (Eager bytes) None h = refl
type_tells false (Eager bytes) (Some tag) h = refl
type_tells true (Medium size offset bytes) None h = refl
type_tells true (Medium size offset bytes) (Some tag) h = refl
type_tells false (Medium size offset bytes) None h = refl
type_tells false (Medium size offset bytes) (Some tag) h = refl
type_tells true (LongCts size send credits bytes) None h = refl
type_tells true (LongCts size send credits bytes) (Some tag) h = refl
type_tells false (LongCts size send credits bytes) None h = refl
type_tells false (LongCts size send credits bytes) (Some tag) h = refl
type_tells true (LongRead size send iov) tag h = absurd (cc)
type_tells false (LongRead size send iov) None h = refl
type_tells false (LongRead size send iov) (Some tag) h = refl
type_tells true (Runt size send iov runt offset bytes) tag h = absurd (cc)
type_tells false (Runt size send iov runt offset bytes) None h = refl
type_tells false (Runt size send iov runt offset bytes) (Some tag) h = refl

-- and so do its bytes
pub confirm_back : (confirm : Bool) (form : Form) (tag : Option ℕ) (bytes : List ℕ) → confirm_fits confirm form ≡ true
    → number_at 0 1 bytes ≡ type_of confirm form + (cond (is_some tag) 1 0) → confirm_at bytes ≡ confirm
unfolding confirm_at
confirm_back confirm form tag bytes h e = rw e (type_tells confirm form tag h)

-- which optional headers there are
abbrev pub Flags : ℕ → Bool → Bool → Bool → Bool → Type 0
Flags flags tagged raw cq_data connid =
    (has_bit 3 flags ≡ tagged) × (has_bit 0 flags ≡ raw) × (has_bit 1 flags ≡ cq_data) × (has_bit 15 flags ≡ connid)

-- the bits of the flags tell which headers there are
pub flags_tell : (tagged raw cq_data connid : Bool)
    → Flags ((cond tagged 8 4) + ((cond raw 1 0) + (cond cq_data 2 0) + (cond connid 32768 0))) tagged raw cq_data connid
unfolding has_bit
flags_tell true true true true = (refl, refl, refl, refl)
flags_tell true true true false = (refl, refl, refl, refl)
flags_tell true true false true = (refl, refl, refl, refl)
flags_tell true true false false = (refl, refl, refl, refl)
flags_tell true false true true = (refl, refl, refl, refl)
flags_tell true false true false = (refl, refl, refl, refl)
flags_tell true false false true = (refl, refl, refl, refl)
flags_tell true false false false = (refl, refl, refl, refl)
flags_tell false true true true = (refl, refl, refl, refl)
flags_tell false true true false = (refl, refl, refl, refl)
flags_tell false true false true = (refl, refl, refl, refl)
flags_tell false true false false = (refl, refl, refl, refl)
flags_tell false false true true = (refl, refl, refl, refl)
flags_tell false false true false = (refl, refl, refl, refl)
flags_tell false false false true = (refl, refl, refl, refl)
flags_tell false false false false = (refl, refl, refl, refl)

-- the fields of the message's header stand after its number
pub after_number : (number : ℕ) (bytes : List ℕ) (header tags opts last : List Field)
    → At 4 bytes (Number 4 number ∷ ((((header ++ tags) ++ opts) ++ last)))
    → (number_at 4 4 bytes ≡ number) × At 8 bytes (header ++ (tags ++ (opts ++ last)))
after_number number bytes header tags opts last a =
    let n = at_number 4 4 number bytes (((header ++ tags) ++ opts) ++ last) a in
    (n.0, subst (λ (fs : List Field). At 8 bytes fs) (append_assoc (header ++ tags) opts last ∙ append_assoc header tags (opts ++ last)) n.1)

-- a raw address is read
raw_back : (place : ℕ) (raw : Option (ℕ × ℕ)) (bytes : List ℕ) (rest : List Field) → At place bytes (raw_fields raw ++ rest)
    → (then_some (is_some raw) (number_at (place + 4) 4 bytes, number_at (place + 24) 4 bytes) ≡ raw) × At (place + (cond (is_some raw) 36 0)) bytes rest
unfolding raw_fields
raw_back place None bytes rest a = (refl, at_place place (place + 0) bytes rest (omega arith) a)
raw_back place (Some address) bytes rest a =
    let size = at_number place 4 32 bytes (Number 4 address.0 ∷ Number 12 0 ∷ Number 2 1 ∷ Number 2 0 ∷ Number 4 address.1 ∷ Number 8 0 ∷ rest) a in
    let port = at_number (place + 4) 4 address.0 bytes (Number 12 0 ∷ Number 2 1 ∷ Number 2 0 ∷ Number 4 address.1 ∷ Number 8 0 ∷ rest) size.1 in
    let zeros = at_number (place + 4 + 4) 12 0 bytes (Number 2 1 ∷ Number 2 0 ∷ Number 4 address.1 ∷ Number 8 0 ∷ rest) port.1 in
    let queue = at_number (place + 4 + 4 + 12) 2 1 bytes (Number 2 0 ∷ Number 4 address.1 ∷ Number 8 0 ∷ rest) zeros.1 in
    let pad = at_number (place + 4 + 4 + 12 + 2) 2 0 bytes (Number 4 address.1 ∷ Number 8 0 ∷ rest) queue.1 in
    let connid = at_number (place + 24) 4 address.1 bytes (Number 8 0 ∷ rest) (at_place (place + 4 + 4 + 12 + 2 + 2) (place + 24) bytes _ (omega arith) pad.1) in
    let end' = at_number (place + 24 + 4) 8 0 bytes rest connid.1 in
    (rw (port.0, connid.0) refl, at_place (place + 24 + 4 + 8) (place + 36) bytes rest (omega arith) end'.1)

-- CQ data are read
cq_data_back : (place : ℕ) (cq_data : Option ℕ) (bytes : List ℕ) (rest : List Field) → At place bytes (cq_data_fields cq_data ++ rest)
    → (then_some (is_some cq_data) (number_at place 8 bytes) ≡ cq_data) × At (place + (cond (is_some cq_data) 8 0)) bytes rest
unfolding cq_data_fields
cq_data_back place None bytes rest a = (refl, at_place place (place + 0) bytes rest (omega arith) a)
cq_data_back place (Some n) bytes rest a = let r = at_number place 8 n bytes rest a in (ap Some r.0, r.1)

-- an identifier is read
connid_back : (place : ℕ) (connid : Option ℕ) (bytes : List ℕ) (rest : List Field) → At place bytes (connid_fields connid ++ rest)
    → (then_some (is_some connid) (number_at place 4 bytes) ≡ connid) × At (place + (cond (is_some connid) 4 0)) bytes rest
unfolding connid_fields
connid_back place None bytes rest a = (refl, at_place place (place + 0) bytes rest (omega arith) a)
connid_back place (Some n) bytes rest a = let r = at_number place 4 n bytes rest a in (ap Some r.0, r.1)

-- how long the optional headers are
size_of_opt : (raw : Option (ℕ × ℕ)) (cq_data connid : Option ℕ)
    → opt_size (record { raw = raw; cq_data = cq_data; connid = connid }) ≡ (cond (is_some raw) 36 0) + (cond (is_some cq_data) 8 0) + (cond (is_some connid) 4 0)
unfolding opt_size opt_fields raw_fields cq_data_fields connid_fields fields_bytes field_bytes
size_of_opt None None None = refl
size_of_opt None None (Some c) = refl
size_of_opt None (Some d) None = refl
size_of_opt None (Some d) (Some c) = refl
size_of_opt (Some a) None None = refl
size_of_opt (Some a) None (Some c) = refl
size_of_opt (Some a) (Some d) None = refl
size_of_opt (Some a) (Some d) (Some c) = refl

-- the optional headers are read
pub opt_back : (place flags : ℕ) (tagged : Bool) (opt : Opt) (bytes : List ℕ) (rest : List Field)
    → Flags flags tagged (is_some opt.raw) (is_some opt.cq_data) (is_some opt.connid) → At place bytes (opt_fields opt ++ rest)
    → (opt_at place flags bytes ≡ opt) × At (place + opt_size opt) bytes rest
unfolding opt_at opt_fields
opt_back place flags tagged opt bytes rest f a =
    let raw = raw_back place opt.raw bytes (cq_data_fields opt.cq_data ++ (connid_fields opt.connid ++ rest))
    (subst (λ (fs : List Field). At place bytes fs) (append_assoc (raw_fields opt.raw ++ cq_data_fields opt.cq_data) (connid_fields opt.connid) rest ∙ append_assoc (raw_fields opt.raw) (cq_data_fields opt.cq_data) (connid_fields opt.connid ++ rest)) a) in
    let cq = cq_data_back (place + (cond (is_some opt.raw) 36 0)) opt.cq_data bytes (connid_fields opt.connid ++ rest) raw.1 in
    let connid = connid_back (place + (cond (is_some opt.raw) 36 0) + (cond (is_some opt.cq_data) 8 0)) opt.connid bytes rest cq.1 in (
      rw (f.1, f.2, f.3, raw.0, cq.0, connid.0) refl,
      at_place (place + (cond (is_some opt.raw) 36 0) + (cond (is_some opt.cq_data) 8 0) + (cond (is_some opt.connid) 4 0)) (place + opt_size opt) bytes rest
          (let e = size_of_opt opt.raw opt.cq_data opt.connid in omega arith) connid.1,
    )
