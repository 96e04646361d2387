-- The sizes of packets and of their parts.
use Rattle.std.proofs.Common.{◌≡◌, ℕ, ◌+◌, ◌*◌, ◌≤◌, Bool, true, if◌then◌else◌, List, [], ◌∷◌, ◌++◌, length, Option, Some, None, refl, sym, ◌∙◌, add-zero, arith}
use Rattle.std.specs.Prelude.{is_some, map, flat_map, nat_le}
use Rattle.std.proofs.lemmas.List.{length-append}
use Rattle.std.proofs.lemmas.Bool.{and_parts, leb-true}
use Rattle.byteorder.specs.Numbers.{length-bytes_low_first}
use Rattle.rdm_num.specs.declared.lists.IovEntry.{IovEntry}
use Rattle.rdm_num.specs.declared.numbers.MsgNo.{MsgNo}
use Rattle.rdm_num.specs.declared.numbers.Connid.{Connid}
use Rattle.rdm_num.specs.declared.numbers.PortNo.{PortNo}
use Rattle.rdm_hdr.specs.declared.Opt.{Opt}
use Rattle.rdm_hdr.specs.Fields.{Field, Number, Data, field_bytes, fields_bytes}
use Rattle.rdm_hdr.specs.Headers.{base_fields, opt_fields, opt_size}
use Rattle.rdm_hdr.proofs.Opts.{fields_bytes-append}
use Rattle.rdm_pkt.specs.declared.Packet.{Packet}
use Rattle.rdm_pkt.specs.declared.Packet.TheVariants.{Rtm, Cts, CtsData, Eor, Handshake, Receipt}
use Rattle.rdm_pkt.specs.declared.Form.{Form}
use Rattle.rdm_pkt.specs.declared.Form.TheVariants.{Eager, Medium, LongCts, LongRead, Runt}
use Rattle.rdm_pkt.specs.Grammar.{type_of, form_fields, entry_fields, last_fields, tag_fields, rtm_flags, head_fields, sender_opt, layout, iov_fits, form_fits, packet_fits, spelling}

-- the size of fields
abbrev pub size_of : List Field → ℕ
size_of fields = length (fields_bytes fields)

-- the size of fields and more fields
pub size_of-append : (fields more : List Field) → size_of (fields ++ more) ≡ size_of fields + size_of more
size_of-append fields more = rw (fields_bytes-append fields more, length-append (fields_bytes fields) (fields_bytes more)) refl

-- no fields
pub nothing-size : size_of [] ≡ 0
unfolding fields_bytes
nothing-size = refl

-- a number and more fields
pub size_of-number : (n x : ℕ) (more : List Field) → size_of (Number n x ∷ more) ≡ n + size_of more
unfolding fields_bytes field_bytes
size_of-number n x more = rw (length-append (field_bytes (Number n x)) (fields_bytes more), length-bytes_low_first 0 n x) refl

-- bytes and nothing more
pub size_of-data : (bytes : List ℕ) → size_of (Data bytes ∷ []) ≡ length bytes
unfolding fields_bytes field_bytes
size_of-data bytes = length-append bytes [] ∙ add-zero (length bytes)

-- the size of the base header
pub head-size : (kind flags : ℕ) → size_of (head_fields kind flags) ≡ 4
unfolding head_fields base_fields fields_bytes field_bytes
head-size kind flags = refl

-- the size of a tag
pub tag-size : (tag : Option ℕ) → size_of (tag_fields tag) ≡ (if is_some tag then 8 else 0)
unfolding tag_fields fields_bytes field_bytes
tag-size None = refl
tag-size (Some tag) = refl

-- the size of a form's header after the message number
abbrev pub form_size : Form → ℕ
form_size (Eager bytes) = 0
form_size (Medium size offset bytes) = 16
form_size (LongCts size send credits bytes) = 16
form_size (LongRead size send iov) = 16
form_size (Runt size send iov runt offset bytes) = 32

-- the size of a form's header
pub form-size : (form : Form) → size_of (form_fields form) ≡ form_size form
unfolding form_fields fields_bytes field_bytes
form-size (Eager bytes) = refl
form-size (Medium size offset bytes) = refl
form-size (LongCts size send credits bytes) = refl
form-size (LongRead size send iov) = refl
form-size (Runt size send iov runt offset bytes) = refl

-- the size of a read list
pub iov-size : (iov : List IovEntry) → size_of (flat_map entry_fields iov) ≡ 24 * length iov
unfolding entry_fields
iov-size [] = nothing-size
iov-size (e ∷ iov) =
    let more = iov-size iov in
    rw (size_of-append (Number 8 e.offset ∷ Number 8 e.length ∷ Number 8 e.key ∷ []) (flat_map entry_fields iov), size_of-number, size_of-number, size_of-number, nothing-size, more) (omega arith)

-- the size of words
pub words-size : (words : List ℕ) → size_of (map (Number 8) words) ≡ 8 * length words
words-size [] = nothing-size
words-size (w ∷ words) = rw (size_of-number 8 w (map (Number 8) words), words-size words) (omega arith)

-- the size of a form's read list and data
abbrev pub last_size : Form → ℕ
last_size (Eager bytes) = length bytes
last_size (Medium size offset bytes) = length bytes
last_size (LongCts size send credits bytes) = length bytes
last_size (LongRead size send iov) = 24 * length iov
last_size (Runt size send iov runt offset bytes) = 24 * length iov + length bytes

-- the size of what comes last
pub last-size : (form : Form) → size_of (last_fields form) ≡ last_size form
unfolding last_fields
last-size (Eager bytes) = size_of-data bytes
last-size (Medium size offset bytes) = size_of-data bytes
last-size (LongCts size send credits bytes) = size_of-data bytes
last-size (LongRead size send iov) = iov-size iov
last-size (Runt size send iov runt offset bytes) = rw (size_of-append (flat_map entry_fields iov) (Data bytes ∷ []), size_of-data bytes, iov-size iov) refl

-- the size of a packet that opens a message
pub rtm-size : (number : MsgNo) (tag : Option ℕ) (confirm : Bool) (opt : Opt) (form : Form) → length (spelling (Rtm number tag confirm opt form)) ≡ 8 + size_of (form_fields form) + size_of (tag_fields tag) + opt_size opt + size_of (last_fields form)
unfolding spelling layout opt_size
rtm-size number tag confirm opt form =
    rw (
      size_of-append (head_fields (type_of confirm form + (if is_some tag then 1 else 0)) (rtm_flags tag opt) ++ Number 4 number.0 ∷ form_fields form ++ tag_fields tag ++ opt_fields opt) (last_fields form),
      size_of-append (head_fields (type_of confirm form + (if is_some tag then 1 else 0)) (rtm_flags tag opt) ++ Number 4 number.0 ∷ form_fields form ++ tag_fields tag) (opt_fields opt),
      size_of-append (head_fields (type_of confirm form + (if is_some tag then 1 else 0)) (rtm_flags tag opt) ++ Number 4 number.0 ∷ form_fields form) (tag_fields tag),
      size_of-append (head_fields (type_of confirm form + (if is_some tag then 1 else 0)) (rtm_flags tag opt)) (Number 4 number.0 ∷ form_fields form),
      size_of-number 4 number.0 (form_fields form),
      head-size,
    ) (omega arith)

-- a packet is as long where its sender waits for a receipt as where it does not
pub confirm-size : (number : MsgNo) (tag : Option ℕ) (confirm confirm' : Bool) (opt : Opt) (form : Form) → length (spelling (Rtm number tag confirm opt form)) ≡ length (spelling (Rtm number tag confirm' opt form))
confirm-size number tag confirm confirm' opt form = rtm-size number tag confirm opt form ∙ sym (rtm-size number tag confirm' opt form)

-- the size of a packet by its kind
abbrev pub packet_size : Packet → ℕ
packet_size (Rtm number tag confirm opt form) = 8 + size_of (form_fields form) + size_of (tag_fields tag) + opt_size opt + size_of (last_fields form)
packet_size (Cts send recv size connid) = 24
packet_size (CtsData recv offset connid bytes) = 28 + length bytes
packet_size (Eor send recv connid) = 16
packet_size (Handshake words connid raw) = 8 + 8 * length words + opt_size (sender_opt connid raw)
packet_size (Receipt number connid) = 12

-- the size of a packet
pub packet-size : (p : Packet) → length (spelling p) ≡ packet_size p
unfolding spelling layout opt_size
packet-size (Rtm number tag confirm opt form) = rtm-size number tag confirm opt form
packet-size (Cts send recv size connid) = simp (size_of-append, size_of-number, head-size, nothing-size) refl
packet-size (CtsData recv offset connid bytes) = simp (size_of-append, size_of-number, size_of-data, head-size) (omega arith)
packet-size (Eor send recv connid) = simp (size_of-append, size_of-number, head-size, nothing-size) refl
packet-size (Handshake words connid raw) = simp (size_of-append, size_of-number, words-size, head-size) (omega arith)
packet-size (Receipt number connid) = simp (size_of-append, size_of-number, head-size, nothing-size) refl

-- a read list has up to four ranges
pub iov-few : (iov : List IovEntry) (size : ℕ) → iov_fits iov size ≡ true → length iov ≤ 4
unfolding iov_fits
iov-few iov size h =
    let a = and_parts _ _ h in
    let b = and_parts _ _ a.0 in
    let c = and_parts (nat_le 1 (length iov)) (nat_le (length iov) 4) b.0 in
    leb-true (length iov) 4 c.1

-- how many ranges the read list of a form has
abbrev pub iov_count : Form → ℕ
iov_count (Eager bytes) = 0
iov_count (Medium size offset bytes) = 0
iov_count (LongCts size send credits bytes) = 0
iov_count (LongRead size send iov) = length iov
iov_count (Runt size send iov runt offset bytes) = length iov

-- the read list of a form has up to four ranges
pub form-few : (form : Form) → form_fits form ≡ true → iov_count form ≤ 4
unfolding form_fits
form-few (Eager bytes) h = omega arith
form-few (Medium size offset bytes) h = omega arith
form-few (LongCts size send credits bytes) h = omega arith
form-few (LongRead size send iov) h = iov-few iov size h
form-few (Runt size send iov runt offset bytes) h =
    let a = and_parts _ _ h in
    let b = and_parts _ _ a.0 in
    let c = and_parts _ _ b.0 in
    let d = and_parts _ _ c.0 in
    iov-few iov size d.0

-- a packet that fits opens a message by a form that fits
pub fits-form : (number : MsgNo) (tag : Option ℕ) (confirm : Bool) (opt : Opt) (form : Form) → packet_fits (Rtm number tag confirm opt form) ≡ true → form_fits form ≡ true
unfolding packet_fits
fits-form number tag confirm opt form h = let b = and_parts _ _ h in b.1

-- a handshake that fits has up to eight words
pub fits-few : (words : List ℕ) (connid : Connid) (raw : Option PortNo) → packet_fits (Handshake words connid raw) ≡ true → length words ≤ 8
unfolding packet_fits
fits-few words connid raw h =
    let b = and_parts (nat_le 1 (length words)) (nat_le (length words) 8) h in
    leb-true (length words) 8 b.1

-- the sizes of the parts of packets that open messages
pub ruleset part_sizes = (form-size, tag-size, last-size, head-size, form-few)

-- the sizes of packets
pub ruleset packet_sizes = (packet-size, fits-form, fits-few, form-few, last-size)
