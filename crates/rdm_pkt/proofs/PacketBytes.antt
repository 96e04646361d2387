-- The bytes of packets, part by part.
use Rattle.std.proofs.Common.{◌≡◌, ℕ, ◌+◌, ◌<◌, Bool, if◌then◌else◌, List, [], ◌∷◌, ◌++◌, length, take, get_or, Option, refl, append_assoc, append-nil, add-one}
use Rattle.std.specs.Prelude.{is_some, map, flat_map}
use Rattle.std.proofs.lemmas.Grind.{flat_map-append}
use Rattle.std.proofs.lemmas.List.{map-append}
use Rattle.std.proofs.Math.Seq.{take-suc}
use Rattle.rdm_num.specs.declared.lists.IovEntry.{IovEntry}
use Rattle.rdm_num.specs.declared.numbers.MsgNo.{MsgNo}
use Rattle.rdm_hdr.specs.declared.Opt.{Opt}
use Rattle.rdm_hdr.specs.Fields.{Field, Number, Data, field_bytes, fields_bytes}
use Rattle.rdm_hdr.specs.Headers.{opt_fields, opt_flags}
use Rattle.rdm_hdr.proofs.Opts.{fields_bytes-append}
use Rattle.rdm_pkt.specs.declared.Packet.{Packet}
use Rattle.rdm_pkt.specs.declared.Packet.TheVariants.{Rtm, Cts, CtsData, Eor, Handshake, Receipt}
use Rattle.rdm_pkt.specs.declared.Form.TheVariants.{Eager, Medium, LongCts, LongRead, Runt}
use Rattle.rdm_pkt.proofs.PacketSizes.{packet-size, last-size, fits-form, fits-few}
use Rattle.rdm_pkt.specs.declared.Form.{Form}
use Rattle.rdm_pkt.specs.Grammar.{type_of, form_fields, entry_fields, last_fields, tag_fields, rtm_flags, head_fields, sender_opt, layout, spelling}

-- the bytes of a field and more fields
fields_bytes-cons : (f : Field) (more : List Field) → fields_bytes (f ∷ more) ≡ field_bytes f ++ fields_bytes more
unfolding fields_bytes
fields_bytes-cons f more = refl

-- no fields have no bytes
no-bytes : fields_bytes [] ≡ []
unfolding fields_bytes
no-bytes = refl

-- the bytes of one number
number-bytes : (n x : ℕ) → fields_bytes (Number n x ∷ []) ≡ field_bytes (Number n x)
unfolding fields_bytes
number-bytes n x = append-nil (field_bytes (Number n x))

-- bytes as they are
data-bytes : (bytes : List ℕ) → fields_bytes (Data bytes ∷ []) ≡ bytes
unfolding fields_bytes field_bytes
data-bytes bytes = append-nil bytes

-- the bytes of a range
entry-bytes : (e : IovEntry) → fields_bytes (flat_map entry_fields (e ∷ [])) ≡ field_bytes (Number 8 e.offset) ++ (field_bytes (Number 8 e.length) ++ field_bytes (Number 8 e.key))
unfolding fields_bytes entry_fields
entry-bytes e = rw append-nil refl

-- the bytes of a packet that opens a message
pub rtm-bytes : (number : MsgNo) (tag : Option ℕ) (confirm : Bool) (opt : Opt) (form : Form)
    → spelling (Rtm number tag confirm opt form)
    ≡ fields_bytes (head_fields (type_of confirm form + (if is_some tag then 1 else 0)) (rtm_flags tag opt)) ++ (field_bytes (Number 4 number.0) ++ (fields_bytes (form_fields form) ++ (fields_bytes (tag_fields tag) ++ (fields_bytes (opt_fields opt) ++ fields_bytes (last_fields form)))))
unfolding spelling layout
rtm-bytes number tag confirm opt form = simp (fields_bytes-append, fields_bytes-cons) (simp append_assoc refl)

-- the bytes of one more range
pub iov-more : (iov : List IovEntry) (i : ℕ) (d : IovEntry) → i < length iov
    → fields_bytes (flat_map entry_fields (take (i + 1) iov))
    ≡ fields_bytes (flat_map entry_fields (take i iov)) ++ (field_bytes (Number 8 (get_or iov i d).offset) ++ (field_bytes (Number 8 (get_or iov i d).length) ++ field_bytes (Number 8 (get_or iov i d).key)))
iov-more iov i d h =
    rw (add-one, take-suc iov i d h, flat_map-append entry_fields (take i iov) (get_or iov i d ∷ []), fields_bytes-append (flat_map entry_fields (take i iov)) (flat_map entry_fields (get_or iov i d ∷ [])), entry-bytes (get_or iov i d)) refl

-- the bytes of one more word
pub words-more : (words : List ℕ) (i : ℕ) → i < length words
    → fields_bytes (map (Number 8) (take (i + 1) words)) ≡ fields_bytes (map (Number 8) (take i words)) ++ field_bytes (Number 8 (get_or words i 0))
words-more words i h =
    rw (add-one, take-suc words i 0 h, map-append (Number 8) (take i words) (get_or words i 0 ∷ []), fields_bytes-append (map (Number 8) (take i words)) (Number 8 (get_or words i 0) ∷ []), number-bytes 8 (get_or words i 0)) refl

-- the bytes of what comes last in a form
abbrev pub last_bytes : Form → List ℕ
last_bytes (Eager bytes) = bytes
last_bytes (Medium size offset bytes) = bytes
last_bytes (LongCts size send credits bytes) = bytes
last_bytes (LongRead size send iov) = fields_bytes (flat_map entry_fields iov)
last_bytes (Runt size send iov runt offset bytes) = fields_bytes (flat_map entry_fields iov) ++ bytes

-- the bytes of a form's read list and data
pub last-bytes : (form : Form) → fields_bytes (last_fields form) ≡ last_bytes form
unfolding last_fields
last-bytes (Eager bytes) = data-bytes bytes
last-bytes (Medium size offset bytes) = data-bytes bytes
last-bytes (LongCts size send credits bytes) = data-bytes bytes
last-bytes (LongRead size send iov) = refl
last-bytes (Runt size send iov runt offset bytes) = rw (fields_bytes-append (flat_map entry_fields iov) (Data bytes ∷ []), data-bytes bytes) refl

-- the bytes of a packet, part by part
abbrev pub packet_bytes : Packet → List ℕ
packet_bytes (Rtm number tag confirm opt form) = spelling (Rtm number tag confirm opt form)
packet_bytes (Cts send recv size connid) =
    fields_bytes (head_fields 3 32768) ++ (field_bytes (Number 4 send.0) ++ (field_bytes (Number 4 recv.0) ++ (field_bytes (Number 8 size) ++ field_bytes (Number 4 connid.0))))
packet_bytes (CtsData recv offset connid bytes) =
    fields_bytes (head_fields 4 32768) ++ (field_bytes (Number 4 recv.0) ++ (field_bytes (Number 8 (length bytes)) ++ (field_bytes (Number 8 offset) ++ (field_bytes (Number 4 connid.0) ++ bytes))))
packet_bytes (Eor send recv connid) =
    fields_bytes (head_fields 7 32768) ++ (field_bytes (Number 4 send.0) ++ (field_bytes (Number 4 recv.0) ++ field_bytes (Number 4 connid.0)))
packet_bytes (Handshake words connid raw) =
    fields_bytes (head_fields 9 (opt_flags (sender_opt connid raw))) ++ (field_bytes (Number 4 (length words + 3)) ++ (fields_bytes (map (Number 8) words) ++ fields_bytes (opt_fields (sender_opt connid raw))))
packet_bytes (Receipt number connid) = fields_bytes (head_fields 10 32768) ++ (field_bytes (Number 4 number.0) ++ field_bytes (Number 4 connid.0))

-- the bytes of each packet
pub packet-bytes : (p : Packet) → spelling p ≡ packet_bytes p
unfolding spelling layout
packet-bytes (Rtm number tag confirm opt form) = refl
packet-bytes (Cts send recv size connid) = simp (fields_bytes-append, fields_bytes-cons, no-bytes, append-nil) refl
packet-bytes (CtsData recv offset connid bytes) = simp (fields_bytes-append, data-bytes, fields_bytes-cons) refl
packet-bytes (Eor send recv connid) = simp (fields_bytes-append, fields_bytes-cons, no-bytes, append-nil) refl
packet-bytes (Handshake words connid raw) = simp (fields_bytes-append, fields_bytes-cons) (simp append_assoc refl)
packet-bytes (Receipt number connid) = simp (fields_bytes-append, fields_bytes-cons, no-bytes, append-nil) refl

-- the bytes of packets
pub ruleset packet_parts = (packet-bytes, packet-size, fits-form, fits-few)

-- the bytes of what comes last
pub ruleset last_parts = (last-bytes, last-size)
