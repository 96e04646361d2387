-- Numbers within their ranges.
use Rattle.std.proofs.Common.{◌≡◌, ℕ, suc, ◌+◌, ◌<◌, ◌≤◌, ◌^◌, Bool, true, false, List, [], ◌∷◌, ◌++◌, length, take, get_or, Some, None, if◌then◌else◌, Option, refl, add-one, arith}
use Rattle.std.specs.Prelude.{◌&&◌, map, flat_map, nat_le, nat_lt, is_some}
use Rattle.std.proofs.lemmas.Grind.{flat_map-append}
use Rattle.std.proofs.Math.Seq.{take-suc}
use Rattle.std.specs.List.{list_all}
use Rattle.std.proofs.lemmas.Bool.{and_from, and_parts, leb-true, le-leb}
use Rattle.rdm_num.specs.declared.lists.IovEntry.{IovEntry}
use Rattle.rdm_num.specs.declared.numbers.OpId.{OpId}
use Rattle.rdm_num.specs.declared.numbers.MsgNo.{MsgNo}
use Rattle.rdm_num.specs.declared.numbers.Connid.{Connid}
use Rattle.rdm_num.specs.declared.numbers.PortNo.{PortNo}
use Rattle.rdm_hdr.specs.declared.Opt.{Opt}
use Rattle.rdm_hdr.specs.Fields.{Field, Number, Data, field_fits, fields_fit}
use Rattle.rdm_hdr.specs.Headers.{base_fields, raw_fields, cq_data_fields, connid_fields, opt_fields, opt_flags}
use Rattle.rdm_pkt.specs.declared.Packet.TheVariants.{Rtm, Cts, CtsData, Eor, Handshake, Receipt}
use Rattle.rdm_pkt.specs.declared.Form.{Form}
use Rattle.rdm_pkt.specs.declared.Form.TheVariants.{Eager, Medium, LongCts, LongRead, Runt}
use Rattle.rdm_pkt.specs.Grammar.{type_of, rtm_flags, head_fields, sender_opt, tag_fields, entry_fields, form_fields, last_fields, layout, confirm_fits, opt_fits, form_fits, packet_fits}
use Rattle.rdm_pkt.proofs.Openers.{flags-small, one-more, opt_flags-small}
use Rattle.rdm_pkt.proofs.Rows.{fit-nothing, fit-append}

-- a number in its range and more
pub fit_number : (n x : ℕ) (more : List Field) → x < 256 ^ n → fields_fit more ≡ true → fields_fit (Number n x ∷ more) ≡ true
unfolding fields_fit field_fits
fit_number n x more small rest = and_from (field_fits (Number n x)) (list_all field_fits more) (le-leb (suc x) (256 ^ n) (omega arith)) rest

-- a number of eight bytes
pub fit_eight : (x : ℕ) (more : List Field) → x < 2 ^ 64 → fields_fit more ≡ true → fields_fit (Number 8 x ∷ more) ≡ true
fit_eight x more small rest = fit_number 8 x more (omega arith) rest

-- a number of four bytes
pub fit_four : (x : ℕ) (more : List Field) → x < 2 ^ 32 → fields_fit more ≡ true → fields_fit (Number 4 x ∷ more) ≡ true
fit_four x more small rest = fit_number 4 x more (omega arith) rest

-- what is in its range
pub ruleset ranges = (fit_eight, fit_four, fit-nothing)

-- the optional headers are in their ranges where each is
pub fit_opt_parts : (opt : Opt) → fields_fit (raw_fields opt.raw) ≡ true → fields_fit (cq_data_fields opt.cq_data) ≡ true → fields_fit (connid_fields opt.connid) ≡ true → fields_fit (opt_fields opt) ≡ true
unfolding opt_fields
fit_opt_parts opt a b d = fit-append (raw_fields opt.raw ++ cq_data_fields opt.cq_data) (connid_fields opt.connid) (fit-append (raw_fields opt.raw) (cq_data_fields opt.cq_data) a b) d

pub ruleset opt_parts = fit_opt_parts

-- a raw address is in its ranges where its numbers are
pub fit_raw : (port connid : ℕ) → port < 2 ^ 32 → connid < 2 ^ 32 → fields_fit (raw_fields (Some (port, connid))) ≡ true
unfolding raw_fields fields_fit field_fits
fit_raw port connid p q = rw (le-leb (suc port) (256 ^ 4) (omega arith), le-leb (suc connid) (256 ^ 4) (omega arith)) refl

-- no raw address is out of range
pub fit_no_raw : fields_fit (raw_fields None) ≡ true
unfolding raw_fields fields_fit
fit_no_raw = refl

pub ruleset raw_parts = (fit_raw, fit_no_raw)

-- words are in their range
pub fit_words : (words : List ℕ) → ((i : ℕ) → get_or words i 0 < 2 ^ 64) → fields_fit (map (Number 8) words) ≡ true
fit_words [] h = fit-nothing
fit_words (w ∷ words) h = fit_eight w (map (Number 8) words) (h 0) (fit_words words (λ i. h (suc i)))

-- a range is in its range
fit_entry : (e : IovEntry) → e.offset < 2 ^ 64 → e.length < 2 ^ 64 → e.key < 2 ^ 64 → fields_fit (flat_map entry_fields (e ∷ [])) ≡ true
unfolding entry_fields
fit_entry e a b d = fit_eight e.offset (Number 8 e.length ∷ Number 8 e.key ∷ []) a (fit_eight e.length (Number 8 e.key ∷ []) b (fit_eight e.key [] d fit-nothing))

-- one range more is in its range
pub fit_more : (iov : List IovEntry) (i : ℕ) (d : IovEntry) → i < length iov → fields_fit (flat_map entry_fields (take i iov)) ≡ true
    → (get_or iov i d).offset < 2 ^ 64 → (get_or iov i d).length < 2 ^ 64 → (get_or iov i d).key < 2 ^ 64 → fields_fit (flat_map entry_fields (take (i + 1) iov)) ≡ true
fit_more iov i d h before a b e =
    rw (add-one, take-suc iov i d h, flat_map-append entry_fields (take i iov) (get_or iov i d ∷ []))
    (fit-append (flat_map entry_fields (take i iov)) (flat_map entry_fields (get_or iov i d ∷ [])) before (fit_entry (get_or iov i d) a b e))

-- ---- forms

-- the header and the last part of each form are in their ranges where their numbers are
pub fit_medium : (size offset : ℕ) (bytes : List ℕ) → size < 2 ^ 64 → offset < 2 ^ 64 → fields_fit (form_fields (Medium size offset bytes)) ≡ true
unfolding form_fields
fit_medium size offset bytes p q = fit_eight size (Number 8 offset ∷ []) p (fit_eight offset [] q fit-nothing)

pub fit_long_cts : (size : ℕ) (send : OpId) (credits : ℕ) (bytes : List ℕ) → size < 2 ^ 64 → send.0 < 2 ^ 32 → credits < 2 ^ 32 → fields_fit (form_fields (LongCts size send credits bytes)) ≡ true
unfolding form_fields
fit_long_cts size send credits bytes p q r = fit_eight size (Number 4 send.0 ∷ Number 4 credits ∷ []) p (fit_four send.0 (Number 4 credits ∷ []) q (fit_four credits [] r fit-nothing))

pub fit_long_read : (size : ℕ) (send : OpId) (iov : List IovEntry) → size < 2 ^ 64 → send.0 < 2 ^ 32 → length iov ≤ 4 → fields_fit (form_fields (LongRead size send iov)) ≡ true
unfolding form_fields
fit_long_read size send iov p q r = fit_eight size (Number 4 send.0 ∷ Number 4 (length iov) ∷ []) p (fit_four send.0 (Number 4 (length iov) ∷ []) q (fit_four (length iov) [] (omega arith) fit-nothing))

pub fit_runt : (size : ℕ) (send : OpId) (iov : List IovEntry) (runt offset : ℕ) (bytes : List ℕ) → size < 2 ^ 64 → send.0 < 2 ^ 32 → length iov ≤ 4 → runt < 2 ^ 64 → offset < 2 ^ 64 → fields_fit (form_fields (Runt size send iov runt offset bytes)) ≡ true
unfolding form_fields
fit_runt size send iov runt offset bytes p q r t u =
    fit_eight size (Number 4 send.0 ∷ Number 4 (length iov) ∷ Number 8 runt ∷ Number 8 offset ∷ []) p
    (fit_four send.0 (Number 4 (length iov) ∷ Number 8 runt ∷ Number 8 offset ∷ []) q
    (fit_four (length iov) (Number 8 runt ∷ Number 8 offset ∷ []) (omega arith) (fit_eight runt (Number 8 offset ∷ []) t (fit_eight offset [] u fit-nothing))))

-- a read list and data are in their ranges where both are
pub fit_last : (iov : List IovEntry) (bytes : List ℕ) → fields_fit (flat_map entry_fields iov) ≡ true → fields_fit (Data bytes ∷ []) ≡ true → fields_fit (flat_map entry_fields iov ++ Data bytes ∷ []) ≡ true
fit_last iov bytes a b = fit-append (flat_map entry_fields iov) (Data bytes ∷ []) a b

-- ---- packets

-- a base header is in its ranges
fit_head : (kind flags : ℕ) → kind < 256 → flags < 65536 → fields_fit (head_fields kind flags) ≡ true
unfolding head_fields base_fields fields_fit field_fits
fit_head kind flags a b = rw (le-leb (suc kind) 256 (omega arith), le-leb (suc flags) 65536 (omega arith)) refl

-- types of packets that open messages have one more type after them
pub type_small : (confirm : Bool) (form : Form) → type_of confirm form < 255
unfolding type_of
type_small true (Eager bytes) = omega arith
type_small false (Eager bytes) = omega arith
type_small true (Medium size offset bytes) = omega arith
type_small false (Medium size offset bytes) = omega arith
type_small true (LongCts size send credits bytes) = omega arith
type_small false (LongCts size send credits bytes) = omega arith
type_small confirm (LongRead size send iov) = omega arith
type_small confirm (Runt size send iov runt offset bytes) = omega arith

-- a packet that opens a message is in its ranges where its parts are
pub fit_rtm : (number : MsgNo) (tag : Option ℕ) (confirm : Bool) (opt : Opt) (form : Form) → number.0 < 2 ^ 32 → fields_fit (tag_fields tag) ≡ true → fields_fit (opt_fields opt) ≡ true
    → fields_fit (form_fields form) ≡ true → fields_fit (last_fields form) ≡ true → fields_fit (layout (Rtm number tag confirm opt form)) ≡ true
unfolding layout
fit_rtm number tag confirm opt form small a b d e =
    fit-append _ (last_fields form)
    (fit-append _ (opt_fields opt)
    (fit-append _ (tag_fields tag)
    (fit-append (head_fields (type_of confirm form + (if is_some tag then 1 else 0)) (rtm_flags tag opt)) (Number 4 number.0 ∷ form_fields form)
    (fit_head (type_of confirm form + (if is_some tag then 1 else 0)) (rtm_flags tag opt) (one-more (type_of confirm form) (is_some tag) (type_small confirm form)) (flags-small tag opt))
    (fit_four number.0 (form_fields form) small d))
    a)
    b)
    e

-- the form of a packet that meets its conditions meets its own
pub form_meets : (number : MsgNo) (tag : Option ℕ) (confirm : Bool) (opt : Opt) (form : Form) → packet_fits (Rtm number tag confirm opt form) ≡ true → form_fits form ≡ true
unfolding packet_fits
form_meets number tag confirm opt form h = let parts = and_parts (confirm_fits confirm form && opt_fits opt) (form_fits form) h in parts.1

-- a grant is in its ranges where its numbers are
pub fit_cts : (send recv : OpId) (size : ℕ) (connid : Connid) → send.0 < 2 ^ 32 → recv.0 < 2 ^ 32 → size < 2 ^ 64 → connid.0 < 2 ^ 32 → fields_fit (layout (Cts send recv size connid)) ≡ true
unfolding layout
fit_cts send recv size connid a b d e =
    fit-append (head_fields 3 32768) (Number 4 send.0 ∷ Number 4 recv.0 ∷ Number 8 size ∷ Number 4 connid.0 ∷ []) (fit_head 3 32768 (omega arith) (omega arith))
    (fit_four send.0 _ a (fit_four recv.0 _ b (fit_eight size _ d (fit_four connid.0 [] e fit-nothing))))

-- the end of an operation is in its ranges where its numbers are
pub fit_eor : (send recv : OpId) (connid : Connid) → send.0 < 2 ^ 32 → recv.0 < 2 ^ 32 → connid.0 < 2 ^ 32 → fields_fit (layout (Eor send recv connid)) ≡ true
unfolding layout
fit_eor send recv connid a b e =
    fit-append (head_fields 7 32768) (Number 4 send.0 ∷ Number 4 recv.0 ∷ Number 4 connid.0 ∷ []) (fit_head 7 32768 (omega arith) (omega arith))
    (fit_four send.0 _ a (fit_four recv.0 _ b (fit_four connid.0 [] e fit-nothing)))

-- granted data are in their ranges where their numbers and bytes are
pub fit_cts_data : (recv : OpId) (offset : ℕ) (connid : Connid) (bytes : List ℕ) → packet_fits (CtsData recv offset connid bytes) ≡ true → recv.0 < 2 ^ 32 → connid.0 < 2 ^ 32 → fields_fit (Data bytes ∷ []) ≡ true
    → fields_fit (layout (CtsData recv offset connid bytes)) ≡ true
unfolding layout packet_fits
fit_cts_data recv offset connid bytes h a b d =
    let parts = and_parts (nat_le 1 (length bytes)) (nat_lt (offset + length bytes) (2 ^ 64)) h in
    let room : suc (offset + length bytes) ≤ 2 ^ 64 = leb-true (suc (offset + length bytes)) (2 ^ 64) parts.1 in
    fit-append (head_fields 4 32768) (Number 4 recv.0 ∷ Number 8 (length bytes) ∷ Number 8 offset ∷ Number 4 connid.0 ∷ Data bytes ∷ []) (fit_head 4 32768 (omega arith) (omega arith))
    (fit_four recv.0 _ a (fit_eight (length bytes) _ (omega arith) (fit_eight offset _ (omega arith) (fit_four connid.0 _ b d))))

-- a receipt is in its ranges where its numbers are
pub fit_receipt : (number : MsgNo) (connid : Connid) → number.0 < 2 ^ 32 → connid.0 < 2 ^ 32 → fields_fit (layout (Receipt number connid)) ≡ true
unfolding layout
fit_receipt number connid a b =
    fit-append (head_fields 10 32768) (Number 4 number.0 ∷ Number 4 connid.0 ∷ []) (fit_head 10 32768 (omega arith) (omega arith)) (fit_four number.0 _ a (fit_four connid.0 [] b fit-nothing))

-- a handshake is in its ranges where its words and its last header are
pub fit_handshake : (words : List ℕ) (connid : Connid) (raw : Option PortNo) → packet_fits (Handshake words connid raw) ≡ true
    → fields_fit (map (Number 8) words) ≡ true → fields_fit (opt_fields (sender_opt connid raw)) ≡ true → fields_fit (layout (Handshake words connid raw)) ≡ true
unfolding layout packet_fits
fit_handshake words connid raw h a b =
    let parts = and_parts (nat_le 1 (length words)) (nat_le (length words) 8) h in
    let few : length words ≤ 8 = leb-true (length words) 8 parts.1 in
    let flags : ℕ = opt_flags (sender_opt connid raw) in
    fit-append _ (opt_fields (sender_opt connid raw))
    (fit-append (head_fields 9 flags) (Number 4 (length words + 3) ∷ map (Number 8) words) (fit_head 9 flags (omega arith) (opt_flags-small (sender_opt connid raw))) (fit_four (length words + 3) (map (Number 8) words) (omega arith) a))
    b
