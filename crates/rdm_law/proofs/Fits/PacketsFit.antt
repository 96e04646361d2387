-- Packets fit whose numbers are in their ranges.
use Rattle.std.proofs.Common.{◌≡◌, ℕ, ◌+◌, ◌<◌, ◌≤◌, Bool, true, false, cond, nat_le, ltb-true, lt-ltb, le-leb, List, [], ◌∷◌, ◌++◌, length, is_some, Option, Some, None, refl, arith}
use Rattle.std.specs.List.{list_all}
use Rattle.std.proofs.lemmas.Bool.{and_from}
use Rattle.rdm_num.specs.declared.numbers.MsgNo.{MsgNo}
use Rattle.rdm_num.specs.declared.numbers.OpId.{OpId}
use Rattle.rdm_num.specs.declared.numbers.Connid.{Connid}
use Rattle.rdm_num.specs.declared.numbers.Life.{Life}
use Rattle.rdm_hdr.specs.Fields.{Field, Number, Data, field_fits, fields_fit}
use Rattle.rdm_hdr.specs.Headers.{base_fields, raw_fields, cq_data_fields, connid_fields, opt_fields, opt_flags}
use Rattle.rdm_hdr.specs.declared.Opt.{Opt}
use Rattle.rdm_pkt.specs.declared.Packet.{Packet}
use Rattle.rdm_pkt.specs.declared.Packet.TheVariants.{Rtm, Cts, CtsData, Eor, Handshake, Receipt}
use Rattle.rdm_pkt.specs.declared.Form.{Form}
use Rattle.rdm_pkt.specs.declared.Form.TheVariants.{Eager, Medium, LongCts, LongRead, Runt}
use Rattle.rdm_pkt.proofs.Openers.{flags-small}
use Rattle.rdm_pkt.proofs.InRange.{type_small}
use Rattle.rdm_pkt.specs.Grammar.{sender_opt, head_fields, type_of, rtm_flags, form_fields, tag_fields, last_fields, layout, form_fits, opt_fits, confirm_fits, packet_fits, fits}
use Rattle.rdm_model.specs.Jobs.{option_fits}
use Rattle.rdm_model.specs.Sends.{opt_for}
use Rattle.rdm_law.proofs.Fits.Fitting.{AreBytes}
use Rattle.rdm_law.proofs.Fits.SmallBytes.{all_append}

-- each field fits
abbrev pub EachFits : List Field → Type 0
EachFits [] = Unit {0}
EachFits (f ∷ fs) = (field_fits f ≡ true) × EachFits fs

-- so all fields of the list fit
pub all_fields : (fs : List Field) → EachFits fs → list_all field_fits fs ≡ true
all_fields [] h = refl
all_fields (f ∷ fs) h = and_from (field_fits f) (list_all field_fits fs) h.0 (all_fields fs h.1)

-- a number of one byte
byte_field : (n : ℕ) → n < 256 → field_fits (Number 1 n) ≡ true
unfolding field_fits
byte_field n h = lt-ltb n 256 h

-- a number of two bytes
half_field : (n : ℕ) → n < 65536 → field_fits (Number 2 n) ≡ true
unfolding field_fits
half_field n h = lt-ltb n 65536 h

-- a number of four bytes
pub word_field : (n : ℕ) → n < 4294967296 → field_fits (Number 4 n) ≡ true
unfolding field_fits
word_field n h = lt-ltb n 4294967296 h

-- a number of eight bytes
pub long_field : (n : ℕ) → n < 18446744073709551616 → field_fits (Number 8 n) ≡ true
unfolding field_fits
long_field n h = lt-ltb n 18446744073709551616 h

-- bytes
pub data_field : (bytes : List ℕ) → AreBytes bytes → field_fits (Data bytes) ≡ true
unfolding field_fits
data_field bytes h = h

-- the base header
head_fits : (kind flags : ℕ) → kind < 256 → flags < 65536 → list_all field_fits (head_fields kind flags) ≡ true
unfolding head_fields base_fields
head_fits kind flags h k = all_fields (Number 1 kind ∷ Number 1 4 ∷ Number 2 flags ∷ []) (byte_field kind h, (byte_field 4 (omega arith), (half_field flags k, tt)))

-- a packet fits by its conditions and its fields
fits_from : (p : Packet) → packet_fits p ≡ true → list_all field_fits (layout p) ≡ true → fits p ≡ true
unfolding fits fields_fit
fits_from p h k = and_from (packet_fits p) (fields_fit (layout p)) h k

-- a grant
pub cts_fits : (send recv : OpId) (size : ℕ) (connid : Connid) → send.0 < 4294967296 → recv.0 < 4294967296 → 0 < size → size < 18446744073709551616 → connid.0 < 4294967296
    → fits (Cts send recv size connid) ≡ true
unfolding packet_fits layout
cts_fits send recv size connid a b c d e =
    fits_from (Cts send recv size connid) (le-leb 1 size (omega arith))
    (let fs : List Field = Number 4 send.0 ∷ Number 4 recv.0 ∷ Number 8 size ∷ Number 4 connid.0 ∷ [] in
    all_append field_fits (head_fields 3 32768) fs (head_fits 3 32768 (omega arith) (omega arith))
    (all_fields fs (word_field send.0 a, (word_field recv.0 b, (long_field size d, (word_field connid.0 e, tt))))))

-- an end
pub eor_fits : (send recv : OpId) (connid : Connid) → send.0 < 4294967296 → recv.0 < 4294967296 → connid.0 < 4294967296 → fits (Eor send recv connid) ≡ true
unfolding packet_fits layout
eor_fits send recv connid a b c =
    fits_from (Eor send recv connid) refl
    (let fs : List Field = Number 4 send.0 ∷ Number 4 recv.0 ∷ Number 4 connid.0 ∷ [] in
    all_append field_fits (head_fields 7 32768) fs (head_fits 7 32768 (omega arith) (omega arith))
    (all_fields fs (word_field send.0 a, (word_field recv.0 b, (word_field connid.0 c, tt)))))

-- granted bytes
pub data_fits : (recv : OpId) (offset : ℕ) (connid : Connid) (bytes : List ℕ) → recv.0 < 4294967296 → 0 < length bytes → offset + length bytes < 18446744073709551616
    → connid.0 < 4294967296 → AreBytes bytes → fits (CtsData recv offset connid bytes) ≡ true
unfolding packet_fits layout
data_fits recv offset connid bytes a b c d e =
    fits_from (CtsData recv offset connid bytes)
    (and_from (nat_le 1 (length bytes)) _ (le-leb 1 (length bytes) (omega arith)) (lt-ltb (offset + length bytes) 18446744073709551616 c))
    (let fs : List Field = Number 4 recv.0 ∷ Number 8 (length bytes) ∷ Number 8 offset ∷ Number 4 connid.0 ∷ Data bytes ∷ [] in
    all_append field_fits (head_fields 4 32768) fs (head_fits 4 32768 (omega arith) (omega arith))
    (all_fields fs (word_field recv.0 a, (long_field (length bytes) (omega arith), (long_field offset (omega arith), (word_field connid.0 d, (data_field bytes e, tt)))))))

-- features
pub handshake_fits : (features : ℕ) (connid : Connid) → features < 18446744073709551616 → connid.0 < 4294967296 → fits (Handshake (features ∷ []) connid None) ≡ true
unfolding packet_fits layout sender_opt opt_fields raw_fields cq_data_fields connid_fields opt_flags
handshake_fits features connid a b =
    fits_from (Handshake (features ∷ []) connid None) refl
    (all_append field_fits (head_fields 9 32768 ++ Number 4 4 ∷ Number 8 features ∷ []) (Number 4 connid.0 ∷ [])
    (all_append field_fits (head_fields 9 32768) (Number 4 4 ∷ Number 8 features ∷ []) (head_fits 9 32768 (omega arith) (omega arith))
    (all_fields (Number 4 4 ∷ Number 8 features ∷ []) (word_field 4 (omega arith), (long_field features a, tt))))
    (all_fields (Number 4 connid.0 ∷ []) (word_field connid.0 b, tt)))

-- a receipt
pub receipt_fits : (number : MsgNo) (connid : Connid) → number.0 < 4294967296 → connid.0 < 4294967296 → fits (Receipt number connid) ≡ true
unfolding packet_fits layout
receipt_fits number connid a b =
    fits_from (Receipt number connid) refl
    (all_append field_fits (head_fields 10 32768) (Number 4 number.0 ∷ Number 4 connid.0 ∷ []) (head_fits 10 32768 (omega arith) (omega arith))
    (all_fields (Number 4 number.0 ∷ Number 4 connid.0 ∷ []) (word_field number.0 a, (word_field connid.0 b, tt))))

-- either of two numbers is within what both are within
pub cond_below : (b : Bool) (m n top : ℕ) → m ≤ top → n ≤ top → cond b m n ≤ top
cond_below true m n top h k = h
cond_below false m n top h k = k

-- a tag
tag_fits : (tag : Option ℕ) → option_fits tag ≡ true → list_all field_fits (tag_fields tag) ≡ true
unfolding tag_fields option_fits
tag_fits None h = refl
tag_fits (Some tag) h = all_fields (Number 8 tag ∷ []) (long_field tag (ltb-true _ _ h), tt)

-- CQ data
cq_data_fits : (cq_data : Option ℕ) → option_fits cq_data ≡ true → list_all field_fits (cq_data_fields cq_data) ≡ true
unfolding cq_data_fields option_fits
cq_data_fits None h = refl
cq_data_fits (Some n) h = all_fields (Number 8 n ∷ []) (long_field n (ltb-true _ _ h), tt)

-- the optional headers of a life
pub record HeadersFit (opt : Opt) : Type 0 where
  pub one : opt_fits opt ≡ true
  pub fields : list_all field_fits (opt_fields opt) ≡ true

-- the optional headers of a life fit
pub headers_fit : (life : Life) (raw : Bool) (cq_data : Option ℕ) → life.port.0 < 4294967296 → life.connid.0 < 4294967296 → option_fits cq_data ≡ true
    → HeadersFit (opt_for life raw cq_data)
unfolding opt_for opt_fits opt_fields raw_fields connid_fields field_fits
headers_fit life true cq_data a b h = record {
  one = refl;
  fields = all_append field_fits (raw_fields (Some (life.port.0, life.connid.0)) ++ cq_data_fields cq_data) []
      (all_append field_fits (raw_fields (Some (life.port.0, life.connid.0))) (cq_data_fields cq_data)
      (all_fields (raw_fields (Some (life.port.0, life.connid.0))) (refl, (word_field life.port.0 a, (refl, (refl, (refl, (word_field life.connid.0 b, (refl, tt))))))))
      (cq_data_fits cq_data h)) refl;
}
headers_fit life false cq_data a b h = record {
  one = refl;
  fields = all_append field_fits (cq_data_fields cq_data) (Number 4 life.connid.0 ∷ []) (cq_data_fits cq_data h) (all_fields (Number 4 life.connid.0 ∷ []) (word_field life.connid.0 b, tt));
}

-- features, with the raw address of a life
pub raw_handshake_fits : (features : ℕ) (life : Life) → features < 18446744073709551616 → life.port.0 < 4294967296 → life.connid.0 < 4294967296
    → fits (Handshake (features ∷ []) life.connid (Some life.port)) ≡ true
unfolding packet_fits layout sender_opt opt_flags opt_for option_fits
raw_handshake_fits features life a b c =
    let o : HeadersFit (opt_for life true None) = headers_fit life true None b c refl in
    fits_from (Handshake (features ∷ []) life.connid (Some life.port)) refl
    (all_append field_fits (head_fields 9 1 ++ Number 4 4 ∷ Number 8 features ∷ []) (opt_fields (opt_for life true None))
    (all_append field_fits (head_fields 9 1) (Number 4 4 ∷ Number 8 features ∷ []) (head_fits 9 1 (omega arith) (omega arith))
    (all_fields (Number 4 4 ∷ Number 8 features ∷ []) (word_field 4 (omega arith), (long_field features a, tt))))
    o.fields)

-- a packet that opens a message
pub rtm_from : (number : MsgNo) (tag : Option ℕ) (confirm : Bool) (opt : Opt) (form : Form) → number.0 < 4294967296 → option_fits tag ≡ true → HeadersFit opt → confirm_fits confirm form ≡ true
    → form_fits form ≡ true
    → list_all field_fits (form_fields form) ≡ true → list_all field_fits (last_fields form) ≡ true → fits (Rtm number tag confirm opt form) ≡ true
unfolding packet_fits layout
rtm_from number tag confirm opt form a t o c f h l =
    let kind = type_of confirm form + cond (is_some tag) 1 0 in
    let head : List Field = head_fields kind (rtm_flags tag opt) in
    let front : List Field = head ++ Number 4 number.0 ∷ form_fields form in
    let small : kind < 256 = (let x = type_small confirm form in let y = cond_below (is_some tag) 1 0 1 (omega arith) (omega arith) in omega arith) in
    fits_from (Rtm number tag confirm opt form) (and_from _ _ (and_from (confirm_fits confirm form) (opt_fits opt) c o.one) f)
    (all_append field_fits (front ++ tag_fields tag ++ opt_fields opt) (last_fields form)
    (all_append field_fits (front ++ tag_fields tag) (opt_fields opt)
    (all_append field_fits front (tag_fields tag)
    (all_append field_fits head (Number 4 number.0 ∷ form_fields form) (head_fits kind (rtm_flags tag opt) small (flags-small tag opt))
    (and_from (field_fits (Number 4 number.0)) (list_all field_fits (form_fields form)) (word_field number.0 a) h))
    (tag_fits tag t))
    o.fields) l)
