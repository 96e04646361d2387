-- How long the headers of a packet are that opens a message, and what the choice of a protocol says of the length.
use Rattle.std.proofs.Common.{◌≡◌, ℕ, zero, suc, ◌+◌, ◌-◌, ◌<◌, ◌≤◌, min, Bool, true, false, cond, nat_lt, nat_le, leb-false, ◌&&◌, List, [], ◌∷◌, ◌++◌, length, is_some, take, drop, Option, Some, None, refl, arith, inl, inr, subst, length-append, length-take, length-drop}
use Rattle.std.specs.Bool.{then_some}
use Rattle.byteorder.specs.Endian.{little_bytes}
use Rattle.byteorder.specs.Numbers.{length-bytes_low_first}
use Rattle.rdm_lists.specs.Lists.{Member}
use Rattle.rdm_num.specs.Pieces.{Piece, cut, pieces}
use Rattle.rdm_num.specs.declared.numbers.MsgNo.{MsgNo}
use Rattle.rdm_num.specs.declared.numbers.Life.{Life}
use Rattle.rdm_num.specs.declared.limits.EpLimits.{EpLimits}
use Rattle.rdm_hdr.specs.Fields.{Field, Number, Data, field_bytes, fields_bytes}
use Rattle.rdm_hdr.specs.Headers.{base_fields, raw_fields, cq_data_fields, connid_fields, opt_fields}
use Rattle.rdm_hdr.specs.declared.Opt.{Opt}
use Rattle.rdm_pkt.specs.declared.Packet.TheVariants.{Rtm}
use Rattle.rdm_pkt.specs.declared.Form.{Form}
use Rattle.rdm_pkt.specs.declared.Form.TheVariants as F
use Rattle.rdm_pkt.specs.declared.Kind.{Kind}
use Rattle.rdm_pkt.specs.declared.Kind.TheVariants.{Eager, Medium, LongCts, LongRead, Runt}
use Rattle.rdm_pkt.specs.Choice.{opt_like, eager_room, both_have, choose}
use Rattle.rdm_pkt.specs.Grammar.{head_fields, type_of, rtm_flags, form_fields, tag_fields, last_fields, layout, spelling}
use Rattle.rdm_model.specs.Sends.{opt_for}
use Rattle.rdm_law.proofs.Fits.Fitting.{AreBytes}
use Rattle.rdm_law.proofs.Fits.PacketsFit.{cond_below}
use Rattle.rdm_law.proofs.Fits.SmallBytes.{bytes_front, bytes_rest}

-- how many bytes fields have
unfoldable pub fields_length : List Field → ℕ
fields_length [] = 0
fields_length (Number size value ∷ fs) = size + fields_length fs
fields_length (Data bytes ∷ fs) = length bytes + fields_length fs

-- fields are spelled as long as they are
spelled_length : (fs : List Field) → length (fields_bytes fs) ≡ fields_length fs
unfolding fields_bytes field_bytes fields_length
spelled_length [] = refl
spelled_length (Number size value ∷ fs) =
    let a : length (little_bytes size value) ≡ size = length-bytes_low_first 0 size value in
    let b = length-append (little_bytes size value) (fields_bytes fs) in
    let c = spelled_length fs in
    omega arith
spelled_length (Data bytes ∷ fs) =
    let b = length-append bytes (fields_bytes fs) in
    let c = spelled_length fs in
    omega arith

-- fields after fields
fields_length-append : (fs gs : List Field) → fields_length (fs ++ gs) ≡ fields_length fs + fields_length gs
unfolding fields_length
fields_length-append [] gs = omega arith
fields_length-append (Number size value ∷ fs) gs = let a = fields_length-append fs gs in omega arith
fields_length-append (Data bytes ∷ fs) gs = let a = fields_length-append fs gs in omega arith

-- the base header has four bytes
head_length : (kind flags : ℕ) → fields_length (head_fields kind flags) ≡ 4
unfolding head_fields base_fields fields_length
head_length kind flags = refl

-- a number of four bytes ahead of fields
number_length : (number : ℕ) (fs : List Field) → fields_length (Number 4 number ∷ fs) ≡ 4 + fields_length fs
unfolding fields_length
number_length number fs = refl

-- a packet that opens a message is as long as its headers and its last fields
pub rtm_length : (number : MsgNo) (tag : Option ℕ) (confirm : Bool) (opt : Opt) (form : Form)
    → length (spelling (Rtm number tag confirm opt form)) ≡ 8 + fields_length (form_fields form) + fields_length (tag_fields tag) + fields_length (opt_fields opt) + fields_length (last_fields form)
unfolding spelling layout
rtm_length number tag confirm opt form =
    let kind = type_of confirm form + cond (is_some tag) 1 0 in
    let head : List Field = head_fields kind (rtm_flags tag opt) in
    let front : List Field = head ++ Number 4 number.0 ∷ form_fields form in
    let a = spelled_length (front ++ tag_fields tag ++ opt_fields opt ++ last_fields form) in
    let b = fields_length-append (front ++ tag_fields tag ++ opt_fields opt) (last_fields form) in
    let c = fields_length-append (front ++ tag_fields tag) (opt_fields opt) in
    let d = fields_length-append front (tag_fields tag) in
    let e = fields_length-append head (Number 4 number.0 ∷ form_fields form) in
    let f = head_length kind (rtm_flags tag opt) in
    let g = number_length number.0 (form_fields form) in
    omega arith

-- a tag has eight bytes
tag_length : (tag : Option ℕ) → fields_length (tag_fields tag) ≡ cond (is_some tag) 8 0
unfolding tag_fields fields_length
tag_length None = refl
tag_length (Some tag) = refl

-- so has the tag that stands for it in the choice
tag_like_length : (tagged : Bool) → fields_length (tag_fields (then_some tagged 0)) ≡ cond tagged 8 0
unfolding tag_fields fields_length
tag_like_length true = refl
tag_like_length false = refl

-- CQ data has eight bytes
cq_data_length : (cq_data : Option ℕ) → fields_length (cq_data_fields cq_data) ≡ cond (is_some cq_data) 8 0
unfolding cq_data_fields fields_length
cq_data_length None = refl
cq_data_length (Some n) = refl

-- how long the optional headers of a life are
opt_length : (life : Life) (raw : Bool) (cq_data : Option ℕ) → fields_length (opt_fields (opt_for life raw cq_data)) ≡ cond raw 36 4 + cond (is_some cq_data) 8 0
unfolding opt_fields opt_for raw_fields connid_fields fields_length
opt_length life true cq_data =
    let a = fields_length-append (raw_fields (Some (life.port.0, life.connid.0)) ++ cq_data_fields cq_data) [] in
    let b = fields_length-append (raw_fields (Some (life.port.0, life.connid.0))) (cq_data_fields cq_data) in
    let c = cq_data_length cq_data in
    omega arith
opt_length life false cq_data =
    let a = fields_length-append (cq_data_fields cq_data) (Number 4 life.connid.0 ∷ []) in
    let c = cq_data_length cq_data in
    omega arith

-- so long are those that stand for them in the choice
opt_like_length : (cq_data raw : Bool) → fields_length (opt_fields (opt_like cq_data raw)) ≡ cond raw 36 4 + cond cq_data 8 0
unfolding opt_fields raw_fields cq_data_fields connid_fields fields_length
opt_like_length true true = refl
opt_like_length true false = refl
opt_like_length false true = refl
opt_like_length false false = refl

-- the headers of every packet that opens a message with that tag and those options
unfoldable pub common_length : (tagged cq_data raw : Bool) → ℕ
common_length tagged cq_data raw = 8 + cond tagged 8 0 + (cond raw 36 4 + cond cq_data 8 0)

-- they are short
pub common_short : (tagged cq_data raw : Bool) → common_length tagged cq_data raw ≤ 60
unfolding common_length
common_short tagged cq_data raw =
    let a = cond_below tagged 8 0 8 (omega arith) (omega arith) in
    let b = cond_below raw 36 4 36 (omega arith) (omega arith) in
    let c = cond_below cq_data 8 0 8 (omega arith) (omega arith) in
    omega arith

-- no bytes of data
no_data : fields_length (last_fields (F.Eager [])) ≡ 0
unfolding last_fields fields_length
no_data = refl

-- an eager packet has no header of its own
no_header : fields_length (form_fields (F.Eager [])) ≡ 0
unfolding form_fields fields_length
no_header = refl

-- the room of a message in one packet
pub eager_room_is : (tagged cq_data raw : Bool) (limits : EpLimits) → eager_room tagged cq_data raw limits ≡ limits.mtu - common_length tagged cq_data raw
unfolding eager_room common_length
eager_room_is tagged cq_data raw limits =
    let a = rtm_length (record { 0 = 0 }) (then_some tagged 0) false (opt_like cq_data raw) (F.Eager []) in
    let b = tag_like_length tagged in
    let c = opt_like_length cq_data raw in
    let d = no_data in
    let e = no_header in
    omega arith

-- how long a packet of a life's message is
pub sent_length_is : (number : MsgNo) (tag : Option ℕ) (confirm : Bool) (life : Life) (raw : Bool) (cq_data : Option ℕ) (form : Form)
    → length (spelling (Rtm number tag confirm (opt_for life raw cq_data) form)) ≡ common_length (is_some tag) (is_some cq_data) raw + fields_length (form_fields form) + fields_length (last_fields form)
unfolding common_length
sent_length_is number tag confirm life raw cq_data form =
    let a = rtm_length number tag confirm (opt_for life raw cq_data) form in
    let b = tag_length tag in
    let c = opt_length life raw cq_data in
    omega arith

-- what each protocol says of the tests by which it was chosen
abbrev pub ChosenBy : (fits runt : Bool) → ℕ → Kind → Type 0
ChosenBy fits runt n Eager = Unit {0}
ChosenBy fits runt n Medium = fits ≡ false
ChosenBy fits runt n LongCts = fits ≡ false
ChosenBy fits runt n LongRead = fits ≡ false
ChosenBy fits runt n (Runt k) = (fits ≡ false) × (runt ≡ true) × (n ≡ k)

-- which tests each branch of the choice passed
chosen_by : (fits read runt medium : Bool) (n : ℕ) → ChosenBy fits runt n (cond fits Eager (cond read (cond runt (Runt n) LongRead) (cond medium Medium LongCts)))
chosen_by true read runt medium n = tt
chosen_by false true true medium n = (refl, refl, refl)
chosen_by false true false medium n = refl
chosen_by false false runt true n = refl
chosen_by false false runt false n = refl

-- a message that doesn't go in one packet is longer than its room; a first part ahead of a read is some of it
pub choice_is : (n : ℕ) (tagged cq_data raw : Bool) (features : ℕ) (known : Option ℕ) (limits : EpLimits)
    → ChosenBy (nat_le n (eager_room tagged cq_data raw limits)) (nat_lt 0 limits.runt && both_have 4 features known) (min limits.runt (n - 1))
    (choose n tagged cq_data raw features known limits)
unfolding choose
choice_is n tagged cq_data raw features known limits =
    chosen_by (nat_le n (eager_room tagged cq_data raw limits)) (both_have 0 features known && nat_le limits.read_limit n) (nat_lt 0 limits.runt && both_have 4 features known)
    (nat_le n limits.medium) (min limits.runt (n - 1))

-- a piece of bytes that were cut: some bytes, within the message
pub record PieceFits (top : ℕ) (x : Piece) : Type 0 where
  pub some : 0 < length x.bytes
  pub within : x.offset + length x.bytes ≤ top
  pub bytes : AreBytes x.bytes

-- each cut has some of the bytes, within them
cut_fits : (fuel size offset : ℕ) (bytes : List ℕ) (top : ℕ) (x : Piece) → 0 < size → 0 < length bytes → offset + length bytes ≤ top → AreBytes bytes
    → Member x (cut fuel size offset bytes) → PieceFits top x
unfolding cut
cut_fits zero size offset bytes top x s n t b (inl is) = subst (PieceFits top) is (record { some = n; within = t; bytes = b })
cut_fits zero size offset bytes top x s n t b (inr m) = elim m [ ]
cut_fits (suc fuel) size offset bytes top x s n t b m =
    (elim (nat_le (length bytes) size) as (λ c. nat_le (length bytes) size ≡ c
    → Member x (cond c (record { offset = offset; bytes = bytes } ∷ []) (record { offset = offset; bytes = take size bytes } ∷ cut fuel size (offset + size) (drop size bytes)))
    → PieceFits top x) [
      | true ↦ λ is k. elim k [ inl e ↦ subst (PieceFits top) e (record { some = n; within = t; bytes = b }) | inr l ↦ elim l [ ] ]
      | false ↦ λ is k.
          let more : size < length bytes = leb-false _ _ is in
          let front = length-take size bytes in
          let rest = length-drop size bytes in
          elim k [
            | inl e ↦ subst (PieceFits top) e (record { some = omega arith; within = omega arith; bytes = bytes_front size bytes b })
            | inr l ↦ cut_fits fuel size (offset + size) (drop size bytes) top x s (omega arith) (omega arith) (bytes_rest size bytes b) l
          ]
    ]) refl m

-- each piece of a message has some of its bytes
pub pieces_fit : (size : ℕ) (bytes : List ℕ) (x : Piece) → 0 < size → 0 < length bytes → AreBytes bytes → Member x (pieces size bytes) → PieceFits (length bytes) x
unfolding pieces
pieces_fit size bytes x s n b m = cut_fits (length bytes) size 0 bytes (length bytes) x s n (omega arith) b m
