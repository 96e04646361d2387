-- Bytes that are bytes: in parts of lists, in the packets that life took, and so in the messages that came.
use Rattle.std.proofs.Common.{◌≡◌, ℕ, zero, suc, ◌+◌, ◌-◌, ◌<◌, Bool, true, false, cond, nat_lt, ltb-true, List, [], ◌∷◌, ◌++◌, length, take, drop, replicate, slice_get, unwrap_or, is_some, option_to_list, Option, Some, None, refl, inl, inr, sym, ◌∙◌, ap, subst, take-append-drop, lt-ltb}
use Rattle.std.specs.List.{list_all}
use Rattle.std.proofs.lemmas.Bool.{and_parts, and_from}
use Rattle.std.proofs.lemmas.List.Folds.{list_all-append, list_all-map}
use Rattle.rdm_lists.specs.Lists.{Member, below}
use Rattle.rdm_num.specs.Pieces.{Piece, byte_in, byte_at}
use Rattle.rdm_num.specs.Lives.{same_life}
use Rattle.rdm_num.specs.declared.numbers.Life.{Life}
use Rattle.rdm_hdr.specs.Fields.{Field, Number, Data, field_fits, fields_fit}
use Rattle.rdm_hdr.specs.declared.Opt.{Opt}
use Rattle.rdm_num.specs.declared.numbers.MsgNo.{MsgNo}
use Rattle.rdm_num.specs.declared.numbers.OpId.{OpId}
use Rattle.rdm_num.specs.declared.numbers.Connid.{Connid}
use Rattle.rdm_pkt.specs.declared.Packet.{Packet}
use Rattle.rdm_pkt.specs.declared.Packet.TheVariants.{Rtm, Cts, CtsData, Eor, Handshake, Receipt}
use Rattle.rdm_pkt.specs.declared.Form.{Form}
use Rattle.rdm_pkt.specs.declared.Form.TheVariants.{Eager, Medium, LongCts, LongRead, Runt}
use Rattle.rdm_pkt.specs.Heads.{piece_of}
use Rattle.rdm_pkt.specs.Grammar.{head_fields, type_of, rtm_flags, form_fields, tag_fields, last_fields, entry_fields, layout, packet_fits, fits}
use Rattle.rdm_hdr.specs.Headers.{opt_fields}
use Rattle.rdm_match.specs.Matcher.{Pair}
use Rattle.rdm_model.specs.Deeds.{Deed, Took, Item, Spelled, Asks, Gives, Garbled}
use Rattle.rdm_model.specs.Beginnings.{Heads}
use Rattle.rdm_model.specs.Matches.{pairs}
use Rattle.rdm_model.specs.Parts.{piece_by, carried_by, carried_pieces}
use Rattle.rdm_model.specs.Local.{heads_by, bytes_by}
use Rattle.std.specs.Prelude.{◌==◌, flat_map}
use Rattle.rdm_law.proofs.Fits.Fitting.{AreBytes, ItemFits}
use Rattle.rdm_lists.proofs.Members.{member-append_cases, option_member}
use Rattle.rdm_lists.proofs.Options.{or_else_cases, then_some_parts}

-- a test that all elements of two lists pass
pub all_parts : {A : Type 0} (p : A → Bool) (xs ys : List A) → list_all p (xs ++ ys) ≡ true → (list_all p xs ≡ true) × (list_all p ys ≡ true)
all_parts p xs ys h = and_parts (list_all p xs) (list_all p ys) (sym (list_all-append p xs ys) ∙ h)

-- a test that all elements of each of two lists pass, those of both pass
pub all_append : {A : Type 0} (p : A → Bool) (xs ys : List A) → list_all p xs ≡ true → list_all p ys ≡ true → list_all p (xs ++ ys) ≡ true
all_append p xs ys h k = list_all-append p xs ys ∙ and_from (list_all p xs) (list_all p ys) h k

-- a test that every value passes
pub all_always : {A : Type 0} (p : A → Bool) (xs : List A) → ((x : A) → p x ≡ true) → list_all p xs ≡ true
all_always p [] h = refl
all_always p (x ∷ xs) h = and_from (p x) (list_all p xs) (h x) (all_always p xs h)

-- a byte at a place
pub all_at : {A : Type 0} (p : A → Bool) (xs : List A) (n : ℕ) (x : A) → list_all p xs ≡ true → slice_get xs n ≡ Some x → p x ≡ true
all_at p [] n x h e = cc
all_at p (y ∷ xs) zero x h e = let f : y ≡ x = cc in ap p (sym f) ∙ (and_parts (p y) (list_all p xs) h).0
all_at p (y ∷ xs) (suc n) x h e = all_at p xs n x (and_parts (p y) (list_all p xs) h).1 e

-- a member of the list
pub all_member : {A : Type 0} (p : A → Bool) (xs : List A) (x : A) → list_all p xs ≡ true → Member x xs → p x ≡ true
all_member p [] x h m = elim m [ ]
all_member p (y ∷ xs) x h (inl is) = ap p (sym is) ∙ (and_parts (p y) (list_all p xs) h).0
all_member p (y ∷ xs) x h (inr m) = all_member p xs x (and_parts (p y) (list_all p xs) h).1 m

-- the front and the rest of bytes
pub bytes_front : (n : ℕ) (bytes : List ℕ) → AreBytes bytes → AreBytes (take n bytes)
bytes_front n bytes h = (all_parts (λ b. nat_lt b 256) (take n bytes) (drop n bytes) (subst AreBytes (sym (take-append-drop n bytes)) h)).0

-- the rest of bytes
pub bytes_rest : (n : ℕ) (bytes : List ℕ) → AreBytes bytes → AreBytes (drop n bytes)
bytes_rest n bytes h = (all_parts (λ b. nat_lt b 256) (take n bytes) (drop n bytes) (subst AreBytes (sym (take-append-drop n bytes)) h)).1

-- bytes after bytes
pub bytes_append : (xs ys : List ℕ) → AreBytes xs → AreBytes ys → AreBytes (xs ++ ys)
bytes_append xs ys h k = all_append (λ b. nat_lt b 256) xs ys h k

-- zeros are bytes
pub zeros_bytes : (n : ℕ) → AreBytes (replicate n 0)
zeros_bytes zero = refl
zeros_bytes (suc n) = zeros_bytes n

-- the fields of a packet that fits
pub layout_fits : (p : Packet) → fits p ≡ true → list_all field_fits (layout p) ≡ true
unfolding fits fields_fit
layout_fits p h = (and_parts (packet_fits p) (fields_fit (layout p)) h).1

-- the fields of a packet that opens a message and fits
pub record RtmFits (number : MsgNo) (tag : Option ℕ) (form : Form) : Type 0 where
  pub number_fits : number.0 < 4294967296
  pub header : list_all field_fits (form_fields form) ≡ true
  pub last : list_all field_fits (last_fields form) ≡ true

-- the fields of the header, and those that come last
pub rtm_fits : (number : MsgNo) (tag : Option ℕ) (confirm : Bool) (opt : Opt) (form : Form) → fits (Rtm number tag confirm opt form) ≡ true → RtmFits number tag form
unfolding layout field_fits
rtm_fits number tag confirm opt form h =
    let head : List Field = head_fields (type_of confirm form + cond (is_some tag) 1 0) (rtm_flags tag opt) in
    let front : List Field = head ++ Number 4 number.0 ∷ form_fields form in
    let a = all_parts field_fits (front ++ tag_fields tag ++ opt_fields opt) (last_fields form) (layout_fits (Rtm number tag confirm opt form) h) in
    let b = all_parts field_fits (front ++ tag_fields tag) (opt_fields opt) a.0 in
    let c = all_parts field_fits front (tag_fields tag) b.0 in
    let d = all_parts field_fits head (Number 4 number.0 ∷ form_fields form) c.0 in
    let e = and_parts (field_fits (Number 4 number.0)) (list_all field_fits (form_fields form)) d.1 in
    record { number_fits = ltb-true number.0 4294967296 e.0; header = e.1; last = a.1 }

-- the bytes that come last in a form
last_bytes : (form : Form) (x : Piece) → list_all field_fits (last_fields form) ≡ true → piece_of form ≡ Some x → AreBytes x.bytes
unfolding last_fields piece_of field_fits
last_bytes (Eager bytes) x h e = let f : record { offset = 0; bytes = bytes } ≡ x = cc in subst (λ (y : Piece). AreBytes y.bytes) f (and_parts (field_fits (Data bytes)) true h).0
last_bytes (Medium size offset bytes) x h e =
    let f : record { offset = offset; bytes = bytes } ≡ x = cc in subst (λ (y : Piece). AreBytes y.bytes) f (and_parts (field_fits (Data bytes)) true h).0
last_bytes (LongCts size send credits bytes) x h e =
    let f : record { offset = 0; bytes = bytes } ≡ x = cc in subst (λ (y : Piece). AreBytes y.bytes) f (and_parts (field_fits (Data bytes)) true h).0
last_bytes (LongRead size send iov) x h e = cc
last_bytes (Runt size send iov runt offset bytes) x h e =
    let f : record { offset = offset; bytes = bytes } ≡ x = cc in
    let d = (all_parts field_fits (flat_map entry_fields iov) (Data bytes ∷ []) h).1 in
    subst (λ (y : Piece). AreBytes y.bytes) f (and_parts (field_fits (Data bytes)) true d).0

-- the bytes of a packet of granted bytes that fits
pub data_bytes : (recv : OpId) (offset : ℕ) (connid : Connid) (bytes : List ℕ) → fits (CtsData recv offset connid bytes) ≡ true → AreBytes bytes
unfolding layout head_fields field_fits
data_bytes recv offset connid bytes h =
    let all = layout_fits (CtsData recv offset connid bytes) h in
    let a = all_parts field_fits (head_fields 4 32768) (Number 4 recv.0 ∷ Number 8 (length bytes) ∷ Number 8 offset ∷ Number 4 connid.0 ∷ Data bytes ∷ []) all in
    let b = (and_parts (field_fits (Number 4 recv.0)) _ a.1).1 in
    let c = (and_parts (field_fits (Number 8 (length bytes))) _ b).1 in
    let d = (and_parts (field_fits (Number 8 offset)) _ c).1 in
    let e = (and_parts (field_fits (Number 4 connid.0)) _ d).1 in
    (and_parts (field_fits (Data bytes)) true e).0

-- the bytes of a message that an item has
piece_bytes_fit : (ps : List Pair) (source : Life) (n : ℕ) (item : Item) (x : Piece) → ItemFits item → piece_by ps source n item ≡ Some x → AreBytes x.bytes
unfolding piece_by
piece_bytes_fit ps source n (Spelled (Rtm number tag confirm opt form)) x fit h =
    (elim (number.0 == n) as (λ b. cond b (piece_of form) None ≡ Some x → AreBytes x.bytes) [
      | true ↦ λ k. last_bytes form x (rtm_fits number tag confirm opt form fit).last k
      | false ↦ λ k. cc
    ]) h
piece_bytes_fit ps source n (Spelled (CtsData recv offset connid bytes)) x fit h =
    subst (λ (y : Piece). AreBytes y.bytes) (then_some_parts _ _ x h).1 (data_bytes recv offset connid bytes fit)
piece_bytes_fit ps source n (Gives g) x fit h = subst (λ (y : Piece). AreBytes y.bytes) (then_some_parts _ _ x h).1 fit
piece_bytes_fit ps source n (Spelled (Cts send recv size connid)) x fit h = cc
piece_bytes_fit ps source n (Spelled (Eor send recv connid)) x fit h = cc
piece_bytes_fit ps source n (Spelled (Handshake words connid raw)) x fit h = cc
piece_bytes_fit ps source n (Spelled (Receipt number connid)) x fit h = cc
piece_bytes_fit ps source n (Asks a) x fit h = cc
piece_bytes_fit ps source n Garbled x fit h = cc

-- each datagram that was taken fits
abbrev pub TakenFits : Deed → Type 0
TakenFits (Took from item) = ItemFits item
TakenFits _ = Unit {0}

-- so of all deeds
abbrev pub AllTakenFit : List Deed → Type 0
AllTakenFit [] = Unit {0}
AllTakenFit (d ∷ before) = AllTakenFit before × TakenFits d

-- the bytes of a message that a deed took
carried_fit : (ps : List Pair) (source : Life) (n : ℕ) (d : Deed) (x : Piece) → TakenFits d → carried_by ps source n d ≡ Some x → AreBytes x.bytes
unfolding carried_by
carried_fit ps source n (Took from item) x fit h =
    (elim (same_life from source) as (λ b. cond b (piece_by ps source n item) None ≡ Some x → AreBytes x.bytes) [
      | true ↦ λ k. piece_bytes_fit ps source n item x fit k
      | false ↦ λ k. cc
    ]) h
carried_fit ps source n _ x fit h = cc

-- a byte that a piece has at a place
byte_in_fits : (x : Piece) (place b : ℕ) → AreBytes x.bytes → byte_in x place ≡ Some b → b < 256
unfolding byte_in
byte_in_fits x place b fit h =
    (elim (nat_lt place x.offset) as (λ t. cond t None (slice_get x.bytes (place - x.offset)) ≡ Some b → b < 256) [
      | true ↦ λ k. cc
      | false ↦ λ k. ltb-true b 256 (all_at (λ c. nat_lt c 256) x.bytes (place - x.offset) b fit k)
    ]) h

-- bytes of each piece
abbrev pub PiecesFit : List Piece → Type 0
PiecesFit ps = (x : Piece) → Member x ps → AreBytes x.bytes

-- a byte that pieces have at a place
byte_at_fits : (ps : List Piece) (place b : ℕ) → PiecesFit ps → byte_at ps place ≡ Some b → b < 256
unfolding byte_at
byte_at_fits [] place b fit h = cc
byte_at_fits (x ∷ ps) place b fit h =
    elim (or_else_cases (byte_in x place) (byte_at ps place) b h) [
      | inl k ↦ byte_in_fits x place b (fit x (inl refl)) k
      | inr k ↦ byte_at_fits ps place b (λ y m. fit y (inr m)) k.1
    ]

-- the bytes of each piece that was taken
carried_pieces_fit : (first : ℕ) (heads : Heads) (log : List Deed) (source : Life) (n : ℕ) → AllTakenFit log → PiecesFit (carried_pieces first heads log source n)
unfolding carried_pieces
carried_pieces_fit first heads [] source n fit x m = elim m [ ]
carried_pieces_fit first heads (d ∷ before) source n fit x m =
    elim (member-append_cases x (carried_pieces first heads before source n) (option_to_list (carried_by (pairs first heads before) source n d)) m) [
      | inl k ↦ carried_pieces_fit first heads before source n fit.0 x k
      | inr k ↦ carried_fit (pairs first heads before) source n d x fit.1 (option_member (carried_by (pairs first heads before) source n d) x k)
    ]

-- a byte, or zero where none is
byte_or_zero : (o : Option ℕ) → ((b : ℕ) → o ≡ Some b → b < 256) → nat_lt (unwrap_or o 0) 256 ≡ true
byte_or_zero None h = refl
byte_or_zero (Some b) h = lt-ltb b 256 (h b refl)

-- the bytes of each message, put together from what was taken
pub bytes_by_fit : (first : ℕ) (log : List Deed) (source : Life) (n : ℕ) → AllTakenFit log → AreBytes (bytes_by first log source n)
unfolding bytes_by
bytes_by_fit first log source n fit =
    let ps = carried_pieces first (heads_by log) log source n in
    let f : ℕ → ℕ = λ place. unwrap_or (byte_at ps place) 0 in
    let places = below (heads_by log source n).length in
    list_all-map (λ b. nat_lt b 256) f places
    ∙ all_always (λ place. nat_lt (f place) 256) places
    (λ place. byte_or_zero (byte_at ps place) (λ b h. byte_at_fits ps place b (carried_pieces_fit first (heads_by log) log source n fit) h))

-- a datagram that was taken fits
pub taken_member : (from : Life) (item : Item) (log : List Deed) → AllTakenFit log → Member (Took from item) log → TakenFits (Took from item)
taken_member from item [] fit m = elim m [ ]
taken_member from item (d ∷ before) fit (inl is) = subst TakenFits is fit.1
taken_member from item (d ∷ before) fit (inr m) = taken_member from item before fit.0 m
