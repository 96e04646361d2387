-- The packets that open a message of an accepted send fit.
use Rattle.std.proofs.Common.{Bool, ◌≡◌, ℕ, ◌+◌, ◌-◌, ◌<◌, ◌≤◌, min, true, false, nat_lt, nat_le, leb-false, leb-true, lt-ltb, le-leb, eq-eqb, ◌&&◌, List, [], ◌∷◌, length, is_some, Option, refl, arith, sym, ◌∙◌, subst}
use Rattle.std.specs.Prelude.{flat_map}
use Rattle.std.specs.List.{list_all}
use Rattle.std.proofs.lemmas.Bool.{and_parts, and_from}
use Rattle.rdm_num.specs.Pieces.{Piece}
use Rattle.rdm_num.specs.declared.numbers.OpId.{OpId}
use Rattle.rdm_num.specs.declared.lists.IovEntry.{IovEntry}
use Rattle.rdm_num.specs.declared.limits.EpLimits.{EpLimits}
use Rattle.rdm_hdr.specs.Fields.{Number, Data, field_fits}
use Rattle.rdm_hdr.specs.declared.Opt.{Opt}
use Rattle.rdm_pkt.specs.declared.Packet.TheVariants.{Rtm}
use Rattle.rdm_pkt.specs.declared.Form.{Form}
use Rattle.rdm_pkt.specs.declared.Form.TheVariants as F
use Rattle.rdm_pkt.specs.declared.Kind.{Kind}
use Rattle.rdm_pkt.specs.Choice.{eager_room, both_have}
use Rattle.rdm_pkt.specs.Grammar.{form_fields, last_fields, entry_fields, iov_fits, form_fits, confirm_fits, fits, spelling}
use Rattle.rdm_pkt.specs.Openings.{rtm, read_rtm, medium_form, runt_form, long_cts_form, room_in}
use Rattle.rdm_model.specs.Jobs.{limits_fit, option_fits, len_max, is_within}
use Rattle.rdm_model.specs.Beginnings.{Own}
use Rattle.rdm_model.specs.Sends.{Sent, opt_for}
use Rattle.rdm_law.proofs.Fits.Fitting.{AreBytes}
use Rattle.rdm_law.proofs.Fits.SmallBytes.{all_append}
use Rattle.rdm_law.proofs.Fits.Spans.{read_list_fits}
use Rattle.rdm_law.proofs.Fits.SentFits.{SentFits}
use Rattle.rdm_law.proofs.Fits.RepliesFit.{OwnFits}
use Rattle.rdm_law.proofs.Fits.PacketsFit.{all_fields, word_field, long_field, data_field, HeadersFit, headers_fit, rtm_from}
use Rattle.rdm_law.proofs.Fits.Headers.{fields_length, common_length, common_short, eager_room_is, sent_length_is, ChosenBy, choice_is, PieceFits}

-- what the proofs use of fair limits
pub record LimitsFit (limits : EpLimits) : Type 0 where
  pub mtu : 256 ≤ limits.mtu
  pub credits : 0 < limits.credits
  pub credits_top : limits.credits < 4294967296

-- fair limits have it
pub limits_are : (limits : EpLimits) → limits_fit limits ≡ true → LimitsFit limits
unfolding limits_fit is_within
limits_are limits h =
    let a = and_parts _ _ h in
    let b = and_parts _ _ a.0 in
    let c = and_parts _ _ b.0 in
    let d = and_parts _ _ c.0 in
    let e = and_parts _ _ d.0 in
    let f = and_parts _ _ e.0 in
    let g = and_parts _ _ f.0 in
    let i = and_parts _ _ g.0 in
    let j = and_parts _ _ i.0 in
    let mtu = and_parts _ _ j.0 in
    let credits = and_parts _ _ f.1 in
    let low : 1 ≤ limits.credits = leb-true _ _ credits.0 in
    let high : limits.credits ≤ 65535 = leb-true _ _ credits.1 in
    record { mtu = leb-true _ _ mtu.0; credits = omega arith; credits_top = omega arith }

-- a packet that opens the message of a send fits by its form
opens_fit : (own : Own) (s : Sent) (confirm : Bool) (form : Form) → OwnFits own → SentFits own s → confirm_fits confirm form ≡ true → form_fits form ≡ true → list_all field_fits (form_fields form) ≡ true
    → list_all field_fits (last_fields form) ≡ true → fits (Rtm s.message.no s.message.tag confirm s.message.opt form) ≡ true
opens_fit own s confirm form o f r a b c =
    let tag : option_fits s.message.tag ≡ true = subst (λ (t : Option ℕ). option_fits t ≡ true) (sym f.tag_is) f.tag in
    let headers : HeadersFit s.message.opt = subst HeadersFit (sym f.opt_is) (headers_fit own.life f.raw s.req.cq_data o.port o.connid f.cq_data) in
    rtm_from s.message.no s.message.tag confirm s.message.opt form f.no tag headers r a b c

-- the number of a send as packets carry it is in its range
send_below : (own : Own) (s : Sent) → SentFits own s → s.message.send.0 < 4294967296
send_below own s f = subst (λ (x : OpId). x.0 < 4294967296) (sym f.send_is) f.number

-- the length of a message of a send
pub size_below : (own : Own) (s : Sent) → SentFits own s → length s.message.bytes ≤ len_max
size_below own s f = let a = f.size in let b = f.top in omega arith

-- the read list of a message that has a byte
pub ranges_fit : (own : Own) (s : Sent) → SentFits own s → 0 < length s.message.bytes → (iov_fits s.message.iov (length s.message.bytes) ≡ true)
    × (list_all field_fits (flat_map entry_fields s.message.iov) ≡ true) × (length s.message.iov ≤ 4)
ranges_fit own s f some =
    let P : List IovEntry → Type 0 = λ iov. (iov_fits iov (length s.message.bytes) ≡ true) × (list_all field_fits (flat_map entry_fields iov) ≡ true) × (length iov ≤ 4) in
    subst P (sym f.iov_is) (read_list_fits s.req.parts (length s.message.bytes) f.few f.spans (sym f.size) some)

-- how many bytes a packet of a send has beside those of the message
headers_of : (own : Own) (s : Sent) (confirm : Bool) (form : Form) (f : SentFits own s)
    → length (spelling (Rtm s.message.no s.message.tag confirm s.message.opt form)) ≡ common_length (is_some s.req.tag) (is_some s.req.cq_data) f.raw + fields_length (form_fields form) + fields_length (last_fields form)
headers_of own s confirm form f =
    let P : Opt → Option ℕ → Type 0 = λ opt tag. length (spelling (Rtm s.message.no tag confirm opt form))
    ≡ common_length (is_some s.req.tag) (is_some s.req.cq_data) f.raw + fields_length (form_fields form) + fields_length (last_fields form) in
    let a : P (opt_for own.life f.raw s.req.cq_data) s.req.tag = sent_length_is s.message.no s.req.tag confirm own.life f.raw s.req.cq_data form in
    let b : P (opt_for own.life f.raw s.req.cq_data) s.message.tag = subst (λ (t : Option ℕ). P (opt_for own.life f.raw s.req.cq_data) t) (sym f.tag_is) a in
    subst (λ (o : Opt). P o s.message.tag) (sym f.opt_is) b

-- what is left for a message's bytes in a packet with headers of that length beside the common ones
pub room_is : (own : Own) (s : Sent) (confirm : Bool) (form : Form) (f : SentFits own s) (more : ℕ) → LimitsFit own.limits → fields_length (form_fields form) + fields_length (last_fields form) ≡ more
    → more ≤ 190
    → (0 < room_in own.limits (Rtm s.message.no s.message.tag confirm s.message.opt form))
    × (room_in own.limits (Rtm s.message.no s.message.tag confirm s.message.opt form) + more ≡ own.limits.mtu - common_length (is_some s.req.tag) (is_some s.req.cq_data) f.raw)
unfolding room_in
room_is own s confirm form f more l is top =
    let a = headers_of own s confirm form f in
    let b = common_short (is_some s.req.tag) (is_some s.req.cq_data) f.raw in
    let c = l.mtu in
    (omega arith, omega arith)

-- a message that has no room in one packet is longer than that room
pub longer : (own : Own) (s : Sent) (f : SentFits own s) → LimitsFit own.limits → nat_le (length s.message.bytes) (eager_room (is_some s.req.tag) (is_some s.req.cq_data) f.raw own.limits) ≡ false
    → own.limits.mtu - common_length (is_some s.req.tag) (is_some s.req.cq_data) f.raw < length s.message.bytes
longer own s f l h =
    let a = leb-false _ _ h in
    let b = eager_room_is (is_some s.req.tag) (is_some s.req.cq_data) f.raw own.limits in
    omega arith

-- what the protocol of a send says of its length
abbrev pub Chosen : (own : Own) (s : Sent) → SentFits own s → Kind → Type 0
Chosen own s f kind =
    ChosenBy (nat_le (length s.message.bytes) (eager_room (is_some s.req.tag) (is_some s.req.cq_data) f.raw own.limits))
    (nat_lt 0 own.limits.runt && both_have 4 own.features f.known) (min own.limits.runt (length s.message.bytes - 1)) kind

-- a send's protocol was chosen by its length
pub chosen_kind : (own : Own) (s : Sent) (f : SentFits own s) (kind : Kind) → s.kind ≡ kind → Chosen own s f kind
chosen_kind own s f kind is =
    subst (Chosen own s f) (sym f.kind_is ∙ is)
    (choice_is (length s.message.bytes) (is_some s.req.tag) (is_some s.req.cq_data) f.raw own.features f.known own.limits)

-- a whole message
pub eager_fits : (own : Own) (s : Sent) → OwnFits own → SentFits own s → fits (rtm s.message (F.Eager s.message.bytes)) ≡ true
unfolding form_fits confirm_fits form_fields last_fields
eager_fits own s o f = opens_fit own s s.message.confirm (F.Eager s.message.bytes) o f refl refl refl (all_fields (Data s.message.bytes ∷ []) (data_field s.message.bytes f.bytes, tt))

-- a segment
pub segment_fits : (own : Own) (s : Sent) (x : Piece) → OwnFits own → SentFits own s → PieceFits (length s.message.bytes) x → fits (rtm s.message (medium_form s.message x)) ≡ true
unfolding form_fits confirm_fits form_fields last_fields
segment_fits own s x o f p =
    let top = size_below own s f in
    let some = p.some in
    let within = p.within in
    opens_fit own s s.message.confirm (medium_form s.message x) o f refl
    (and_from _ _ (le-leb 1 (length x.bytes) some) (le-leb (x.offset + length x.bytes) (length s.message.bytes) within))
    (all_fields (Number 8 (length s.message.bytes) ∷ Number 8 x.offset ∷ []) (long_field (length s.message.bytes) (omega arith), (long_field x.offset (omega arith), tt)))
    (all_fields (Data x.bytes ∷ []) (data_field x.bytes p.bytes, tt))

-- a first part that asks for grants
pub first_fits : (own : Own) (s : Sent) (bytes : List ℕ) → OwnFits own → LimitsFit own.limits → SentFits own s → 0 < length bytes → length bytes < length s.message.bytes → AreBytes bytes
    → fits (rtm s.message (long_cts_form own.limits s.message bytes)) ≡ true
unfolding form_fits confirm_fits form_fields last_fields
first_fits own s bytes o l f some less small =
    let top = size_below own s f in
    opens_fit own s s.message.confirm (long_cts_form own.limits s.message bytes) o f refl
    (and_from _ _ (and_from _ _ (le-leb 1 (length bytes) some) (lt-ltb (length bytes) (length s.message.bytes) less)) (le-leb 1 own.limits.credits l.credits))
    (all_fields (Number 8 (length s.message.bytes) ∷ Number 4 s.message.send.0 ∷ Number 4 own.limits.credits ∷ [])
    (long_field (length s.message.bytes) (omega arith), (word_field s.message.send.0 (send_below own s f), (word_field own.limits.credits l.credits_top, tt))))
    (all_fields (Data bytes ∷ []) (data_field bytes small, tt))

-- a message to be read
pub read_fits : (own : Own) (s : Sent) → OwnFits own → SentFits own s → 0 < length s.message.bytes
    → fits (read_rtm s.message (F.LongRead (length s.message.bytes) s.message.send s.message.iov)) ≡ true
unfolding form_fits confirm_fits form_fields last_fields
read_fits own s o f some =
    let top = size_below own s f in
    let iov = ranges_fit own s f some in
    let few = iov.2 in
    opens_fit own s false (F.LongRead (length s.message.bytes) s.message.send s.message.iov) o f refl iov.0
    (all_fields (Number 8 (length s.message.bytes) ∷ Number 4 s.message.send.0 ∷ Number 4 (length s.message.iov) ∷ [])
    (long_field (length s.message.bytes) (omega arith), (word_field s.message.send.0 (send_below own s f), (word_field (length s.message.iov) (omega arith), tt))))
    iov.1

-- a segment of the first part ahead of a read
pub runt_fits : (own : Own) (s : Sent) (runt : ℕ) (x : Piece) → OwnFits own → SentFits own s → 0 < runt → runt < length s.message.bytes → PieceFits runt x
    → fits (read_rtm s.message (runt_form s.message runt x)) ≡ true
unfolding form_fits confirm_fits form_fields last_fields
runt_fits own s runt x o f first less p =
    let top = size_below own s f in
    let iov = ranges_fit own s f (omega arith) in
    let few = iov.2 in
    let some = p.some in
    let within = p.within in
    opens_fit own s false (runt_form s.message runt x) o f refl
    (and_from _ _ (and_from _ _ (and_from _ _ (and_from _ _ iov.0 (le-leb 1 (length x.bytes) some)) (le-leb (x.offset + length x.bytes) runt within)) (le-leb 1 runt first))
    (lt-ltb runt (length s.message.bytes) less))
    (all_fields (Number 8 (length s.message.bytes) ∷ Number 4 s.message.send.0 ∷ Number 4 (length s.message.iov) ∷ Number 8 runt ∷ Number 8 x.offset ∷ []) (
      long_field (length s.message.bytes) (omega arith),
      (
        word_field s.message.send.0 (send_below own s f),
        (
          word_field (length s.message.iov) (omega arith),
          (long_field runt (omega arith), (long_field x.offset (omega arith), tt)),
        ),
      ),
    ))
    (all_append field_fits (flat_map entry_fields s.message.iov) (Data x.bytes ∷ []) iov.1 (all_fields (Data x.bytes ∷ []) (data_field x.bytes p.bytes, tt)))
