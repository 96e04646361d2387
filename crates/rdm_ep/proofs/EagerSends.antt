-- Of eager deeds: each send is one packet, and the live sends are those whose packet was not pushed.
use Rattle.std.proofs.Common.{◌≡◌, ℕ, Bool, true, false, cond, not, List, [], ◌∷◌, length, Option, Some, None, refl, arith, ◌⊎◌, inl, inr, ap, ◌∙◌, sym, subst}
use Rattle.std.specs.Prelude.{◌||◌, nat_le, filter, is_some}
use Rattle.std.specs.List.{list_any}
use Rattle.std.proofs.lemmas.Bool.{leb-true, le-leb}
use Rattle.rdm_lists.specs.Lists.{Member, or_else}
use Rattle.rdm_num.specs.declared.numbers.Life.{Life}
use Rattle.rdm_num.specs.declared.parts.Span.{Span}
use Rattle.rdm_num.specs.declared.request.SendReq.{SendReq}
use Rattle.rdm_num.specs.declared.limits.EpLimits.{EpLimits}
use Rattle.rdm_pkt.specs.declared.Packet.{Packet}
use Rattle.rdm_pkt.specs.declared.Form.TheVariants.{Eager as EagerForm}
use Rattle.rdm_pkt.specs.declared.Kind.{Kind}
use Rattle.rdm_pkt.specs.declared.Kind.TheVariants.{Eager}
use Rattle.rdm_pkt.specs.Choice.{choose, eager_room}
use Rattle.rdm_pkt.specs.Heads.{piece_of}
use Rattle.rdm_pkt.specs.Openings.{rtm, openings}
use Rattle.rdm_model.specs.Deeds.{Deed}
use Rattle.rdm_model.specs.Beginnings.{Own, Messages}
use Rattle.rdm_model.specs.Jobs.{spans_length}
use Rattle.rdm_model.specs.Currents.{is_forgotten}
use Rattle.rdm_model.specs.Regions.{regions}
use Rattle.rdm_model.specs.Sends.{Sent, sends_to, known_word, wants_raw, new_sent, bytes_of, sends}
use Rattle.rdm_model.specs.Dues.{Due, Sends, packet_piece, pieces_in, next_packet, ends_send, confirms, is_read, is_pushed, is_complete, is_over, send_due, next_send}
use Rattle.rdm_model.proofs.Numbers.{NewSent, sends_step, sends_keep, new_number, send_below}
use Rattle.rdm_ep.specs.Eager.{FitsOnePacket, IsEagerDeed, IsEager}
use Rattle.rdm_ep.proofs.Apart.{ApartBy, apart_push}
use Rattle.rdm_ep.proofs.PartsLemmas.{bytes_short}
use Rattle.rdm_ep.proofs.Accounts.{whole_covers}

-- the number of a send
abbrev pub send_number : Sent → ℕ
send_number s = s.number

-- sends have numbers of their own
pub sends_apart : (own : Own) (ms : Messages) (log : List Deed) → ApartBy send_number (sends own ms log)
unfolding sends
sends_apart own ms [] = tt
sends_apart own ms (d ∷ before) =
    let sents = sends own ms before in
    elim (sends_step own ms d before) [
      | inl a ↦ subst (ApartBy send_number) (sym a) (sends_apart own ms before)
      | inr a ↦
          subst (ApartBy send_number) (sym a.2)
          (apart_push send_number sents a.0 (sends_apart own ms before)
          (λ y m e. let f = send_below own ms before y m in let g = new_number own ms before sents d a.0 a.1 in absurd (omega arith)))
    ]

-- a message that has room in one packet goes by one
choose_eager : (n : ℕ) (tagged cq_data raw : Bool) (own : ℕ) (known : Option ℕ) (limits : EpLimits) → nat_le n (eager_room tagged cq_data raw limits) ≡ true
    → choose n tagged cq_data raw own known limits ≡ Eager
unfolding choose
choose_eager n tagged cq_data raw own known limits h = rw h refl

-- ranges that have room have room with the bytes that they have
parts_fit : (rs : List (List ℕ)) (parts : List Span) (room : ℕ) → nat_le (spans_length parts) room ≡ true → nat_le (length (bytes_of rs parts)) room ≡ true
parts_fit rs parts room h =
    let l = leb-true (spans_length parts) room h in
    let t = bytes_short rs parts in
    le-leb (length (bytes_of rs parts)) room (omega arith)

-- the send goes in one packet and asks for no receipt
abbrev pub IsOfOne : Sent → Type 0
IsOfOne s = (s.kind ≡ Eager) × (s.message.confirm ≡ false)

-- a send of one packet is so whatever its headers
new_eager : (own : Own) (before : List Deed) (n m : ℕ) (req : SendReq) (to : Life) (rs : List (List ℕ)) → FitsOnePacket own req
    → IsOfOne (new_sent own (known_word before to) n m req to (bytes_of rs req.parts))
unfolding new_sent
new_eager own before n m req to rs h =
    let raw : Bool = wants_raw (known_word before to) in
    let bytes = bytes_of rs req.parts in (
      choose_eager (length bytes) (is_some req.tag) (is_some req.cq_data) raw own.features (known_word before to) own.limits
          (parts_fit rs req.parts (eager_room (is_some req.tag) (is_some req.cq_data) raw own.limits) (h.1 raw)),
      h.0,
    )

-- an eager deed makes a send of one packet
pub new_sent_eager : (own : Own) (ms : Messages) (before : List Deed) (sents : List Sent) (d : Deed) (s : Sent) → IsEagerDeed own before d
    → NewSent own ms before sents d s → IsOfOne s
new_sent_eager own ms before sents d s h n =
    let fits : FitsOnePacket own n.req = subst (IsEagerDeed own before) n.by h in
    subst IsOfOne (sym n.is) (new_eager own before (length sents) (length (sends_to sents n.to)) n.req n.to (regions own.limits.first ms before) fits)

-- each send is of one packet
pub all_eager : (own : Own) (ms : Messages) (log : List Deed) (s : Sent) → IsEager own log → Member s (sends own ms log) → IsOfOne s
unfolding sends
all_eager own ms [] s h m = elim m [ ]
all_eager own ms (d ∷ before) s h m =
    sends_keep own ms d before (λ xs x. IsOfOne x)
    (λ x k. all_eager own ms before x h.0 k) (λ x t k n was. was) (λ t n. new_sent_eager own ms before (sends own ms before) d t h.1 n) s m

-- the one packet of a send
abbrev pub opening : Sent → Packet
opening s = rtm s.message (EagerForm s.message.bytes)

-- some packet was pushed
unfoldable pub has_any : List Packet → Bool
has_any [] = false
has_any (p ∷ ps) = true

-- of none there is none
none_any : has_any [] ≡ false
unfolding has_any
none_any = refl

-- of one there is one
one_any : (p : Packet) → has_any (p ∷ []) ≡ true
unfolding has_any
one_any p = refl

-- of a send no packet was pushed, or the one that it has
abbrev pub IsPushedOrNot : (ℕ → List Packet) → Sent → Type 0
IsPushedOrNot packets s = (packets s.number ≡ []) ⊎ (packets s.number ≡ opening s ∷ [])

-- these sends are of one packet each, and no packet of theirs but that one was pushed
pub record AreOfOne (packets : ℕ → List Packet) (sents : List Sent) : Type 0 where
  pub eager : (s : Sent) → Member s sents → IsOfOne s
  pub pushed : (s : Sent) → Member s sents → IsPushedOrNot packets s

-- those sends whose packet was not pushed
abbrev pub unsent : (ℕ → List Packet) → List Sent → List Sent
unsent packets sents = filter (λ (s : Sent). not (has_any (packets s.number))) sents

-- no life is forgotten
abbrev pub ForgetsNone : List Deed → Type 0
ForgetsNone log = (life : Life) → is_forgotten log life ≡ false

-- the message is whole once its packet was pushed
pushed_is : (s : Sent) (ps : List Packet) → (ps ≡ []) ⊎ (ps ≡ opening s ∷ []) → is_pushed s ps ≡ has_any ps
unfolding is_pushed has_any pieces_in packet_piece piece_of
pushed_is s ps (inl e) = rw e refl
pushed_is s ps (inr e) = rw e (whole_covers s.message.bytes)

-- a send of one packet is complete once it was pushed
complete_is : (log : List Deed) (ps : List Packet) (s : Sent) → IsOfOne s → is_complete log ps s ≡ is_pushed s ps
unfolding is_complete is_read
complete_is log ps s e =
    ap (λ (k : Kind). cond (is_read k) (list_any (ends_send s.to s.number) log) (cond s.message.confirm (list_any (confirms s.to s.message.no.0) log) (is_pushed s ps))) e.0
    ∙ ap (λ (c : Bool). cond c (list_any (confirms s.to s.message.no.0) log) (is_pushed s ps)) e.1

-- a send of one packet is over once it was pushed
pub over_is : (log : List Deed) (ps : List Packet) (s : Sent) → ForgetsNone log → IsOfOne s → (ps ≡ []) ⊎ (ps ≡ opening s ∷ [])
    → is_over log ps s ≡ has_any ps
unfolding is_over
over_is log ps s none e h = ap (λ (b : Bool). b || is_complete log ps s) (none s.to) ∙ complete_is log ps s e ∙ pushed_is s ps h

-- the packet of the first of these sends
unfoldable pub first_due : List Sent → Option Due
first_due [] = None
first_due (s ∷ ss) = Some (Sends s (opening s))

-- the packet of a send goes out next while it was not pushed
next_of : (own : Own) (log : List Deed) (s : Sent) → s.kind ≡ Eager → next_packet own log s [] ≡ Some (opening s)
unfolding next_packet openings or_else
next_of own log s e = rw e refl

-- what goes out from sends of one packet: that of the first one that was not pushed
pub next_send_is : (own : Own) (log : List Deed) (packets : ℕ → List Packet) (sents : List Sent) → ForgetsNone log → AreOfOne packets sents
    → next_send own log packets sents ≡ first_due (unsent packets sents)
unfolding next_send send_due first_due
next_send_is own log packets [] none h = refl
next_send_is own log packets (s ∷ ss) none h =
    let e = h.eager s (inl refl) in
    let over = over_is log (packets s.number) s none e (h.pushed s (inl refl)) in
    let rest = next_send_is own log packets ss none (record { eager = λ x m. h.eager x (inr m); pushed = λ x m. h.pushed x (inr m) }) in
    elim (h.pushed s (inl refl)) [
      | inl is ↦
          let no : has_any (packets s.number) ≡ false = rw is (none_any) in
          rw (over, no, is, next_of own log s e.0) refl
      | inr is ↦
          let yes : has_any (packets s.number) ≡ true = rw is (one_any (opening s)) in
          rw (over, yes) rest
    ]
