-- What goes out next from a life can go.
use Rattle.std.proofs.Common.{◌≡◌, ℕ, ◌+◌, ◌-◌, ◌*◌, ◌<◌, min, Bool, true, false, cond, nat_lt, ltb-true, ◌||◌, List, [], ◌∷◌, ◌++◌, length, is_some, take, drop, Some, refl, arith, true≢false, inl, inr, sym, ◌∙◌, ap, subst, length-append, length-take, length-drop}
use Rattle.std.specs.Prelude.{flat_map}
use Rattle.std.proofs.lemmas.Bool.{and_parts, cases_lt}
use Rattle.rdm_lists.specs.Lists.{Member}
use Rattle.rdm_num.specs.Lives.{op_id}
use Rattle.rdm_num.specs.Pieces.{Piece, pieces, covers, piece_bytes}
use Rattle.rdm_num.specs.declared.numbers.OpId.{OpId}
use Rattle.rdm_num.specs.declared.numbers.Life.{Life}
use Rattle.rdm_num.specs.declared.lists.IovEntry.{IovEntry}
use Rattle.rdm_hdr.specs.Fields.{Number, Data, field_fits}
use Rattle.rdm_pkt.specs.declared.Packet.{Packet}
use Rattle.rdm_pkt.specs.declared.Packet.TheVariants.{Cts, CtsData}
use Rattle.rdm_pkt.specs.declared.Form.TheVariants as F
use Rattle.rdm_pkt.specs.declared.Kind.{Kind}
use Rattle.rdm_pkt.specs.declared.Kind.TheVariants.{Eager, Medium, LongCts, LongRead, Runt}
use Rattle.rdm_pkt.specs.Grammar.{form_fields, last_fields, entry_fields, head_fields, layout, fits}
use Rattle.rdm_num.specs.declared.numbers.Connid.{Connid}
use Rattle.rdm_pkt.specs.Openings.{rtm, read_rtm, medium_form, runt_form, long_cts_form, no_bytes, room_in, openings}
use Rattle.rdm_model.specs.Deeds.{Deed, Took, Item, Spelled}
use Rattle.rdm_model.specs.Beginnings.{Own, Messages}
use Rattle.rdm_model.specs.Sends.{Sent, sends}
use Rattle.rdm_model.specs.Grants.{Grant, grants, grant_bytes, data_room}
use Rattle.rdm_model.specs.Replies.{Reply}
use Rattle.rdm_model.specs.Dues.{Due, Replies, Sends, pieces_in, is_read, is_pushed, is_over, progress, due}
use Rattle.rdm_model.specs.Going.{Goes, due_going}
use Rattle.rdm_model.proofs.Rows.{row_covers}
use Rattle.rdm_model.proofs.Opens.{some_opening}
use Rattle.rdm_model.proofs.Dues.{SendDue, due_cases, GrantedNext, Underway, next_is}
use Rattle.rdm_model.proofs.Pushes.{pushed_of, underway}
use Rattle.rdm_model.proofs.Sending.{grant_taken}
use Rattle.rdm_law.proofs.Fits.Fitting.{CanGo}
use Rattle.rdm_law.proofs.Fits.SmallBytes.{taken_member, AllTakenFit, TakenFits, bytes_front, bytes_rest, layout_fits, all_parts}
use Rattle.rdm_law.proofs.Fits.RegionsFit.{MessagesFit}
use Rattle.rdm_law.proofs.Fits.SentFits.{SentFits, DeedsFit, sent_fits}
use Rattle.rdm_law.proofs.Fits.RepliesFit.{OwnFits, HeadsFit, replies_fit}
use Rattle.rdm_law.proofs.Fits.PacketsFit.{data_fits}
use Rattle.rdm_law.proofs.Fits.Headers.{fields_length, PieceFits, pieces_fit, common_length, common_short}
use Rattle.rdm_law.proofs.Fits.OpeningsFit.{LimitsFit, chosen_kind, longer, room_is, eager_fits, segment_fits, first_fits, ranges_fit, read_fits, runt_fits, size_below}
use Rattle.rdm_lists.proofs.Members.{member-append_right, member-map}
use Rattle.rdm_lists.proofs.Places.{slice_get-member}

-- what holds of the one element of a list
only_one : {A : Type 0} (P : A → Type 0) (x y : A) → Member y (x ∷ []) → P x → P y
only_one P x y (inl is) h = subst P is h
only_one P x y (inr m) h = elim m [ ]

-- a message that has no room in one packet has some bytes
some_bytes : (own : Own) (s : Sent) (f : SentFits own s) → LimitsFit own.limits
    → own.limits.mtu - common_length (is_some s.req.tag) (is_some s.req.cq_data) f.raw < length s.message.bytes → 190 < length s.message.bytes
some_bytes own s f l h =
    let a = common_short (is_some s.req.tag) (is_some s.req.cq_data) f.raw in
    let b = l.mtu in
    omega arith

-- how long a read list is, where no bytes follow
list_header : (iov : List IovEntry) → fields_length (flat_map entry_fields iov ++ Data [] ∷ []) ≡ 24 * length iov
unfolding fields_length entry_fields
list_header [] = refl
list_header (e ∷ es) = let r = list_header es in omega arith

-- how long the headers ahead of a read are
runt_header : (s : Sent) (n : ℕ)
    → fields_length (form_fields (runt_form s.message n no_bytes)) + fields_length (last_fields (runt_form s.message n no_bytes)) ≡ 32 + 24 * length s.message.iov
unfolding form_fields last_fields fields_length
runt_header s n = let r = list_header s.message.iov in omega arith

-- each packet that a send owes from the start fits
openings_fit : (own : Own) (s : Sent) (kind : Kind) (p : Packet) → OwnFits own → LimitsFit own.limits → SentFits own s → s.kind ≡ kind → Member p (openings own.limits s.message kind)
    → fits p ≡ true
unfolding openings form_fields last_fields fields_length
openings_fit own s Eager p o l f is m = only_one (λ x. fits x ≡ true) (rtm s.message (F.Eager s.message.bytes)) p m (eager_fits own s o f)
openings_fit own s Medium p o l f is m =
    let long = longer own s f l (chosen_kind own s f Medium is) in
    let some = some_bytes own s f l long in
    let room = room_is own s s.message.confirm (medium_form s.message no_bytes) f 16 l refl (omega arith) in
    let r = member-map (λ (x : Piece). rtm s.message (medium_form s.message x)) p (pieces (room_in own.limits (rtm s.message (medium_form s.message no_bytes))) s.message.bytes) m in
    subst (λ x. fits x ≡ true) r.2
    (segment_fits own s r.0 o f (pieces_fit (room_in own.limits (rtm s.message (medium_form s.message no_bytes))) s.message.bytes r.0 room.0 (omega arith) f.bytes r.1))
openings_fit own s LongCts p o l f is m =
    let long = longer own s f l (chosen_kind own s f LongCts is) in
    let size = room_in own.limits (rtm s.message (long_cts_form own.limits s.message [])) in
    let room = room_is own s s.message.confirm (long_cts_form own.limits s.message []) f 16 l refl (omega arith) in
    let some = room.0 in
    let rest = room.1 in
    let front = length-take size s.message.bytes in
    only_one (λ x. fits x ≡ true) (rtm s.message (long_cts_form own.limits s.message (take size s.message.bytes))) p m
    (first_fits own s (take size s.message.bytes) o l f (omega arith) (omega arith) (bytes_front size s.message.bytes f.bytes))
openings_fit own s LongRead p o l f is m =
    let long = longer own s f l (chosen_kind own s f LongRead is) in
    let some = some_bytes own s f l long in
    only_one (λ x. fits x ≡ true) (read_rtm s.message (F.LongRead (length s.message.bytes) s.message.send s.message.iov)) p m (read_fits own s o f (omega arith))
openings_fit own s (Runt n) p o l f is m =
    let chosen = chosen_kind own s f (Runt n) is in
    let long = longer own s f l chosen.0 in
    let some = some_bytes own s f l long in
    let first : 0 < own.limits.runt = ltb-true _ _ (and_parts (nat_lt 0 own.limits.runt) _ chosen.1).0 in
    let part : min own.limits.runt (length s.message.bytes - 1) ≡ n = chosen.2 in
    let size = room_in own.limits (read_rtm s.message (runt_form s.message n no_bytes)) in
    let few = (ranges_fit own s f (omega arith)).2 in
    let room = room_is own s false (runt_form s.message n no_bytes) f (32 + 24 * length s.message.iov) l (runt_header s n) (omega arith) in
    let front = length-take n s.message.bytes in
    let whole : length (take n s.message.bytes) ≡ n = omega arith in
    let r = member-map (λ (x : Piece). read_rtm s.message (runt_form s.message n x)) p (pieces size (take n s.message.bytes)) m in
    let piece : PieceFits (length (take n s.message.bytes)) r.0 = pieces_fit size (take n s.message.bytes) r.0 room.0 (omega arith) (bytes_front n s.message.bytes f.bytes) r.1 in
    subst (λ x. fits x ≡ true) r.2
    (runt_fits own s n r.0 o f (omega arith) (omega arith) (subst (λ (k : ℕ). PieceFits k r.0) whole piece))

-- the receive that a grant names
cts_recv : (send recv : OpId) (size : ℕ) (connid : Connid) → fits (Cts send recv size connid) ≡ true → recv.0 < 4294967296
unfolding layout head_fields field_fits
cts_recv send recv size connid h =
    let all = layout_fits (Cts send recv size connid) h in
    let a = all_parts field_fits (head_fields 3 32768) (Number 4 send.0 ∷ Number 4 recv.0 ∷ Number 8 size ∷ Number 4 connid.0 ∷ []) all in
    let b = (and_parts (field_fits (Number 4 send.0)) _ a.1).1 in
    ltb-true recv.0 4294967296 (and_parts (field_fits (Number 4 recv.0)) _ b).0

-- a reply is no send
pub reply_no_send : (r : Reply) (s : Sent) (p : Packet) → Replies r ≡ Sends s p → ⊥
reply_no_send r s p h = cc

-- the receive that a grant names has its number in range
grant_recv : (log : List Deed) (peer : Life) (send : ℕ) (g : Grant) → AllTakenFit log → Member g (grants log peer send) → g.recv < 4294967296
grant_recv log peer send g fit m =
    let t = grant_taken log peer send g m in
    cts_recv (op_id send) (op_id g.recv) g.size t.0 (taken_member peer (Spelled (Cts (op_id send) (op_id g.recv) g.size t.0)) log fit t.1)

-- the next granted bytes of a live send fit
granted_fits : (own : Own) (log : List Deed) (s : Sent) (pushed : List Packet) (p : Packet) → OwnFits own → LimitsFit own.limits → SentFits own s → AllTakenFit log
    → is_over log pushed s ≡ false → Underway own s pushed → 0 < length pushed → GrantedNext own (grants log s.to s.number) s pushed p → fits p ≡ true
unfolding data_room
granted_fits own log s pushed p o l f taken live u some g =
    let done = piece_bytes (pieces_in pushed) in
    let allowed = piece_bytes (pieces_in (openings own.limits s.message s.kind)) + grant_bytes (grants log s.to s.number) in
    let below : done < min allowed (length s.message.bytes) = g.below in
    let most = min (allowed - done) (data_room own.limits) in
    let room : 0 < data_room own.limits = (let m = l.mtu in omega arith) in
    let bytes = take most (drop done s.message.bytes) in
    let size : length bytes ≡ min most (length s.message.bytes - done) = length-take most (drop done s.message.bytes) ∙ ap (λ (n : ℕ). min most n) (length-drop done s.message.bytes) in
    let top = size_below own s f in
    let first : Member g.grant (grants log s.to s.number) = subst (λ (gs : List Grant). Member g.grant gs) (sym g.grants_are) (inl refl) in
    let fit : fits (CtsData (op_id g.grant.recv) done own.life.connid bytes) ≡ true =
    data_fits (op_id g.grant.recv) done own.life.connid bytes (grant_recv log s.to s.number g.grant taken first) (omega arith) (omega arith) o.connid
    (bytes_front most (drop done s.message.bytes) (bytes_rest done s.message.bytes f.bytes)) in
    subst (λ x. fits x ≡ true) (sym (g.is ∙ ap (λ (xs : List ℕ). CtsData (op_id g.grant.recv) done own.life.connid xs) g.bytes_are)) fit

-- a send whose openings were pushed has pushed something
all_opened : (own : Own) (s : Sent) (pushed datas : List Packet) → pushed ≡ openings own.limits s.message s.kind ++ datas → 0 < length pushed
all_opened own s pushed datas is =
    let a = some_opening own.limits s.message s.kind in
    let b = length-append (openings own.limits s.message s.kind) datas in
    let c = ap length is in
    omega arith

-- the next packet of a live send fits
send_fits : (own : Own) (ms : Messages) (log : List Deed) (t : Due) → OwnFits own → LimitsFit own.limits → AllTakenFit log
    → ((s : Sent) → Member s (sends own ms log) → SentFits own s) → (r : SendDue own log (pushed_of own ms log) (sends own ms log) t) → fits r.packet ≡ true
send_fits own ms log t o l taken sent r =
    let s = r.sent in
    let pushed = pushed_of own ms log s.number in
    let f : SentFits own s = sent s r.member in
    let u : Underway own s pushed = underway own ms log s r.member in
    elim (next_is own log s pushed r.packet u r.next) [
      | inl a ↦
          openings_fit own s s.kind r.packet o l f refl
          (subst (λ (ps : List Packet). Member r.packet ps) (sym a.1) (member-append_right r.packet pushed (r.packet ∷ a.0) (inl refl)))
      | inr a ↦ granted_fits own log s pushed r.packet o l f taken r.live u (all_opened own s pushed a.0 a.1) a.3
    ]

-- what a life owes next can go
pub due_fits : (ports : ℕ) (own : Own) (ms : Messages) (log : List Deed) (t : Due) (to : Life) (item : Item) → OwnFits own → LimitsFit own.limits → MessagesFit ms → HeadsFit ms.head
    → DeedsFit ports own.limits.first log → AllTakenFit log → due own ms log ≡ Some t → due_going (Some t) ≡ Some (Goes to item) → CanGo item
unfolding due_going
due_fits ports own ms log (Replies r) to item o l h k fit taken is goes =
    elim (due_cases own ms log (Replies r) is) [
      | inl a ↦
          let same : a.0 ≡ r = (let e = a.2 in cc) in
          let of : r.item ≡ item = cc in
          let waits : Member r (progress own ms log).replies = subst (λ (x : Reply). Member x (progress own ms log).replies) same (slice_get-member (progress own ms log).replies 0 a.0 a.1) in
          subst CanGo of (replies_fit ports own ms log r o h k fit taken waits)
      | inr a ↦ (let e = a.1.is in absurd (reply_no_send r a.1.sent a.1.packet e))
    ]
due_fits ports own ms log (Sends s p) to item o l h k fit taken is goes =
    elim (due_cases own ms log (Sends s p) is) [
      | inl a ↦ absurd (reply_no_send a.0 s p (sym a.2))
      | inr a ↦
          let same : a.1.packet ≡ p = (let e = a.1.is in cc) in
          let of : Spelled p ≡ item = cc in
          subst CanGo of (subst (λ x. fits x ≡ true) same (send_fits own ms log (Sends s p) o l taken (sent_fits ports own ms log h fit) a.1))
    ]
