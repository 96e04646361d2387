-- Heads of messages fit, by each deed.
use Rattle.std.proofs.Common.{◌≡◌, ℕ, ◌+◌, Bool, true, false, not, cond, List, [], ◌∷◌, filter, Option, Some, None, refl, sym, ap, ◌∙◌, subst, ◌⊎◌, inl, inr}
use Rattle.std.specs.Prelude.{◌&&◌, ◌||◌, ◌==◌, slice_get, is_some, option_map}
use Rattle.rdm_lists.specs.Lists.{Member, without_first}
use Rattle.rdm_lists.proofs.Members.{member-filter, member-map, member-append_cases}
use Rattle.rdm_num.specs.Lives.{same_life}
use Rattle.rdm_num.specs.Pieces.{Piece, byte_in}
use Rattle.rdm_num.specs.declared.numbers.Life.{Life}
use Rattle.rdm_num.specs.declared.head.Head.{Head}
use Rattle.rdm_num.specs.declared.request.SendReq.{SendReq}
use Rattle.rdm_num.specs.declared.request.RecvReq.{RecvReq}
use Rattle.rdm_match.specs.declared.PostedRecv.{PostedRecv}
use Rattle.rdm_match.specs.declared.Arrived.{Arrived}
use Rattle.rdm_match.specs.Matcher.{Pair, accepts}
use Rattle.rdm_pkt.specs.declared.Form.{Form}
use Rattle.rdm_pkt.specs.declared.Packet.TheVariants.{Rtm, Cts, CtsData, Eor, Handshake, Receipt}
use Rattle.rdm_pkt.specs.Heads.{head_of, piece_of}
use Rattle.rdm_rx.specs.Asking.{HeadFits}
use Rattle.rdm_model.specs.declared.job.Instr.{Instr}
use Rattle.rdm_model.specs.declared.job.Instr.TheVariants.{Insert, Reg, Send, Recv, Cancel}
use Rattle.rdm_model.specs.Beginnings.{Own}
use Rattle.rdm_model.specs.Currents.{other_life}
use Rattle.rdm_model.specs.Deeds.{Did, Pushed, Took, Polled, Item, Spelled, Asks, Gives}
use Rattle.rdm_model.specs.Replies.{Reply}
use Rattle.rdm_life.specs.Facts.{meets_receive_in}
use Rattle.rdm_life.specs.Forgetting.{forget, concerns, is_among}
use Rattle.rdm_life.specs.Handling.{opened_by, with_more, receive_of, land_found, add, after_rtm, after_item, after_take, after_instr, after}
use Rattle.rdm_life.specs.Kept.{Kept, Peer, EarlyMessage, LiveSend, LiveReceive, Matched, is_receive, change_where, with_peer}
use Rattle.rdm_life.specs.Landing.{land, next_window, with_piece, with_window, with_message, is_full}
use Rattle.rdm_life.specs.Lives.{greet, after_insert, with_source}
use Rattle.rdm_life.specs.Receiving.{entering_in, enter, hear, with_early, after_cancel, after_recv, receive_in, with_live}
use Rattle.rdm_life.specs.Memory.{part_of}
use Rattle.rdm_life.specs.Sending.{push_send, push_first, send_next, after_grant, after_ask, end_sends, send_to}
use Rattle.rdm_sound.specs.Orders.{IsAllowed}
use Rattle.rdm_sound.specs.Premises.{IsOrderly}
use Rattle.rdm_sound.specs.Steps.{settle_found, land_one, meet_one, post_found, arrive_found, enter_one, next_of, with_replies, with_end, with_next_window}
use Rattle.rdm_sound.proofs.Deeds.{heard_orderly, source_orderly, times_keep}
use Rattle.rdm_sound.proofs.Enters.{enters_each}
use Rattle.rdm_sound.proofs.Orderly.{numbered}
use Rattle.rdm_sound.proofs.Pairs.{taken}
use Rattle.rdm_sound.proofs.Posts.{posts_one, lands_in_one}
use Rattle.rdm_state.specs.Fitting.{HaveHeads, OpensFitting, BeginsFitting, StaysFitting}

some_same : {A : Type 0} (a b : A) → Some a ≡ Some b → a ≡ b
some_same a b h = cc

no_some : {A : Type 0} (a : A) → None ≡ Some a → ⊥
no_some a h = cc

-- the head of a receive's message fits, if it has one
abbrev Fits : Option Matched → Type 0
Fits o = (m : Matched) → o ≡ Some m → HeadFits m.head

-- a receive that is changed has the same head
abbrev KeepsHead : (LiveReceive → LiveReceive) → Type 0
KeepsHead f = (r : LiveReceive) → Fits r.matched → Fits (f r).matched

changed_heads : (t : LiveReceive → Bool) (f : LiveReceive → LiveReceive) (v : Kept) → KeepsHead f → HaveHeads v → HaveHeads (record v { receives = change_where t f v.receives })
unfolding change_where
changed_heads t f v keeps h =
    record {
      early = h.early;
      taken = λ r m k is.
          let from = member-map (λ (x : LiveReceive). cond (t x) (f x) x) r v.receives k in
          by (t from.0) from.0 (λ x. h.taken from.0 x from.1) r from.2 m is;
    }
  where
    by : (b : Bool) (x : LiveReceive) → Fits x.matched → (r : LiveReceive) → cond b (f x) x ≡ r → Fits r.matched
    by true x fits r same = subst (λ (y : LiveReceive). Fits y.matched) same (keeps x fits)
    by false x fits r same = subst (λ (y : LiveReceive). Fits y.matched) same fits

window_keeps : (own : Own) → KeepsHead (with_window own)
unfolding with_window
window_keeps own r fits = of_message r.matched fits
  where
    of_message : (o : Option Matched) → Fits o → Fits (option_map (λ (m : Matched). record m { granted = m.granted + next_window own m }) o)
    of_message None f m is = absurd (no_some m is)
    of_message (Some x) f m is = subst (λ (y : Matched). HeadFits y.head) (some_same _ m is) (f x refl)

piece_keeps : (p : Piece) → KeepsHead (with_piece p)
piece_keeps p r fits = of_message r.matched fits
  where
    of_message : (o : Option Matched) → Fits o → Fits (option_map (λ (m : Matched). record m { came = λ place. m.came place || is_some (byte_in p place) }) o)
    of_message None f m is = absurd (no_some m is)
    of_message (Some x) f m is = subst (λ (y : Matched). HeadFits y.head) (some_same _ m is) (f x refl)

-- fewer receives
left_heads : (t : LiveReceive → Bool) (v : Kept) → HaveHeads v → HaveHeads (record v { receives = filter t v.receives })
left_heads t v h = record { early = h.early; taken = λ r m k. h.taken r m (member-filter t r v.receives k).0 }

-- ---- steps

settled_heads : (is_new : Bool) (o : Option LiveReceive) (v : Kept) → HaveHeads v → HaveHeads (settle_found is_new o v)
unfolding settle_found
settled_heads is_new None v h = h
settled_heads is_new (Some r) v h =
    elim (is_full r.matched) as (λ b. HaveHeads (with_replies is_new r (cond b (with_end r v) (with_next_window r v)))) [
      | true ↦ (let q = left_heads (λ (x : LiveReceive). not (is_receive r.receive.number x)) v h in record { early = q.early; taken = q.taken })
      | false ↦ (let q = changed_heads (is_receive r.receive.number) (with_window v.own) v (window_keeps v.own) h in record { early = q.early; taken = q.taken })
    ]

lands_heads : (number : ℕ) (p : Piece) (v : Kept) → HaveHeads v → HaveHeads (land_one number p v)
lands_heads number p v h = settled_heads false _ _ (changed_heads (is_receive number) (with_piece p) v (piece_keeps p) h)

-- a receive takes a message with that head
message_keeps : (p : Pair) (e : Option EarlyMessage) → ((x : EarlyMessage) → e ≡ Some x → HeadFits x.head) → KeepsHead (with_message p e)
unfolding with_message
message_keeps p None fits r f m is = f m is
message_keeps p (Some e) fits r f m is = subst (λ (y : Matched). HeadFits y.head) (some_same _ m is) (fits e refl)

meets_heads : (p : Pair) (v : Kept) → HaveHeads v → HaveHeads (meet_one p v)
unfolding meet_one
meets_heads p v h =
    let q = changed_heads (is_receive p.recv.id.0) (with_message p (v.early p.message.life p.message.no.0)) v (message_keeps p _ (h.early p.message.life p.message.no.0)) h in
    settled_heads true _ (taken p v) (record { early = λ life n e is. left (same_life p.message.life life && p.message.no.0 == n) (v.early life n) (h.early life n) e is; taken = q.taken })
  where
    left : (b : Bool) (o : Option EarlyMessage) → ((x : EarlyMessage) → o ≡ Some x → HeadFits x.head) → (e : EarlyMessage) → cond b None o ≡ Some e → HeadFits e.head
    left true o f e is = absurd (no_some e is)
    left false o f e is = f e is

arrived_heads : (a : Arrived) (o : Option PostedRecv) (v : Kept) → HaveHeads v → HaveHeads (arrive_found a o v)
unfolding arrive_found
arrived_heads a None v h = record { early = h.early; taken = h.taken }
arrived_heads a (Some r) v h = meets_heads (record { recv = r; message = a }) (record v { posted = without_first (λ q. accepts q a) v.posted }) (record { early = h.early; taken = h.taken })

posted_heads : (r : PostedRecv) (o : Option Arrived) (v : Kept) → HaveHeads v → HaveHeads (post_found r o v)
unfolding post_found
posted_heads r None v h = record { early = h.early; taken = h.taken }
posted_heads r (Some a) v h = meets_heads (record { recv = r; message = a }) (record v { arrived = without_first (accepts r) v.arrived }) (record { early = h.early; taken = h.taken })

enters_heads : (source : Life) (v : Kept) → HaveHeads v → HaveHeads (enter_one source v)
enters_heads source v h = arrived_heads (next_of v source) _ (with_peer source (λ (p : Peer). record p { next = p.next + 1 }) v) (record { early = h.early; taken = h.taken })

entered_heads : (source : Life) (v : Kept) → IsOrderly v → HaveHeads v → HaveHeads (enter source v)
entered_heads source v o h =
    subst HaveHeads (sym (enters_each source v o.posted_once (numbered v.receives o.once) o.apart))
    (times_keep HaveHeads (enter_one source) (entering_in v source) v (λ w k. enters_heads source w k) h)

-- ---- what is taken

landed_heads : (number : ℕ) (p : Piece) (v : Kept) → IsOrderly v → HaveHeads v → HaveHeads (land number p v)
landed_heads number p v o h = subst HaveHeads (sym (lands_in_one number p v o)) (lands_heads number p v h)

land_found_heads : (r : Option LiveReceive) (p : Option Piece) (v : Kept) → IsOrderly v → HaveHeads v → HaveHeads (land_found r p v)
unfolding land_found
land_found_heads (Some r) (Some p) v o h = landed_heads r.receive.number p v o h
land_found_heads (Some r) None v o h = h
land_found_heads None p v o h = h

-- more of an early message has its head
more_heads : (b : Bool) (p : Option Piece) (o : Option EarlyMessage) → ((x : EarlyMessage) → o ≡ Some x → HeadFits x.head) → (e : EarlyMessage) → cond b (option_map (with_more p) o) o ≡ Some e → HeadFits e.head
more_heads false p o f e is = f e is
more_heads true p None f e is = absurd (no_some e is)
more_heads true p (Some x) f e is = subst (λ (y : EarlyMessage). HeadFits y.head) (some_same _ e is) (f x refl)

added_heads : (source : Life) (number : ℕ) (p : Option Piece) (v : Kept) → IsOrderly v → HaveHeads v → HaveHeads (add source number p v)
unfolding add with_early
added_heads source number p v o h =
    elim (is_some (v.early source number)) as (λ b. HaveHeads (cond b (with_early source number (with_more p) v) (land_found (receive_of v source number) p v))) [
      | true ↦ record { early = λ life n e is. more_heads (same_life life source && n == number) p (v.early life n) (h.early life n) e is; taken = h.taken }
      | false ↦ land_found_heads (receive_of v source number) p v o h
    ]

opened_heads : (source : Life) (number : ℕ) (head : Head) (form : Form) (v : Kept) → IsOrderly v → HaveHeads v → HeadFits head → HaveHeads (after_rtm source number head form v)
unfolding after_rtm hear
opened_heads source number head form v o h fits =
    let w : Kept = hear source number (opened_by head form) v in
    elim ((v.peers source).heard number) as (λ b. HaveHeads (cond b (add source number (piece_of form) v) (enter source w))) [
      | true ↦ added_heads source number (piece_of form) v o h
      | false ↦ entered_heads source w (heard_orderly source number (opened_by head form) v o) (record { early = λ life n e is. new (same_life life source && n == number) (v.early life n) (h.early life n) e is; taken = h.taken })
    ]
  where
    new : (b : Bool) (o' : Option EarlyMessage) → ((x : EarlyMessage) → o' ≡ Some x → HeadFits x.head) → (e : EarlyMessage) → cond b (Some (opened_by head form)) o' ≡ Some e → HeadFits e.head
    new true o' f e is = subst (λ (y : EarlyMessage). HeadFits y.head) (some_same (opened_by head form) e is) fits
    new false o' f e is = f e is

item_heads : (from : Life) (item : Item) (v : Kept) → IsOrderly v → HaveHeads v → OpensFitting (Took from item) → HaveHeads (after_item from item v)
unfolding after_item after_grant after_ask end_sends
item_heads from (Spelled (Rtm number tag confirm opt form)) v o h fits = opened_heads from number.0 (head_of tag confirm opt form) form v o h fits
item_heads from (Spelled (Cts send recv size connid)) v o h fits = record { early = h.early; taken = h.taken }
item_heads from (Spelled (CtsData recv offset connid bytes)) v o h fits = landed_heads recv.0 (record { offset = offset; bytes = bytes }) v o h
item_heads from (Spelled (Eor send recv connid)) v o h fits = record { early = h.early; taken = h.taken }
item_heads from (Spelled (Handshake words connid raw)) v o h fits = record { early = h.early; taken = h.taken }
item_heads from (Spelled (Receipt number connid)) v o h fits = record { early = h.early; taken = h.taken }
item_heads from (Asks ask) v o h fits = record { early = h.early; taken = h.taken }
item_heads from (Gives g) v o h fits = landed_heads g.recv_id.0 (record { offset = g.at; bytes = g.bytes }) v o h
item_heads from _ v o h fits = h

taken_heads : (from : Life) (item : Item) (v : Kept) → IsOrderly v → HaveHeads v → OpensFitting (Took from item) → HaveHeads (after_take from item v)
unfolding greet with_source
taken_heads from item v o h fits = item_heads from item (greet true from None (with_source from v)) (source_orderly from v o) (record { early = h.early; taken = h.taken }) fits

-- ---- instructions, and what goes out

forgotten_heads : (lives : List Life) (v : Kept) → HaveHeads v → HaveHeads (forget lives v)
unfolding forget
forgotten_heads lives v h =
    record {
      early = λ life n e is. left (is_among lives life) (v.early life n) (h.early life n) e is;
      taken = λ r m k. h.taken r m (member-filter (λ (x : LiveReceive). not (concerns lives x)) r v.receives k).0;
    }
  where
    left : (b : Bool) (o : Option EarlyMessage) → ((x : EarlyMessage) → o ≡ Some x → HeadFits x.head) → (e : EarlyMessage) → cond b None o ≡ Some e → HeadFits e.head
    left true o f e is = absurd (no_some e is)
    left false o f e is = f e is

inserted_heads : (life : Life) (v : Kept) → HaveHeads v → HaveHeads (after_insert life v)
unfolding after_insert greet
inserted_heads life v h = let q = forgotten_heads (other_life life (v.current life.port.0)) v h in record { early = q.early; taken = q.taken }

sent_heads : (req : SendReq) (to : Option Life) (v : Kept) → HaveHeads v → HaveHeads (send_to req to v)
unfolding send_to
sent_heads req None v h = h
sent_heads req (Some to) v h = record { early = h.early; taken = h.taken }

received_heads : (req : RecvReq) (v : Kept) → IsOrderly v → HaveHeads v → meets_receive_in v req.region.0 req.at req.len ≡ false → HaveHeads (after_recv req v)
received_heads req v o h free =
    let w : Kept = with_live (receive_in v req) v in
    subst HaveHeads (sym (posts_one req v o free)) (posted_heads (receive_in v req).posted _ w (record { early = h.early; taken = λ r m k is. by r m is (member-append_cases r v.receives _ k) }))
  where
    by : (r : LiveReceive) (m : Matched) → r.matched ≡ Some m → Member r v.receives ⊎ Member r (record { receive = receive_in v req; part = part_of v req; matched = None } ∷ []) → HeadFits m.head
    by r m is (inl k) = h.taken r m k is
    by r m is (inr (inl same)) = absurd (no_some m (ap (λ (x : LiveReceive). x.matched) same ∙ is))
    by r m is (inr (inr none)) = elim none [ ]

instr_heads : (instr : Instr) (v : Kept) → IsOrderly v → HaveHeads v → IsAllowed v (Did instr) → HaveHeads (after_instr instr v)
unfolding after_instr after_cancel
instr_heads (Insert life) v o h free = inserted_heads life v h
instr_heads (Reg content) v o h free = record { early = h.early; taken = h.taken }
instr_heads (Send req) v o h free = sent_heads req (v.current req.to.0) v h
instr_heads (Recv req) v o h free = received_heads req v o h free
instr_heads (Cancel recv) v o h free = record { early = h.early; taken = λ r m k. h.taken r m (member-filter (λ (x : LiveReceive). not (is_receive recv.0 x)) r v.receives k).0 }
instr_heads _ v o h free = h

packet_heads : (s : Option LiveSend) (v : Kept) → HaveHeads v → HaveHeads (push_send s v)
unfolding push_send
packet_heads None v h = h
packet_heads (Some s) v h = record { early = h.early; taken = h.taken }

first_heads : (r : Option Reply) (v : Kept) → HaveHeads v → HaveHeads (push_first r v)
unfolding push_first
first_heads None v h = packet_heads (send_next v) v h
first_heads (Some r) v h = record { early = h.early; taken = h.taken }

-- ---- all deeds

pub begins_fitting : BeginsFitting
begins_fitting own = record { early = λ life n e is. absurd (no_some e is); taken = λ r m k. absurd k }

pub stays_fitting : StaysFitting
unfolding after
stays_fitting (Did instr) v o h free fits = instr_heads instr v o h free
stays_fitting Pushed v o h free fits = first_heads (slice_get v.owed 0) v h
stays_fitting (Took from item) v o h free fits = taken_heads from item v o h fits
stays_fitting Polled v o h free fits = record { early = h.early; taken = h.taken }
stays_fitting _ v o h free fits = h
