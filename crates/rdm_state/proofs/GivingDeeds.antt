-- Answers give bytes of live sends, by each deed.
use Rattle.std.proofs.Common.{◌≡◌, ℕ, ◌+◌, ◌-◌, Bool, true, false, not, cond, List, [], ◌∷◌, ◌++◌, drop, Option, Some, None, refl, sym, ap, ◌∙◌, subst, inl, inr, arith}
use Rattle.std.specs.Prelude.{◌==◌, ◌&&◌, min, slice_get, is_some, option_map, flat_map}
use Rattle.std.specs.List.{list_any}
use Rattle.std.proofs.lemmas.List.{append-nil}
use Rattle.rdm_lists.specs.Lists.{Member, without_first}
use Rattle.rdm_lists.proofs.Members.{find_member, member-map}
use Rattle.rdm_num.specs.Lives.{same_life}
use Rattle.rdm_num.specs.Pieces.{Piece}
use Rattle.rdm_num.specs.declared.numbers.Life.{Life}
use Rattle.rdm_num.specs.declared.numbers.PortNo.{PortNo}
use Rattle.rdm_num.specs.declared.head.Head.{Head}
use Rattle.rdm_num.specs.declared.request.SendReq.{SendReq}
use Rattle.rdm_num.specs.declared.request.RecvReq.{RecvReq}
use Rattle.rdm_match.specs.declared.PostedRecv.{PostedRecv}
use Rattle.rdm_match.specs.declared.Arrived.{Arrived}
use Rattle.rdm_match.specs.Matcher.{Pair, accepts}
use Rattle.rdm_wire.specs.declared.ReadAsk.{ReadAsk}
use Rattle.rdm_pkt.specs.declared.Form.{Form}
use Rattle.rdm_pkt.specs.declared.Packet.TheVariants.{Rtm, Cts, CtsData, Eor, Handshake, Receipt}
use Rattle.rdm_pkt.specs.Heads.{head_of, piece_of}
use Rattle.rdm_model.specs.declared.job.Instr.{Instr}
use Rattle.rdm_model.specs.declared.job.Instr.TheVariants.{Insert, Reg, Send, Recv, Cancel}
use Rattle.rdm_model.specs.Beginnings.{Own}
use Rattle.rdm_model.specs.Currents.{other_life}
use Rattle.rdm_model.specs.Deeds.{Did, Pushed, Took, Polled, Item, Spelled, Asks, Gives}
use Rattle.rdm_model.specs.Dues.{is_read}
use Rattle.rdm_model.specs.Replies.{Reply, reply, greeting, given_of, without_lives}
use Rattle.rdm_model.specs.Grants.{data_room}
use Rattle.rdm_model.specs.Sends.{Sent, new_sent}
use Rattle.rdm_life.specs.Facts.{meets_receive_in}
use Rattle.rdm_life.specs.Forgetting.{forget, is_among}
use Rattle.rdm_life.specs.Handling.{opened_by, with_more, receive_of, land_found, add, after_rtm, after_item, after_take, after_instr, after}
use Rattle.rdm_life.specs.Kept.{Kept, Peer, LiveSend, LiveReceive, Matched, is_send, is_receive, send_numbered, change_where, with_peer}
use Rattle.rdm_life.specs.Landing.{land, with_piece, is_full, replies_by, replies_of}
use Rattle.rdm_life.specs.Lives.{greet, after_insert, with_source}
use Rattle.rdm_life.specs.Receiving.{entering_in, enter, hear, with_early, after_cancel, after_recv, receive_in, with_live}
use Rattle.rdm_life.specs.Sending.{push_send, push_first, send_next, with_grant, with_ask, after_grant, after_ask, end_sends, send_to, after_packet, ends_by_push, pushed, is_opened, is_send_of, begun, sent_in, gives_of, with_answer}
use Rattle.rdm_sound.specs.Orders.{IsAllowed}
use Rattle.rdm_sound.specs.Premises.{IsOrderly}
use Rattle.rdm_sound.specs.Steps.{settle_found, land_one, meet_one, post_found, arrive_found, enter_one, next_of, with_replies, with_end, with_next_window}
use Rattle.rdm_sound.proofs.Deeds.{heard_orderly, source_orderly, times_keep}
use Rattle.rdm_sound.proofs.Enters.{enters_each}
use Rattle.rdm_sound.proofs.Lists.{find_only}
use Rattle.rdm_sound.proofs.Orderly.{numbered, same_key}
use Rattle.rdm_sound.proofs.Pairs.{taken}
use Rattle.rdm_sound.proofs.Posts.{posts_one, lands_in_one}
use Rattle.rdm_state.specs.Giving.{AreGiven, IsGiving, EndsWell, BeginsGiving, StaysGiving}
use Rattle.rdm_state.proofs.Giving.{given_more, given_changed, given_new, given_left, given_asked, given_dropped, given_forgotten}
use Rattle.rdm_state.proofs.Pushed.{goes_on, goes_out, sent_same}

number_is : (a b : ℕ) → (a == b) ≡ true → a ≡ b
number_is a b h = grind (arith, h)

number_same : (a : ℕ) → (a == a) ≡ true
number_same a = grind arith

-- the sends stay, and more is owed that gives nothing
record Grows (v w : Kept) : Type 0 where
  more : List Reply
  owed : w.owed ≡ v.owed ++ more
  none : (r : Reply) → Member r more → r.gives ≡ None
  sends : w.sends ≡ v.sends

grown : (v w : Kept) → Grows v w → IsGiving v → IsGiving w
grown v w g h = subst (λ ss. AreGiven w.owed ss) (sym g.sends) (subst (λ owed. AreGiven owed v.sends) (sym g.owed) (given_more v.owed g.more v.sends h g.none))

no_replies : (v w : Kept) → w.owed ≡ v.owed → w.sends ≡ v.sends → Grows v w
no_replies v w owed sends = record { more = []; owed = owed ∙ sym (append-nil v.owed); none = λ r m. absurd m; sends = sends }

-- what a receive makes owed gives no bytes of a send
replies_give : (own : Own) (is_new : Bool) (r : LiveReceive) (q : Reply) → Member q (replies_by own is_new (Some r)) → q.gives ≡ None
unfolding replies_by replies_of
replies_give own is_new r q m = of_message r.matched m
  where
    of_message : (o : Option Matched) → Member q (replies_of own is_new (record { 0 = r.receive.number }) o) → q.gives ≡ None
    of_message None k = absurd k
    of_message (Some x) k = (let from = member-map (reply x.source) q _ k in ap (λ (z : Reply). z.gives) (sym from.2))

settled_grows : (is_new : Bool) (o : Option LiveReceive) (v : Kept) → Grows v (settle_found is_new o v)
unfolding settle_found
settled_grows is_new None v = no_replies v v refl refl
settled_grows is_new (Some r) v =
    elim (is_full r.matched) as (λ b. Grows v (with_replies is_new r (cond b (with_end r v) (with_next_window r v)))) [
      | true ↦ record { more = replies_by v.own is_new (Some r); owed = refl; none = replies_give v.own is_new r; sends = refl }
      | false ↦ record { more = replies_by v.own is_new (Some r); owed = refl; none = replies_give v.own is_new r; sends = refl }
    ]

lands_grow : (number : ℕ) (p : Piece) (v : Kept) → Grows v (land_one number p v)
lands_grow number p v =
    let g = settled_grows false _ (record v { receives = change_where (is_receive number) (with_piece p) v.receives }) in
    record { more = g.more; owed = g.owed; none = g.none; sends = g.sends }

meets_grow : (p : Pair) (v : Kept) → Grows v (meet_one p v)
unfolding meet_one
meets_grow p v = let g = settled_grows true _ (taken p v) in record { more = g.more; owed = g.owed; none = g.none; sends = g.sends }

arrived_grows : (a : Arrived) (o : Option PostedRecv) (v : Kept) → Grows v (arrive_found a o v)
unfolding arrive_found
arrived_grows a None v = no_replies v _ refl refl
arrived_grows a (Some r) v = let g = meets_grow (record { recv = r; message = a }) (record v { posted = without_first (λ q. accepts q a) v.posted }) in record { more = g.more; owed = g.owed; none = g.none; sends = g.sends }

posted_grows : (r : PostedRecv) (o : Option Arrived) (v : Kept) → Grows v (post_found r o v)
unfolding post_found
posted_grows r None v = no_replies v _ refl refl
posted_grows r (Some a) v = let g = meets_grow (record { recv = r; message = a }) (record v { arrived = without_first (accepts r) v.arrived }) in record { more = g.more; owed = g.owed; none = g.none; sends = g.sends }

enters_grow : (source : Life) (v : Kept) → Grows v (enter_one source v)
enters_grow source v =
    let g = arrived_grows (next_of v source) _ (with_peer source (λ (p : Peer). record p { next = p.next + 1 }) v) in
    record { more = g.more; owed = g.owed; none = g.none; sends = g.sends }

entered_giving : (source : Life) (v : Kept) → IsOrderly v → IsGiving v → IsGiving (enter source v)
entered_giving source v o h =
    subst IsGiving (sym (enters_each source v o.posted_once (numbered v.receives o.once) o.apart))
    (times_keep IsGiving (enter_one source) (entering_in v source) v (λ w k. grown w (enter_one source w) (enters_grow source w) k) h)

-- ---- what is taken

landed_giving : (number : ℕ) (p : Piece) (v : Kept) → IsOrderly v → IsGiving v → IsGiving (land number p v)
landed_giving number p v o h = subst IsGiving (sym (lands_in_one number p v o)) (grown v (land_one number p v) (lands_grow number p v) h)

land_found_giving : (r : Option LiveReceive) (p : Option Piece) (v : Kept) → IsOrderly v → IsGiving v → IsGiving (land_found r p v)
unfolding land_found
land_found_giving (Some r) (Some p) v o h = landed_giving r.receive.number p v o h
land_found_giving (Some r) None v o h = h
land_found_giving None p v o h = h

added_giving : (source : Life) (number : ℕ) (p : Option Piece) (v : Kept) → IsOrderly v → IsGiving v → IsGiving (add source number p v)
unfolding add with_early
added_giving source number p v o h =
    elim (is_some (v.early source number)) as (λ b. IsGiving (cond b (with_early source number (with_more p) v) (land_found (receive_of v source number) p v))) [
      | true ↦ h
      | false ↦ land_found_giving (receive_of v source number) p v o h
    ]

opened_giving : (source : Life) (number : ℕ) (head : Head) (form : Form) (v : Kept) → IsOrderly v → IsGiving v → IsGiving (after_rtm source number head form v)
unfolding after_rtm hear
opened_giving source number head form v o h =
    let w : Kept = hear source number (opened_by head form) v in
    elim ((v.peers source).heard number) as (λ b. IsGiving (cond b (add source number (piece_of form) v) (enter source w))) [
      | true ↦ added_giving source number (piece_of form) v o h
      | false ↦ entered_giving source w (heard_orderly source number (opened_by head form) v o) h
    ]

found_one : (v : Kept) → IsOrderly v → (s : LiveSend) → Member s v.sends → (n : ℕ) → is_send n s ≡ true → send_numbered v n ≡ Some s
found_one v o s m n is = find_only (is_send n) s v.sends m is (λ y k e. same_key (λ (x : LiveSend). x.sent.number) v.sends o.sends_once y s k m (number_is y.sent.number n e ∙ sym (number_is s.sent.number n is)))

-- a send ends that owes nothing
ended_giving : (test : LiveSend → Bool) (v : Kept) → IsOrderly v → IsGiving v → ((s : LiveSend) → Member s v.sends → test s ≡ true → s.owes ≡ 0) → IsGiving (end_sends test v)
unfolding end_sends
ended_giving test v o h none = given_left v.owed v.sends (λ s. not (test s)) o.sends_once h (λ x m is. none x m (hit (test x) is))
  where
    hit : (b : Bool) → not b ≡ false → b ≡ true
    hit true e = refl
    hit false e = absurd (clash e)
      where
        clash : true ≡ false → ⊥
        clash q = cc

asked_giving : (from : Life) (ask : ReadAsk) (v : Kept) → IsOrderly v → IsGiving v → EndsWell v.sends (Took from (Asks ask)) → IsGiving (after_ask from ask v)
unfolding after_ask given_of
asked_giving from ask v o h well =
    let s = well.0 in
    let named : s.sent.number ≡ ask.send_id.0 = number_is s.sent.number ask.send_id.0 (find_member (is_send ask.send_id.0) s v.sends well.1).1 in
    let g = given_asked v.owed v.sends s _ (with_ask ask) o.sends_once h (found_one v o s (find_member (is_send ask.send_id.0) s v.sends well.1).0 s.sent.number (number_same s.sent.number)) (λ x. refl) (λ x. refl) refl well.2 well.3 in
    subst (λ q. AreGiven (v.owed ++ given_of from ask (option_map (λ (z : LiveSend). z.sent) q)) (change_where (is_send ask.send_id.0) (with_ask ask) v.sends)) (sym well.1)
    (subst (λ n. AreGiven (v.owed ++ given_of from ask (Some s.sent)) (change_where (is_send n) (with_ask ask) v.sends)) named g)

item_giving : (from : Life) (item : Item) (v : Kept) → IsOrderly v → IsGiving v → EndsWell v.sends (Took from item) → IsGiving (after_item from item v)
unfolding after_item after_grant
item_giving from (Spelled (Rtm number tag confirm opt form)) v o h well = opened_giving from number.0 (head_of tag confirm opt form) form v o h
item_giving from (Spelled (Cts send recv size connid)) v o h well = given_changed v.owed v.sends (is_send send.0) (with_grant recv.0 size) h (λ x. refl) (λ x. refl)
item_giving from (Spelled (CtsData recv offset connid bytes)) v o h well = landed_giving recv.0 (record { offset = offset; bytes = bytes }) v o h
item_giving from (Spelled (Eor send recv connid)) v o h well = ended_giving (is_send send.0) v o h (λ s m is. well s (found_one v o s m send.0 is))
item_giving from (Spelled (Handshake words connid raw)) v o h well = h
item_giving from (Spelled (Receipt number connid)) v o h well = ended_giving (is_send_of from number.0) v o h (λ s m is. h.read s m (well s m is))
item_giving from (Asks ask) v o h well = asked_giving from ask v o h well
item_giving from (Gives g) v o h well = landed_giving g.recv_id.0 (record { offset = g.at; bytes = g.bytes }) v o h
item_giving from _ v o h well = h

greeted_giving : (is_met : Bool) (life : Life) (raw : Option PortNo) (v : Kept) → IsGiving v → IsGiving (greet is_met life raw v)
unfolding greet
greeted_giving is_met life raw v h = given_more v.owed _ v.sends h (hello (is_met && not (v.peers life).met))
  where
    hello : (b : Bool) (r : Reply) → Member r (cond b (reply life (greeting v.own raw) ∷ []) []) → r.gives ≡ None
    hello true r (inl is) = ap (λ (q : Reply). q.gives) (sym is)
    hello true r (inr none) = elim none [ ]
    hello false r none = elim none [ ]

taken_giving : (from : Life) (item : Item) (v : Kept) → IsOrderly v → IsGiving v → EndsWell v.sends (Took from item) → IsGiving (after_take from item v)
unfolding greet with_source
taken_giving from item v o h well =
    item_giving from item (greet true from None (with_source from v)) (source_orderly from v o) (greeted_giving true from None (with_source from v) h) well

-- ---- instructions

forgotten_giving : (lives : List Life) (v : Kept) → IsOrderly v → IsGiving v → IsGiving (forget lives v)
unfolding forget is_among without_lives
forgotten_giving lives v o h = given_forgotten v.owed v.sends (λ life. list_any (same_life life) lives) o.sends_once h

inserted_giving : (life : Life) (v : Kept) → IsOrderly v → IsGiving v → IsGiving (after_insert life v)
unfolding after_insert
inserted_giving life v o h = greeted_giving _ life _ _ (forgotten_giving (other_life life (v.current life.port.0)) v o h)

sent_giving : (req : SendReq) (to : Option Life) (v : Kept) → IsOrderly v → IsGiving v → IsGiving (send_to req to v)
unfolding send_to new_sent
sent_giving req None v o h = h
sent_giving req (Some to) v o h = given_new v.owed v.sends (begun v.own (sent_in v req to)) h refl o.sends_given

received_giving : (req : RecvReq) (v : Kept) → IsOrderly v → IsGiving v → meets_receive_in v req.region.0 req.at req.len ≡ false → IsGiving (after_recv req v)
received_giving req v o h free =
    let w : Kept = with_live (receive_in v req) v in
    subst IsGiving (sym (posts_one req v o free)) (grown w _ (posted_grows (receive_in v req).posted _ w) h)

instr_giving : (instr : Instr) (v : Kept) → IsOrderly v → IsGiving v → IsAllowed v (Did instr) → IsGiving (after_instr instr v)
unfolding after_instr after_cancel
instr_giving (Insert life) v o h free = inserted_giving life v o h
instr_giving (Reg content) v o h free = h
instr_giving (Send req) v o h free = sent_giving req (v.current req.to.0) v o h
instr_giving (Recv req) v o h free = received_giving req v o h free
instr_giving (Cancel recv) v o h free = h
instr_giving _ v o h free = h

-- ---- what goes out

-- a push leaves what a send owes
owes_same : (own : Own) (s : LiveSend) → (pushed own s).owes ≡ s.owes
unfolding pushed
owes_same own s = by_case (is_opened own s)
  where
    by_case : (b : Bool) → (cond b (record s { done = s.done + min (s.allowed - s.done) (data_room own.limits) }) (record s { opened = s.opened + 1 })).owes ≡ s.owes
    by_case true = refl
    by_case false = refl

packet_giving : (o' : Option LiveSend) (v : Kept) → IsOrderly v → IsGiving v → ((s : LiveSend) → o' ≡ Some s → Member s v.sends) → IsGiving (push_send o' v)
unfolding push_send after_packet
packet_giving None v o h there = h
packet_giving (Some s) v o h there =
    let m = there s refl in
    let n = s.sent.number in
    (elim (ends_by_push v.own (pushed v.own s)) as (λ b. ends_by_push v.own (pushed v.own s) ≡ b → AreGiven v.owed (flat_map (λ (t : LiveSend). cond (is_send n t) (after_packet v.own t) (t ∷ [])) v.sends)) [
      | true ↦ λ over.
          subst (AreGiven v.owed) (sym (goes_out v.own n v.sends (λ t k at. subst (λ (u : LiveSend). after_packet v.own u ≡ []) (sym (same_key (λ (x : LiveSend). x.sent.number) v.sends o.sends_once t s k m at)) (ap (λ b. cond b [] (pushed v.own s ∷ [])) over))))
          (given_left v.owed v.sends (λ t. not (is_send n t)) o.sends_once h (λ t k is.
          let one = same_key (λ (x : LiveSend). x.sent.number) v.sends o.sends_once t s k m (number_is t.sent.number n (hit (is_send n t) is)) in
          h.read t k (ap (λ (x : LiveSend). is_read x.sent.kind) one ∙ ap (λ (q : Sent). is_read q.kind) (sym (sent_same v.own s)) ∙ not_read (is_read (pushed v.own s).sent.kind) _ _ over)))
      | false ↦ λ on.
          subst (AreGiven v.owed) (sym (goes_on v.own n v.sends (λ t k at. subst (λ (u : LiveSend). after_packet v.own u ≡ pushed v.own u ∷ []) (sym (same_key (λ (x : LiveSend). x.sent.number) v.sends o.sends_once t s k m at)) (ap (λ b. cond b [] (pushed v.own s ∷ [])) on))))
          (given_changed v.owed v.sends (is_send n) (pushed v.own) h (sent_same v.own) (owes_same v.own))
    ]) refl
  where
    hit : (b : Bool) → not b ≡ false → b ≡ true
    hit true e = refl
    hit false e = absurd (clash e)
      where
        clash : true ≡ false → ⊥
        clash q = cc

    not_read : (a b c : Bool) → (not a && not b && c) ≡ true → a ≡ false
    not_read true b c e = absurd (clash e)
      where
        clash : false ≡ true → ⊥
        clash q = cc
    not_read false b c e = refl

first_giving : (o' : Option Reply) (v : Kept) → slice_get v.owed 0 ≡ o' → IsOrderly v → IsGiving v → IsGiving (push_first o' v)
unfolding push_first
first_giving None v is o h = packet_giving (send_next v) v o h (λ s found. (find_member _ s v.sends found).0)
first_giving (Some r) v is o h = of_list v.owed is h
  where
    of_list : (owed : List Reply) → slice_get owed 0 ≡ Some r → AreGiven owed v.sends → AreGiven (drop 1 owed) (change_where (gives_of r.gives) with_answer v.sends)
    of_list [] none g = absurd (no_some none)
      where
        no_some : None ≡ Some r → ⊥
        no_some e = cc
    of_list (q ∷ rest) one g = subst (λ (z : Reply). AreGiven rest (change_where (gives_of z.gives) with_answer v.sends)) (same one) (given_dropped q rest v.sends g)
      where
        same : Some q ≡ Some r → q ≡ r
        same e = cc

-- ---- all deeds

pub begins_giving : BeginsGiving
begins_giving own = record { source = λ r n m gives. absurd m; owes = λ s m. absurd m; read = λ s m no'. absurd m }

pub stays_giving : StaysGiving
unfolding after
stays_giving (Did instr) v o h free well = instr_giving instr v o h free
stays_giving Pushed v o h free well = first_giving (slice_get v.owed 0) v refl o h
stays_giving (Took from item) v o h free well = taken_giving from item v o h well
stays_giving Polled v o h free well = h
stays_giving _ v o h free well = h
