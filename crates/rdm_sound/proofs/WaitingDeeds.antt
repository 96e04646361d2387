-- Receives that wait stay live, and without a message, by each deed.
use Rattle.std.proofs.Common.{ℕ, true, false, cond, List, Option, Some, None, refl, sym, subst}
use Rattle.std.specs.Prelude.{slice_get, is_some}
use Rattle.rdm_num.specs.Pieces.{Piece}
use Rattle.rdm_num.specs.declared.numbers.Life.{Life}
use Rattle.rdm_num.specs.declared.head.Head.{Head}
use Rattle.rdm_num.specs.declared.request.SendReq.{SendReq}
use Rattle.rdm_pkt.specs.declared.Form.{Form}
use Rattle.rdm_pkt.specs.declared.Packet.TheVariants.{Rtm, Cts, CtsData, Eor, Handshake, Receipt}
use Rattle.rdm_pkt.specs.Heads.{head_of, piece_of}
use Rattle.rdm_model.specs.declared.job.Instr.{Instr}
use Rattle.rdm_model.specs.declared.job.Instr.TheVariants.{Insert, Reg, Send, Recv, Cancel}
use Rattle.rdm_model.specs.Beginnings.{Own}
use Rattle.rdm_model.specs.Currents.{other_life}
use Rattle.rdm_model.specs.Deeds.{Deed, Did, Pushed, Took, Polled, Item, Spelled, Asks, Gives}
use Rattle.rdm_model.specs.Replies.{Reply}
use Rattle.rdm_life.specs.Forgetting.{forget}
use Rattle.rdm_life.specs.Handling.{opened_by, with_more, receive_of, land_found, add, after_rtm, after_item, after_take, after_instr, after}
use Rattle.rdm_life.specs.Kept.{Kept, LiveSend, LiveReceive, nothing_kept}
use Rattle.rdm_life.specs.Landing.{land}
use Rattle.rdm_life.specs.Lives.{greet, after_insert, with_source}
use Rattle.rdm_life.specs.Receiving.{entering_in, enter, hear, with_early}
use Rattle.rdm_life.specs.Sending.{push_send, push_first, send_next, after_grant, after_ask, end_sends, send_to}
use Rattle.rdm_sound.specs.Premises.{IsOrderly}
use Rattle.rdm_sound.specs.Orders.{IsAllowed}
use Rattle.rdm_sound.specs.Steps.{enter_one}
use Rattle.rdm_sound.specs.Waiting.{AreWaiting, StepsStayWaiting}
use Rattle.rdm_sound.proofs.Deeds.{times_keep, heard_orderly, source_orderly}
use Rattle.rdm_sound.proofs.Enters.{enters_each}
use Rattle.rdm_sound.proofs.Orderly.{numbered, orderly_thinned}
use Rattle.rdm_sound.proofs.Posts.{posts_one, lands_in_one}
use Rattle.rdm_sound.proofs.Thinning.{enters_thin}
use Rattle.rdm_sound.proofs.Waiting.{waiting_still, settles_waiting, lands_waiting, posts_waiting, cancels_waiting, enters_waiting, forgets_waiting}

-- each step
pub steps_waiting : (v : Kept) → IsOrderly v → AreWaiting v → StepsStayWaiting v
steps_waiting v o h =
    record {
      settles = λ is_new number. settles_waiting is_new number v o h;
      lands = λ number p. lands_waiting number p v o h;
      receives = λ req free. posts_waiting req v o h free;
      cancels = λ number. cancels_waiting number v o h;
      enters = λ source. enters_waiting source v o h;
      forgets = λ lives. forgets_waiting lives v h;
    }

-- ---- what is taken

landed_waiting : (number : ℕ) (p : Piece) (v : Kept) → IsOrderly v → AreWaiting v → AreWaiting (land number p v)
landed_waiting number p v o h = subst AreWaiting (sym (lands_in_one number p v o)) (lands_waiting number p v o h)

land_found_waiting : (r : Option LiveReceive) (p : Option Piece) (v : Kept) → IsOrderly v → AreWaiting v → AreWaiting (land_found r p v)
unfolding land_found
land_found_waiting (Some r) (Some p) v o h = landed_waiting r.receive.number p v o h
land_found_waiting (Some r) None v o h = h
land_found_waiting None p v o h = h

-- both stay together
abbrev Both : Kept → Type 0
Both v = IsOrderly v × AreWaiting v

entered_waiting : (source : Life) (v : Kept) → IsOrderly v → AreWaiting v → AreWaiting (enter source v)
entered_waiting source v o h =
    subst AreWaiting (sym (enters_each source v o.posted_once (numbered v.receives o.once) o.apart))
    (times_keep Both (enter_one source) (entering_in v source) v (λ w k. (orderly_thinned w (enter_one source w) (enters_thin source w) k.0, enters_waiting source w k.0 k.1)) (o, h)).1

added_waiting : (source : Life) (number : ℕ) (p : Option Piece) (v : Kept) → IsOrderly v → AreWaiting v → AreWaiting (add source number p v)
unfolding add with_early
added_waiting source number p v o h =
    elim (is_some (v.early source number)) as (λ b. AreWaiting (cond b (with_early source number (with_more p) v) (land_found (receive_of v source number) p v))) [
      | true ↦ waiting_still v (with_early source number (with_more p) v) refl refl h
      | false ↦ land_found_waiting (receive_of v source number) p v o h
    ]

opened_waiting : (source : Life) (number : ℕ) (head : Head) (form : Form) (v : Kept) → IsOrderly v → AreWaiting v → AreWaiting (after_rtm source number head form v)
unfolding after_rtm hear
opened_waiting source number head form v o h =
    let w : Kept = hear source number (opened_by head form) v in
    elim ((v.peers source).heard number) as (λ b. AreWaiting (cond b (add source number (piece_of form) v) (enter source w))) [
      | true ↦ added_waiting source number (piece_of form) v o h
      | false ↦ entered_waiting source w (heard_orderly source number (opened_by head form) v o) (waiting_still v w refl refl h)
    ]

item_waiting : (from : Life) (item : Item) (v : Kept) → IsOrderly v → AreWaiting v → AreWaiting (after_item from item v)
unfolding after_item after_grant after_ask end_sends
item_waiting from (Spelled (Rtm number tag confirm opt form)) v o h = opened_waiting from number.0 (head_of tag confirm opt form) form v o h
item_waiting from (Spelled (Cts send recv size connid)) v o h = waiting_still v (after_item from (Spelled (Cts send recv size connid)) v) refl refl h
item_waiting from (Spelled (CtsData recv offset connid bytes)) v o h = landed_waiting recv.0 (record { offset = offset; bytes = bytes }) v o h
item_waiting from (Spelled (Eor send recv connid)) v o h = waiting_still v (after_item from (Spelled (Eor send recv connid)) v) refl refl h
item_waiting from (Spelled (Handshake words connid raw)) v o h = waiting_still v (after_item from (Spelled (Handshake words connid raw)) v) refl refl h
item_waiting from (Spelled (Receipt number connid)) v o h = waiting_still v (after_item from (Spelled (Receipt number connid)) v) refl refl h
item_waiting from (Asks ask) v o h = waiting_still v (after_item from (Asks ask) v) refl refl h
item_waiting from (Gives g) v o h = landed_waiting g.recv_id.0 (record { offset = g.at; bytes = g.bytes }) v o h
item_waiting from _ v o h = h

taken_waiting : (from : Life) (item : Item) (v : Kept) → IsOrderly v → AreWaiting v → AreWaiting (after_take from item v)
unfolding greet with_source
taken_waiting from item v o h =
    let w : Kept = greet true from None (with_source from v) in
    item_waiting from item w (source_orderly from v o) (waiting_still v w refl refl h)

-- ---- instructions, and what goes out

inserted_waiting : (life : Life) (v : Kept) → AreWaiting v → AreWaiting (after_insert life v)
unfolding after_insert greet
inserted_waiting life v h =
    let lives : List Life = other_life life (v.current life.port.0) in
    waiting_still (forget lives v) (after_insert life v) refl refl (forgets_waiting lives v h)

sent_waiting : (req : SendReq) (to : Option Life) (v : Kept) → AreWaiting v → AreWaiting (send_to req to v)
unfolding send_to
sent_waiting req None v h = h
sent_waiting req (Some to) v h = waiting_still v (send_to req (Some to) v) refl refl h

instr_waiting : (instr : Instr) (v : Kept) → IsOrderly v → AreWaiting v → IsAllowed v (Did instr) → AreWaiting (after_instr instr v)
unfolding after_instr
instr_waiting (Insert life) v o h free = inserted_waiting life v h
instr_waiting (Reg content) v o h free = waiting_still v (after_instr (Reg content) v) refl refl h
instr_waiting (Send req) v o h free = sent_waiting req (v.current req.to.0) v h
instr_waiting (Recv req) v o h free = subst AreWaiting (sym (posts_one req v o free)) (posts_waiting req v o h free)
instr_waiting (Cancel recv) v o h free = cancels_waiting recv.0 v o h
instr_waiting _ v o h free = h

pushed_send_waiting : (s : Option LiveSend) (v : Kept) → AreWaiting v → AreWaiting (push_send s v)
unfolding push_send
pushed_send_waiting None v h = h
pushed_send_waiting (Some s) v h = waiting_still v (push_send (Some s) v) refl refl h

pushed_waiting : (r : Option Reply) (v : Kept) → AreWaiting v → AreWaiting (push_first r v)
unfolding push_first
pushed_waiting None v h = pushed_send_waiting (send_next v) v h
pushed_waiting (Some r) v h = waiting_still v (push_first (Some r) v) refl refl h

-- ---- all deeds

pub begins_waiting : (own : Own) → AreWaiting (nothing_kept own)
begins_waiting own = record { waits = λ p m. elim m [ ]; numbers = λ r m. elim m [ ] }

pub stays_waiting : (d : Deed) (v : Kept) → IsOrderly v → AreWaiting v → IsAllowed v d → AreWaiting (after d v)
unfolding after
stays_waiting (Did instr) v o h free = instr_waiting instr v o h free
stays_waiting Pushed v o h free = pushed_waiting (slice_get v.owed 0) v h
stays_waiting (Took from item) v o h free = taken_waiting from item v o h
stays_waiting Polled v o h free = waiting_still v (after Polled v) refl refl h
stays_waiting _ v o h free = h
