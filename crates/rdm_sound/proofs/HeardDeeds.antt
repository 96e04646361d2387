-- What was heard of stays early by each deed.
use Rattle.std.proofs.Common.{◌≡◌, ◌<◌, ℕ, zero, suc, Bool, true, false, cond, [], ◌∷◌, Option, Some, None, refl, arith, sym, subst}
use Rattle.std.specs.Prelude.{slice_get, is_some}
use Rattle.rdm_lists.specs.Lists.{or_else}
use Rattle.rdm_num.specs.Lives.{same_life}
use Rattle.rdm_num.specs.Pieces.{Piece}
use Rattle.rdm_num.specs.declared.numbers.Life.{Life}
use Rattle.rdm_num.specs.declared.numbers.PortNo.{PortNo}
use Rattle.rdm_num.specs.declared.head.Head.{Head}
use Rattle.rdm_num.specs.declared.request.RecvReq.{RecvReq}
use Rattle.rdm_pkt.specs.declared.Form.{Form}
use Rattle.rdm_pkt.specs.declared.Packet.TheVariants.{Rtm, Cts, CtsData, Eor, Handshake, Receipt}
use Rattle.rdm_pkt.specs.Heads.{head_of, piece_of}
use Rattle.rdm_model.specs.declared.job.Instr.{Instr}
use Rattle.rdm_model.specs.declared.job.Instr.TheVariants.{Insert, Reg, Send, Recv, Cancel}
use Rattle.rdm_model.specs.Beginnings.{Own}
use Rattle.rdm_model.specs.Currents.{other_life}
use Rattle.rdm_model.specs.Deeds.{Deed, Did, Pushed, Took, Polled, Item, Spelled, Asks, Gives}
use Rattle.rdm_life.specs.Facts.{meets_receive_in}
use Rattle.rdm_life.specs.Forgetting.{forget}
use Rattle.rdm_life.specs.Handling.{opened_by, with_more, receive_of, land_found, add, after_rtm, after_item, after_take, after_instr, after}
use Rattle.rdm_life.specs.Kept.{Kept, Peer, LiveReceive, nothing_kept, with_peer, is_send}
use Rattle.rdm_life.specs.Landing.{land}
use Rattle.rdm_life.specs.Lives.{with_current, greet, after_insert, with_source}
use Rattle.rdm_life.specs.Receiving.{receive_in, with_live, after_recv, entering_in, enter, hear, with_early}
use Rattle.rdm_life.specs.Sending.{after_grant, after_ask, is_send_of, end_sends}
use Rattle.rdm_sound.specs.Premises.{IsOrderly}
use Rattle.rdm_sound.specs.Forgets.{lose_receives, lose_sends, lost_receives, lost_sends}
use Rattle.rdm_sound.specs.Heard.{IsHeardEarly, is_next_heard}
use Rattle.rdm_sound.specs.Orders.{IsAllowed}
use Rattle.rdm_sound.specs.Steps.{times, enter_one}
use Rattle.rdm_sound.proofs.Deeds.{heard_orderly, source_orderly}
use Rattle.rdm_sound.proofs.Enters.{enters_each}
use Rattle.rdm_sound.proofs.Forgotten.{forgets_each, forgets_none}
use Rattle.rdm_sound.proofs.HeardRuns.{enters_while}
use Rattle.rdm_sound.proofs.HeardSame.{hears_still, heard_same, landed_hears, cancelled_hears, pushed_hears, peer_hears, sent_hears, more_hears, lost_receives_heard, lost_sends_heard}
use Rattle.rdm_sound.proofs.HeardSteps.{hears_heard, loses_heard}
use Rattle.rdm_sound.proofs.HeardEnters.{posts_heard, enters_heard}
use Rattle.rdm_sound.proofs.Orderly.{numbered}
use Rattle.rdm_sound.proofs.Posts.{posts_one}

-- ---- messages that enter

-- so many enter, where each was heard of
times_heard_early : (source : Life) (n : ℕ) (v : Kept) → IsHeardEarly v → ((k : ℕ) → k < n → is_next_heard source (times k (enter_one source) v) ≡ true) → IsHeardEarly (times n (enter_one source) v)
unfolding times
times_heard_early source zero v h each = h
times_heard_early source (suc n) v h each =
    times_heard_early source n (enter_one source v) (enters_heard source v h (each 0 (omega arith))) (λ k less. each (suc k) (omega arith))

entered_heard : (source : Life) (v : Kept) → IsOrderly v → IsHeardEarly v → IsHeardEarly (enter source v)
entered_heard source v o h =
    subst IsHeardEarly (sym (enters_each source v o.posted_once (numbered v.receives o.once) o.apart))
    (times_heard_early source (entering_in v source) v h (λ k less. enters_while source v k less))

-- ---- what is taken

land_found_heard : (r : Option LiveReceive) (p : Option Piece) (v : Kept) → IsHeardEarly v → IsHeardEarly (land_found r p v)
unfolding land_found
land_found_heard (Some r) (Some p) v h = heard_same v (land r.receive.number p v) (landed_hears r.receive.number p v) h
land_found_heard (Some r) None v h = h
land_found_heard None p v h = h

added_heard : (source : Life) (number : ℕ) (p : Option Piece) (v : Kept) → IsHeardEarly v → IsHeardEarly (add source number p v)
unfolding add
added_heard source number p v h =
    elim (is_some (v.early source number)) as (λ b. IsHeardEarly (cond b (with_early source number (with_more p) v) (land_found (receive_of v source number) p v))) [
      | true ↦ heard_same v (with_early source number (with_more p) v) (more_hears source number (with_more p) v) h
      | false ↦ land_found_heard (receive_of v source number) p v h
    ]

opened_heard : (source : Life) (number : ℕ) (head : Head) (form : Form) (v : Kept) → IsOrderly v → IsHeardEarly v → IsHeardEarly (after_rtm source number head form v)
unfolding after_rtm
opened_heard source number head form v o h =
    let e = opened_by head form in
    (elim ((v.peers source).heard number) as (λ b. (v.peers source).heard number ≡ b → IsHeardEarly (cond b (add source number (piece_of form) v) (enter source (hear source number e v)))) [
      | true ↦ λ old. added_heard source number (piece_of form) v h
      | false ↦ λ new. entered_heard source (hear source number e v) (heard_orderly source number e v o) (hears_heard source number e v new h)
    ]) refl

item_heard : (from : Life) (item : Item) (v : Kept) → IsOrderly v → IsHeardEarly v → IsHeardEarly (after_item from item v)
unfolding after_item after_grant after_ask end_sends
item_heard from (Spelled (Rtm number tag confirm opt form)) v o h = opened_heard from number.0 (head_of tag confirm opt form) form v o h
item_heard from (Spelled (Cts send recv size connid)) v o h =
    let w : Kept = after_grant send.0 recv.0 size v in
    heard_same v w (hears_still v w refl refl refl refl refl) h
item_heard from (Spelled (CtsData recv offset connid bytes)) v o h =
    let p : Piece = record { offset = offset; bytes = bytes } in
    heard_same v (land recv.0 p v) (landed_hears recv.0 p v) h
item_heard from (Spelled (Eor send recv connid)) v o h =
    let w : Kept = end_sends (is_send send.0) v in
    heard_same v w (hears_still v w refl refl refl refl refl) h
item_heard from (Spelled (Handshake words connid raw)) v o h =
    let change : Peer → Peer = λ p. record p { known = or_else p.known (slice_get words 0) } in
    heard_same v (with_peer from change v) (peer_hears from change v (λ p. refl) (λ p. refl)) h
item_heard from (Spelled (Receipt number connid)) v o h =
    let w : Kept = end_sends (is_send_of from number.0) v in
    heard_same v w (hears_still v w refl refl refl refl refl) h
item_heard from (Asks ask) v o h =
    let w : Kept = after_ask from ask v in
    heard_same v w (hears_still v w refl refl refl refl refl) h
item_heard from (Gives g) v o h =
    let p : Piece = record { offset = g.at; bytes = g.bytes } in
    heard_same v (land g.recv_id.0 p v) (landed_hears g.recv_id.0 p v) h
item_heard from _ v o h = h

-- a life is greeted
greeted_heard : (is_met : Bool) (life : Life) (raw : Option PortNo) (v : Kept) → IsHeardEarly v → IsHeardEarly (greet is_met life raw v)
unfolding greet
greeted_heard is_met life raw v h =
    let change : Peer → Peer = λ p. record p { met = cond is_met true p.met } in
    let w : Kept = with_peer life change v in
    heard_same w (greet is_met life raw v) (hears_still w (greet is_met life raw v) refl refl refl refl refl)
    (heard_same v w (peer_hears life change v (λ p. refl) (λ p. refl)) h)

source_heard : (from : Life) (v : Kept) → IsHeardEarly v → IsHeardEarly (with_source from v)
unfolding with_source
source_heard from v h = heard_same v (with_source from v) (hears_still v (with_source from v) refl refl refl refl refl) h

taken_heard : (from : Life) (item : Item) (v : Kept) → IsOrderly v → IsHeardEarly v → IsHeardEarly (after_take from item v)
taken_heard from item v o h =
    item_heard from item (greet true from None (with_source from v)) (source_orderly from v o) (greeted_heard true from None (with_source from v) (source_heard from v h))

-- ---- instructions

-- the life that an insert takes the place of is forgotten
forgot_heard : (life : Life) (v : Kept) → IsOrderly v → IsHeardEarly v → IsHeardEarly (forget (life ∷ []) v)
forgot_heard life v o h =
    let u : Kept = lose_receives (lost_receives life v) v in
    let w : Kept = lose_sends (lost_sends life v) u in
    subst IsHeardEarly (sym (forgets_each life v o)) (loses_heard life w (lost_sends_heard (lost_sends life v) u (lost_receives_heard (lost_receives life v) v h)))

other_heard : (life : Life) (current : Option Life) (v : Kept) → IsOrderly v → IsHeardEarly v → IsHeardEarly (forget (other_life life current) v)
unfolding other_life
other_heard life None v o h = subst IsHeardEarly (sym (forgets_none v)) h
other_heard life (Some old) v o h =
    elim (same_life old life) as (λ b. IsHeardEarly (forget (cond b [] (old ∷ [])) v)) [
      | true ↦ subst IsHeardEarly (sym (forgets_none v)) h
      | false ↦ forgot_heard old v o h
    ]

inserted_heard : (life : Life) (v : Kept) → IsOrderly v → IsHeardEarly v → IsHeardEarly (after_insert life v)
unfolding after_insert
inserted_heard life v o h =
    let u : Kept = forget (other_life life (v.current life.port.0)) v in
    let w : Kept = with_current life u in
    greeted_heard _ life (Some v.own.life.port) w (heard_same u w (hears_still u w refl refl refl refl refl) (other_heard life (v.current life.port.0) v o h))

-- a receive is accepted
received_heard : (req : RecvReq) (v : Kept) → IsOrderly v → IsHeardEarly v → meets_receive_in v req.region.0 req.at req.len ≡ false → IsHeardEarly (after_recv req v)
received_heard req v o h free =
    let w : Kept = with_live (receive_in v req) v in
    subst IsHeardEarly (sym (posts_one req v o free)) (posts_heard (receive_in v req).posted w (heard_same v w (hears_still v w refl refl refl refl refl) h))

instr_heard : (instr : Instr) (v : Kept) → IsOrderly v → IsHeardEarly v → IsAllowed v (Did instr) → IsHeardEarly (after_instr instr v)
unfolding after_instr
instr_heard (Insert life) v o h free = inserted_heard life v o h
instr_heard (Reg content) v o h free = heard_same v (after_instr (Reg content) v) (hears_still v (after_instr (Reg content) v) refl refl refl refl refl) h
instr_heard (Send req) v o h free = heard_same v (after_instr (Send req) v) (sent_hears req (v.current req.to.0) v) h
instr_heard (Recv req) v o h free = received_heard req v o h free
instr_heard (Cancel recv) v o h free = heard_same v (after_instr (Cancel recv) v) (cancelled_hears recv.0 v) h
instr_heard _ v o h free = h

-- ---- all deeds

pub begins_heard : (own : Own) → IsHeardEarly (nothing_kept own)
begins_heard own =
    record {
      names = [];
      are = record { once = tt; early = λ m k. elim k [ ]; all = λ life number e. cc; count = refl; counts = λ life. refl };
      heard = λ life number e. cc;
      waits = λ life number e le. cc;
      arrived_once = tt;
      arrived_before = λ a m. elim m [ ];
      arrived_early = λ a m. elim m [ ];
    }

pub stays_heard : (d : Deed) (v : Kept) → IsOrderly v → IsHeardEarly v → IsAllowed v d → IsHeardEarly (after d v)
unfolding after
stays_heard (Did instr) v o h free = instr_heard instr v o h free
stays_heard Pushed v o h free = heard_same v (after Pushed v) (pushed_hears (slice_get v.owed 0) v) h
stays_heard (Took from item) v o h free = taken_heard from item v o h
stays_heard Polled v o h free = heard_same v (after Polled v) (hears_still v (after Polled v) refl refl refl refl refl) h
stays_heard _ v o h free = h
