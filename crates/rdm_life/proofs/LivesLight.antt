-- What a deed makes of what is kept of lives, regions and counts, without the rest.
use Rattle.std.proofs.Common.{◌≡◌, ℕ, ◌+◌, Bool, true, false, cond, Option, Some, None, refl, arith}
use Rattle.std.specs.Prelude.{slice_get}
use Rattle.rdm_num.specs.Lives.{same_life}
use Rattle.rdm_num.specs.declared.numbers.Life.{Life}
use Rattle.rdm_num.specs.declared.request.SendReq.{SendReq}
use Rattle.rdm_model.specs.declared.job.Instr.TheVariants.{Insert, Reg, Send, Recv, Cancel}
use Rattle.rdm_model.specs.Deeds.{Deed, Did, Pushed, Took, Polled}
use Rattle.rdm_life.specs.Kept.{Kept, Peer}
use Rattle.rdm_life.specs.Landing.{settle, meet}
use Rattle.rdm_life.specs.Lives.{with_source, greet, after_insert}
use Rattle.rdm_life.specs.Memory.{after_reg}
use Rattle.rdm_life.specs.Receiving.{after_recv, after_cancel}
use Rattle.rdm_life.specs.Sending.{send_to}
use Rattle.rdm_life.specs.Handling.{after_instr, after}
use Rattle.rdm_life.proofs.LivesLeft.{Leaves, leaves_all, leaves_part, leaves_item, leaves_push, with_word}

-- one for a life, where there is one
unfoldable pub one_of : Option Life → ℕ
one_of None = 0
one_of (Some to) = 1

-- one for that life
unfoldable pub one_to : Option Life → Life → ℕ
one_to None life = 0
one_to (Some to) life = cond (same_life life to) 1 0

-- one send more, to a life
abbrev pub with_send : Option Life → Kept → Kept
with_send o v =
    record v {
      peers = λ life. record (v.peers life) { messages = (v.peers life).messages + one_to o life };
      send_count = v.send_count + one_of o;
    }

-- a deed, without what comes and goes
unfoldable pub light : Deed → Kept → Kept
light (Did (Insert life)) v = after_insert life v
light (Did (Reg content)) v = after_reg content v
light (Did (Send req)) v = with_send (v.current req.to.0) v
light (Did (Recv req)) v = record v { receive_count = v.receive_count + 1 }
light (Took from item) v = with_word from item (greet true from None (with_source from v))
light Polled v = record v { poll_count = v.poll_count + 1 }
light _ v = v

-- messages by a choice
one_chosen : (b : Bool) (p : Peer) → (cond b (record p { messages = p.messages + 1 }) p).messages ≡ p.messages + cond b 1 0
one_chosen true p = refl
one_chosen false p = omega arith

-- what the choice leaves
kept_met : (b : Bool) (p : Peer) → (cond b (record p { messages = p.messages + 1 }) p).met ≡ p.met
kept_met true p = refl
kept_met false p = refl

-- what else it leaves
kept_known : (b : Bool) (p : Peer) → (cond b (record p { messages = p.messages + 1 }) p).known ≡ p.known
kept_known true p = refl
kept_known false p = refl

-- a send goes to a life, or to none
leaves_sent : (req : SendReq) (o : Option Life) (v : Kept) → Leaves (with_send o v) (send_to req o v)
unfolding send_to one_of one_to
leaves_sent req None v =
    record {
      own = refl;
      region_count = refl;
      region_size = refl;
      current = refl;
      superseded = refl;
      met = λ life. refl;
      known = λ life. refl;
      messages = λ life. omega arith;
      send_count = omega arith;
      receive_count = refl;
      poll_count = refl;
    }
leaves_sent req (Some to) v =
    record {
      own = refl;
      region_count = refl;
      region_size = refl;
      current = refl;
      superseded = refl;
      met = λ life. kept_met (same_life life to) (v.peers life);
      known = λ life. kept_known (same_life life to) (v.peers life);
      messages = λ life. one_chosen (same_life life to) (v.peers life);
      send_count = refl;
      receive_count = refl;
      poll_count = refl;
    }

-- what comes and goes leaves the rest
pub after_light : (d : Deed) (v : Kept) → Leaves (light d v) (after d v)
unfolding light after after_instr after_recv after_cancel meet settle
after_light (Did (Insert life)) v = leaves_all _
after_light (Did (Reg content)) v = leaves_all _
after_light (Did (Send req)) v = leaves_sent req (v.current req.to.0) v
after_light (Did (Recv req)) v = leaves_part (record v { receive_count = v.receive_count + 1 }) (after_recv req v) refl
after_light (Did (Cancel recv)) v = leaves_part v (after_cancel recv.0 v) refl
after_light Pushed v = leaves_push (slice_get v.owed 0) v
after_light (Took from item) v = leaves_item from item (greet true from None (with_source from v))
after_light Polled v = leaves_part (record v { poll_count = v.poll_count + 1 }) (after Polled v) refl
after_light _ v = leaves_all v
