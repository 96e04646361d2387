-- What the calls that receive make of an endpoint.
use Rattle.std.specs.Prelude.{◌≡◌, ◌<◌, ◌≤◌, ⊤, ◌+◌, ◌-◌, Bool, true, false, get_or, ◌||◌, nat_le, [], ◌∷◌, ◌++◌, length, take, Option, Some, None, is_none, find}
use Rattle.rdm_lists.specs.Lists.{first_case, without_first}
use Rattle.rdm_num.specs.declared.numbers.PortNo.{PortNo}
use Rattle.rdm_num.specs.declared.numbers.Life.{Life}
use Rattle.rdm_num.specs.declared.request.RecvReq.{RecvReq}
use Rattle.rdm_num.specs.declared.completion.Completion.{Completion}
use Rattle.rdm_num.specs.declared.completion.Completion.TheVariants.{Recv}
use Rattle.rdm_num.specs.declared.completion.Outcome.TheVariants.{Took}
use Rattle.rdm_match.specs.declared.PostedRecv.{PostedRecv}
use Rattle.rdm_match.specs.declared.Arrived.{Arrived}
use Rattle.rdm_match.specs.Matcher.{accepts}
use Rattle.rdm_model.specs.Regions.{change_at, put}
use Rattle.rdm_model.specs.declared.answer.RecvWhy.TheVariants as Why
use Rattle.rdm_model.specs.declared.answer.PoolName.TheVariants as Pool
use Rattle.rdm_ep.specs.declared.state.Posted.{Posted}
use Rattle.rdm_ep.specs.declared.state.Inbound.{Inbound}
use Rattle.rdm_ep.specs.declared.answer.RecvAnswer.{RecvAnswer}
use Rattle.rdm_ep.specs.declared.answer.RecvAnswer.TheVariants.{Did, Refused, Again}
use Rattle.rdm_ep.specs.View.{EndpointView, current_in}
use Rattle.rdm_ep.specs.Sending.{has_no_region, is_out_of_range, meets_posted, meets_outgoing, cq_is_full}

-- the receive as the matcher sees it
abbrev pub posted_recv : Posted → PostedRecv
posted_recv p = record { id = p.number; from = p.from; want = p.req.want }

-- the message as the matcher sees it
abbrev pub arrived_message : Inbound → Arrived
arrived_message i = record { life = i.life; no = i.no; tag = i.tag }

-- the receive takes the message
unfoldable pub takes : Posted → Inbound → Bool
takes p i = accepts (posted_recv p) (arrived_message i)

-- the current life of the port that a receive names, if it names one
unfoldable pub named_in : EndpointView → Option PortNo → Option Life
named_in v None = None
named_in v (Some port) = current_in v port.0

-- the receive names a port that has no current life
unfoldable pub names_nobody : EndpointView → Option PortNo → Bool
names_nobody v None = false
names_nobody v (Some port) = is_none (current_in v port.0)

-- what a receive answers
unfoldable pub recv_answer : EndpointView → RecvReq → RecvAnswer
recv_answer v req =
    first_case
    ((has_no_region v req.region.0, Refused Why.NoRegion)
    ∷ (is_out_of_range v req.region.0 req.at req.len, Refused Why.Range)
    ∷ (names_nobody v req.from, Refused Why.NoEntry)
    ∷ (meets_posted v req.region.0 req.at req.len || meets_outgoing v req.region.0 req.at req.len, Refused Why.Busy)
    ∷ (nat_le v.own.limits.rx (length v.posted), Again Pool.Rx)
    ∷ (cq_is_full v, Again Pool.Cq)
    ∷ [])
    (Did (record { 0 = v.receives }))

-- the receive that is posted
unfoldable pub posted_by : EndpointView → RecvReq → Posted
posted_by v req = record { number = record { 0 = v.receives }; req = req; from = named_in v req.from }

-- a receive completes with a message: its first bytes that fit, and how many were cut off
unfoldable pub completion_of : Posted → Inbound → Completion
completion_of p i = Recv p.number (Took i.life i.tag i.cq_data (take p.req.len i.bytes) (length i.bytes - p.req.len))

-- the bytes stand at the front of the receive's range, and the completion waits to be polled
unfoldable pub landed : Posted → Inbound → EndpointView → EndpointView
landed p i v =
    record v {
      regions = change_at (put p.req.at (take p.req.len i.bytes)) p.req.region.0 v.regions;
      completions = v.completions ++ completion_of p i ∷ [];
    }

-- a receive takes the first message that it accepts, or waits last
unfoldable pub after_post : EndpointView → Posted → Option Inbound → EndpointView
after_post v p None = record v { posted = v.posted ++ p ∷ [] }
after_post v p (Some i) = landed p i (record v { arrived = without_first (takes p) v.arrived })

-- one more receive was accepted
abbrev pub one_more_receive : EndpointView → EndpointView
one_more_receive v = record v { receives = v.receives + 1 }

-- the endpoint after a receive that was accepted
unfoldable pub after_recv : EndpointView → RecvReq → EndpointView
after_recv v req = after_post (one_more_receive v) (posted_by v req) (find (takes (posted_by v req)) v.arrived)

-- the endpoint is as the answer to a receive says
abbrev pub ReceivesAs : EndpointView → EndpointView → RecvReq → RecvAnswer → Type 0
ReceivesAs old new req (Did recv) = new ≡ after_recv old req
ReceivesAs old new req _ = new ≡ old

-- all that an accepted receive says of the endpoint
pub record CanReceive (v : EndpointView) (req : RecvReq) (from : Option Life) : Type 0 where
  pub answer : recv_answer v req ≡ Did (record { 0 = v.receives })
  pub named : named_in v req.from ≡ from
  pub region : req.region.0 < length v.regions
  pub range : req.at + req.len ≤ length (get_or v.regions req.region.0 [])
  pub room : v.sends + v.receives < v.own.limits.cq + v.polled

-- a receive that was not accepted
abbrev pub IsNoReceive : RecvAnswer → Type 0
IsNoReceive (Did recv) = ⊥
IsNoReceive _ = ⊤

-- a receive that waits for a place
unfoldable pub is_again : RecvAnswer → Bool
is_again (Again pool) = true
is_again _ = false
