-- What the calls that register, insert and send make of an endpoint.
use Rattle.std.specs.Prelude.{◌≡◌, ◌<◌, ⊤, ℕ, ◌+◌, Bool, true, false, not, ◌&&◌, ◌||◌, ◌==◌, nat_lt, nat_le, List, [], ◌∷◌, ◌++◌, length, get_or, Option, Some, None, is_none, Result, Ok, Err, if◌then◌else◌}
use Rattle.std.specs.List.{list_any}
use Rattle.rdm_hdr.specs.Fields.{has_bit}
use Rattle.rdm_lists.specs.Lists.{first_case}
use Rattle.rdm_num.specs.Pieces.{overlaps}
use Rattle.rdm_num.specs.Lives.{same_life}
use Rattle.rdm_num.specs.declared.numbers.Life.{Life}
use Rattle.rdm_num.specs.declared.parts.Span.{Span}
use Rattle.rdm_num.specs.declared.request.SendReq.{SendReq}
use Rattle.rdm_pkt.specs.declared.Packet.TheVariants.{Rtm}
use Rattle.rdm_pkt.specs.declared.Form.TheVariants.{Eager}
use Rattle.rdm_model.specs.declared.answer.SendWhy.TheVariants as Why
use Rattle.rdm_model.specs.declared.answer.PoolName.TheVariants as Pool
use Rattle.rdm_model.specs.Sends.{wants_raw, opt_for, bytes_of}
use Rattle.rdm_model.specs.Replies.{confirm_feature}
use Rattle.rdm_model.specs.Answers.{lacks_confirm}
use Rattle.rdm_ep.specs.declared.state.Posted.{Posted}
use Rattle.rdm_ep.specs.declared.state.Outbound.{Outbound}
use Rattle.rdm_ep.specs.declared.state.AcceptedSend.{AcceptedSend}
use Rattle.rdm_ep.specs.declared.answer.SendAnswer.{SendAnswer}
use Rattle.rdm_ep.specs.declared.answer.SendAnswer.TheVariants.{Did, Refused, NotYet, Again}
use Rattle.rdm_ep.specs.declared.answer.Inserted.{Inserted as InsertedAnswer}
use Rattle.rdm_ep.specs.declared.answer.Inserted.TheVariants.{Inserted, Same}
use Rattle.rdm_ep.specs.declared.answer.InsertRefused.{InsertRefused}
use Rattle.rdm_ep.specs.declared.answer.InsertRefused.TheVariants.{Superseded, Memory}
use Rattle.rdm_ep.specs.View.{EndpointView, current_in, cq_in}
use Rattle.rdm_ep.specs.Peers.{peer_in, with_peer, sent_peer}

-- one more region
unfoldable pub after_reg : EndpointView → List ℕ → EndpointView
after_reg v content = record v { regions = v.regions ++ content ∷ [] }

-- the answer of an insert by the current life of its port. One that takes the place of another life is not built
unfoldable pub insert_answer : Life → Option Life → Result InsertedAnswer InsertRefused
insert_answer life None = Ok Inserted
insert_answer life (Some old) = if same_life old life then Ok Same else Err Superseded

-- the life would take the place of another one
unfoldable pub supersedes : Life → Option Life → Bool
supersedes life None = false
supersedes life (Some old) = not (same_life old life)

-- the endpoint after an insert
unfoldable pub after_insert : EndpointView → Life → EndpointView
after_insert v life = if is_none (current_in v life.port.0) then record v { currents = v.currents ++ life ∷ [] } else v

-- no region of that number was registered
unfoldable pub has_no_region : EndpointView → ℕ → Bool
has_no_region v region = nat_le (length v.regions) region

-- the range passes the end of its region
unfoldable pub is_out_of_range : EndpointView → (region at len : ℕ) → Bool
is_out_of_range v region at len = nat_lt (length (get_or v.regions region [])) (at + len)

-- the range shares a place with that of a receive
unfoldable pub meets_posted : EndpointView → (region at len : ℕ) → Bool
meets_posted v region at len = list_any (λ (p : Posted). p.req.region.0 == region && overlaps at len p.req.at p.req.len) v.posted

-- the range shares a place with one of a send
unfoldable pub meets_outgoing : EndpointView → (region at len : ℕ) → Bool
meets_outgoing v region at len =
    list_any (λ (o : Outbound). list_any (λ (p : Span). p.region.0 == region && overlaps at len p.at p.len) o.req.parts) v.outgoing

-- one of the ranges is of a region that was not registered
unfoldable pub names_no_region : EndpointView → List Span → Bool
names_no_region v parts = list_any (λ (p : Span). has_no_region v p.region.0) parts

-- one of the ranges passes the end of its region
unfoldable pub passes_an_end : EndpointView → List Span → Bool
passes_an_end v parts = list_any (λ (p : Span). is_out_of_range v p.region.0 p.at p.len) parts

-- one of the ranges shares a place with that of a receive
unfoldable pub meets_a_receive : EndpointView → List Span → Bool
meets_a_receive v parts = list_any (λ (p : Span). meets_posted v p.region.0 p.at p.len) parts

-- the number of the next message to a life
unfoldable pub number_to : EndpointView → Life → ℕ
number_to v to = v.own.limits.first + (peer_in v.peers to).sent

-- the same to the current life of a port
unfoldable pub number_to_current : EndpointView → Option Life → ℕ
number_to_current v None = 0
number_to_current v (Some to) = number_to v to

-- every number to the life is used
unfoldable pub has_no_number : EndpointView → Option Life → Bool
has_no_number v None = false
has_no_number v (Some to) = nat_le 4294967296 (number_to v to)

-- what is known of a life's features, if there is a life
unfoldable pub known_in : EndpointView → Option Life → Option ℕ
known_in v None = None
known_in v (Some to) = (peer_in v.peers to).known

-- the send asks for a receipt, and the own life or the one that it goes to cannot confirm
unfoldable pub cannot_confirm : EndpointView → SendReq → Option Life → Bool
cannot_confirm v req to = req.confirm && (not (has_bit confirm_feature v.own.features) || lacks_confirm (known_in v to))

-- the send asks for a receipt, and nothing is known of the life that it goes to
unfoldable pub waits_for_handshake : EndpointView → SendReq → Option Life → Bool
waits_for_handshake v req to = req.confirm && is_none (known_in v to)

-- every place for a completion is taken
unfoldable pub cq_is_full : EndpointView → Bool
cq_is_full v = nat_le v.own.limits.cq (cq_in v)

-- what a send answers. Its ranges may meet each other and those of other sends, and no receive
unfoldable pub send_answer : EndpointView → SendReq → SendAnswer
send_answer v req =
    first_case
    ((names_no_region v req.parts, Refused Why.NoRegion)
    ∷ (passes_an_end v req.parts, Refused Why.Range)
    ∷ (is_none (current_in v req.to.0), Refused Why.NoEntry)
    ∷ (meets_a_receive v req.parts, Refused Why.Busy)
    ∷ (has_no_number v (current_in v req.to.0), Refused Why.Numbers)
    ∷ (cannot_confirm v req (current_in v req.to.0), Refused Why.NoConfirm)
    ∷ (waits_for_handshake v req (current_in v req.to.0), NotYet)
    ∷ (nat_le v.own.limits.tx (length v.outgoing), Again Pool.Tx)
    ∷ (cq_is_full v, Again Pool.Cq)
    ∷ [])
    (Did (record { 0 = v.sends }) (record { 0 = number_to_current v (current_in v req.to.0) }))

-- a send to a life, with its packet: the whole message, with the raw address as long as the life's features say so
unfoldable pub outbound : EndpointView → SendReq → Life → Outbound
outbound v req to =
    record {
      number = record { 0 = v.sends };
      to = to;
      req = req;
      packet = Rtm (record { 0 = number_to v to }) req.tag req.confirm (opt_for v.own.life (wants_raw (peer_in v.peers to).known) req.cq_data)
          (Eager (bytes_of v.regions req.parts));
    }

-- the endpoint after a send to a life
unfoldable pub after_send_to : EndpointView → SendReq → Option Life → EndpointView
after_send_to v req None = v
after_send_to v req (Some to) =
    record v { sends = v.sends + 1; peers = with_peer sent_peer to v.peers; outgoing = v.outgoing ++ outbound v req to ∷ [] }

-- the endpoint after a send that was accepted
unfoldable pub after_send : EndpointView → SendReq → EndpointView
after_send v req = after_send_to v req (current_in v req.to.0)

-- the endpoint is as the answer to a send says
abbrev pub SendsAs : EndpointView → EndpointView → SendReq → SendAnswer → Type 0
SendsAs old new req (Did send msg) = new ≡ after_send old req
SendsAs old new req _ = new ≡ old

-- the endpoint is as the answer to an insert says
abbrev pub InsertsAs : EndpointView → EndpointView → Life → Result InsertedAnswer InsertRefused → Type 0
InsertsAs old new life (Err Memory) = new ≡ old
InsertsAs old new life (Err Superseded) = (insert_answer life (current_in old life.port.0) ≡ Err Superseded) × (new ≡ old)
InsertsAs old new life (Ok answer) = (insert_answer life (current_in old life.port.0) ≡ Ok answer) × (new ≡ after_insert old life)

-- all that an accepted send says of the endpoint
pub record CanSend (v : EndpointView) (req : SendReq) (a : AcceptedSend) : Type 0 where
  pub answer : send_answer v req ≡ Did (record { 0 = v.sends }) a.msg
  pub current : current_in v req.to.0 ≡ Some a.to
  pub number : v.own.limits.first + (peer_in v.peers a.to).sent ≡ a.msg.0
  pub regions : names_no_region v req.parts ≡ false
  pub ranges : passes_an_end v req.parts ≡ false
  pub room : v.sends + v.receives < v.own.limits.cq + v.polled

-- a send that was not accepted
abbrev pub IsNoSend : SendAnswer → Type 0
IsNoSend (Did send msg) = ⊥
IsNoSend _ = ⊤

-- a send that waits, for a place or for a handshake
unfoldable pub is_again : SendAnswer → Bool
is_again (Again pool) = true
is_again NotYet = true
is_again _ = false
