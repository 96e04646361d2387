-- An endpoint as contracts see it.
use Rattle.std.specs.Prelude.{ℕ, ◌+◌, ◌-◌, ◌==◌, List, [], Option, find}
use Rattle.rdm_num.specs.declared.numbers.Life.{Life}
use Rattle.rdm_num.specs.declared.completion.Completion.{Completion}
use Rattle.rdm_model.specs.Beginnings.{Own}
use Rattle.rdm_ep.specs.declared.state.Peer.{Peer}
use Rattle.rdm_ep.specs.declared.state.Posted.{Posted}
use Rattle.rdm_ep.specs.declared.state.Inbound.{Inbound}
use Rattle.rdm_ep.specs.declared.state.Outbound.{Outbound}

-- all that an endpoint keeps
pub record EndpointView : Type 0 where
  pub own : Own
  pub regions : List (List ℕ)
  -- the life of each port that is held as current
  pub currents : List Life
  pub peers : List Peer
  -- how many sends and receives were accepted, and how many completions were polled
  pub sends : ℕ
  pub receives : ℕ
  pub polled : ℕ
  -- receives without a message, and messages without a receive
  pub posted : List Posted
  pub arrived : List Inbound
  -- the messages that were heard of, and wait for those before them
  pub held : List Inbound
  -- the lives that are owed a handshake, and the sends that are to be pushed
  pub owed : List Life
  pub outgoing : List Outbound
  -- what was not polled
  pub completions : List Completion

-- an endpoint before any call
unfoldable pub new_endpoint : Own → EndpointView
new_endpoint own =
    record {
      own = own;
      regions = [];
      currents = [];
      peers = [];
      sends = 0;
      receives = 0;
      polled = 0;
      posted = [];
      arrived = [];
      held = [];
      owed = [];
      outgoing = [];
      completions = [];
    }

-- the current life of a port
unfoldable pub current_in : EndpointView → ℕ → Option Life
current_in v port = find (λ (l : Life). l.port.0 == port) v.currents

-- how many completion places are taken
unfoldable pub cq_in : EndpointView → ℕ
cq_in v = v.sends + v.receives - v.polled
