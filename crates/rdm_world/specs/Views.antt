-- A world as contracts see it.
use Rattle.std.specs.Prelude.{◌≡◌, ◌<◌, ◌≤◌, ℕ, List, length, get_or}
use Rattle.rdm_wire.specs.Queues.{MemWireState}
use Rattle.rdm_port.specs.Views.{PortView}

-- the ports in order, and the wire
pub record WorldView : Type 0 where
  pub ports : List PortView
  pub wire : MemWireState

-- each port stands at the place of its number, and knows how many there are, which is 16 at most; so many queues does the wire have
pub record IsInPlace (v : WorldView) : Type 0 where
  pub few : length v.ports ≤ 16
  pub queues : length v.wire.queues ≡ length v.ports
  pub ports : (i : ℕ) (p : PortView) → i < length v.ports → p ≡ get_or v.ports i p → (p.number ≡ i) × (p.ports ≡ length v.ports)
