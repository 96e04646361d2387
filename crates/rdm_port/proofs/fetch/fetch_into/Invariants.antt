use Rattle.std.proofs.Common.{◌≡◌, ◌≤◌, ◌+◌, true, List}
use Rattle.rdm_wire.specs.declared.Datagram.{Datagram}
use Rattle.rdm_port.specs.Pushes.{IsKeptWire}
use Rattle.rdm_port.proofs.Fetches.{HasFetched, HasTold}
use Rattle.rdm_port.proofs.fetch.fetch_into.Given as goal

abbrev pub invariant-loop-turn : goal.invariant-loop-turn
invariant-loop-turn g l = record {
  room : l.inbox ≤ l.stash.room + l._turn;
  serves : g.W.Wire.serves l.wire l.port.0 ≡ true;
  kept : IsKeptWire g.W.Wire.ports g.W.Wire.serves l.fn.wire l.wire;
  queues : (g.W.Wire.tables l.wire ≡ g.W.Wire.tables l.fn.wire) × (g.W.Wire.fulls l.wire ≡ g.W.Wire.fulls l.fn.wire);
  in_order : g.W.Wire.in_order l.wire ≡ g.W.Wire.in_order l.fn.wire;
  fetched : (got : List Datagram) × HasFetched (g.W.Wire.in_order l.fn.wire) l.port.0 l._turn got l.fn.stash.list l.stash.list (g.W.Wire.held l.fn.wire) (g.W.Wire.held l.wire)
      × HasTold (g.W.Wire.ports l.fn.wire) l.port.0 got (g.W.Wire.account l.fn.wire) (g.W.Wire.account l.wire) (g.W.Wire.empties l.fn.wire) (g.W.Wire.empties l.wire);
}
