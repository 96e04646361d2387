use Rattle.std.proofs.Common.{◌≡◌, ◌≤◌, ◌+◌, drop}
use Rattle.rdm_model.specs.Reads.{asks_from}
use Rattle.rdm_rx.specs.Asking.{read_length}
use Rattle.rdm_rx.proofs.asks.Asks.first.Given as goal

abbrev pub invariant-loop-range : goal.invariant-loop-range
invariant-loop-range l = record {
  within : l.begin ≤ l.self.at;
  rest : asks_from l.self.send_id l.self.recv_id l.self.ranges 0 l.self.at ≡ asks_from l.self.send_id l.self.recv_id (drop l.range-index l.self.ranges) l.begin l.self.at;
  bytes : l.begin + read_length (drop l.range-index l.self.ranges) ≡ read_length l.self.ranges;
}
