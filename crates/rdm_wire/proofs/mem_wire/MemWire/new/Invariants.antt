use Rattle.std.proofs.Common.{◌≡◌, map, [], replicate}
use Rattle.std.specs.Prelude.{vec_len, vec_capacity}
use Rattle.rdm_wire.specs.Queues.{AreQueues}
use Rattle.rdm_wire.proofs.mem_wire.MemWire.new.Given as goal

abbrev pub invariant-loop-port : goal.invariant-loop-port
invariant-loop-port l = record {
  count : vec_len l.queues ≡ l.port;
  room : vec_capacity l.queues ≡ l.ports;
  empty : map (λ q. q.list) l.queues.items ≡ replicate l.port [];
  queues : AreQueues l.size l.ports l.queues.items;
}
