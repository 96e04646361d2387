use Rattle.std.proofs.Common.{◌≡◌}
use Rattle.std.specs.Prelude.{vec_len, vec_capacity}
use Rattle.rdm_inbox.proofs.Openings.{AreFresh}
use Rattle.rdm_inbox.proofs.inboxes.Inboxes.new.Given as goal

abbrev pub invariant-loop-port : goal.invariant-loop-port
invariant-loop-port g l = record {
  inboxes : vec_len l.inboxes ≡ l.port;
  all : vec_len l.all ≡ l.port;
  room : vec_capacity l.inboxes ≡ l.ports;
  room_too : vec_capacity l.all ≡ l.ports;
  fresh : AreFresh l.ports l.size l.port l.inboxes.items l.all.items;
}
