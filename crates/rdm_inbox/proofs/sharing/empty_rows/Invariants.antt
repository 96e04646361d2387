use Rattle.std.proofs.Common.{◌≡◌}
use Rattle.std.specs.Prelude.{vec_len, vec_capacity}
use Rattle.rdm_inbox.specs.Sharing.{AreRows}
use Rattle.rdm_inbox.proofs.sharing.empty_rows.Given as goal

abbrev pub invariant-loop-port : goal.invariant-loop-port
invariant-loop-port l = record {
  rows : AreRows l.ports l.rows.items;
  count : vec_len l.rows ≡ l._port;
  room : vec_capacity l.rows ≡ l.ports;
}
