-- The asks of a read that are left.
use Rattle.std.specs.Prelude.{List}
use Rattle.rdm_wire.specs.declared.ReadAsk.{ReadAsk}
use Rattle.rdm_model.specs.Reads.{asks_from}
use Rattle.rdm_rx.specs.declared.asks.Asks.{Asks}

-- the asks that are left, rising: those for the bytes of the message from `at` on
abbrev pub left : Asks → List ReadAsk
left a = asks_from a.send_id a.recv_id a.ranges 0 a.at
