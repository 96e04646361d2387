use Rattle.std.proofs.Common.{◌≡◌, ◌≤◌, ◌+◌, ◌++◌, vec_len, vec_capacity}
use Rattle.rdm_port.proofs.Queued.{opened_below}
use Rattle.rdm_port.proofs.notes.queue_opened.Given as goal

abbrev pub invariant-loop-port : goal.invariant-loop-port
invariant-loop-port l =
    (l.notes.items ≡ l.fn.notes.items ++ opened_below l.number.0 l.connid l.port) × (vec_len l.notes ≤ vec_len l.fn.notes + l.port) × (vec_capacity l.fn.notes ≤ vec_capacity l.notes)
