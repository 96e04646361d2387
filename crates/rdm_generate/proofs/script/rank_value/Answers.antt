use Rattle.std.proofs.Common.{◌==◌, arith}
use Rattle.rdm_generate.proofs.Totals.{total_of-filter}
use Rattle.rdm_generate.proofs.script.rank_value.Goals as goal

pub program-requires-clause-received : goal.program-requires-clause-received
program-requires-clause-received c =
    rw (c.as_slice.ensures.value, c.in_ok-received.ensures) (omega (arith, total_of-filter (λ m. m.to == c.args.rank) c.args.messages.now))

pub program-requires-clause-sent : goal.program-requires-clause-sent
program-requires-clause-sent c =
    rw (c.as_slice-2.ensures.value, c.in_ok-sent.ensures) (omega (arith, total_of-filter (λ m. m.from == c.args.rank) c.args.messages.now))
