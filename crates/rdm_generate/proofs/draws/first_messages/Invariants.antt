use Rattle.std.proofs.Common.{◌≡◌, ◌+◌, ◌-◌, ◌++◌, sum_by}
use Rattle.rdm_generate.specs.Draws.{state_after, first_messages}
use Rattle.rdm_generate.proofs.Taken.{from_number}
use Rattle.rdm_generate.proofs.draws.first_messages.Given as goal

abbrev pub invariant-loop-number : goal.invariant-loop-number
invariant-loop-number l = record {
  rest : l.messages.items ++ from_number l.fn.seed l.number (l.count - l.number) l.room ≡ first_messages l.count l.fn.seed l.fn.size;
  drawn : l.state ≡ state_after l.fn.seed l.number;
  sum : sum_by (λ m. m.len) l.messages.items + l.room ≡ l.fn.size;
}
