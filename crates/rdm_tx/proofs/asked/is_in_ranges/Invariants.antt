use Rattle.std.proofs.Common.{◌≡◌, ◌-◌, ◌≤◌, drop}
use Rattle.rdm_model.specs.Targets.{is_in_iov}
use Rattle.rdm_tx.proofs.asked.is_in_ranges.Given as goal

abbrev pub invariant-loop-range : goal.invariant-loop-range
invariant-loop-range l = record {
  within : l.into ≤ l.ask.at;
  rest : is_in_iov l.ask 0 l.ranges ≡ is_in_iov l.ask (l.ask.at - l.into) (drop l.range-index l.ranges);
}
