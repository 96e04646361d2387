use Rattle.std.proofs.Common.{◌≡◌, ◌-◌, ◌^◌}
use Rattle.rdm_window.specs.Marks.{IsAdvanced}
use Rattle.rdm_window.proofs.ring.Ring.advance.Given as goal

abbrev pub invariant-loop : goal.invariant-loop
invariant-loop l = (l.from ≡ l.fn.self.next) × IsAdvanced l.fn.self l.self

abbrev pub decreases-loop : goal.decreases-loop
decreases-loop l = 2 ^ 32 - l.self.next
