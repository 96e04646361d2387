use Rattle.std.proofs.Common.{◌≡◌, ℕ, ◌-◌, ◌<◌, ◌≤◌, true}
use Rattle.rdm_land.proofs.Waiting.{waits}
use Rattle.rdm_land.proofs.loans.all_wait.Given as goal

abbrev pub invariant-loop-at : goal.invariant-loop-at
invariant-loop-at l = (l.off ≤ l.at) × ((k : ℕ) → l.off ≤ k → k < l.at → waits l.gaps.places l.lent k ≡ true)

abbrev pub decreases-loop-at : goal.decreases-loop-at
decreases-loop-at l = l.end - l.at
