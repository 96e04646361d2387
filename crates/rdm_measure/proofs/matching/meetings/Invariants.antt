use Rattle.std.proofs.Common.{◌≡◌, ℕ, ◌≤◌, false}
use Rattle.rdm_match.specs.Waiting.{is_posted}
use Rattle.rdm_measure.proofs.matching.meetings.Given as goal

-- no receive is posted of the number that comes now, nor of a later one
abbrev pub invariant-loop-number : goal.invariant-loop-number
invariant-loop-number l = (k : ℕ) → l.number ≤ k → is_posted l.bins.waiting k ≡ false
