use Rattle.std.proofs.Common.{◌≡◌, ◌≤◌, ◌+◌, ◌++◌, length, vec_len, vec_capacity}
use Rattle.rdm_ep.specs.Entering.{following, left_held}
use Rattle.rdm_ep.proofs.holding.take_following.Given as goal

abbrev pub invariant-loop-due : goal.invariant-loop-due
invariant-loop-due l =
    (l.entering.items ++ following (length l.held.items) l.held.items l.from l.next ≡ l.fn.entering.items ++ following (length l.fn.held.items) l.fn.held.items l.from l.first)
    × (left_held (length l.held.items) l.held.items l.from l.next ≡ left_held (length l.fn.held.items) l.fn.held.items l.from l.first)
    × (l.next + length (following (length l.held.items) l.held.items l.from l.next) ≡ l.first + length (following (length l.fn.held.items) l.fn.held.items l.from l.first))
    × (length l.held.items + l._due ≡ length l.fn.held.items)
    × (vec_len l.entering + length l.held.items ≤ vec_capacity l.entering)
