use Rattle.std.proofs.Common.{◌≡◌, ◌≤◌, ◌+◌, map, length, vec_len, vec_capacity, ℕ, Vec, Global}
use Rattle.std.specs.VecDeque.{deque_capacity}
use Rattle.rdm_ep.specs.Counts.{RangesFit}
use Rattle.rdm_ep.specs.Meeting.{after_arrivals}
use Rattle.rdm_ep.proofs.MeetingLemmas.{meeting}
use Rattle.rdm_ep.proofs.meeting.arrive_all.Given as goal

abbrev pub invariant-loop-inbound : goal.invariant-loop-inbound
invariant-loop-inbound l =
    (after_arrivals (meeting (map (λ (r : Vec ℕ Global). r.items) l.regions.items) l.posted.items l.arrived.items l.completions.items) l.inbound-iterator.rest.items
    ≡ after_arrivals (meeting (map (λ (r : Vec ℕ Global). r.items) l.fn.regions.items) l.fn.posted.items l.fn.arrived.items l.fn.completions.items) l.fn.entering.items)
    × RangesFit (map (λ (r : Vec ℕ Global). r.items) l.regions.items) l.posted.items
    × (vec_len l.arrived + length l.inbound-iterator.rest.items ≤ vec_capacity l.arrived)
    × (length l.posted.items + length l.completions.items ≡ length l.fn.posted.items + length l.fn.completions.items)
    × (deque_capacity l.completions ≡ deque_capacity l.fn.completions)
