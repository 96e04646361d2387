-- The granted bytes of a long send: how far they were pushed, which come next, and what grants change.
use Rattle.std.specs.Prelude.{ℕ, ◌+◌, ◌-◌, min, Bool, false, not, ◌||◌, ◌==◌, nat_lt, List, Option, Some, None, option_map}
use Rattle.std.specs.Bool.{then_some}
use Rattle.rdm_lists.specs.Lists.{or_else}
use Rattle.rdm_num.specs.Lives.{op_id}
use Rattle.rdm_num.specs.declared.limits.EpLimits.{EpLimits}
use Rattle.rdm_num.specs.declared.numbers.Connid.{Connid}
use Rattle.rdm_pkt.specs.declared.Packet.{Packet}
use Rattle.rdm_pkt.specs.declared.Packet.TheVariants.{CtsData}
use Rattle.rdm_model.specs.Grants.{data_room}
use Rattle.rdm_tx.specs.declared.spans.Span.{Span}

-- how long the message is, how many of its bytes opened it or were pushed since, how many may be pushed so far, and the
-- receive that grants name
pub record Granting : Type 0 where
  pub total : ℕ
  pub done : ℕ
  pub allowed : ℕ
  pub granted_by : Option ℕ

-- a message of that length which so many bytes opened; nothing is granted yet
abbrev pub ungranted : (total first : ℕ) → Granting
ungranted total first = record { total = total; done = first; allowed = first; granted_by = None }

-- the number is there, and is another one
unfoldable pub is_other_number : ℕ → Option ℕ → Bool
is_other_number n None = false
is_other_number n (Some m) = not (m == n)

-- a grant of more than what is not granted, or for another receive than before
abbrev pub is_wrong_for : (recv size : ℕ) → Granting → Bool
is_wrong_for recv size g = nat_lt (g.total - g.allowed) size || is_other_number recv g.granted_by

-- that receive grants so many bytes more
abbrev pub with_grant : (recv size : ℕ) → Granting → Granting
with_grant recv size g = record g { allowed = g.allowed + size; granted_by = or_else g.granted_by (Some recv) }

-- how many bytes the next packet carries: all that are left to push, up to what a packet has room for
abbrev pub next_length : EpLimits → Granting → ℕ
next_length limits g = min (g.allowed - g.done) (data_room limits)

-- where they stand in the message, if any are left to push
abbrev pub span_next : EpLimits → Granting → Option Span
span_next limits g = then_some (nat_lt g.done g.allowed) (record { offset = g.done; length = next_length limits g })

-- the packet of those bytes, from the first one on that was not pushed, to the receive that grants name
abbrev pub packet_with : Connid → Granting → (piece : List ℕ) → Option Packet
packet_with own g piece = option_map (λ recv. CtsData (op_id recv) g.done own piece) g.granted_by

-- the next packet was pushed
abbrev pub pushed : EpLimits → Granting → Granting
pushed limits g = record g { done = g.done + next_length limits g }
