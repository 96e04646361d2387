-- What was asked for of a send that its receiver reads.
use Rattle.std.specs.Prelude.{ℕ, ◌+◌, ◌-◌, ◌≤◌, ◌<◌, Bool, ◌||◌, nat_lt, IsTrue, List}
use Rattle.rdm_num.specs.declared.lists.IovEntry.{IovEntry}
use Rattle.rdm_wire.specs.declared.ReadAsk.{ReadAsk}
use Rattle.rdm_gaps.specs.Places.{Missing, AreMissing, all_missing, count_missing, with_taken, with_spare}
use Rattle.rdm_model.specs.Targets.{is_in_iov}

-- the first byte that is read; the read list; which places were not asked for, the first being that of this byte and the
-- last that of the message's last byte; and how many answers were not pushed
pub record Asks : Type 0 where
  pub from : ℕ
  pub iov : List IovEntry
  pub unasked : Missing
  pub owes : ℕ

-- nothing was asked for of a message of that length
abbrev pub all_unasked : (from length : ℕ) → List IovEntry → Asks
all_unasked from length iov = record { from = from; iov = iov; unasked = all_missing (length - from); owes = 0 }

-- the ask has bytes, which are to be read and were not asked for, and one range of the read list has them where it says
abbrev pub MayAsk : Asks → ReadAsk → Type 0
MayAsk a ask =
    (0 < ask.length) × (a.from ≤ ask.at) × AreMissing (ask.at - a.from) ask.length a.unasked.places × IsTrue (is_in_iov ask 0 a.iov)

-- the bytes were asked for, and one more answer is owed
abbrev pub with_ask : Asks → ReadAsk → Asks
with_ask a ask = record a { unasked = with_taken a.unasked (ask.at - a.from) ask.length; owes = a.owes + 1 }

-- the same in room that was made, of which it takes one
abbrev pub with_reserved_ask : Asks → ReadAsk → Asks
with_reserved_ask a ask = with_ask (record a { unasked = record a.unasked { spare = a.unasked.spare - 1 } }) ask

-- there is room for one ask at least
abbrev pub with_room : Asks → Asks
with_room a = record a { unasked = with_spare a.unasked 1 }

-- one answer was pushed
abbrev pub with_answer : Asks → Asks
with_answer a = record a { owes = a.owes - 1 }

-- some place was not asked for, or some answer was not pushed
abbrev pub ends_early : Asks → Bool
ends_early a = nat_lt 0 (count_missing a.unasked) || nat_lt 0 a.owes
