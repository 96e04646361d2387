-- What a receive answers, grants, ends with and comes to.
use Rattle.std.specs.Prelude.{◌≡◌, ℕ, ◌-◌, Bool, false, nat_lt, if◌then◌else◌, List, [], length, map, replicate, Option, Some, None, Result, Ok, Err, IsSome}
use Rattle.rdm_lists.specs.Lists.{each_below}
use Rattle.rdm_num.specs.declared.limits.EpLimits.{EpLimits}
use Rattle.rdm_num.specs.declared.numbers.Life.{Life}
use Rattle.rdm_num.specs.declared.numbers.MsgNo.{MsgNo}
use Rattle.rdm_wire.specs.declared.ReadAsk.{ReadAsk}
use Rattle.rdm_model.specs.Beginnings.{Own}
use Rattle.rdm_model.specs.Deeds.{Item}
use Rattle.rdm_model.specs.Replies.{asks_for, grant_for, end_for}
use Rattle.rdm_mr.specs.Part.{Piece}
use Rattle.rdm_mr.specs.Tiles.{Tiles}
use Rattle.rdm_land.specs.Landed as Landed
use Rattle.rdm_land.specs.Landed.{Landed as Landing, after_lend}
use Rattle.rdm_land.specs.Arrivals.{has_come, AreWaiting}
use Rattle.rdm_rx.specs.Receiving.{ReceivingView, window_if, granted_if}
use Rattle.rdm_receives.specs.View.{ReceiveView}

-- the life of its message
abbrev pub source_of : Option ReceivingView → Option Life
source_of None = None
source_of (Some m) = Some m.source

-- the number of its message among those of that life
abbrev pub number_of : Option ReceivingView → Option MsgNo
number_of None = None
number_of (Some m) = Some m.number

-- it has a message in which the range lies, and each place of the range is missing or lent
abbrev pub IsMissing : ReceiveView → (at len : ℕ) → Type 0
IsMissing r at len = IsSome r.message × AreWaiting r.landed at len

-- all of its message came
abbrev pub is_full : Landing → Option ReceivingView → Bool
is_full l None = false
is_full l (Some m) = each_below (has_come l) m.head.length

-- all that is granted of its message came
abbrev pub has_landed : Landing → Option ReceivingView → Bool
has_landed l None = false
has_landed l (Some m) = each_below (has_come l) m.granted

-- bytes that end there pass what is granted
abbrev pub passes_grants : Option ReceivingView → (end : ℕ) → Bool
passes_grants None end = false
passes_grants (Some m) end = nat_lt m.granted end

-- how many bytes of its message lie past its range
abbrev pub excess : ReceiveView → ℕ
excess r = length r.landed.missing - r.req.len

-- ---- what it owes

-- what it asks for when it is matched
abbrev pub asks_owed : Option ReceivingView → List ReadAsk
asks_owed None = []
asks_owed (Some m) = asks_for m.head.shape m.recv

-- the grant of the next window, once all that was granted has landed
abbrev pub grant_owed : Own → EpLimits → Landing → Option ReceivingView → List Item
grant_owed own limits l None = []
grant_owed own limits l (Some m) = grant_for own m.head.shape m.recv (window_if (has_landed l (Some m)) limits m)

-- what ends its message, once all of it came
abbrev pub end_owed : Own → Landing → Option ReceivingView → List Item
end_owed own l None = []
end_owed own l (Some m) = if is_full l (Some m) then end_for own m.head.shape m.head.confirm m.number m.recv else []

-- its message with that window granted
abbrev pub granted : EpLimits → Landing → Option ReceivingView → Option ReceivingView
granted limits l None = None
granted limits l (Some m) = Some (granted_if (has_landed l (Some m)) limits m)

-- the next window is granted
abbrev pub after_grant : EpLimits → ReceiveView → ReceiveView
after_grant limits r = record r { message = granted limits r.landed r.message }

-- ---- what comes back of it

-- its part, full of zeros
pub record AreZeros (t : Tiles) (p : Piece) : Type 0 where
  pub block : p.block ≡ t.block
  pub whole : p.whole ≡ t.whole
  pub start : p.start ≡ t.start
  pub bytes : p.bytes ≡ replicate (length t.cells) 0

-- ---- loans

-- what a `lend` leaves: only one that gives a part changes anything
abbrev pub after_loan : {E : Type 0} → ReceiveView → (at len : ℕ) → Result (Option Piece) E → ReceiveView
after_loan r at len answer = record r { landed = after_lend r.landed at len answer }

-- a part is back, and its range is missing again
abbrev pub unlent : ReceiveView → (at len : ℕ) → Piece → ReceiveView
unlent r at len part = record r { landed = Landed.unlent r.landed at len part }

-- a part is back, with the bytes of its range
abbrev pub landed : ReceiveView → (at len : ℕ) → Piece → ReceiveView
landed r at len part = record r { landed = Landed.landed r.landed at len part }
