-- The state of a matched receive, beside the bytes that landed.
use Rattle.std.specs.Prelude.{ℕ, ◌+◌, Bool, if◌then◌else◌}
use Rattle.rdm_num.specs.declared.numbers.Life.{Life}
use Rattle.rdm_num.specs.declared.numbers.MsgNo.{MsgNo}
use Rattle.rdm_num.specs.declared.numbers.OpId.{OpId}
use Rattle.rdm_num.specs.declared.limits.EpLimits.{EpLimits}
use Rattle.rdm_num.specs.declared.head.Head.{Head}
use Rattle.rdm_model.specs.Grants.{window_of}

-- the message that a receive was matched to and its head, the receive's number in packets, and how many bytes are granted
pub record ReceivingView : Type 0 where
  pub source : Life
  pub number : MsgNo
  pub recv : OpId
  pub head : Head
  pub granted : ℕ

-- the length of the next window, where all that is granted has landed
unfoldable pub window_if : (landed : Bool) → EpLimits → ReceivingView → ℕ
window_if landed limits r = if landed then window_of limits r.head r.head.shape r.granted else 0

-- that window is granted
abbrev pub granted_if : (landed : Bool) → EpLimits → ReceivingView → ReceivingView
granted_if landed limits r = record r { granted = r.granted + window_if landed limits r }
