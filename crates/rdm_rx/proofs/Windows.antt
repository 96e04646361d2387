-- The windows of a receive, which never pass its message's length.
use Rattle.std.proofs.Common.{ℕ, ◌+◌, ◌*◌, ◌≤◌, Bool, true, false, arith}
use Rattle.std.specs.Prelude.{max}
use Rattle.rdm_num.specs.declared.limits.EpLimits.{EpLimits}
use Rattle.rdm_num.specs.declared.head.Head.{Head}
use Rattle.rdm_num.specs.declared.head.Shape.{Shape}
use Rattle.rdm_num.specs.declared.head.Shape.TheVariants.{Eager, Medium, LongCts, LongRead, Runt}
use Rattle.rdm_model.specs.Grants.{window_of, data_room}
use Rattle.rdm_rx.specs.Receiving.{ReceivingView, window_if}

-- a window ends within its message, or has no byte
window_within : (limits : EpLimits) (head : Head) (shape : Shape) (granted : ℕ) → granted + window_of limits head shape granted ≤ max granted head.length
unfolding window_of
window_within limits head Eager granted = omega arith
window_within limits head Medium granted = omega arith
window_within limits head (LongCts send credits) granted = let most = credits * data_room limits in omega arith
window_within limits head (LongRead send iov) granted = omega arith
window_within limits head (Runt send iov runt) granted = omega arith

-- so does the next one
pub next_within : (landed : Bool) (limits : EpLimits) (r : ReceivingView) → r.granted + window_if landed limits r ≤ max r.granted r.head.length
unfolding window_if
next_within true limits r = window_within limits r.head r.head.shape r.granted
next_within false limits r = omega arith
