-- What a clause sees of the live receives.
use Rattle.std.specs.Prelude.{◌≡◌, ◌<◌, ◌≤◌, ℕ, ◌+◌, ◌&&◌, ◌==◌, Bool, true, false, List, [], ◌∷◌, length, find, Option, Some, None}
use Rattle.rdm_lists.specs.Lists.{Member}
use Rattle.rdm_num.specs.Lives.{same_life}
use Rattle.rdm_num.specs.declared.numbers.Life.{Life}
use Rattle.rdm_num.specs.declared.numbers.MsgNo.{MsgNo}
use Rattle.rdm_num.specs.declared.numbers.OpId.{OpId}
use Rattle.rdm_rx.specs.Receiving.{ReceivingView}
use Rattle.rdm_receives.specs.View.{ReceiveView, IsReceive}

-- the live receives in the order of their numbers, how many may live, how many were ever posted, and for how many more there is
-- room
pub record LiveView : Type 0 where
  pub list : List ReceiveView
  pub size : ℕ
  pub made : ℕ
  pub room : ℕ

-- the receive has that number
abbrev pub has_number : OpId → ReceiveView → Bool
has_number number r = r.number.0 == number.0

-- the message is that one, if there is one
unfoldable pub is_message : Life → MsgNo → Option ReceivingView → Bool
is_message source number None = false
is_message source number (Some m) = same_life m.source source && m.number.0 == number.0

-- the receive takes that message
abbrev pub takes : Life → MsgNo → ReceiveView → Bool
takes source number r = is_message source number r.message

-- the receive of a number
abbrev pub numbered : LiveView → OpId → Option ReceiveView
numbered v number = find (has_number number) v.list

-- the receive of a message
abbrev pub of_message : LiveView → Life → MsgNo → Option ReceiveView
of_message v source number = find (takes source number) v.list

-- the numbers rise, from a least one on, and stay below a bound
abbrev pub NumbersRise : (least : ℕ) → List ReceiveView → (bound : ℕ) → Type 0
NumbersRise least [] bound = Unit {0}
NumbersRise least (r ∷ rs) bound = (least ≤ r.number.0) × (r.number.0 < bound) × NumbersRise (r.number.0 + 1) rs bound

-- no message is taken by two of them
abbrev pub MessagesOnce : List ReceiveView → Type 0
MessagesOnce rs =
    (q r : ReceiveView) (source : Life) (number : MsgNo) → Member q rs → Member r rs → takes source number q ≡ true → takes source number r ≡ true → q ≡ r

-- what is true of them at all times: their numbers rise and were given, there are no more than may live, each is a receive, and no
-- message is taken by two of them
pub record IsLive (v : LiveView) : Type 0 where
  pub rises : NumbersRise 0 v.list v.made
  pub within : length v.list ≤ v.size
  pub each : (r : ReceiveView) → Member r v.list → IsReceive r
  pub once : MessagesOnce v.list
