-- Items come out as they were written: in their order, each once.
use Rattle.std.specs.Prelude.{◌≡◌, ℕ, ◌<◌, List, [], ◌∷◌, ◌++◌, Option, Some, None}
use Rattle.rdm_cq.specs.Queue.{Queue, IsWithin, no_completions, after_reserve, unreserved, written, poll_answer, polled}

-- a call that may change a queue
pub data Call (T : Type 0) : Type 0 where
  Reserve : Call T
  Unreserve : Call T
  Write : T → Call T
  Poll : Call T

module _ {T : Type 0} where
  -- the queue after calls, the newest call first
  unfoldable pub after_calls : ℕ → List (Call T) → Queue T
  after_calls size [] = no_completions size
  after_calls size (Reserve ∷ before) = after_reserve (after_calls size before)
  after_calls size (Unreserve ∷ before) = unreserved (after_calls size before)
  after_calls size (Write item ∷ before) = written (after_calls size before) item
  after_calls size (Poll ∷ before) = polled (after_calls size before)

  -- each write had a reserved place, and each place that was given back was reserved
  abbrev pub AreCalls : ℕ → List (Call T) → Type 0
  AreCalls size [] = Unit {0}
  AreCalls size (Reserve ∷ before) = AreCalls size before
  AreCalls size (Unreserve ∷ before) = AreCalls size before × (0 < (after_calls size before).reserved)
  AreCalls size (Write item ∷ before) = AreCalls size before × (0 < (after_calls size before).reserved)
  AreCalls size (Poll ∷ before) = AreCalls size before

  -- the items that were written, in order
  unfoldable pub all_written : List (Call T) → List T
  all_written [] = []
  all_written (Reserve ∷ before) = all_written before
  all_written (Unreserve ∷ before) = all_written before
  all_written (Write item ∷ before) = all_written before ++ item ∷ []
  all_written (Poll ∷ before) = all_written before

  -- an item as a list, which is empty where there is none
  unfoldable pub one_or_none : Option T → List T
  one_or_none None = []
  one_or_none (Some item) = item ∷ []

  -- the items that polls gave, in order
  unfoldable pub all_polled : ℕ → List (Call T) → List T
  all_polled size [] = []
  all_polled size (Reserve ∷ before) = all_polled size before
  all_polled size (Unreserve ∷ before) = all_polled size before
  all_polled size (Write item ∷ before) = all_polled size before
  all_polled size (Poll ∷ before) = all_polled size before ++ one_or_none (poll_answer (after_calls size before))

-- over any calls, reserved places and items together are no more than the size, and what was polled
-- and what still waits is what was written, in its order
abbrev pub ComesAsWritten : Type 0 → Type 0
ComesAsWritten T =
    (size : ℕ) (calls : List (Call T))
    → AreCalls size calls
    → IsWithin (after_calls size calls) × (all_polled size calls ++ (after_calls size calls).list ≡ all_written calls)
