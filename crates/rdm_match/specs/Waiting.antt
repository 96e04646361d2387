-- What waits in a matcher: the plain matcher's two lists, without the pairs that it made.
use Rattle.std.specs.Prelude.{◌≡◌, ℕ, Bool, List, [], ◌∷◌, ◌++◌, Option, Some, None, find, filter, is_some}
use Rattle.rdm_num.specs.Lives.{same_life, is_life}
use Rattle.rdm_num.specs.declared.numbers.Life.{Life}
use Rattle.rdm_match.specs.declared.PostedRecv.{PostedRecv}
use Rattle.rdm_match.specs.declared.Arrived.{Arrived}
use Rattle.rdm_match.specs.Matcher.{accepts, Pair, Matching, nothing_yet, Event, Post, Arrive, Cancel, Forget, is_recv, after, run}

-- the receives and the messages that wait, each in order
pub record Waiting : Type 0 where
  pub posted : List PostedRecv
  pub arrived : List Arrived

-- before anything came
abbrev pub nothing_waits : Waiting
nothing_waits = record { posted = []; arrived = [] }

-- the plain matcher in which these wait, with those pairs
unfoldable pub with_pairs : Waiting → List Pair → Matching
with_pairs w pairs = record { posted = w.posted; arrived = w.arrived; pairs = pairs }

-- what waits in a plain matcher
unfoldable pub waiting_in : Matching → Waiting
waiting_in m = record { posted = m.posted; arrived = m.arrived }

-- what waits after an event, which is what waits in the plain matcher after it
unfoldable pub waiting_after : Waiting → Event → Waiting
waiting_after w e = waiting_in (after (with_pairs w []) e)

-- what waits after events in order
unfoldable pub waiting_after_all : Waiting → List Event → Waiting
waiting_after_all w [] = w
waiting_after_all w (e ∷ es) = waiting_after_all (waiting_after w e) es

-- the message that a receive takes when it is posted: the first one that it accepts
unfoldable pub taken_by : Waiting → PostedRecv → Option Arrived
taken_by w r = find (accepts r) w.arrived

-- the receive that takes a message when it arrives: the first one that accepts it
unfoldable pub taker_of : Waiting → Arrived → Option PostedRecv
taker_of w a = find (λ r. accepts r a) w.posted

-- a receive of that number is posted
unfoldable pub is_posted : Waiting → ℕ → Bool
is_posted w n = is_some (find (is_recv n) w.posted)

-- the messages of a life that wait
unfoldable pub messages_of : Waiting → Life → List Arrived
messages_of w life = filter (λ (a : Arrived). same_life a.life life) w.arrived

-- the receives that wait and name a life
unfoldable pub receives_naming : Waiting → Life → List PostedRecv
receives_naming w life = filter (λ (r : PostedRecv). is_life r.from life) w.posted

-- the pair that a post makes
unfoldable pub pair_of_post : PostedRecv → Option Arrived → List Pair
pair_of_post r None = []
pair_of_post r (Some a) = record { recv = r; message = a } ∷ []

-- the pair that an arrival makes
unfoldable pub pair_of_arrival : Arrived → Option PostedRecv → List Pair
pair_of_arrival a None = []
pair_of_arrival a (Some r) = record { recv = r; message = a } ∷ []

-- the pair that the answer to a call tells
unfoldable pub pair_told : Waiting → Event → List Pair
pair_told w (Post r) = pair_of_post r (taken_by w r)
pair_told w (Arrive a) = pair_of_arrival a (taker_of w a)
pair_told w (Cancel n) = []
pair_told w (Forget life) = []

-- the pairs that the answers to calls tell, in order
unfoldable pub pairs_told : Waiting → List Event → List Pair
pairs_told w [] = []
pairs_told w (e ∷ es) = pair_told w e ++ pairs_told (waiting_after w e) es

-- over any calls, what waits and the pairs that the answers tell are the plain matcher's
abbrev pub CallsAreThePlainMatcher : Type 0
CallsAreThePlainMatcher = (es : List Event) → run nothing_yet es ≡ with_pairs (waiting_after_all nothing_waits es) (pairs_told nothing_waits es)
