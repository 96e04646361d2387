-- What comes to the matcher of a life, and the pairs that the plain matcher makes of it.
use Rattle.std.specs.Prelude.{◌≡◌, ℕ, ◌+◌, ◌⊎◌, if◌then◌else◌, List, [], ◌∷◌, ◌++◌, map, length, take, Some, slice_get}
use Rattle.rdm_lists.specs.Lists.{below}
use Rattle.rdm_num.specs.Lives.{same_life}
use Rattle.rdm_num.specs.declared.numbers.Life.{Life}
use Rattle.rdm_match.specs.declared.Arrived.{Arrived}
use Rattle.rdm_match.specs.Matcher.{Event, Arrive, Pair, run, nothing_yet}
use Rattle.rdm_model.specs.declared.job.Job.{Job}
use Rattle.rdm_model.specs.declared.entry.Entry.{Entry}
use Rattle.rdm_model.specs.Deeds.{Deed}
use Rattle.rdm_model.specs.Beginnings.{Heads}
use Rattle.rdm_model.specs.Matches.{merge, matching}
use Rattle.rdm_model.specs.Sends.{Sent, sends_to}
use Rattle.rdm_model.specs.Lawful.{life_deeds, sends_in, sent_to}
use Rattle.rdm_model.specs.Standing.{pairs_in}

-- The plain matcher, run on all that comes to it, makes the pairs of a life.
abbrev pub RunsMerge : Type 0
RunsMerge = (first : ℕ) (heads : Heads) (log : List Deed) → matching first heads log ≡ run nothing_yet (merge first heads log)

-- all that came to the matcher of a life, in order: its receives, the messages that entered, its cancels, and the lives that it forgot
unfoldable pub merge_in : Job → List Entry → Life → List Event
merge_in job history i = merge job.limits.first (sent_to job history i).head (life_deeds job history i)

-- the pairs that the plain matcher makes of all that came to the matcher of a life
unfoldable pub plain_pairs : Job → List Entry → Life → List Pair
plain_pairs job history i = (run nothing_yet (merge_in job history i)).pairs

-- the numbers of the messages of a life that arrive, in order
unfoldable pub numbers_from : Life → List Event → List ℕ
numbers_from source [] = []
numbers_from source (Arrive a ∷ es) = (if same_life a.life source then a.no.0 ∷ [] else []) ++ numbers_from source es
numbers_from source (_ ∷ es) = numbers_from source es

-- the numbers of the messages of one life that came to the matcher of another
unfoldable pub numbers_in : Job → List Entry → Life → Life → List ℕ
numbers_in job history i j = numbers_from j (merge job.limits.first (sent_to job history i).head (life_deeds job history i))

-- each sender's messages come to a matcher in the order of their sending, with none left out
abbrev pub EnterInOrder : Job → List Entry → Type 0
EnterInOrder job history =
    (i j : Life) → numbers_in job history i j ≡ map (λ k. job.limits.first + k) (below (length (numbers_in job history i j)))

-- the messages of a life that arrive, in order
unfoldable pub arrivals_from : Life → List Event → List Arrived
arrivals_from source [] = []
arrivals_from source (Arrive a ∷ es) = (if same_life a.life source then a ∷ [] else []) ++ arrivals_from source es
arrivals_from source (_ ∷ es) = arrivals_from source es

-- the messages of life j that came to the matcher of life i, in order
unfoldable pub arrivals_in : Job → List Entry → Life → Life → List Arrived
arrivals_in job history i j = arrivals_from j (merge_in job history i)

-- the message of a send, as it comes to a matcher: whose it is, its number and its tag
abbrev pub arrived_of : Life → Sent → Arrived
arrived_of from send = record { life = from; no = send.message.no; tag = send.message.tag }

-- the messages that life j sent to life i, in the order of sending
unfoldable pub sent_messages : Job → List Entry → Life → Life → List Arrived
sent_messages job history i j = map (arrived_of j) (sends_to (sends_in job history j) i)

-- what came of each sender is the front of what it sent to that very life: each message was sent, they come in the order of their sending, and none is left out
abbrev pub ComeAsSent : Job → List Entry → Type 0
ComeAsSent job history = (i j : Life) → arrivals_in job history i j ≡ take (length (arrivals_in job history i j)) (sent_messages job history i j)

-- the pairs have a receive or a message in common
abbrev pub Share : Pair → Pair → Type 0
Share p q = (p.recv.id ≡ q.recv.id) ⊎ ((p.message.life ≡ q.message.life) × (p.message.no ≡ q.message.no))

-- each receive and each message is matched once at most
abbrev pub MatchedOnce : Job → List Entry → Type 0
MatchedOnce job history =
    (i : Life) (k l : ℕ) (p q : Pair)
    → slice_get (pairs_in job history i) k ≡ Some p
    → slice_get (pairs_in job history i) l ≡ Some q
    → Share p q
    → k ≡ l

-- the pairs of every life are the plain matcher's on all that came to it, and that is of each sender what it sent, in that order
pub record MatchesPlainly (job : Job) (history : List Entry) : Type 0 where
  pub pairs_are : (i : Life) → pairs_in job history i ≡ plain_pairs job history i
  pub come : ComeAsSent job history
