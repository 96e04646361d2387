-- What calls of a matcher come to, in the plain matcher's lists.
use Rattle.std.specs.Prelude.{◌≡◌, ℕ, ◌≤◌, ◌<◌, Bool, false, not, List, [], ◌∷◌, ◌++◌, map, filter, is_some, option_map}
use Rattle.std.specs.List.{list_any, All}
use Rattle.rdm_lists.specs.Lists.{without_first}
use Rattle.rdm_num.specs.Lives.{same_life, is_life}
use Rattle.rdm_num.specs.declared.numbers.Life.{Life}
use Rattle.rdm_match.specs.declared.PostedRecv.{PostedRecv}
use Rattle.rdm_match.specs.declared.Arrived.{Arrived}
use Rattle.rdm_match.specs.Matcher.{accepts, Pair, Matching, Event, Post, Arrive, Cancel, Forget, after, run, is_recv}
use Rattle.rdm_match.specs.Waiting.{Waiting, waiting_after, waiting_after_all, pair_told, pairs_told, taker_of, is_posted}

-- the plain matcher in which these wait, with these pairs
abbrev pub with_told : Waiting → List Pair → Matching
with_told w pairs = record { posted = w.posted; arrived = w.arrived; pairs = pairs }

-- an event leaves what waits after it, whatever pairs were made, and makes the pair that the answer to its call tells
abbrev pub EventsTell : Type 0
EventsTell = (w : Waiting) (pairs : List Pair) (e : Event) → after (with_told w pairs) e ≡ with_told (waiting_after w e) (pairs ++ pair_told w e)

-- so do events in order
abbrev pub RunsTell : Type 0
RunsTell = (w : Waiting) (pairs : List Pair) (es : List Event) → run (with_told w pairs) es ≡ with_told (waiting_after_all w es) (pairs ++ pairs_told w es)

-- one event more comes to what waits after the others
abbrev pub RunsGoOn : Type 0
RunsGoOn =
    (w : Waiting) (es : List Event) (e : Event)
    → (waiting_after_all w (es ++ e ∷ []) ≡ waiting_after (waiting_after_all w es) e)
    × (pairs_told w (es ++ e ∷ []) ≡ pairs_told w es ++ pair_told (waiting_after_all w es) e)

-- a cancel takes out the first receive of that number
abbrev pub CancelsTakeOut : Type 0
CancelsTakeOut = (w : Waiting) (n : ℕ) → waiting_after w (Cancel n) ≡ record w { posted = without_first (is_recv n) w.posted }

-- it is told that a message would be taken exactly where a receive that waits accepts it
abbrev pub TakenWhereAny : Type 0
TakenWhereAny = (w : Waiting) (a : Arrived) → is_some (option_map (λ (r : PostedRecv). r.id) (taker_of w a)) ≡ list_any (λ (r : PostedRecv). accepts r a) w.posted

-- the receive names one of these lives
abbrev pub names_any : List Life → PostedRecv → Bool
names_any lives r = list_any (is_life r.from) lives

-- the message is of one of these lives
abbrev pub is_of_any : List Life → Arrived → Bool
is_of_any lives a = list_any (same_life a.life) lives

-- lives that are forgotten, one after another, leave the receives that name none of them and the messages that are of none
abbrev pub ForgetsLeave : Type 0
ForgetsLeave =
    (w : Waiting) (lives : List Life)
    → waiting_after_all w (map Forget lives)
    ≡ record {
      posted = filter (λ (r : PostedRecv). not (names_any lives r)) w.posted;
      arrived = filter (λ (a : Arrived). not (is_of_any lives a)) w.arrived;
    }

-- no receive of this number or a greater one is posted
abbrev pub AreFreeFrom : ℕ → Waiting → Type 0
AreFreeFrom n w = (k : ℕ) → n ≤ k → is_posted w k ≡ false

-- the event posts no receive of this number or a greater one
abbrev pub PostsBelow : ℕ → Event → Type 0
PostsBelow n (Post r) = r.id.0 < n
PostsBelow n (Arrive a) = Unit {0}
PostsBelow n (Cancel k) = Unit {0}
PostsBelow n (Forget life) = Unit {0}

-- numbers from one on stay free over events that post only lesser ones
abbrev pub NumbersStayFree : Type 0
NumbersStayFree = (n : ℕ) (w : Waiting) (es : List Event) → All (PostsBelow n) es → AreFreeFrom n w → AreFreeFrom n (waiting_after_all w es)
