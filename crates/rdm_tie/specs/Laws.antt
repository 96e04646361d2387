-- What a matcher is to an endpoint's record.
use Rattle.std.specs.Prelude.{◌≡◌, ℕ, ◌+◌, false, ◌&&◌, ◌==◌, List, [], ◌∷◌, Option, map, is_some}
use Rattle.rdm_num.specs.declared.numbers.Life.{Life}
use Rattle.rdm_num.specs.declared.request.RecvReq.{RecvReq}
use Rattle.rdm_match.specs.Matcher.{Post, Arrive, Cancel, Forget}
use Rattle.rdm_match.specs.Waiting.{Waiting, nothing_waits, waiting_after, waiting_after_all, taken_by, taker_of, is_posted}
use Rattle.rdm_model.specs.Beginnings.{Own}
use Rattle.rdm_life.specs.Kept.{Kept, Peer, nothing_kept, with_peer}
use Rattle.rdm_life.specs.Facts.{facts_in, place_facts_in, meets_receive_in}
use Rattle.rdm_life.specs.Forgetting.{forget}
use Rattle.rdm_life.specs.Receiving.{receive_in, with_live, after_recv, after_cancel, arrival_in, numbers_in, enter}
use Rattle.rdm_sound.specs.Premises.{IsOrderly}
use Rattle.rdm_sound.specs.Steps.{post_found, arrive_found, next_of, enter_one}

-- what waits by the record
abbrev pub waits_in : Kept → Waiting
waits_in v = record { posted = v.posted; arrived = v.arrived }

-- Before any deed nothing waits.
abbrev pub NothingWaits : Type 0
NothingWaits = (own : Own) → waits_in (nothing_kept own) ≡ nothing_waits

-- A receive that is accepted is posted.
abbrev pub RecvPosts : Type 0
RecvPosts = (req : RecvReq) (v : Kept) → waits_in (after_recv req v) ≡ waiting_after (waits_in v) (Post (receive_in v req).posted)

-- It takes the message that the matcher answers, or waits.
abbrev pub RecvTakes : Type 0
RecvTakes =
    (req : RecvReq) (v : Kept) → IsOrderly v → meets_receive_in v req.region.0 req.at req.len ≡ false
    → after_recv req v ≡ post_found (receive_in v req).posted (taken_by (waits_in v) (receive_in v req).posted) (with_live (receive_in v req) v)

-- The next message of a life that enters arrives.
abbrev pub EnterArrives : Type 0
EnterArrives = (source : Life) (v : Kept) → waits_in (enter_one source v) ≡ waiting_after (waits_in v) (Arrive (next_of v source))

-- The receive takes it that the matcher answers, or it waits.
abbrev pub EnterTakes : Type 0
EnterTakes =
    (source : Life) (v : Kept)
    → enter_one source v ≡ arrive_found (next_of v source) (taker_of (waits_in v) (next_of v source)) (with_peer source (λ (p : Peer). record p { next = p.next + 1 }) v)

-- All messages of a life that enter at once arrive in order.
abbrev pub EachArrives : Type 0
EachArrives = (source : Life) (v : Kept) → waits_in (enter source v) ≡ waiting_after_all (waits_in v) (map (arrival_in v source) (numbers_in v source))

-- A receive that is taken back is cancelled.
abbrev pub CancelCancels : Type 0
CancelCancels = (recv : ℕ) (v : Kept) → waits_in (after_cancel recv v) ≡ waiting_after (waits_in v) (Cancel recv)

-- A life that is forgotten is forgotten by the matcher.
abbrev pub ForgetForgets : Type 0
ForgetForgets = (life : Life) (v : Kept) → waits_in (forget (life ∷ []) v) ≡ waiting_after (waits_in v) (Forget life)

-- Lives that are forgotten at once are forgotten one after another.
abbrev pub EachIsForgotten : Type 0
EachIsForgotten = (lives : List Life) (v : Kept) → waits_in (forget lives v) ≡ waiting_after_all (waits_in v) (map Forget lives)

-- A receive waits by the facts of the record where one of its number waits in the matcher.
abbrev pub PostedTold : Type 0
PostedTold = (recv : ℕ) (v : Kept) → (facts_in v).is_posted recv ≡ is_posted (waits_in v) recv

-- A message would be met where it is the next of its life, and the matcher answers a receive that would take it.
abbrev pub MetTold : Type 0
MetTold =
    (source : Life) (number : ℕ) (tag : Option ℕ) (v : Kept)
    → (place_facts_in v).is_met source number tag ≡ ((v.peers source).next == number && is_some (taker_of (waits_in v) (record { life = source; no = record { 0 = number }; tag = tag })))

-- No receive of the next number waits.
abbrev pub NextIsFree : Type 0
NextIsFree = (v : Kept) → IsOrderly v → is_posted (waits_in v) v.receive_count ≡ false
