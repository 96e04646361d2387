-- Events of a matcher beside an endpoint's record.
use Rattle.std.proofs.Common.{◌≡◌, ◌+◌, refl, ap, ◌∙◌, List, [], ◌∷◌, Option, Some, None, map}
use Rattle.std.specs.Prelude.{find}
use Rattle.rdm_lists.specs.Lists.{without_first}
use Rattle.rdm_num.specs.declared.numbers.Life.{Life}
use Rattle.rdm_match.specs.declared.PostedRecv.{PostedRecv}
use Rattle.rdm_match.specs.declared.Arrived.{Arrived}
use Rattle.rdm_match.specs.Matcher.{Matching, Event, Post, Arrive, Cancel, Forget, accepts, after, after_post, after_arrive, run}
use Rattle.rdm_match.specs.Waiting.{with_pairs, waiting_in, waiting_after, waiting_after_all, taken_by, taker_of}
use Rattle.rdm_life.specs.Kept.{Kept, Peer, with_peer}
use Rattle.rdm_life.specs.Landing.{settle, meet}
use Rattle.rdm_life.specs.Receiving.{lists_in, with_matching, receive_in, with_live, after_recv, after_cancel, arrival_in, numbers_in, entering_in, enter}
use Rattle.rdm_sound.specs.Steps.{arrive_found, next_of}
use Rattle.rdm_sound.proofs.Arrives.{met_lists}
use Rattle.rdm_sound.proofs.Posts.{posts_one}
use Rattle.rdm_tie.specs.Laws.{waits_in, RecvPosts, RecvTakes, EnterArrives, EnterTakes, EachArrives, CancelCancels}

-- a post changes what waits alike, whatever pairs were made
post_waits : (m : Matching) (r : PostedRecv) (o : Option Arrived) → waiting_in (after_post m r o) ≡ waiting_in (after_post (with_pairs (waiting_in m) []) r o)
unfolding waiting_in with_pairs after_post
post_waits m r None = refl
post_waits m r (Some a) = refl

-- so does an arrival
arrive_waits : (m : Matching) (a : Arrived) (o : Option PostedRecv) → waiting_in (after_arrive m a o) ≡ waiting_in (after_arrive (with_pairs (waiting_in m) []) a o)
unfolding waiting_in with_pairs after_arrive
arrive_waits m a None = refl
arrive_waits m a (Some r) = refl

-- and each event
step_waits : (m : Matching) (e : Event) → waiting_in (after m e) ≡ waiting_after (waiting_in m) e
unfolding waiting_in with_pairs waiting_after after
step_waits m (Post r) = post_waits m r (find (accepts r) m.arrived)
step_waits m (Arrive a) = arrive_waits m a (find (λ r. accepts r a) m.posted)
step_waits m (Cancel n) = refl
step_waits m (Forget life) = refl

-- and events in order
run_waits : (m : Matching) (es : List Event) → waiting_in (run m es) ≡ waiting_after_all (waiting_in m) es
unfolding run waiting_after_all
run_waits m [] = refl
run_waits m (e ∷ es) = run_waits (after m e) es ∙ ap (λ w. waiting_after_all w es) (step_waits m e)

-- by the record what waits is what waits in its lists
lists_wait : (v : Kept) → waiting_in (lists_in v) ≡ waits_in v
unfolding waiting_in
lists_wait v = refl

-- pairs that meet leave what waits
with_waits : (m : Matching) (v : Kept) → waits_in (with_matching m v) ≡ waiting_in m
unfolding waiting_in meet settle
with_waits m v = refl

pub recv_posts : RecvPosts
unfolding after_recv
recv_posts req v =
    let posted : Event = Post (receive_in v req).posted in
    with_waits (after (lists_in v) posted) (with_live (receive_in v req) v)
    ∙ step_waits (lists_in v) posted
    ∙ ap (λ w. waiting_after w posted) (lists_wait v)

pub recv_takes : RecvTakes
unfolding taken_by
recv_takes = posts_one

-- a message arrives, by what takes it
arrive_is : (a : Arrived) (o : Option PostedRecv) (v : Kept) → waits_in (arrive_found a o v) ≡ waiting_in (after_arrive (lists_in v) a o)
unfolding waiting_in arrive_found after_arrive
arrive_is a None v = refl
arrive_is a (Some r) v =
    ap waiting_in (met_lists (record { recv = r; message = a }) (record v { posted = without_first (λ q. accepts q a) v.posted }))

-- the life's next number is one higher
abbrev risen : Life → Kept → Kept
risen source v = with_peer source (λ (p : Peer). record p { next = p.next + 1 }) v

pub enter_arrives : EnterArrives
unfolding after
enter_arrives source v =
    arrive_is (next_of v source) (find (λ r. accepts r (next_of v source)) v.posted) (risen source v)
    ∙ step_waits (lists_in v) (Arrive (next_of v source))
    ∙ ap (λ w. waiting_after w (Arrive (next_of v source))) (lists_wait v)

pub enter_takes : EnterTakes
unfolding taker_of
enter_takes source v = refl

pub each_arrives : EachArrives
unfolding enter
each_arrives source v =
    let come : List Event = map (arrival_in v source) (numbers_in v source) in
    with_waits (run (lists_in v) come) (with_peer source (λ (p : Peer). record p { next = p.next + entering_in v source }) v)
    ∙ run_waits (lists_in v) come
    ∙ ap (λ w. waiting_after_all w come) (lists_wait v)

pub cancel_cancels : CancelCancels
unfolding after_cancel waiting_after waiting_in with_pairs after
cancel_cancels recv v = refl
