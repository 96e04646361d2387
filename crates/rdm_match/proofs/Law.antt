-- Over any calls, what waits and the pairs that the answers tell are the plain matcher's.
use Rattle.std.proofs.Common.{◌≡◌, refl, sym, ap, ◌∙◌, List, [], ◌∷◌, ◌++◌, Option, Some, None}
use Rattle.std.proofs.lemmas.List.{append-nil, append_assoc}
use Rattle.std.specs.Prelude.{find}
use Rattle.rdm_match.specs.declared.PostedRecv.{PostedRecv}
use Rattle.rdm_match.specs.declared.Arrived.{Arrived}
use Rattle.rdm_match.specs.Matcher.{accepts, Pair, Event, Post, Arrive, Cancel, Forget, after, after_post, after_arrive, run}
use Rattle.rdm_match.specs.Waiting.{Waiting, nothing_waits, with_pairs, waiting_in, waiting_after, waiting_after_all, taken_by, taker_of, pair_of_post, pair_of_arrival, pair_told, pairs_told, CallsAreThePlainMatcher}

-- a post, by what it takes
post_beside : (w : Waiting) (pairs : List Pair) (r : PostedRecv) (taken : Option Arrived)
    → after_post (with_pairs w pairs) r taken ≡ with_pairs (waiting_in (after_post (with_pairs w []) r taken)) (pairs ++ pair_of_post r taken)
unfolding with_pairs waiting_in after_post pair_of_post
post_beside w pairs r None = ap (λ (ps : List Pair). record { posted = w.posted ++ r ∷ []; arrived = w.arrived; pairs = ps }) (sym (append-nil pairs))
post_beside w pairs r (Some a) = refl

-- an arrival, by what takes it
arrive_beside : (w : Waiting) (pairs : List Pair) (a : Arrived) (taker : Option PostedRecv)
    → after_arrive (with_pairs w pairs) a taker ≡ with_pairs (waiting_in (after_arrive (with_pairs w []) a taker)) (pairs ++ pair_of_arrival a taker)
unfolding with_pairs waiting_in after_arrive pair_of_arrival
arrive_beside w pairs a None = ap (λ (ps : List Pair). record { posted = w.posted; arrived = w.arrived ++ a ∷ []; pairs = ps }) (sym (append-nil pairs))
arrive_beside w pairs a (Some r) = refl

-- one event changes what waits alike, whatever pairs were made, and adds the pair that its answer tells
step_beside : (w : Waiting) (pairs : List Pair) (e : Event) → after (with_pairs w pairs) e ≡ with_pairs (waiting_after w e) (pairs ++ pair_told w e)
unfolding with_pairs waiting_in waiting_after after pair_told taken_by taker_of
step_beside w pairs (Post r) = post_beside w pairs r (find (accepts r) w.arrived)
step_beside w pairs (Arrive a) = arrive_beside w pairs a (find (λ r. accepts r a) w.posted)
step_beside w pairs (Cancel n) = ap (with_pairs (waiting_after w (Cancel n))) (sym (append-nil pairs))
step_beside w pairs (Forget life) = ap (with_pairs (waiting_after w (Forget life))) (sym (append-nil pairs))

-- events in order, from any that wait and any pairs
run_beside : (w : Waiting) (pairs : List Pair) (es : List Event) → run (with_pairs w pairs) es ≡ with_pairs (waiting_after_all w es) (pairs ++ pairs_told w es)
unfolding run waiting_after_all pairs_told
run_beside w pairs [] = ap (with_pairs w) (sym (append-nil pairs))
run_beside w pairs (e ∷ es) =
    ap (λ m. run m es) (step_beside w pairs e)
    ∙ run_beside (waiting_after w e) (pairs ++ pair_told w e) es
    ∙ ap (with_pairs (waiting_after_all (waiting_after w e) es)) (append_assoc pairs (pair_told w e) (pairs_told (waiting_after w e) es))

-- from the beginning
pub calls_are_the_plain_matcher : CallsAreThePlainMatcher
unfolding with_pairs
calls_are_the_plain_matcher es = run_beside nothing_waits [] es
