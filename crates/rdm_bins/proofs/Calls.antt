-- What calls of a matcher come to, in the plain matcher's lists.
use Rattle.std.proofs.Common.{◌≡◌, refl, sym, ap, ◌∙◌, Bool, true, false, not, cond, ◌||◌, ◌&&◌, List, [], ◌∷◌, ◌++◌, Option, Some, None}
use Rattle.std.specs.Prelude.{find, filter, is_some, option_map}
use Rattle.std.specs.List.{list_any}
use Rattle.std.proofs.lemmas.List.{append-nil, append_assoc}
use Rattle.rdm_num.specs.Lives.{same_life, is_life}
use Rattle.rdm_match.specs.declared.PostedRecv.{PostedRecv}
use Rattle.rdm_match.specs.declared.Arrived.{Arrived}
use Rattle.rdm_match.specs.Matcher.{accepts, Pair, Matching, Post, Arrive, Cancel, Forget, after, after_post, after_arrive, run}
use Rattle.rdm_match.specs.Waiting.{Waiting, with_pairs, waiting_in, waiting_after, waiting_after_all, taken_by, taker_of, pair_of_post, pair_of_arrival, pair_told, pairs_told}
use Rattle.rdm_bins.specs.Calls.{with_told, EventsTell, RunsTell, RunsGoOn, CancelsTakeOut, TakenWhereAny, names_any, is_of_any, ForgetsLeave}

-- a post adds its pair to those that were made
post_adds : (w : Waiting) (pairs : List Pair) (r : PostedRecv) (taken : Option Arrived) → after_post (with_told w pairs) r taken ≡ with_told (waiting_in (after_post (with_told w []) r taken)) (pairs ++ pair_of_post r taken)
unfolding waiting_in after_post pair_of_post
post_adds w pairs r None = ap (λ (ps : List Pair). record { posted = w.posted ++ r ∷ []; arrived = w.arrived; pairs = ps }) (sym (append-nil pairs))
post_adds w pairs r (Some a) = refl

-- so does an arrival
arrive_adds : (w : Waiting) (pairs : List Pair) (a : Arrived) (taker : Option PostedRecv) → after_arrive (with_told w pairs) a taker ≡ with_told (waiting_in (after_arrive (with_told w []) a taker)) (pairs ++ pair_of_arrival a taker)
unfolding waiting_in after_arrive pair_of_arrival
arrive_adds w pairs a None = ap (λ (ps : List Pair). record { posted = w.posted; arrived = w.arrived ++ a ∷ []; pairs = ps }) (sym (append-nil pairs))
arrive_adds w pairs a (Some r) = refl

-- so does each event
pub events_tell : EventsTell
unfolding with_pairs waiting_in waiting_after after pair_told taken_by taker_of
events_tell w pairs (Post r) = post_adds w pairs r (find (accepts r) w.arrived)
events_tell w pairs (Arrive a) = arrive_adds w pairs a (find (λ r. accepts r a) w.posted)
events_tell w pairs (Cancel n) = ap (with_told (waiting_after w (Cancel n))) (sym (append-nil pairs))
events_tell w pairs (Forget life) = ap (with_told (waiting_after w (Forget life))) (sym (append-nil pairs))

-- and events in order
pub runs_tell : RunsTell
unfolding run waiting_after_all pairs_told
runs_tell w pairs [] = ap (with_told w) (sym (append-nil pairs))
runs_tell w pairs (e ∷ es) =
    ap (λ (m : Matching). run m es) (events_tell w pairs e)
    ∙ runs_tell (waiting_after w e) (pairs ++ pair_told w e) es
    ∙ ap (with_told (waiting_after_all (waiting_after w e) es)) (append_assoc pairs (pair_told w e) (pairs_told (waiting_after w e) es))

pub runs_go_on : RunsGoOn
unfolding waiting_after_all pairs_told
runs_go_on w [] e = (refl, append-nil (pair_told w e))
runs_go_on w (first ∷ es) e =
    let rest = runs_go_on (waiting_after w first) es e in
    (rest.0, ap (λ (ps : List Pair). pair_told w first ++ ps) rest.1 ∙ sym (append_assoc (pair_told w first) (pairs_told (waiting_after w first) es) (pair_told (waiting_after_all (waiting_after w first) es) e)))

pub cancels_take_out : CancelsTakeOut
unfolding with_pairs waiting_in waiting_after after
cancels_take_out w n = refl

-- a search finds one exactly where one passes
found_where_any : {A B : Type 0} (f : A → B) (p : A → Bool) (xs : List A) → is_some (option_map f (find p xs)) ≡ list_any p xs
found_where_any f p [] = refl
found_where_any f p (x ∷ xs) =
    elim (p x) as (λ (b : Bool). is_some (option_map f (cond b (Some x) (find p xs))) ≡ (b || list_any p xs)) [
      | true ↦ refl
      | false ↦ found_where_any f p xs
    ]

pub taken_where_any : TakenWhereAny
unfolding taker_of
taken_where_any w a = found_where_any (λ (r : PostedRecv). r.id) (λ (r : PostedRecv). accepts r a) w.posted

-- what passes two tests in turn passes both
filter_twice : {A : Type 0} (p q both : A → Bool) → ((x : A) → both x ≡ (p x && q x)) → (xs : List A) → filter q (filter p xs) ≡ filter both xs
filter_twice p q both is [] = refl
filter_twice p q both is (x ∷ xs) =
    let later = filter_twice p q both is xs in
    (elim (p x) as (λ (b : Bool). both x ≡ (b && q x) → filter q (cond b (x ∷ filter p xs) (filter p xs)) ≡ cond (both x) (x ∷ filter both xs) (filter both xs)) [
      | true ↦ λ e. (elim (q x) as (λ (c : Bool). both x ≡ c → cond c (x ∷ filter q (filter p xs)) (filter q (filter p xs)) ≡ cond (both x) (x ∷ filter both xs) (filter both xs)) [
        | true ↦ λ f. rw (f, later) refl
        | false ↦ λ f. rw (f, later) refl
      ]) e
      | false ↦ λ e. rw (e, later) refl
    ])
    (is x)

-- what passes always is all
filter_all : {A : Type 0} (p : A → Bool) → ((x : A) → p x ≡ true) → (xs : List A) → filter p xs ≡ xs
filter_all p is [] = refl
filter_all p is (x ∷ xs) = rw (is x, filter_all p is xs) refl

-- neither is not either
neither : (a b : Bool) → not (a || b) ≡ (not a && not b)
neither true b = refl
neither false b = refl

pub forgets_leave : ForgetsLeave
unfolding waiting_after_all waiting_after with_pairs waiting_in after
forgets_leave w [] =
    let posted : filter (λ (r : PostedRecv). not (names_any [] r)) w.posted ≡ w.posted = filter_all (λ (r : PostedRecv). not (names_any [] r)) (λ r. refl) w.posted in
    let arrived : filter (λ (a : Arrived). not (is_of_any [] a)) w.arrived ≡ w.arrived = filter_all (λ (a : Arrived). not (is_of_any [] a)) (λ a. refl) w.arrived in
    rw (posted, arrived) refl
forgets_leave w (life ∷ lives) =
    let posted = filter_twice (λ (r : PostedRecv). not (is_life r.from life)) (λ (r : PostedRecv). not (names_any lives r)) (λ (r : PostedRecv). not (names_any (life ∷ lives) r)) (λ r. neither (is_life r.from life) (names_any lives r)) w.posted in
    let arrived = filter_twice (λ (a : Arrived). not (same_life a.life life)) (λ (a : Arrived). not (is_of_any lives a)) (λ (a : Arrived). not (is_of_any (life ∷ lives) a)) (λ a. neither (same_life a.life life) (is_of_any lives a)) w.arrived in
    forgets_leave (waiting_after w (Forget life)) lives ∙ rw (posted, arrived) refl
