-- How long the lists of a matcher grow.
use Rattle.std.proofs.Common.{◌≡◌, ℕ, suc, ◌+◌, ◌≤◌, Bool, true, false, cond, not, List, [], ◌∷◌, ◌++◌, map, length, Option, Some, None, refl, arith, inl, inr, subst}
use Rattle.std.specs.Prelude.{filter, find}
use Rattle.std.proofs.lemmas.List.{length-append}
use Rattle.rdm_lists.specs.Lists.{Member, without_first}
use Rattle.rdm_num.specs.Lives.{is_life}
use Rattle.rdm_num.specs.declared.numbers.RecvNo.{RecvNo}
use Rattle.rdm_match.specs.declared.PostedRecv.{PostedRecv}
use Rattle.rdm_match.specs.declared.Arrived.{Arrived}
use Rattle.rdm_match.specs.Matcher.{Event, Post, Arrive, Cancel, Forget, Matching, accepts, after_post, after_arrive, after, run, is_recv}
use Rattle.rdm_model.specs.declared.job.Instr.TheVariants.{Insert, Recv, Cancel as CancelOp}
use Rattle.rdm_model.specs.Deeds.{Deed, Did, Took}
use Rattle.rdm_model.specs.Beginnings.{Heads}
use Rattle.rdm_model.specs.Currents.{forgotten_by}
use Rattle.rdm_model.specs.Heard.{entering}
use Rattle.rdm_model.specs.Matches.{receive, receives, received_by, with_received, arrival, events_by, matching}
use Rattle.rdm_model.specs.Receives.{withdrawn_by}
use Rattle.rdm_lists.proofs.Members.{member-map}
use Rattle.rdm_lists.proofs.Filters.{filter_length, without_length, without_found}

-- 1 if it holds
pub one : Bool → ℕ
one true = 1
one false = 0

-- a filter's length, by its first element
pub filter_step : {A : Type 0} (p : A → Bool) (x : A) (xs : List A) → length (filter p (x ∷ xs)) ≡ one (p x) + length (filter p xs)
unfolding one
filter_step p x xs = elim (p x) as (λ b. length (cond b (x ∷ filter p xs) (filter p xs)) ≡ one b + length (filter p xs)) [ true ↦ omega arith | false ↦ omega arith ]

-- two of which one holds at most, and that a third follows from
bits : (a p q : Bool) → (a ≡ true → (p ≡ true) × (q ≡ false)) → (q ≡ true → p ≡ true) → one a + one q ≤ one p
unfolding one
bits true true true h k = (let e = (h refl).1 in cc)
bits true true false h k = omega arith
bits true false q h k = (let e = (h refl).0 in cc)
bits false true true h k = omega arith
bits false true false h k = omega arith
bits false false true h k = (let e = k refl in cc)
bits false false false h k = omega arith

-- what passes either of two tests that exclude each other
pub split : {A : Type 0} (a p q : A → Bool) (xs : List A) → ((x : A) → Member x xs → a x ≡ true → (p x ≡ true) × (q x ≡ false)) → ((x : A) → q x ≡ true → p x ≡ true)
    → length (filter a xs) + length (filter q xs) ≤ length (filter p xs)
split a p q [] h k = omega arith
split a p q (x ∷ xs) h k =
    let e = split a p q xs (λ y m. h y (inr m)) k in
    let b = bits (a x) (p x) (q x) (h x (inl refl)) (k x) in
    let u = filter_step a x xs in
    let v = filter_step p x xs in
    let w = filter_step q x xs in
    omega arith

-- how many receives a matcher has, posted or paired
abbrev pub size : Matching → ℕ
size m = length m.posted + length m.pairs

-- 1 for a post
abbrev adds : Event → ℕ
adds (Post r) = 1
adds (Arrive a) = 0
adds (Cancel n) = 0
adds (Forget l) = 0

-- a post adds one receive
post_size : (m : Matching) (r : PostedRecv) (o : Option Arrived) → size (after_post m r o) ≤ size m + 1
unfolding after_post
post_size m r None = let a = length-append m.posted (r ∷ []) in omega arith
post_size m r (Some x) = let a = length-append m.pairs (record { recv = r; message = x } ∷ []) in omega arith

-- an arrival adds none
arrive_size : (m : Matching) (a : Arrived) (o : Option PostedRecv) → find (λ r. accepts r a) m.posted ≡ o → size (after_arrive m a o) ≤ size m
unfolding after_arrive
arrive_size m a None f = omega arith
arrive_size m a (Some r) f =
    let l = length-append m.pairs (record { recv = r; message = a } ∷ []) in
    let w = without_found (λ q. accepts q a) m.posted r f in
    omega arith

-- so an event adds what it posts
after_size : (m : Matching) (e : Event) → size (after m e) ≤ size m + adds e
unfolding after
after_size m (Post r) = post_size m r (find (accepts r) m.arrived)
after_size m (Arrive a) = let s = arrive_size m a (find (λ r. accepts r a) m.posted) refl in omega arith
after_size m (Cancel n) = let w = without_length (is_recv n) m.posted in omega arith
after_size m (Forget l) = let w = filter_length (λ (r : PostedRecv). not (is_life r.from l)) m.posted in omega arith

-- a cancel of a posted receive takes one away
cancel_size : (m : Matching) (n : ℕ) → suc (length (without_first (is_recv n) m.posted)) ≤ length m.posted → suc (size (after m (Cancel n))) ≤ size m
unfolding after
cancel_size m n h = omega arith

-- events that post nothing
quiet_size : (es : List Event) (m : Matching) → ((e : Event) → Member e es → adds e ≡ 0) → size (run m es) ≤ size m
unfolding run
quiet_size [] m h = omega arith
quiet_size (e ∷ es) m h =
    let r = quiet_size es (after m e) (λ x k. h x (inr k)) in
    let a = after_size m e in
    let z = h e (inl refl) in
    omega arith

-- what a deed posts, withdraws and accepts
pub deed_size : (first : ℕ) (heads : Heads) (d : Deed) (before : List Deed)
    → ((recv : RecvNo) → d ≡ Did (CancelOp recv) → (r : PostedRecv) × (find (is_recv recv.0) (matching first heads before).posted ≡ Some r))
    → size (matching first heads (d ∷ before)) + length (withdrawn_by d) + length (receives before) ≤ size (matching first heads before) + length (receives (d ∷ before))
unfolding matching events_by withdrawn_by receives with_received received_by run
deed_size first heads (Did (Recv req)) before h =
    let a = after_size (matching first heads before) (Post (receive (length (receives before)) before req).posted) in
    let l = length-append (receives before) (receive (length (receives before)) before req ∷ []) in
    omega arith
deed_size first heads (Did (CancelOp recv)) before h =
    let r = h recv refl in
    let w = without_found (is_recv recv.0) (matching first heads before).posted r.0 r.1 in
    let c = cancel_size (matching first heads before) recv.0 w in
    let l = length-append (receives before) [] in
    omega arith
deed_size first heads (Did (Insert life)) before h =
    let q = quiet_size (map Forget (forgotten_by before (Did (Insert life)))) (matching first heads before) (λ x k. let m = member-map Forget x _ k in subst (λ (y : Event). adds y ≡ 0) m.2 refl) in
    let l = length-append (receives before) [] in
    omega arith
deed_size first heads (Took from item) before h =
    let q = quiet_size (map (arrival heads from) (entering first (Took from item) before from)) (matching first heads before)
    (λ x k. let m = member-map (arrival heads from) x _ k in subst (λ (y : Event). adds y ≡ 0) m.2 refl) in
    let l = length-append (receives before) [] in
    omega arith
deed_size first heads _ before h = let l = length-append (receives before) [] in omega arith
