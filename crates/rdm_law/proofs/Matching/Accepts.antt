-- Each pair is of a receive and a message that it accepts, and what was withdrawn is not paired.
use Rattle.std.proofs.Common.{◌≡◌, ℕ, ◌<◌, ◌≤◌, true, List, [], ◌∷◌, ◌++◌, length, Option, Some, None, refl, arith, inl, inr, ◌∙◌, ap, subst}
use Rattle.std.specs.Prelude.{find}
use Rattle.std.proofs.lemmas.List.{length-append}
use Rattle.rdm_lists.specs.Lists.{Member}
use Rattle.rdm_match.specs.declared.PostedRecv.{PostedRecv}
use Rattle.rdm_match.specs.declared.Arrived.{Arrived}
use Rattle.rdm_match.specs.Matcher.{Event, Post, Arrive, Cancel, Forget, Pair, Matching, accepts, after_post, after_arrive, after, run, is_recv}
use Rattle.rdm_model.specs.declared.job.Instr.TheVariants.{Insert, Recv, Cancel as CancelOp}
use Rattle.rdm_model.specs.Deeds.{Deed, Did, Took}
use Rattle.rdm_model.specs.Beginnings.{Heads}
use Rattle.rdm_model.specs.Matches.{receives, received_by, with_received, arrival, events_by, matching, pairs}
use Rattle.rdm_lists.proofs.Members.{member-append_cases, member-filter, member-map, find_member, without_member}

-- each pair's receive accepts its message
abbrev AllAccept : List Pair → Type 0
AllAccept ps = (p : Pair) → Member p ps → accepts p.recv p.message ≡ true

-- a pair that accepts may be added
accept_push : (ps : List Pair) (q : Pair) → AllAccept ps → accepts q.recv q.message ≡ true → AllAccept (ps ++ q ∷ [])
accept_push ps q all t p h =
    elim (member-append_cases p ps (q ∷ []) h) [
      | inl a ↦ all p a
      | inr a ↦ elim a [ inl is ↦ subst (λ (x : Pair). accepts x.recv x.message ≡ true) is t | inr never ↦ elim never [ ] ]
    ]

-- a post takes a message that it accepts
post_accepts : (m : Matching) (r : PostedRecv) (o : Option Arrived) → ((a : Arrived) → o ≡ Some a → accepts r a ≡ true) → AllAccept m.pairs → AllAccept (after_post m r o).pairs
unfolding after_post
post_accepts m r None t all = all
post_accepts m r (Some a) t all = accept_push m.pairs (record { recv = r; message = a }) all (t a refl)

-- an arrival is taken by a receive that accepts it
arrive_accepts : (m : Matching) (a : Arrived) (o : Option PostedRecv) → ((r : PostedRecv) → o ≡ Some r → accepts r a ≡ true) → AllAccept m.pairs → AllAccept (after_arrive m a o).pairs
unfolding after_arrive
arrive_accepts m a None t all = all
arrive_accepts m a (Some r) t all = accept_push m.pairs (record { recv = r; message = a }) all (t r refl)

-- so each event adds pairs that accept
after_accepts : (m : Matching) (e : Event) → AllAccept m.pairs → AllAccept (after m e).pairs
unfolding after
after_accepts m (Post r) all = post_accepts m r (find (accepts r) m.arrived) (λ a h. (find_member (accepts r) a m.arrived h).1) all
after_accepts m (Arrive a) all = arrive_accepts m a (find (λ r. accepts r a) m.posted) (λ r h. (find_member (λ r. accepts r a) r m.posted h).1) all
after_accepts m (Cancel n) all = all
after_accepts m (Forget l) all = all

-- and so do events in order
run_accepts : (es : List Event) (m : Matching) → AllAccept m.pairs → AllAccept (run m es).pairs
unfolding run
run_accepts [] m all = all
run_accepts (e ∷ es) m all = run_accepts es (after m e) (after_accepts m e all)

-- the receive of a pair accepts its message
pub pair_accepts : (first : ℕ) (heads : Heads) (log : List Deed) (p : Pair) → Member p (pairs first heads log) → accepts p.recv p.message ≡ true
unfolding matching
pair_accepts first heads [] p h = elim h [ ]
pair_accepts first heads (d ∷ before) p h =
    run_accepts (events_by first heads before d) (matching first heads before) (λ q k. pair_accepts first heads before q k) p h

-- no receive of that number is posted or was paired
pub record Absent (n : ℕ) (m : Matching) : Type 0 where
  pub not_posted : (r : PostedRecv) → Member r m.posted → r.id.0 ≡ n → ⊥
  pub not_paired : (p : Pair) → Member p m.pairs → p.recv.id.0 ≡ n → ⊥

-- the event posts another receive, or none
abbrev PostsOther : ℕ → Event → Type 0
PostsOther n (Post r) = r.id.0 ≡ n → ⊥
PostsOther n (Arrive a) = Unit {0}
PostsOther n (Cancel k) = Unit {0}
PostsOther n (Forget l) = Unit {0}

-- a post of another number
post_absent : (n : ℕ) (m : Matching) (r : PostedRecv) (o : Option Arrived) → (r.id.0 ≡ n → ⊥) → Absent n m → Absent n (after_post m r o)
unfolding after_post
post_absent n m r None t a =
    record {
      not_posted = λ x h e. elim (member-append_cases x m.posted (r ∷ []) h) [
        | inl k ↦ a.not_posted x k e
        | inr k ↦ elim k [ inl is ↦ t (ap (λ (y : PostedRecv). y.id.0) is ∙ e) | inr never ↦ elim never [ ] ]
      ];
      not_paired = a.not_paired;
    }
post_absent n m r (Some b) t a =
    record {
      not_posted = a.not_posted;
      not_paired = λ p h e. elim (member-append_cases p m.pairs _ h) [
        | inl k ↦ a.not_paired p k e
        | inr k ↦ elim k [ inl is ↦ t (ap (λ (y : Pair). y.recv.id.0) is ∙ e) | inr never ↦ elim never [ ] ]
      ];
    }

-- an arrival pairs what is posted
arrive_absent : (n : ℕ) (m : Matching) (b : Arrived) (o : Option PostedRecv) → ((r : PostedRecv) → o ≡ Some r → Member r m.posted) → Absent n m → Absent n (after_arrive m b o)
unfolding after_arrive
arrive_absent n m b None t a = record { not_posted = a.not_posted; not_paired = a.not_paired }
arrive_absent n m b (Some r) t a =
    record {
      not_posted = λ x h e. a.not_posted x (without_member (λ q. accepts q b) x m.posted h) e;
      not_paired = λ p h e. elim (member-append_cases p m.pairs _ h) [
        | inl k ↦ a.not_paired p k e
        | inr k ↦ elim k [ inl is ↦ a.not_posted r (t r refl) (ap (λ (y : Pair). y.recv.id.0) is ∙ e) | inr never ↦ elim never [ ] ]
      ];
    }

-- each event that posts no such receive
after_absent : (n : ℕ) (m : Matching) (e : Event) → PostsOther n e → Absent n m → Absent n (after m e)
unfolding after
after_absent n m (Post r) t a = post_absent n m r (find (accepts r) m.arrived) t a
after_absent n m (Arrive b) t a = arrive_absent n m b (find (λ r. accepts r b) m.posted) (λ r h. (find_member (λ r. accepts r b) r m.posted h).0) a
after_absent n m (Cancel k) t a = record { not_posted = λ x h e. a.not_posted x (without_member (is_recv k) x m.posted h) e; not_paired = a.not_paired }
after_absent n m (Forget l) t a = record { not_posted = λ x h e. a.not_posted x (member-filter _ x m.posted h).0 e; not_paired = a.not_paired }

-- and events in order
run_absent : (n : ℕ) (es : List Event) (m : Matching) → ((e : Event) → Member e es → PostsOther n e) → Absent n m → Absent n (run m es)
unfolding run
run_absent n [] m t a = a
run_absent n (e ∷ es) m t a = run_absent n es (after m e) (λ x h. t x (inr h)) (after_absent n m e (t e (inl refl)) a)

-- a deed posts no receive of a number that was given before
others_posted : (first : ℕ) (heads : Heads) (d : Deed) (before : List Deed) (n : ℕ) (x : Event) → n < length (receives before) → Member x (events_by first heads before d) → PostsOther n x
unfolding events_by
others_posted first heads (Did (Recv req)) before n x l (inl a) = subst (PostsOther n) a (λ e. omega arith)
others_posted first heads (Did (Recv req)) before n x l (inr a) = elim a [ ]
others_posted first heads (Did (CancelOp recv)) before n x l (inl a) = subst (PostsOther n) a tt
others_posted first heads (Did (CancelOp recv)) before n x l (inr a) = elim a [ ]
others_posted first heads (Did (Insert life)) before n x l h = let r = member-map Forget x _ h in subst (PostsOther n) r.2 tt
others_posted first heads (Took from item) before n x l h = let r = member-map (arrival heads from) x _ h in subst (PostsOther n) r.2 tt
others_posted first heads _ before n x l h = elim h [ ]

-- a receive that is neither posted nor paired stays so
pub absent_still : (first : ℕ) (heads : Heads) (d : Deed) (before : List Deed) (n : ℕ) → n < length (receives before) → Absent n (matching first heads before)
    → Absent n (matching first heads (d ∷ before))
unfolding matching
absent_still first heads d before n l a =
    run_absent n (events_by first heads before d) (matching first heads before) (λ x h. others_posted first heads d before n x l h) a

-- accepted receives are only added
pub receives_longer : (d : Deed) (before : List Deed) → length (receives before) ≤ length (receives (d ∷ before))
unfolding receives with_received
receives_longer d before = let e = length-append (receives before) (received_by (receives before) before d) in omega arith
