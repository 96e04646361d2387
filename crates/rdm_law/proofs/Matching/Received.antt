-- What is posted or was paired is an accepted receive, under its own number.
use Rattle.std.proofs.Common.{◌≡◌, ℕ, zero, suc, ◌+◌, List, [], ◌∷◌, ◌++◌, length, Option, Some, None, refl, arith, ◌⊎◌, inl, inr, sym, ◌∙◌, ap, subst}
use Rattle.std.specs.Prelude.{find, slice_get}
use Rattle.rdm_lists.specs.Lists.{Member}
use Rattle.rdm_num.specs.declared.request.RecvReq.{RecvReq}
use Rattle.rdm_match.specs.declared.PostedRecv.{PostedRecv}
use Rattle.rdm_match.specs.declared.Arrived.{Arrived}
use Rattle.rdm_match.specs.Matcher.{Event, Post, Arrive, Cancel, Forget, Pair, Matching, accepts, after_post, after_arrive, after, run, is_recv}
use Rattle.rdm_model.specs.declared.job.Instr.TheVariants.{Insert, Recv, Cancel as CancelOp}
use Rattle.rdm_model.specs.Deeds.{Deed, Did, Took}
use Rattle.rdm_model.specs.Beginnings.{Heads}
use Rattle.rdm_model.specs.Matches.{Receive, receive, receives, received_by, with_received, arrival, events_by, matching}
use Rattle.rdm_lists.proofs.Members.{member-append_left, member-append_right, member-append_cases, member-filter, member-map, find_member, without_member}
use Rattle.rdm_lists.proofs.Places.{slice_get_split, member_at}

-- each receive that is posted or was paired is of a kind
pub record AllPosted (Q : PostedRecv → Type 0) (m : Matching) : Type 0 where
  pub waiting : (r : PostedRecv) → Member r m.posted → Q r
  pub paired : (p : Pair) → Member p m.pairs → Q p.recv

-- the receive that an event posts is of a kind
abbrev pub PostIs : (PostedRecv → Type 0) → Event → Type 0
PostIs Q (Post r) = Q r
PostIs Q (Arrive a) = Unit {0}
PostIs Q (Cancel n) = Unit {0}
PostIs Q (Forget l) = Unit {0}

-- a post posts or pairs its receive
post_keeps : (Q : PostedRecv → Type 0) (m : Matching) (r : PostedRecv) (o : Option Arrived) → Q r → AllPosted Q m → AllPosted Q (after_post m r o)
unfolding after_post
post_keeps Q m r None q all =
    record {
      waiting = λ x h. elim (member-append_cases x m.posted _ h) [
        | inl k ↦ all.waiting x k
        | inr k ↦ elim k [ inl is ↦ subst Q is q | inr never ↦ elim never [ ] ]
      ];
      paired = all.paired;
    }
post_keeps Q m r (Some a) q all =
    record {
      waiting = all.waiting;
      paired = λ p h. elim (member-append_cases p m.pairs _ h) [
        | inl k ↦ all.paired p k
        | inr k ↦ elim k [ inl is ↦ subst (λ (x : Pair). Q x.recv) is q | inr never ↦ elim never [ ] ]
      ];
    }

-- an arrival pairs a posted receive
arrive_keeps : (Q : PostedRecv → Type 0) (m : Matching) (a : Arrived) (o : Option PostedRecv) → ((r : PostedRecv) → o ≡ Some r → Q r)
    → AllPosted Q m → AllPosted Q (after_arrive m a o)
unfolding after_arrive
arrive_keeps Q m a None q all = record { waiting = all.waiting; paired = all.paired }
arrive_keeps Q m a (Some r) q all =
    record {
      waiting = λ x h. all.waiting x (without_member (λ q. accepts q a) x m.posted h);
      paired = λ p h. elim (member-append_cases p m.pairs _ h) [
        | inl k ↦ all.paired p k
        | inr k ↦ elim k [ inl is ↦ subst (λ (x : Pair). Q x.recv) is (q r refl) | inr never ↦ elim never [ ] ]
      ];
    }

-- so each event keeps what all receives are
after_keeps : (Q : PostedRecv → Type 0) (m : Matching) (e : Event) → PostIs Q e → AllPosted Q m → AllPosted Q (after m e)
unfolding after
after_keeps Q m (Post r) q all = post_keeps Q m r (find (accepts r) m.arrived) q all
after_keeps Q m (Arrive a) q all = arrive_keeps Q m a (find (λ r. accepts r a) m.posted) (λ r h. all.waiting r (find_member (λ r. accepts r a) r m.posted h).0) all
after_keeps Q m (Cancel n) q all = record { waiting = λ r h. all.waiting r (without_member (is_recv n) r m.posted h); paired = all.paired }
after_keeps Q m (Forget l) q all = record { waiting = λ r h. all.waiting r (member-filter _ r m.posted h).0; paired = all.paired }

-- what is posted or was paired is of a kind after events whose receives are
pub run_keeps_posted : (Q : PostedRecv → Type 0) (m : Matching) (es : List Event) → ((e : Event) → Member e es → PostIs Q e) → AllPosted Q m → AllPosted Q (run m es)
unfolding run
run_keeps_posted Q m [] q all = all
run_keeps_posted Q m (e ∷ es) q all = run_keeps_posted Q (after m e) es (λ x h. q x (inr h)) (after_keeps Q m e (q e (inl refl)) all)

-- an accepted receive is seen so by the matcher, and its number is its place
pub record IsAccepted (log : List Deed) (p : PostedRecv) : Type 0 where
  pub recv : Receive
  pub accepted : Member recv (receives log)
  pub posted_is : recv.posted ≡ p

-- accepted receives stay
pub receives_more : (d : Deed) (before : List Deed) (r : Receive) → Member r (receives before) → Member r (receives (d ∷ before))
unfolding receives with_received
receives_more d before r h = member-append_left r (receives before) _ h

-- an accepted receive stays so
accepted_still : (d : Deed) (before : List Deed) (p : PostedRecv) → IsAccepted before p → IsAccepted (d ∷ before) p
accepted_still d before p a = record { recv = a.recv; accepted = receives_more d before a.recv a.accepted; posted_is = a.posted_is }

-- the receive of the newest deed is accepted
newest : (before : List Deed) (req : RecvReq) → Member (receive (length (receives before)) before req) (receives (Did (Recv req) ∷ before))
unfolding receives with_received received_by
newest before req = member-append_right (receive (length (receives before)) before req) (receives before) _ (inl refl)

-- what a deed posts, it accepts
accepted_event : (first : ℕ) (heads : Heads) (d : Deed) (before : List Deed) (x : Event) → Member x (events_by first heads before d) → PostIs (IsAccepted (d ∷ before)) x
unfolding events_by
accepted_event first heads (Did (Recv req)) before x (inl a) =
    subst (PostIs (IsAccepted (Did (Recv req) ∷ before))) a
    (record { recv = receive (length (receives before)) before req; accepted = newest before req; posted_is = refl })
accepted_event first heads (Did (Recv req)) before x (inr a) = elim a [ ]
accepted_event first heads (Did (CancelOp recv)) before x (inl a) = subst (PostIs (IsAccepted (Did (CancelOp recv) ∷ before))) a tt
accepted_event first heads (Did (CancelOp recv)) before x (inr a) = elim a [ ]
accepted_event first heads (Did (Insert life)) before x h =
    let r = member-map Forget x _ h in subst (PostIs (IsAccepted (Did (Insert life) ∷ before))) r.2 tt
accepted_event first heads (Took from item) before x h =
    let r = member-map (arrival heads from) x _ h in subst (PostIs (IsAccepted (Took from item ∷ before))) r.2 tt
accepted_event first heads _ before x h = elim h [ ]

-- each receive that is posted or was paired was accepted
pub posted_accepted : (first : ℕ) (heads : Heads) (log : List Deed) → AllPosted (IsAccepted log) (matching first heads log)
unfolding matching
posted_accepted first heads [] = record { waiting = λ a h. elim h [ ]; paired = λ p h. elim h [ ] }
posted_accepted first heads (d ∷ before) =
    let earlier = posted_accepted first heads before in
    run_keeps_posted (IsAccepted (d ∷ before)) (matching first heads before) (events_by first heads before d) (accepted_event first heads d before)
    (record { waiting = λ r h. accepted_still d before r (earlier.waiting r h); paired = λ p h. accepted_still d before p.recv (earlier.paired p h) })

-- the receive that a deed accepts is the next one
received_place : (before : List Deed) (d : Deed) (rs : List Receive) (k : ℕ) (r : Receive) → slice_get (received_by rs before d) k ≡ Some r
    → (k ≡ 0) × (r.number ≡ length rs) × (r.posted.id.0 ≡ length rs)
unfolding received_by
received_place before (Did (Recv req)) rs zero r h =
    let e : receive (length rs) before req ≡ r = cc in
    (refl, sym (ap (λ (x : Receive). x.number) e), sym (ap (λ (x : Receive). x.posted.id.0) e))
received_place before (Did (Recv req)) rs (suc k) r h = cc
received_place before _ rs k r h = cc

-- the receive at a place has it as number
pub receive_at : (log : List Deed) (n : ℕ) (r : Receive) → slice_get (receives log) n ≡ Some r → (r.number ≡ n) × (r.posted.id.0 ≡ n)
unfolding receives with_received
receive_at [] n r h = cc
receive_at (d ∷ before) n r h =
    elim (slice_get_split (receives before) _ n r h) [
      | inl a ↦ receive_at before n r a
      | inr a ↦ let q = received_place before d (receives before) a.0 r a.2 in (let e = a.1 in let f = q.0 in let g = q.1 in omega arith, let e = a.1 in let f = q.0 in let g = q.2 in omega arith)
    ]

-- an accepted receive stands at its number
pub receive_stands : (log : List Deed) (r : Receive) → Member r (receives log) → (slice_get (receives log) r.number ≡ Some r) × (r.posted.id.0 ≡ r.number)
receive_stands log r h =
    let m = member_at r (receives log) h in
    let q = receive_at log m.0 r m.1 in
    (subst (λ x. slice_get (receives log) x ≡ Some r) (sym q.0) m.1, q.1 ∙ sym q.0)

-- two accepted receives of one number are one
pub receive_once : (log : List Deed) (r s : Receive) → Member r (receives log) → Member s (receives log) → r.number ≡ s.number → r ≡ s
receive_once log r s h k e =
    let a = (receive_stands log r h).0 in
    let b = (receive_stands log s k).0 in
    let c : slice_get (receives log) s.number ≡ Some r = subst (λ x. slice_get (receives log) x ≡ Some r) e a in
    cc
