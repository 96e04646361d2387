-- What the matcher keeps: pairs stay, and what arrived was heard of.
use Rattle.std.proofs.Common.{◌≡◌, ℕ, ◌+◌, true, ◌&&◌, not, List, [], ◌∷◌, ◌++◌, map, length, Option, Some, None, refl, inl, inr, sym, ◌∙◌, ap, subst}
use Rattle.std.specs.Prelude.{◌==◌, find}
use Rattle.std.proofs.lemmas.Bool.{and_parts, and_from, eqb-true, eq-eqb}
use Rattle.std.proofs.lemmas.List.{append-nil, append_assoc}
use Rattle.rdm_lists.specs.Lists.{Member, below}
use Rattle.rdm_num.specs.Lives.{same_life}
use Rattle.rdm_num.specs.declared.numbers.Life.{Life}
use Rattle.rdm_num.specs.declared.head.Head.{Head}
use Rattle.rdm_match.specs.declared.PostedRecv.{PostedRecv}
use Rattle.rdm_match.specs.declared.Arrived.{Arrived}
use Rattle.rdm_match.specs.Matcher.{Event, Post, Arrive, Cancel, Forget, Pair, Matching, accepts, after_post, after_arrive, after, run, is_recv, is_pair}
use Rattle.rdm_model.specs.declared.job.Instr.TheVariants.{Insert, Recv, Cancel as CancelOp}
use Rattle.rdm_model.specs.Deeds.{Deed, Did, Took}
use Rattle.rdm_model.specs.Beginnings.{Heads}
use Rattle.rdm_model.specs.Heard.{heard_head, is_heard, heard_below, has_entered, entering}
use Rattle.rdm_model.specs.Matches.{arrival, events_by, matching, pairs}
use Rattle.rdm_lists.proofs.Members.{member-append_left, member-append_cases, member-filter, member-map, find_member, member_find, without_member}
use Rattle.rdm_lists.proofs.Options.{some_of, or_else_left}
use Rattle.rdm_num.proofs.Lives.{same_life-true, same_life-refl}

-- a post adds at most one pair
post_extends : (m : Matching) (r : PostedRecv) (o : Option Arrived) → (rest : List Pair) × ((after_post m r o).pairs ≡ m.pairs ++ rest)
unfolding after_post
post_extends m r None = ([], sym (append-nil m.pairs))
post_extends m r (Some a) = (record { recv = r; message = a } ∷ [], refl)

-- an arrival adds at most one pair
arrive_extends : (m : Matching) (a : Arrived) (o : Option PostedRecv) → (rest : List Pair) × ((after_arrive m a o).pairs ≡ m.pairs ++ rest)
unfolding after_arrive
arrive_extends m a None = ([], sym (append-nil m.pairs))
arrive_extends m a (Some r) = (record { recv = r; message = a } ∷ [], refl)

-- an event adds pairs at the end
after_extends : (m : Matching) (e : Event) → (rest : List Pair) × ((after m e).pairs ≡ m.pairs ++ rest)
unfolding after
after_extends m (Post r) = post_extends m r _
after_extends m (Arrive a) = arrive_extends m a _
after_extends m (Cancel n) = ([], sym (append-nil m.pairs))
after_extends m (Forget l) = ([], sym (append-nil m.pairs))

-- pairs are only added
pub run_extends : (es : List Event) (m : Matching) → (rest : List Pair) × ((run m es).pairs ≡ m.pairs ++ rest)
unfolding run
run_extends [] m = ([], sym (append-nil m.pairs))
run_extends (e ∷ es) m =
    let s = after_extends m e in
    let r = run_extends es (after m e) in
    (s.0 ++ r.0, r.1 ∙ ap (λ (x : List Pair). x ++ r.0) s.1 ∙ append_assoc m.pairs s.0 r.0)

-- pairs stay
pub run_member : (p : Pair) (m : Matching) (es : List Event) → Member p m.pairs → Member p (run m es).pairs
run_member p m es h =
    let r = run_extends es m in
    subst (λ (x : List Pair). Member p x) (sym r.1) (member-append_left p m.pairs r.0 h)

-- each message that waits or met a receive is of a kind
pub record AllArrived (Q : Arrived → Type 0) (m : Matching) : Type 0 where
  pub waiting : (a : Arrived) → Member a m.arrived → Q a
  pub paired : (p : Pair) → Member p m.pairs → Q p.message

-- the message of an arrival is of a kind
abbrev pub EventIs : (Arrived → Type 0) → Event → Type 0
EventIs Q (Post r) = Unit {0}
EventIs Q (Arrive a) = Q a
EventIs Q (Cancel n) = Unit {0}
EventIs Q (Forget l) = Unit {0}

-- a post pairs what had arrived
post_keeps : (Q : Arrived → Type 0) (m : Matching) (r : PostedRecv) (o : Option Arrived) → ((a : Arrived) → o ≡ Some a → Q a)
    → AllArrived Q m → AllArrived Q (after_post m r o)
unfolding after_post
post_keeps Q m r None q all = record { waiting = all.waiting; paired = all.paired }
post_keeps Q m r (Some a) q all =
    record {
      waiting = λ x h. all.waiting x (without_member (accepts r) x m.arrived h);
      paired = λ p h. elim (member-append_cases p m.pairs _ h) [
        | inl k ↦ all.paired p k
        | inr k ↦ elim k [ inl is ↦ subst (λ (x : Pair). Q x.message) is (q a refl) | inr never ↦ elim never [ ] ]
      ];
    }

-- an arrival brings a message of the kind
arrive_keeps : (Q : Arrived → Type 0) (m : Matching) (a : Arrived) (o : Option PostedRecv) → Q a → AllArrived Q m → AllArrived Q (after_arrive m a o)
unfolding after_arrive
arrive_keeps Q m a None q all =
    record {
      waiting = λ x h. elim (member-append_cases x m.arrived _ h) [
        | inl k ↦ all.waiting x k
        | inr k ↦ elim k [ inl is ↦ subst Q is q | inr never ↦ elim never [ ] ]
      ];
      paired = all.paired;
    }
arrive_keeps Q m a (Some r) q all =
    record {
      waiting = all.waiting;
      paired = λ p h. elim (member-append_cases p m.pairs _ h) [
        | inl k ↦ all.paired p k
        | inr k ↦ elim k [ inl is ↦ subst (λ (x : Pair). Q x.message) is q | inr never ↦ elim never [ ] ]
      ];
    }

-- so does each event
after_keeps : (Q : Arrived → Type 0) (m : Matching) (e : Event) → EventIs Q e → AllArrived Q m → AllArrived Q (after m e)
unfolding after
after_keeps Q m (Post r) q all = post_keeps Q m r (find (accepts r) m.arrived) (λ a h. all.waiting a (find_member (accepts r) a m.arrived h).0) all
after_keeps Q m (Arrive a) q all = arrive_keeps Q m a (find (λ r. accepts r a) m.posted) q all
after_keeps Q m (Cancel n) q all = record { waiting = all.waiting; paired = all.paired }
after_keeps Q m (Forget l) q all = record { waiting = λ a h. all.waiting a (member-filter _ a m.arrived h).0; paired = all.paired }

-- what arrived is of a kind after events whose arrivals are
pub run_keeps : (Q : Arrived → Type 0) (m : Matching) (es : List Event) → ((e : Event) → Member e es → EventIs Q e) → AllArrived Q m → AllArrived Q (run m es)
unfolding run
run_keeps Q m [] q all = all
run_keeps Q m (e ∷ es) q all = run_keeps Q (after m e) es (λ x h. q x (inr h)) (after_keeps Q m e (q e (inl refl)) all)

-- a pair that passes is one of the pairs
pub is_pair_member : (ps : List Pair) (n : ℕ) (life : Life) (number : ℕ) → is_pair ps n life number ≡ true
    → (p : Pair) × Member p ps × (p.recv.id.0 ≡ n) × (p.message.life ≡ life) × (p.message.no.0 ≡ number)
unfolding is_pair is_recv
is_pair_member ps n life number h =
    let r = some_of _ h in
    let m = find_member _ r.0 ps r.1 in
    let a = and_parts _ (r.0.message.no.0 == number) m.1 in
    let b = and_parts (r.0.recv.id.0 == n) (same_life r.0.message.life life) a.0 in
    (r.0, m.0, eqb-true _ _ b.0, same_life-true _ _ b.1, eqb-true _ _ a.1)

-- one of the pairs passes by its own numbers
pub member_is_pair : (ps : List Pair) (p : Pair) → Member p ps → is_pair ps p.recv.id.0 p.message.life p.message.no.0 ≡ true
unfolding is_pair is_recv
member_is_pair ps p h =
    member_find _ p ps h
    (and_from _ _ (and_from _ _ (eq-eqb p.recv.id.0 p.recv.id.0 refl) (same_life-refl p.message.life)) (eq-eqb p.message.no.0 p.message.no.0 refl))

-- one of the pairs passes by numbers that are its own
pub pair_passes : (ps : List Pair) (p : Pair) (n : ℕ) (life : Life) (number : ℕ) → Member p ps → p.recv.id.0 ≡ n → p.message.life ≡ life → p.message.no.0 ≡ number
    → is_pair ps n life number ≡ true
pair_passes ps p n life number h a b c =
    subst (λ x. is_pair ps n life x ≡ true) c (subst (λ x. is_pair ps n x p.message.no.0 ≡ true) b (subst (λ x. is_pair ps x p.message.life p.message.no.0 ≡ true) a (member_is_pair ps p h)))

-- a pair of a log is one of a longer log
pub pair_still : (first : ℕ) (hs : Heads) (d : Deed) (before : List Deed) (p : Pair) → Member p (pairs first hs before) → Member p (pairs first hs (d ∷ before))
unfolding matching
pair_still first hs d before p h = run_member p (matching first hs before) (events_by first hs before d) h

-- the pairs of a longer log are those and new ones
pub pairs_extend : (first : ℕ) (hs : Heads) (d : Deed) (before : List Deed) → (rest : List Pair) × (pairs first hs (d ∷ before) ≡ pairs first hs before ++ rest)
unfolding matching
pairs_extend first hs d before = run_extends (events_by first hs before d) (matching first hs before)

-- a test that names a pair still holds of a longer log
pub is_pair_still : (first : ℕ) (hs : Heads) (d : Deed) (before : List Deed) (n : ℕ) (life : Life) (number : ℕ)
    → is_pair (pairs first hs before) n life number ≡ true → is_pair (pairs first hs (d ∷ before)) n life number ≡ true
is_pair_still first hs d before n life number h =
    let r = is_pair_member _ n life number h in
    pair_passes _ r.0 n life number (pair_still first hs d before r.0 r.1) r.2 r.3 r.4

-- what was heard stays
pub heard_still : (d : Deed) (before : List Deed) (source : Life) (n : ℕ) (h : Head) → heard_head before source n ≡ Some h → heard_head (d ∷ before) source n ≡ Some h
unfolding heard_head
heard_still d before source n h is = or_else_left (heard_head before source n) _ h is

-- a number that entered was heard
pub entered_heard : (first : ℕ) (log : List Deed) (source : Life) (n : ℕ) → has_entered first log source n ≡ true → (h : Head) × (heard_head log source n ≡ Some h)
unfolding has_entered is_heard
entered_heard first log source n e = some_of (heard_head log source n) (and_parts (heard_below first log source n) _ e).1

-- a number that enters has entered now, and had not before
pub entering_parts : (first : ℕ) (d : Deed) (before : List Deed) (source : Life) (n : ℕ) → Member n (entering first d before source)
    → (has_entered first (d ∷ before) source n ≡ true) × (not (has_entered first before source n) ≡ true)
unfolding entering
entering_parts first d before source n h =
    let m = member-filter (λ x. has_entered first (d ∷ before) source x && not (has_entered first before source x)) n
    (map (λ k. first + k) (below (length (d ∷ before)))) h in
    and_parts (has_entered first (d ∷ before) source n) (not (has_entered first before source n)) m.1

-- a message that arrived was heard of, and has the tag of its head
abbrev pub IsHeard : Heads → List Deed → Arrived → Type 0
IsHeard heads log a = ((h : Head) × (heard_head log a.life a.no.0 ≡ Some h)) × (a.tag ≡ (heads a.life a.no.0).tag)

-- the messages that arrive by a deed were heard of
heard_event : (first : ℕ) (heads : Heads) (d : Deed) (before : List Deed) (x : Event) → Member x (events_by first heads before d) → EventIs (IsHeard heads (d ∷ before)) x
unfolding events_by
heard_event first heads (Did (Recv req)) before x (inl a) = subst (EventIs (IsHeard heads (Did (Recv req) ∷ before))) a tt
heard_event first heads (Did (Recv req)) before x (inr a) = elim a [ ]
heard_event first heads (Did (CancelOp recv)) before x (inl a) = subst (EventIs (IsHeard heads (Did (CancelOp recv) ∷ before))) a tt
heard_event first heads (Did (CancelOp recv)) before x (inr a) = elim a [ ]
heard_event first heads (Did (Insert life)) before x h =
    let r = member-map Forget x _ h in subst (EventIs (IsHeard heads (Did (Insert life) ∷ before))) r.2 tt
heard_event first heads (Took from item) before x h =
    let r = member-map (arrival heads from) x _ h in
    let m = entered_heard first (Took from item ∷ before) from r.0 (entering_parts first (Took from item) before from r.0 r.1).0 in
    subst (EventIs (IsHeard heads (Took from item ∷ before))) r.2 (m, refl)
heard_event first heads _ before x h = elim h [ ]

-- each message that arrived was heard of
pub arrived_heard : (first : ℕ) (heads : Heads) (log : List Deed) → AllArrived (IsHeard heads log) (matching first heads log)
unfolding matching
arrived_heard first heads [] = record { waiting = λ a h. elim h [ ]; paired = λ p h. elim h [ ] }
arrived_heard first heads (d ∷ before) =
    let earlier = arrived_heard first heads before in
    let still : (a : Arrived) → IsHeard heads before a → IsHeard heads (d ∷ before) a = λ a h. ((h.0.0, heard_still d before a.life a.no.0 h.0.0 h.0.1), h.1) in
    run_keeps (IsHeard heads (d ∷ before)) (matching first heads before) (events_by first heads before d) (heard_event first heads d before)
    (record { waiting = λ a h. still a (earlier.waiting a h); paired = λ p h. still p.message (earlier.paired p h) })

-- the message of a pair was heard of
pub pair_heard : (first : ℕ) (heads : Heads) (log : List Deed) (p : Pair) → Member p (pairs first heads log)
    → (h : Head) × (heard_head log p.message.life p.message.no.0 ≡ Some h)
pair_heard first heads log p h = ((arrived_heard first heads log).paired p h).0
