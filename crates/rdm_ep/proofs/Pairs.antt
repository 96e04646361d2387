-- The pairs that an eager deed makes.
use Rattle.std.proofs.Common.{◌≡◌, ℕ, ◌<◌, ◌≤◌, true, false, List, [], ◌∷◌, ◌++◌, map, length, Option, Some, None, refl, arith, ◌⊎◌, inl, inr, ap, ◌∙◌, sym, subst}
use Rattle.std.specs.Prelude.{find}
use Rattle.std.proofs.lemmas.Bool.{false_from_ne_true, not-true}
use Rattle.std.proofs.lemmas.List.{append-nil, append_assoc, length-append}
use Rattle.rdm_lists.specs.Lists.{Member}
use Rattle.rdm_num.specs.declared.numbers.Life.{Life}
use Rattle.rdm_match.specs.declared.PostedRecv.{PostedRecv}
use Rattle.rdm_match.specs.declared.Arrived.{Arrived}
use Rattle.rdm_match.specs.Matcher.{Event, Post, Arrive, Cancel, Forget, Pair, Matching, accepts, is_recv, after_post, after_arrive, after, run, is_pair}
use Rattle.rdm_model.specs.declared.job.Instr.TheVariants.{Insert, Recv, Cancel as CancelOp}
use Rattle.rdm_model.specs.Deeds.{Deed, Did, Took}
use Rattle.rdm_model.specs.Beginnings.{Own, Heads}
use Rattle.rdm_model.specs.Heard.{has_entered, entering}
use Rattle.rdm_model.specs.Matches.{receive, receives, received_by, with_received, events_by, matching}
use Rattle.rdm_model.specs.Local.{heads_by}
use Rattle.rdm_ep.specs.Eager.{IsEagerDeed, IsEager}
use Rattle.rdm_model.proofs.Matches.{EventIs, AllArrived, run_keeps, is_pair_member, entering_parts}
use Rattle.rdm_model.proofs.SameMatches.{matching_same}
use Rattle.rdm_model.proofs.Grows.{heads_grow}
use Rattle.rdm_ep.proofs.Entered.{entered_still}
use Rattle.rdm_lists.proofs.Members.{member-append_cases, member-map, find_member, without_member}

-- the matcher's lists by what the deeds themselves tell
abbrev pub own_matching : Own → List Deed → Matching
own_matching own log = matching own.limits.first (heads_by log) log

-- the message of that number, by those heads
abbrev pub message_by : Heads → Life → ℕ → Arrived
message_by heads from n = record { life = from; no = record { 0 = n }; tag = (heads from n).tag }

-- the messages that arrive by a deed
unfoldable pub arriving : Own → Deed → List Deed → List Arrived
arriving own (Took from item) before = map (message_by (heads_by (Took from item ∷ before)) from) (entering own.limits.first (Took from item) before from)
arriving own _ before = []

-- what an eager deed does to the matcher
unfoldable pub event_of : Own → Deed → List Deed → List Event
event_of own (Did (Recv req)) before = Post (receive (length (receives before)) before req).posted ∷ []
event_of own (Did (CancelOp recv)) before = Cancel recv.0 ∷ []
event_of own d before = map Arrive (arriving own d before)

-- a list that is mapped twice
map_twice : {A B C : Type 0} (g : B → C) (f : A → B) (xs : List A) → map (λ x. g (f x)) xs ≡ map g (map f xs)
map_twice g f [] = refl
map_twice g f (x ∷ xs) = ap (λ ys. g (f x) ∷ ys) (map_twice g f xs)

-- the events of an eager deed
events_are : (own : Own) (d : Deed) (before : List Deed) → IsEagerDeed own before d
    → events_by own.limits.first (heads_by (d ∷ before)) before d ≡ event_of own d before
unfolding events_by event_of arriving
events_are own (Did (Recv req)) before h = refl
events_are own (Did (CancelOp recv)) before h = refl
events_are own (Did (Insert life)) before h = ap (map Forget) h.0
events_are own (Took from item) before h =
    map_twice Arrive (message_by (heads_by (Took from item ∷ before)) from) (entering own.limits.first (Took from item) before from)
events_are own _ before h = refl

-- the matcher's lists after an eager deed
pub matching_step : (own : Own) (d : Deed) (before : List Deed) → IsEager own (d ∷ before)
    → own_matching own (d ∷ before) ≡ run (own_matching own before) (event_of own d before)
unfolding matching
matching_step own d before h =
    let earlier = matching_same own.limits.first (heads_by before) (heads_by (d ∷ before)) before (heads_grow d before) in
    ap (λ (m : Matching). run m (events_by own.limits.first (heads_by (d ∷ before)) before d)) (sym earlier)
    ∙ ap (run (own_matching own before)) (events_are own d before h.1)

-- a receive with the message that it finds
unfoldable pub met_by_post : PostedRecv → Option Arrived → List Pair
met_by_post r None = []
met_by_post r (Some a) = record { recv = r; message = a } ∷ []

-- a message with the receive that it finds
unfoldable pub met_by_arrive : Arrived → Option PostedRecv → List Pair
met_by_arrive a None = []
met_by_arrive a (Some r) = record { recv = r; message = a } ∷ []

-- the pair that an event makes
unfoldable pub met_by : Matching → Event → List Pair
met_by m (Post r) = met_by_post r (find (accepts r) m.arrived)
met_by m (Arrive a) = met_by_arrive a (find (λ r. accepts r a) m.posted)
met_by m _ = []

-- the pairs that events make
unfoldable pub met_by_all : Matching → List Event → List Pair
met_by_all m [] = []
met_by_all m (e ∷ es) = met_by m e ++ met_by_all (after m e) es

-- the pairs that an eager deed makes
abbrev pub new_pairs : Own → List Deed → Deed → List Pair
new_pairs own before d = met_by_all (own_matching own before) (event_of own d before)

-- the pairs after a post
post_meets : (m : Matching) (r : PostedRecv) (o : Option Arrived) → (after_post m r o).pairs ≡ m.pairs ++ met_by_post r o
unfolding after_post met_by_post
post_meets m r None = sym (append-nil m.pairs)
post_meets m r (Some a) = refl

-- the pairs after an arrival
arrive_meets : (m : Matching) (a : Arrived) (o : Option PostedRecv) → (after_arrive m a o).pairs ≡ m.pairs ++ met_by_arrive a o
unfolding after_arrive met_by_arrive
arrive_meets m a None = sym (append-nil m.pairs)
arrive_meets m a (Some r) = refl

-- the pairs after an event
pub after_meets : (m : Matching) (e : Event) → (after m e).pairs ≡ m.pairs ++ met_by m e
unfolding after met_by
after_meets m (Post r) = post_meets m r (find (accepts r) m.arrived)
after_meets m (Arrive a) = arrive_meets m a (find (λ r. accepts r a) m.posted)
after_meets m (Cancel n) = sym (append-nil m.pairs)
after_meets m (Forget l) = sym (append-nil m.pairs)

-- the pairs after events
pub run_meets : (es : List Event) (m : Matching) → (run m es).pairs ≡ m.pairs ++ met_by_all m es
unfolding run met_by_all
run_meets [] m = sym (append-nil m.pairs)
run_meets (e ∷ es) m =
    run_meets es (after m e) ∙ ap (λ (ps : List Pair). ps ++ met_by_all (after m e) es) (after_meets m e) ∙ append_assoc m.pairs (met_by m e) (met_by_all (after m e) es)

-- the pairs after an eager deed
pub pairs_step : (own : Own) (d : Deed) (before : List Deed) → IsEager own (d ∷ before)
    → (own_matching own (d ∷ before)).pairs ≡ (own_matching own before).pairs ++ new_pairs own before d
pairs_step own d before h =
    ap (λ (m : Matching). m.pairs) (matching_step own d before h) ∙ run_meets (event_of own d before) (own_matching own before)

-- a pair of a post has its receive
met_post_is : (r : PostedRecv) (o : Option Arrived) (q : Pair) → Member q (met_by_post r o) → q.recv ≡ r
unfolding met_by_post
met_post_is r None q m = elim m [ ]
met_post_is r (Some a) q (inl is) = sym (ap (λ (x : Pair). x.recv) is)
met_post_is r (Some a) q (inr never) = elim never [ ]

-- a pair of an arrival has its message
met_arrive_is : (a : Arrived) (o : Option PostedRecv) (q : Pair) → Member q (met_by_arrive a o) → q.message ≡ a
unfolding met_by_arrive
met_arrive_is a None q m = elim m [ ]
met_arrive_is a (Some r) q (inl is) = sym (ap (λ (x : Pair). x.message) is)
met_arrive_is a (Some r) q (inr never) = elim never [ ]

-- a pair that an event makes is of its receive or of its message
met_is : (m : Matching) (e : Event) (q : Pair) → Member q (met_by m e) → (e ≡ Post q.recv) ⊎ (e ≡ Arrive q.message)
unfolding met_by
met_is m (Post r) q k = inl (ap Post (sym (met_post_is r (find (accepts r) m.arrived) q k)))
met_is m (Arrive a) q k = inr (ap Arrive (sym (met_arrive_is a (find (λ r. accepts r a) m.posted) q k)))
met_is m (Cancel n) q k = elim k [ ]
met_is m (Forget l) q k = elim k [ ]

-- and so is one that events make
pub met_all_is : (es : List Event) (m : Matching) (q : Pair) → Member q (met_by_all m es) → Member (Post q.recv) es ⊎ Member (Arrive q.message) es
unfolding met_by_all
met_all_is [] m q k = elim k [ ]
met_all_is (e ∷ es) m q k =
    elim (member-append_cases q (met_by m e) (met_by_all (after m e) es) k) [
      | inl a ↦ elim (met_is m e q a) [ inl is ↦ inl (inl is) | inr is ↦ inr (inl is) ]
      | inr a ↦ elim (met_all_is es (after m e) q a) [ inl x ↦ inl (inr x) | inr x ↦ inr (inr x) ]
    ]

-- the receives of the matcher have numbers below a count
pub record IdsBelow (count : ℕ) (m : Matching) : Type 0 where
  pub waiting : (r : PostedRecv) → Member r m.posted → r.id.0 < count
  pub paired : (p : Pair) → Member p m.pairs → p.recv.id.0 < count

-- the event brings no receive of a greater number
abbrev BringsBelow : ℕ → Event → Type 0
BringsBelow count (Post r) = r.id.0 < count
BringsBelow count (Arrive a) = Unit {0}
BringsBelow count (Cancel n) = Unit {0}
BringsBelow count (Forget l) = ⊥

-- a post has its number below the count
below_post : (k : ℕ) (m : Matching) (r : PostedRecv) (o : Option Arrived) → r.id.0 < k → IdsBelow k m → IdsBelow k (after_post m r o)
unfolding after_post
below_post k m r None b i =
    record {
      waiting = λ x h. elim (member-append_cases x m.posted (r ∷ []) h) [
        | inl g ↦ i.waiting x g
        | inr g ↦ elim g [ inl is ↦ subst (λ (y : PostedRecv). y.id.0 < k) is b | inr never ↦ elim never [ ] ]
      ];
      paired = i.paired;
    }
below_post k m r (Some a) b i =
    record {
      waiting = i.waiting;
      paired = λ p h. elim (member-append_cases p m.pairs (record { recv = r; message = a } ∷ []) h) [
        | inl g ↦ i.paired p g
        | inr g ↦ elim g [ inl is ↦ subst (λ (y : Pair). y.recv.id.0 < k) is b | inr never ↦ elim never [ ] ]
      ];
    }

-- an arrival brings no number
below_arrive : (n : ℕ) (m : Matching) (a : Arrived) (o : Option PostedRecv) → ((r : PostedRecv) → o ≡ Some r → r.id.0 < n) → IdsBelow n m
    → IdsBelow n (after_arrive m a o)
unfolding after_arrive
below_arrive n m a None f i = record { waiting = i.waiting; paired = i.paired }
below_arrive n m a (Some r) f i =
    record {
      waiting = λ x h. i.waiting x (without_member (λ q. accepts q a) x m.posted h);
      paired = λ p h. elim (member-append_cases p m.pairs (record { recv = r; message = a } ∷ []) h) [
        | inl g ↦ i.paired p g
        | inr g ↦ elim g [ inl is ↦ subst (λ (y : Pair). y.recv.id.0 < n) is (f r refl) | inr never ↦ elim never [ ] ]
      ];
    }

-- an event keeps numbers below the count
below_after : (k : ℕ) (m : Matching) (e : Event) → BringsBelow k e → IdsBelow k m → IdsBelow k (after m e)
unfolding after
below_after k m (Post r) b i = below_post k m r (find (accepts r) m.arrived) b i
below_after k m (Arrive a) b i = below_arrive k m a (find (λ r. accepts r a) m.posted) (λ r e. i.waiting r (find_member (λ r. accepts r a) r m.posted e).0) i
below_after k m (Cancel n) b i = record { waiting = λ r h. i.waiting r (without_member (is_recv n) r m.posted h); paired = i.paired }
below_after k m (Forget l) b i = elim b [ ]

-- so do events
below_run : (es : List Event) (k : ℕ) (m : Matching) → ((e : Event) → Member e es → BringsBelow k e) → IdsBelow k m → IdsBelow k (run m es)
unfolding run
below_run [] k m b i = i
below_run (e ∷ es) k m b i = below_run es k (after m e) (λ x h. b x (inr h)) (below_after k m e (b e (inl refl)) i)

-- numbers below a count are below a greater one
below_more : (n k : ℕ) (m : Matching) → n ≤ k → IdsBelow n m → IdsBelow k m
below_more n k m le i = record { waiting = λ r h. let f = i.waiting r h in omega arith; paired = λ p h. let f = i.paired p h in omega arith }

-- a deed brings no fewer receives
pub more_receives : (d : Deed) (before : List Deed) → length (receives before) ≤ length (receives (d ∷ before))
unfolding receives with_received
more_receives d before = let l = length-append (receives before) (received_by (receives before) before d) in omega arith

-- an arrival brings no receive
arrival_below : (k : ℕ) (as' : List Arrived) (e : Event) → Member e (map Arrive as') → BringsBelow k e
arrival_below k as' e h = let r = member-map Arrive e as' h in subst (BringsBelow k) r.2 tt

-- the receive that a deed brings is the next one
brings_next : (own : Own) (d : Deed) (before : List Deed) (e : Event) → Member e (event_of own d before) → BringsBelow (length (receives (d ∷ before))) e
unfolding event_of receives with_received received_by
brings_next own (Did (Recv req)) before e (inl is) =
    let r = receive (length (receives before)) before req in
    let l = length-append (receives before) (r ∷ []) in
    subst (BringsBelow (length (receives before ++ r ∷ []))) is (omega arith)
brings_next own (Did (Recv req)) before e (inr never) = elim never [ ]
brings_next own (Did (CancelOp recv)) before e (inl is) = subst (BringsBelow (length (receives (Did (CancelOp recv) ∷ before)))) is tt
brings_next own (Did (CancelOp recv)) before e (inr never) = elim never [ ]
brings_next own d before e h = arrival_below (length (receives (d ∷ before))) (arriving own d before) e h

-- the receives of the matcher are accepted ones
pub ids_below : (own : Own) (log : List Deed) → IsEager own log → IdsBelow (length (receives log)) (own_matching own log)
unfolding matching
ids_below own [] h = record { waiting = λ r m. elim m [ ]; paired = λ p m. elim m [ ] }
ids_below own (d ∷ before) h =
    let k = length (receives (d ∷ before)) in
    subst (IdsBelow k) (sym (matching_step own d before h))
    (below_run (event_of own d before) k (own_matching own before) (brings_next own d before)
    (below_more (length (receives before)) k (own_matching own before) (more_receives d before) (ids_below own before h.0)))

-- a receive that a deed brings has the next number
post_number : (own : Own) (d : Deed) (before : List Deed) (r : PostedRecv) → Member (Post r) (event_of own d before) → r.id.0 ≡ length (receives before)
unfolding event_of
post_number own (Did (Recv req)) before r (inl is) =
    let p = (receive (length (receives before)) before req).posted in
    let e : p ≡ r = cc in
    sym (ap (λ (x : PostedRecv). x.id.0) e)
post_number own (Did (Recv req)) before r (inr never) = elim never [ ]
post_number own (Did (CancelOp recv)) before r (inl is) = cc
post_number own (Did (CancelOp recv)) before r (inr never) = elim never [ ]
post_number own d before r h = let m = member-map Arrive (Post r) (arriving own d before) h in let e = m.2 in cc

-- a message that arrives by a deed
pub record Arrives (own : Own) (d : Deed) (before : List Deed) (a : Arrived) : Type 0 where
  pub entered : has_entered own.limits.first (d ∷ before) a.life a.no.0 ≡ true
  pub not_before : has_entered own.limits.first before a.life a.no.0 ≡ false

-- a message that arrives enters
pub arriving_enters : (own : Own) (d : Deed) (before : List Deed) (a : Arrived) → Member a (arriving own d before) → Arrives own d before a
unfolding arriving
arriving_enters own (Took from item) before a h =
    let d = Took from item in
    let m = member-map (message_by (heads_by (d ∷ before)) from) a (entering own.limits.first d before from) h in
    let p = entering_parts own.limits.first d before from m.0 m.1 in
    subst (Arrives own d before) m.2 (record { entered = p.0; not_before = not-true (has_entered own.limits.first before from m.0) p.1 })
arriving_enters own _ before a h = elim h [ ]

-- a message of an event arrives
pub arrive_enters : (own : Own) (d : Deed) (before : List Deed) (a : Arrived) → Member (Arrive a) (event_of own d before) → Arrives own d before a
unfolding event_of
arrive_enters own (Did (Recv req)) before a (inl is) = cc
arrive_enters own (Did (Recv req)) before a (inr never) = elim never [ ]
arrive_enters own (Did (CancelOp recv)) before a (inl is) = cc
arrive_enters own (Did (CancelOp recv)) before a (inr never) = elim never [ ]
arrive_enters own d before a h =
    let m = member-map Arrive (Arrive a) (arriving own d before) h in
    let same : m.0 ≡ a = (let e = m.2 in cc) in
    subst (Arrives own d before) same (arriving_enters own d before m.0 m.1)

-- the message has entered
abbrev pub HasEntered : Own → List Deed → Arrived → Type 0
HasEntered own log a = has_entered own.limits.first log a.life a.no.0 ≡ true

-- the message of an event has entered
event_entered : (own : Own) (d : Deed) (before : List Deed) (e : Event) → Member e (event_of own d before) → EventIs (HasEntered own (d ∷ before)) e
event_entered own d before (Post r) k = tt
event_entered own d before (Arrive a) k = (arrive_enters own d before a k).entered
event_entered own d before (Cancel n) k = tt
event_entered own d before (Forget l) k = tt

-- each message that waits or was paired has entered
pub all_entered : (own : Own) (log : List Deed) → IsEager own log → AllArrived (HasEntered own log) (own_matching own log)
unfolding matching
all_entered own [] h = record { waiting = λ a m. elim m [ ]; paired = λ p m. elim m [ ] }
all_entered own (d ∷ before) h =
    let earlier = all_entered own before h.0 in
    subst (AllArrived (HasEntered own (d ∷ before))) (sym (matching_step own d before h))
    (run_keeps (HasEntered own (d ∷ before)) (own_matching own before) (event_of own d before)
    (λ e k. event_entered own d before e k)
    (record {
      waiting = λ a m. entered_still own.limits.first d before a.life a.no.0 (earlier.waiting a m);
      paired = λ p m. entered_still own.limits.first d before p.message.life p.message.no.0 (earlier.paired p m);
    }))

-- a new pair was none before
pub new_unpaired : (own : Own) (d : Deed) (before : List Deed) (q : Pair) → IsEager own (d ∷ before) → Member q (new_pairs own before d)
    → is_pair (own_matching own before).pairs q.recv.id.0 q.message.life q.message.no.0 ≡ false
new_unpaired own d before q h k =
    let m = own_matching own before in
    false_from_ne_true (is_pair m.pairs q.recv.id.0 q.message.life q.message.no.0) (λ is.
    let r = is_pair_member m.pairs q.recv.id.0 q.message.life q.message.no.0 is in
    elim (met_all_is (event_of own d before) m q k) [
      | inl e ↦ (let n = post_number own d before q.recv e in let f = (ids_below own before h.0).paired r.0 r.1 in let g = r.2 in absurd (omega arith))
      | inr e ↦ (
          let a = arrive_enters own d before q.message e in
          let was = (all_entered own before h.0).paired r.0 r.1 in
          let l = r.3 in
          let n = r.4 in
          let z : has_entered own.limits.first before q.message.life q.message.no.0 ≡ true =
          subst (λ (x : ℕ). has_entered own.limits.first before q.message.life x ≡ true) n (subst (λ (x : Life). has_entered own.limits.first before x r.0.message.no.0 ≡ true) l was) in
          let w = a.not_before in
          cc)
    ])
