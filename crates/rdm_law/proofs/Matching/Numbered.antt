-- Receives and pairs have numbers of their own.
use Rattle.std.proofs.Common.{◌≡◌, ℕ, ◌<◌, ◌≤◌, Bool, true, false, cond, List, [], ◌∷◌, ◌++◌, map, length, Option, Some, None, refl, arith, inl, inr, sym, ◌∙◌, ap, subst}
use Rattle.std.specs.Prelude.{find, filter}
use Rattle.std.proofs.lemmas.List.{append-nil, length-append}
use Rattle.rdm_lists.specs.Lists.{Member, without_first}
use Rattle.rdm_match.specs.declared.PostedRecv.{PostedRecv}
use Rattle.rdm_match.specs.declared.Arrived.{Arrived}
use Rattle.rdm_match.specs.Matcher.{Event, Post, Arrive, Cancel, Forget, Pair, Matching, accepts, after_post, after_arrive, after, run}
use Rattle.rdm_model.specs.declared.job.Instr.TheVariants.{Insert, Recv, Cancel as CancelOp}
use Rattle.rdm_model.specs.Deeds.{Deed, Did, Took}
use Rattle.rdm_model.specs.Beginnings.{Heads}
use Rattle.rdm_model.specs.Currents.{forgotten_by}
use Rattle.rdm_model.specs.Heard.{entering}
use Rattle.rdm_model.specs.Matches.{Receive, receive, receives, received_by, with_received, arrival, events_by, matching}
use Rattle.rdm_lists.proofs.Members.{member-append_cases, member-filter, member-map, find_member, without_member}

-- the receives have numbers of their own, below a bound
abbrev pub Lacks : ℕ → List PostedRecv → Type 0
Lacks n [] = Unit {0}
Lacks n (w ∷ ws) = (w.id.0 ≡ n → ⊥) × Lacks n ws

-- each receive of the list has a number of its own
abbrev pub Apart : List PostedRecv → Type 0
Apart [] = Unit {0}
Apart (w ∷ ws) = Lacks w.id.0 ws × Apart ws

-- no pair has that receive
abbrev pub LacksPair : ℕ → List Pair → Type 0
LacksPair n [] = Unit {0}
LacksPair n (p ∷ ps) = (p.recv.id.0 ≡ n → ⊥) × LacksPair n ps

-- each pair of the list, by its place, has a receive of its own
abbrev pub PairsApart : List Pair → Type 0
PairsApart [] = Unit {0}
PairsApart (p ∷ ps) = LacksPair p.recv.id.0 ps × PairsApart ps

-- a pair of another receive may be added
lacks_pair_push : (n : ℕ) (q : Pair) (ps : List Pair) → LacksPair n ps → (q.recv.id.0 ≡ n → ⊥) → LacksPair n (ps ++ q ∷ [])
lacks_pair_push n q [] l h = (h, tt)
lacks_pair_push n q (p ∷ ps) l h = (l.0, lacks_pair_push n q ps l.1 h)

-- and so to pairs that are apart
pairs_push : (q : Pair) (ps : List Pair) → PairsApart ps → ((p : Pair) → Member p ps → p.recv.id.0 ≡ q.recv.id.0 → ⊥) → PairsApart (ps ++ q ∷ [])
pairs_push q [] a h = (tt, tt)
pairs_push q (p ∷ ps) a h = (lacks_pair_push p.recv.id.0 q ps a.0 (λ e. h p (inl refl) (sym e)), pairs_push q ps a.1 (λ r k. h r (inr k)))

-- receives that are posted and those that were paired have numbers of their own, below a bound
pub record Numbered (bound : ℕ) (m : Matching) : Type 0 where
  pub apart : Apart m.posted
  pub pairs_apart : PairsApart m.pairs
  pub posted_below : (w : PostedRecv) → Member w m.posted → w.id.0 < bound
  pub pairs_below : (p : Pair) → Member p m.pairs → p.recv.id.0 < bound
  pub gone : (p : Pair) (w : PostedRecv) → Member p m.pairs → Member w m.posted → p.recv.id.0 ≡ w.id.0 → ⊥
  pub once : (p q : Pair) → Member p m.pairs → Member q m.pairs → p.recv.id.0 ≡ q.recv.id.0 → p ≡ q

-- an element of a list that lacks a number has another one
pub lacks_member : (n : ℕ) (w : PostedRecv) (ws : List PostedRecv) → Lacks n ws → Member w ws → w.id.0 ≡ n → ⊥
lacks_member n w [] l h e = elim h [ ]
lacks_member n w (v ∷ ws) l (inl a) e = l.0 (ap (λ (x : PostedRecv). x.id.0) a ∙ e)
lacks_member n w (v ∷ ws) l (inr a) e = lacks_member n w ws l.1 a e

-- a list without one of its elements lacks no less
lacks_without : (t : PostedRecv → Bool) (n : ℕ) (ws : List PostedRecv) → Lacks n ws → Lacks n (without_first t ws)
unfolding without_first
lacks_without t n [] l = tt
lacks_without t n (w ∷ ws) l =
    elim (t w) as (λ b. Lacks n (cond b ws (w ∷ without_first t ws))) [ true ↦ l.1 | false ↦ (l.0, lacks_without t n ws l.1) ]

-- and its elements stay apart
apart_without : (t : PostedRecv → Bool) (ws : List PostedRecv) → Apart ws → Apart (without_first t ws)
unfolding without_first
apart_without t [] l = tt
apart_without t (w ∷ ws) l =
    elim (t w) as (λ b. Apart (cond b ws (w ∷ without_first t ws))) [ true ↦ l.1 | false ↦ (lacks_without t w.id.0 ws l.0, apart_without t ws l.1) ]

-- a filter lacks no less
lacks_filter : (t : PostedRecv → Bool) (n : ℕ) (ws : List PostedRecv) → Lacks n ws → Lacks n (filter t ws)
lacks_filter t n [] l = tt
lacks_filter t n (w ∷ ws) l =
    elim (t w) as (λ b. Lacks n (cond b (w ∷ filter t ws) (filter t ws))) [ true ↦ (l.0, lacks_filter t n ws l.1) | false ↦ lacks_filter t n ws l.1 ]

-- and its elements stay apart
apart_filter : (t : PostedRecv → Bool) (ws : List PostedRecv) → Apart ws → Apart (filter t ws)
apart_filter t [] l = tt
apart_filter t (w ∷ ws) l =
    elim (t w) as (λ b. Apart (cond b (w ∷ filter t ws) (filter t ws))) [ true ↦ (lacks_filter t w.id.0 ws l.0, apart_filter t ws l.1) | false ↦ apart_filter t ws l.1 ]

-- the list without its first element that passes lacks that one's number
pub first_lacks : (t : PostedRecv → Bool) (w : PostedRecv) (ws : List PostedRecv) → Apart ws → find t ws ≡ Some w → Lacks w.id.0 (without_first t ws)
unfolding without_first
first_lacks t w [] l h = tt
first_lacks t w (v ∷ ws) l h =
    (elim (t v) as (λ b. cond b (Some v) (find t ws) ≡ Some w → Lacks w.id.0 (cond b ws (v ∷ without_first t ws))) [
      | true ↦ λ k. let P : PostedRecv → Type 0 = λ x. Lacks x.id.0 ws in let e : v ≡ w = cc in subst P e l.0
      | false ↦ λ k. (λ e. lacks_member v.id.0 w ws l.0 ((find_member t w ws k).0) (sym e), first_lacks t w ws l.1 k)
    ]) h

-- a receive of another number may be added
lacks_push : (n : ℕ) (w : PostedRecv) (ws : List PostedRecv) → Lacks n ws → (w.id.0 ≡ n → ⊥) → Lacks n (ws ++ w ∷ [])
lacks_push n w [] l h = (h, tt)
lacks_push n w (v ∷ ws) l h = (l.0, lacks_push n w ws l.1 h)

-- and so to receives that are apart
apart_push : (w : PostedRecv) (ws : List PostedRecv) → Apart ws → ((v : PostedRecv) → Member v ws → v.id.0 ≡ w.id.0 → ⊥) → Apart (ws ++ w ∷ [])
apart_push w [] l h = (tt, tt)
apart_push w (v ∷ ws) l h = (lacks_push v.id.0 w ws l.0 (λ e. h v (inl refl) (sym e)), apart_push w ws l.1 (λ x k. h x (inr k)))

-- a greater bound holds too
pub numbered_more : (b c : ℕ) (m : Matching) → b ≤ c → Numbered b m → Numbered c m
numbered_more b c m le n =
    record {
      pairs_apart = n.pairs_apart;
      apart = n.apart;
      posted_below = λ w h. let k = n.posted_below w h in omega arith;
      pairs_below = λ p h. let k = n.pairs_below p h in omega arith;
      gone = n.gone;
      once = n.once;
    }

-- pairs of one receive stay one pair, with a new pair of another receive
pair_once : (ps : List Pair) (new : Pair) → ((p q : Pair) → Member p ps → Member q ps → p.recv.id.0 ≡ q.recv.id.0 → p ≡ q)
    → ((p : Pair) → Member p ps → p.recv.id.0 ≡ new.recv.id.0 → ⊥)
    → (p q : Pair) → Member p (ps ++ new ∷ []) → Member q (ps ++ new ∷ []) → p.recv.id.0 ≡ q.recv.id.0 → p ≡ q
pair_once ps new once other p q h k e =
    elim (member-append_cases p ps _ h) [
      | inl a ↦ elim (member-append_cases q ps _ k) [
        | inl b ↦ once p q a b e
        | inr b ↦ elim b [ inl s ↦ absurd (other p a (e ∙ sym (ap (λ (x : Pair). x.recv.id.0) s))) | inr never ↦ elim never [ ] ]
      ]
      | inr a ↦ elim a [
        | inl r ↦ elim (member-append_cases q ps _ k) [
          | inl b ↦ absurd (other q b (sym e ∙ sym (ap (λ (x : Pair). x.recv.id.0) r)))
          | inr b ↦ elim b [ inl s ↦ sym r ∙ s | inr never ↦ elim never [ ] ]
        ]
        | inr never ↦ elim never [ ]
      ]
    ]

-- a post of the number at the bound
posted_numbered : (b c : ℕ) (m : Matching) (w : PostedRecv) (o : Option Arrived) → b ≤ w.id.0 → w.id.0 < c → Numbered b m → Numbered c (after_post m w o)
unfolding after_post
posted_numbered b c m w None from to n =
    record {
      pairs_apart = n.pairs_apart;
      apart = apart_push w m.posted n.apart (λ v h e. let k = n.posted_below v h in omega arith);
      posted_below = λ v h. elim (member-append_cases v m.posted _ h) [
        | inl a ↦ let k = n.posted_below v a in omega arith
        | inr a ↦ elim a [ inl is ↦ subst (λ (x : PostedRecv). x.id.0 < c) is to | inr never ↦ elim never [ ] ]
      ];
      pairs_below = λ p h. let k = n.pairs_below p h in omega arith;
      gone = λ p v h k e. elim (member-append_cases v m.posted _ k) [
        | inl a ↦ n.gone p v h a e
        | inr a ↦ elim a [ inl is ↦ let k = n.pairs_below p h in let s = ap (λ (x : PostedRecv). x.id.0) is in omega arith | inr never ↦ elim never [ ] ]
      ];
      once = n.once;
    }
posted_numbered b c m w (Some a) from to n =
    record {
      pairs_apart = pairs_push (record { recv = w; message = a }) m.pairs n.pairs_apart (λ x l s. let y = n.pairs_below x l in omega arith);
      apart = n.apart;
      posted_below = λ v h. let k = n.posted_below v h in omega arith;
      pairs_below = λ p h. elim (member-append_cases p m.pairs _ h) [
        | inl k ↦ let l = n.pairs_below p k in omega arith
        | inr k ↦ elim k [ inl is ↦ subst (λ (x : Pair). x.recv.id.0 < c) is to | inr never ↦ elim never [ ] ]
      ];
      gone = λ p v h k e. elim (member-append_cases p m.pairs _ h) [
        | inl l ↦ n.gone p v l k e
        | inr l ↦ elim l [ inl is ↦ let x = n.posted_below v k in let s = ap (λ (x : Pair). x.recv.id.0) is in omega arith | inr never ↦ elim never [ ] ]
      ];
      once = λ p q h k e. pair_once m.pairs (record { recv = w; message = a }) n.once (λ x l s. let y = n.pairs_below x l in omega arith) p q h k e;
    }

-- an arrival that takes a posted receive
arrived_numbered : (b : ℕ) (m : Matching) (a : Arrived) (t : PostedRecv → Bool) (o : Option PostedRecv) → find t m.posted ≡ o → Numbered b m
    → ((w : PostedRecv) → o ≡ Some w → after_arrive m a o ≡ record { posted = without_first t m.posted; arrived = m.arrived; pairs = m.pairs ++ record { recv = w; message = a } ∷ [] })
    → Numbered b (after_arrive m a o)
unfolding after_arrive
arrived_numbered b m a t None f n is = record { pairs_apart = n.pairs_apart; apart = n.apart; posted_below = n.posted_below; pairs_below = n.pairs_below; gone = n.gone; once = n.once }
arrived_numbered b m a t (Some w) f n is =
    let here : Member w m.posted = (find_member t w m.posted f).0 in
    subst (λ (x : Matching). Numbered b x) (sym (is w refl)) (record {
      pairs_apart = pairs_push (record { recv = w; message = a }) m.pairs n.pairs_apart (λ x l s. n.gone x w l here s);
      apart = apart_without t m.posted n.apart;
      posted_below = λ v h. n.posted_below v (without_member t v m.posted h);
      pairs_below = λ p h. elim (member-append_cases p m.pairs _ h) [
        | inl k ↦ n.pairs_below p k
        | inr k ↦ elim k [ inl s ↦ subst (λ (x : Pair). x.recv.id.0 < b) s (n.posted_below w here) | inr never ↦ elim never [ ] ]
      ];
      gone = λ p v h k e. elim (member-append_cases p m.pairs _ h) [
        | inl l ↦ n.gone p v l (without_member t v m.posted k) e
        | inr l ↦ elim l [
          | inl s ↦ lacks_member w.id.0 v (without_first t m.posted) (first_lacks t w m.posted n.apart f) k (sym e ∙ sym (ap (λ (x : Pair). x.recv.id.0) s))
          | inr never ↦ elim never [ ]
        ]
      ];
      once = λ p q h k e. pair_once m.pairs (record { recv = w; message = a }) n.once (λ x l s. n.gone x w l here s) p q h k e;
    })

-- a posted receive is at the bound, and other events leave it
abbrev pub EventNumber : ℕ → ℕ → Event → Type 0
EventNumber b c (Post w) = (b ≤ w.id.0) × (w.id.0 < c)
EventNumber b c (Arrive a) = b ≤ c
EventNumber b c (Cancel n) = b ≤ c
EventNumber b c (Forget l) = b ≤ c

-- what an arrival that meets a receive leaves
arrived_is : (m : Matching) (a : Arrived) (o : Option PostedRecv) (w : PostedRecv) → o ≡ Some w
    → after_arrive m a o ≡ record { posted = without_first (λ w. accepts w a) m.posted; arrived = m.arrived; pairs = m.pairs ++ record { recv = w; message = a } ∷ [] }
unfolding after_arrive
arrived_is m a o w h = rw h

-- each event keeps the numbers apart
step_numbered : (b c : ℕ) (m : Matching) (e : Event) → EventNumber b c e → Numbered b m → Numbered c (after m e)
unfolding after
step_numbered b c m (Post w) h n = posted_numbered b c m w (find (accepts w) m.arrived) h.0 h.1 n
step_numbered b c m (Arrive a) h n =
    numbered_more b c _ h (arrived_numbered b m a (λ w. accepts w a) (find (λ w. accepts w a) m.posted) refl n (arrived_is m a (find (λ w. accepts w a) m.posted)))
step_numbered b c m (Cancel number) h n =
    numbered_more b c _ h (record {
      pairs_apart = n.pairs_apart;
      apart = apart_without _ m.posted n.apart;
      posted_below = λ v k. n.posted_below v (without_member _ v m.posted k);
      pairs_below = n.pairs_below;
      gone = λ p v k l e. n.gone p v k (without_member _ v m.posted l) e;
      once = n.once;
    })
step_numbered b c m (Forget l) h n =
    numbered_more b c _ h (record {
      pairs_apart = n.pairs_apart;
      apart = apart_filter _ m.posted n.apart;
      posted_below = λ v k. n.posted_below v (member-filter _ v m.posted k).0;
      pairs_below = n.pairs_below;
      gone = λ p v k l e. n.gone p v k (member-filter _ v m.posted l).0 e;
      once = n.once;
    })

-- an event that is no receive keeps the bound, and a receive is at it
pub run_numbered : (b : ℕ) (m : Matching) (es : List Event) → ((e : Event) → Member e es → EventNumber b b e) → Numbered b m → Numbered b (run m es)
unfolding run
run_numbered b m [] h n = n
run_numbered b m (e ∷ es) h n = run_numbered b (after m e) es (λ x k. h x (inr k)) (step_numbered b b m e (h e (inl refl)) n)

-- one event keeps them apart, up to its bound
pub run_post : (b c : ℕ) (m : Matching) (e : Event) → EventNumber b c e → Numbered b m → Numbered c (run m (e ∷ []))
unfolding run
run_post b c m e h n = step_numbered b c m e h n

-- a deed accepts one receive at most
received_count : (rs : List Receive) (before : List Deed) (d : Deed) → length rs ≤ length (with_received before d rs)
unfolding with_received
received_count rs before d = let e = length-append rs (received_by rs before d) in omega arith

-- events that bring no receive keep the numbers apart
others_numbered : (b c : ℕ) (m : Matching) (es : List Event) → b ≤ c → ((e : Event) → Member e es → EventNumber b b e) → Numbered b m → Numbered c (run m es)
others_numbered b c m es le h n = numbered_more b c _ le (run_numbered b m es h n)

-- the events of a deed keep them apart, below the count of receives
events_numbered : (first : ℕ) (heads : Heads) (d : Deed) (before : List Deed) (m : Matching) → Numbered (length (receives before)) m
    → Numbered (length (with_received before d (receives before))) (run m (events_by first heads before d))
unfolding events_by run with_received received_by
events_numbered first heads (Did (Recv req)) before m n =
    let e = length-append (receives before) (receive (length (receives before)) before req ∷ []) in
    run_post _ _ m _ (omega arith, omega arith) n
events_numbered first heads (Did (CancelOp recv)) before m n =
    let e = append-nil (receives before) in
    rw e (run_post _ _ m _ (omega arith) n)
events_numbered first heads (Did (Insert life)) before m n =
    let b = length (receives before) in
    rw append-nil (others_numbered b b m (map Forget (forgotten_by before (Did (Insert life)))) (omega arith)
    (λ x h. let r = member-map Forget x _ h in let le : b ≤ b = omega arith in subst (EventNumber b b) r.2 le) n)
events_numbered first heads (Took from item) before m n =
    let b = length (receives before) in
    rw append-nil (others_numbered b b m (map (arrival heads from) (entering first (Took from item) before from)) (omega arith)
    (λ x h. let r = member-map (arrival heads from) x _ h in let le : b ≤ b = omega arith in subst (EventNumber b b) r.2 le) n)
events_numbered first heads _ before m n = rw append-nil n

-- each receive is posted once and paired once
pub matching_numbered : (first : ℕ) (heads : Heads) (log : List Deed) → Numbered (length (receives log)) (matching first heads log)
unfolding matching receives
matching_numbered first heads [] =
    record { pairs_apart = tt; apart = tt; posted_below = λ w h. elim h [ ]; pairs_below = λ p h. elim h [ ]; gone = λ p w h k e. elim h [ ]; once = λ p q h k e. elim h [ ] }
matching_numbered first heads (d ∷ before) = events_numbered first heads d before (matching first heads before) (matching_numbered first heads before)
