-- Each message meets one receive at most.
use Rattle.std.proofs.Common.{◌≡◌, ℕ, ◌+◌, ◌-◌, true, List, [], ◌∷◌, ◌++◌, map, length, Option, Some, None, refl, ◌⊎◌, inl, inr, sym, ◌∙◌, ap, subst}
use Rattle.std.specs.Prelude.{find, nat_le}
use Rattle.std.proofs.lemmas.Bool.{and_parts, and_from, not-true}
use Rattle.rdm_lists.specs.Lists.{Member, each_below, without_first, below}
use Rattle.rdm_num.specs.declared.numbers.Life.{Life}
use Rattle.rdm_match.specs.declared.PostedRecv.{PostedRecv}
use Rattle.rdm_match.specs.declared.Arrived.{Arrived}
use Rattle.rdm_match.specs.Matcher.{Post, Cancel, Forget, Pair, Matching, accepts, after_post, after_arrive, after, run}
use Rattle.rdm_model.specs.declared.job.Instr.TheVariants.{Insert, Recv, Cancel as CancelOp}
use Rattle.rdm_model.specs.Deeds.{Deed, Did, Took}
use Rattle.rdm_model.specs.Beginnings.{Heads}
use Rattle.rdm_model.specs.Currents.{forgotten_by}
use Rattle.rdm_model.specs.Heard.{heard_head, is_heard, heard_below, has_entered, entering}
use Rattle.rdm_model.specs.Matches.{arrival, events_by, matching}
use Rattle.rdm_model.proofs.Matches.{heard_still, entering_parts}
use Rattle.rdm_law.proofs.Matching.Others.{AllOther, other_member, all_push, all_filter, all_without, first_other, NumbersApart, lacks_number, below_apart, apart_filter, numbers_apart}
use Rattle.rdm_lists.proofs.Members.{member-append_cases, member-filter, find_member, without_member}
use Rattle.rdm_lists.proofs.Options.{some_of, is_some_from}
use Rattle.rdm_lists.proofs.Below.{each_below_more}

-- a set of messages, by sender and number
abbrev pub Known : Type 1
Known = Life → ℕ → Type 0

-- messages that wait and those that were paired are of the set, each of them once
pub record Distinct (K : Known) (m : Matching) : Type 0 where
  pub apart : AllOther m.arrived
  pub waiting_known : (a : Arrived) → Member a m.arrived → K a.life a.no.0
  pub pairs_known : (p : Pair) → Member p m.pairs → K p.message.life p.message.no.0
  pub gone : (p : Pair) (a : Arrived) → Member p m.pairs → Member a m.arrived → p.message.life ≡ a.life → p.message.no.0 ≡ a.no.0 → ⊥
  pub once : (p q : Pair) → Member p m.pairs → Member q m.pairs → p.message.life ≡ q.message.life → p.message.no.0 ≡ q.message.no.0 → p ≡ q

-- pairs of one message stay one pair, with a new pair of another message
pair_once : (ps : List Pair) (new : Pair) → ((p q : Pair) → Member p ps → Member q ps → p.message.life ≡ q.message.life → p.message.no.0 ≡ q.message.no.0 → p ≡ q)
    → ((p : Pair) → Member p ps → p.message.life ≡ new.message.life → p.message.no.0 ≡ new.message.no.0 → ⊥)
    → (p q : Pair) → Member p (ps ++ new ∷ []) → Member q (ps ++ new ∷ []) → p.message.life ≡ q.message.life → p.message.no.0 ≡ q.message.no.0 → p ≡ q
pair_once ps new once other p q h k s n =
    elim (member-append_cases p ps _ h) [
      | inl a ↦ elim (member-append_cases q ps _ k) [
        | inl b ↦ once p q a b s n
        | inr b ↦ elim b [ inl is ↦ absurd (other p a (s ∙ sym (ap (λ (x : Pair). x.message.life) is)) (n ∙ sym (ap (λ (x : Pair). x.message.no.0) is))) | inr never ↦ elim never [ ] ]
      ]
      | inr a ↦ elim a [
        | inl r ↦ elim (member-append_cases q ps _ k) [
          | inl b ↦ absurd (other q b (sym s ∙ sym (ap (λ (x : Pair). x.message.life) r)) (sym n ∙ sym (ap (λ (x : Pair). x.message.no.0) r)))
          | inr b ↦ elim b [ inl is ↦ sym r ∙ is | inr never ↦ elim never [ ] ]
        ]
        | inr never ↦ elim never [ ]
      ]
    ]

-- a message of the set, by equal names
known_at : (K : Known) (l k : Life) (n o : ℕ) → l ≡ k → n ≡ o → K l n → K k o
known_at K l k n o e f h = let P : ℕ → Type 0 = λ x. K k x in let Q : Life → Type 0 = λ x. K x n in subst P f (subst Q e h)

-- a post takes a message that waits
posted_distinct : (K : Known) (m : Matching) (w : PostedRecv) (o : Option Arrived) → find (accepts w) m.arrived ≡ o → Distinct K m → Distinct K (after_post m w o)
unfolding after_post
posted_distinct K m w None f d = record { apart = d.apart; waiting_known = d.waiting_known; pairs_known = d.pairs_known; gone = d.gone; once = d.once }
posted_distinct K m w (Some a) f d =
    let here : Member a m.arrived = (find_member (accepts w) a m.arrived f).0 in
    record {
      apart = all_without (accepts w) m.arrived d.apart;
      waiting_known = λ b h. d.waiting_known b (without_member (accepts w) b m.arrived h);
      pairs_known = λ p h. elim (member-append_cases p m.pairs _ h) [
        | inl k ↦ d.pairs_known p k
        | inr k ↦ elim k [ inl is ↦ subst (λ (x : Pair). K x.message.life x.message.no.0) is (d.waiting_known a here) | inr never ↦ elim never [ ] ]
      ];
      gone = λ p b h k s n. elim (member-append_cases p m.pairs _ h) [
        | inl l ↦ d.gone p b l (without_member (accepts w) b m.arrived k) s n
        | inr l ↦ elim l [
          | inl is ↦ other_member a b (without_first (accepts w) m.arrived) (first_other (accepts w) a m.arrived d.apart f) k
              (sym s ∙ sym (ap (λ (x : Pair). x.message.life) is)) (sym n ∙ sym (ap (λ (x : Pair). x.message.no.0) is))
          | inr never ↦ elim never [ ]
        ]
      ];
      once = λ p q h k s n. pair_once m.pairs (record { recv = w; message = a }) d.once (λ x l s n. d.gone x a l here s n) p q h k s n;
    }

-- an arrival brings a message that is new
arrived_distinct : (K L : Known) (m : Matching) (a : Arrived) (o : Option PostedRecv) → (K a.life a.no.0 → ⊥) → L a.life a.no.0 → ((l : Life) (n : ℕ) → K l n → L l n)
    → Distinct K m → Distinct L (after_arrive m a o)
unfolding after_arrive
arrived_distinct K L m a None new known more d =
    record {
      apart = all_push a m.arrived d.apart (λ b h s n. new (known_at K b.life a.life b.no.0 a.no.0 s n (d.waiting_known b h)));
      waiting_known = λ b h. elim (member-append_cases b m.arrived _ h) [
        | inl k ↦ more b.life b.no.0 (d.waiting_known b k)
        | inr k ↦ elim k [ inl is ↦ subst (λ (x : Arrived). L x.life x.no.0) is known | inr never ↦ elim never [ ] ]
      ];
      pairs_known = λ p h. more p.message.life p.message.no.0 (d.pairs_known p h);
      gone = λ p b h k s n. elim (member-append_cases b m.arrived _ k) [
        | inl l ↦ d.gone p b h l s n
        | inr l ↦ elim l [
          | inl is ↦ new (known_at K p.message.life a.life p.message.no.0 a.no.0 (s ∙ sym (ap (λ (x : Arrived). x.life) is)) (n ∙ sym (ap (λ (x : Arrived). x.no.0) is)) (d.pairs_known p h))
          | inr never ↦ elim never [ ]
        ]
      ];
      once = d.once;
    }
arrived_distinct K L m a (Some w) new known more d =
    record {
      apart = d.apart;
      waiting_known = λ b h. more b.life b.no.0 (d.waiting_known b h);
      pairs_known = λ p h. elim (member-append_cases p m.pairs _ h) [
        | inl k ↦ more p.message.life p.message.no.0 (d.pairs_known p k)
        | inr k ↦ elim k [ inl is ↦ subst (λ (x : Pair). L x.message.life x.message.no.0) is known | inr never ↦ elim never [ ] ]
      ];
      gone = λ p b h k s n. elim (member-append_cases p m.pairs _ h) [
        | inl l ↦ d.gone p b l k s n
        | inr l ↦ elim l [
          | inl is ↦ new (known_at K b.life a.life b.no.0 a.no.0 (sym s ∙ sym (ap (λ (x : Pair). x.message.life) is)) (sym n ∙ sym (ap (λ (x : Pair). x.message.no.0) is)) (d.waiting_known b k))
          | inr never ↦ elim never [ ]
        ]
      ];
      once = λ p q h k s n. pair_once m.pairs (record { recv = w; message = a }) d.once (λ x l s n. new (known_at K x.message.life a.life x.message.no.0 a.no.0 s n (d.pairs_known x l))) p q h k s n;
    }

-- a greater set holds too
distinct_more : (K L : Known) (m : Matching) → ((l : Life) (n : ℕ) → K l n → L l n) → Distinct K m → Distinct L m
distinct_more K L m more d =
    record {
      apart = d.apart;
      waiting_known = λ a h. more a.life a.no.0 (d.waiting_known a h);
      pairs_known = λ p h. more p.message.life p.message.no.0 (d.pairs_known p h);
      gone = d.gone;
      once = d.once;
    }

-- the same of a run of one post
post_distinct : (K : Known) (m : Matching) (w : PostedRecv) → Distinct K m → Distinct K (run m (Post w ∷ []))
unfolding run after
post_distinct K m w d = posted_distinct K m w (find (accepts w) m.arrived) refl d

-- a cancel takes no message
withdraw_distinct : (K : Known) (m : Matching) (n : ℕ) → Distinct K m → Distinct K (run m (Cancel n ∷ []))
unfolding run after
withdraw_distinct K m n d = record { apart = d.apart; waiting_known = d.waiting_known; pairs_known = d.pairs_known; gone = d.gone; once = d.once }

-- forgotten lives lose the messages that wait
forgets_distinct : (K : Known) (lives : List Life) (m : Matching) → Distinct K m → Distinct K (run m (map Forget lives))
unfolding run after
forgets_distinct K [] m d = d
forgets_distinct K (l ∷ ls) m d =
    forgets_distinct K ls (after m (Forget l)) (record {
      apart = all_filter _ m.arrived d.apart;
      waiting_known = λ a h. d.waiting_known a (member-filter _ a m.arrived h).0;
      pairs_known = d.pairs_known;
      gone = λ p a h k s n. d.gone p a h (member-filter _ a m.arrived k).0 s n;
      once = d.once;
    })

-- the numbers that enter by a deed are apart
entering_apart : (first : ℕ) (d : Deed) (before : List Deed) (source : Life) → NumbersApart (entering first d before source)
unfolding entering
entering_apart first d before source =
    apart_filter _ (map (λ k. first + k) (below (length (d ∷ before)))) (numbers_apart first (below (length (d ∷ before))) (below_apart (length (d ∷ before))))

-- the set and one message more
abbrev with_number : Known → Life → ℕ → Known
with_number K source k l n = K l n ⊎ ((l ≡ source) × (n ≡ k))

-- messages that arrive in order and are new keep each message once
arrivals_distinct : (L : Known) (heads : Heads) (source : Life) (ks : List ℕ) (K : Known) (m : Matching) → ((l : Life) (n : ℕ) → K l n → L l n)
    → ((k : ℕ) → Member k ks → L source k) → ((k : ℕ) → Member k ks → K source k → ⊥) → NumbersApart ks → Distinct K m → Distinct L (run m (map (arrival heads source) ks))
unfolding run after
arrivals_distinct L heads source [] K m sub known new apart d = distinct_more K L m sub d
arrivals_distinct L heads source (k ∷ ks) K m sub known new apart d =
    arrivals_distinct L heads source ks (with_number K source k) _
    (λ l n h. elim h [ inl a ↦ sub l n a | inr a ↦ known_at L source l k n (sym a.0) (sym a.1) (known k (inl refl)) ])
    (λ j h. known j (inr h))
    (λ j h is. elim is [ inl a ↦ new j (inr h) a | inr a ↦ lacks_number k j ks apart.0 h a.1 ])
    apart.1
    (arrived_distinct K (with_number K source k) m (record { life = source; no = record { 0 = k }; tag = (heads source k).tag }) _ (new k (inl refl)) (inr (refl, refl)) (λ l n h. inl h) d)

-- the message entered
abbrev pub Entered : (first : ℕ) → List Deed → Known
Entered first log source number = has_entered first log source number ≡ true

-- what is heard of stays so
pub is_heard_still : (d : Deed) (before : List Deed) (source : Life) (n : ℕ) → is_heard before source n ≡ true → is_heard (d ∷ before) source n ≡ true
unfolding is_heard
is_heard_still d before source n h =
    let r = some_of (heard_head before source n) h in is_some_from _ r.0 (heard_still d before source n r.0 r.1)

-- a message that entered stays so
pub entered_still : (first : ℕ) (d : Deed) (before : List Deed) (source : Life) (n : ℕ) → Entered first before source n → Entered first (d ∷ before) source n
unfolding has_entered heard_below
entered_still first d before source n h =
    let a = and_parts _ (is_heard before source n) h in
    let b = and_parts (nat_le first n) (each_below (λ k. is_heard before source (first + k)) (n - first)) a.0 in
    and_from _ _ (and_from _ _ b.0 (each_below_more (λ k. is_heard before source (first + k)) (λ k. is_heard (d ∷ before) source (first + k)) (n - first)
    (λ k i. is_heard_still d before source (first + k) i) b.1)) (is_heard_still d before source n a.1)

-- the events of a deed keep each message once
events_distinct : (first : ℕ) (heads : Heads) (d : Deed) (before : List Deed) (m : Matching) → Distinct (Entered first before) m
    → Distinct (Entered first (d ∷ before)) (run m (events_by first heads before d))
unfolding events_by run
events_distinct first heads (Took from item) before m x =
    let parts = entering_parts first (Took from item) before from in
    arrivals_distinct (Entered first (Took from item ∷ before)) heads from (entering first (Took from item) before from) (Entered first before) m (entered_still first (Took from item) before)
    (λ k h. (parts k h).0)
    (λ k h is. let n = not-true _ (parts k h).1 in cc)
    (entering_apart first (Took from item) before from) x
events_distinct first heads (Did (Recv req)) before m x = distinct_more _ _ _ (entered_still first (Did (Recv req)) before) (post_distinct (Entered first before) m _ x)
events_distinct first heads (Did (CancelOp recv)) before m x = distinct_more _ _ _ (entered_still first (Did (CancelOp recv)) before) (withdraw_distinct (Entered first before) m recv.0 x)
events_distinct first heads (Did (Insert l)) before m x = distinct_more _ _ _ (entered_still first (Did (Insert l)) before) (forgets_distinct (Entered first before) (forgotten_by before (Did (Insert l))) m x)
events_distinct first heads d before m x = distinct_more _ _ _ (entered_still first d before) x

-- each message meets one receive at most
pub matching_distinct : (first : ℕ) (heads : Heads) (log : List Deed) → Distinct (Entered first log) (matching first heads log)
unfolding matching
matching_distinct first heads [] =
    record { apart = tt; waiting_known = λ a h. elim h [ ]; pairs_known = λ p h. elim h [ ]; gone = λ p a h k s n. elim h [ ]; once = λ p q h k s n. elim h [ ] }
matching_distinct first heads (d ∷ before) = events_distinct first heads d before (matching first heads before) (matching_distinct first heads before)
