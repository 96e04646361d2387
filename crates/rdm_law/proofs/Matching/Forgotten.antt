-- Of a life that was forgotten nothing waits: no message of it, no receive that names it, and no new pair is made of it.
use Rattle.std.proofs.Common.{◌≡◌, ℕ, true, not, List, [], ◌∷◌, map, Option, Some, None, refl, inl, inr, sym, ◌∙◌, ap, subst}
use Rattle.std.specs.Prelude.{find}
use Rattle.std.specs.List.{list_any}
use Rattle.std.proofs.lemmas.Bool.{or_cases, not-true}
use Rattle.rdm_lists.specs.Lists.{Member}
use Rattle.rdm_num.specs.Lives.{same_life, is_life}
use Rattle.rdm_num.specs.declared.numbers.PortNo.{PortNo}
use Rattle.rdm_num.specs.declared.numbers.Life.{Life}
use Rattle.rdm_match.specs.declared.PostedRecv.{PostedRecv}
use Rattle.rdm_match.specs.declared.Arrived.{Arrived}
use Rattle.rdm_match.specs.Matcher.{Event, Post, Arrive, Cancel, Forget, Pair, Matching, accepts, after_post, after_arrive, after, run, is_recv}
use Rattle.rdm_model.specs.declared.job.Instr.TheVariants.{Recv, Cancel as CancelOp, Insert}
use Rattle.rdm_model.specs.declared.answer.Class.TheVariants.{ToOther, FromOther}
use Rattle.rdm_model.specs.Deeds.{Deed, Did, Took, Item, is_connid}
use Rattle.rdm_model.specs.Beginnings.{Own, Heads}
use Rattle.rdm_model.specs.Currents.{current, is_current, forgotten_by, is_forgotten, named_life}
use Rattle.rdm_model.specs.Sources.{is_other}
use Rattle.rdm_model.specs.Classes.{item_class, item_class_by}
use Rattle.rdm_model.specs.Matches.{arrival, events_by, matching, pairs}
use Rattle.rdm_law.proofs.Lives.Lives.{LifeLocal, LifeStep, life_scene, first_none}
use Rattle.rdm_law.proofs.Lives.Held.{current_port}
use Rattle.rdm_law.proofs.Lives.Replaced.{forgotten_replaced, not_forgotten, forgets_now, life_at}
use Rattle.rdm_lists.proofs.Members.{member-append_cases, member-filter, member-map, find_member, without_member}
use Rattle.rdm_num.proofs.Lives.{same_life-true, same_life-refl}

-- no message of the life waits, and no receive that names it; its pairs are among those
pub record Rests (l : Life) (old : List Pair) (m : Matching) : Type 0 where
  pub arrived : (a : Arrived) → Member a m.arrived → a.life ≡ l → ⊥
  pub posted : (w : PostedRecv) → Member w m.posted → is_life w.from l ≡ true → ⊥
  pub paired : (p : Pair) → Member p m.pairs → p.message.life ≡ l → Member p old

-- the event brings no message of the life, and no receive that names it
abbrev LeavesOut : Life → Event → Type 0
LeavesOut l (Post r) = is_life r.from l ≡ true → ⊥
LeavesOut l (Arrive a) = a.life ≡ l → ⊥
LeavesOut l (Cancel n) = Unit {0}
LeavesOut l (Forget k) = Unit {0}

-- a post of another receive
post_rests : (l : Life) (old : List Pair) (m : Matching) (r : PostedRecv) (o : Option Arrived) → ((a : Arrived) → o ≡ Some a → Member a m.arrived)
    → (is_life r.from l ≡ true → ⊥) → Rests l old m → Rests l old (after_post m r o)
unfolding after_post
post_rests l old m r None found out q =
    record {
      arrived = q.arrived;
      posted = λ w h is. elim (member-append_cases w m.posted (r ∷ []) h) [
        | inl k ↦ q.posted w k is
        | inr k ↦ elim k [ inl e ↦ out (subst (λ (x : PostedRecv). is_life x.from l ≡ true) (sym e) is) | inr never ↦ elim never [ ] ]
      ];
      paired = q.paired;
    }
post_rests l old m r (Some a) found out q =
    record {
      arrived = λ b h is. q.arrived b (without_member (accepts r) b m.arrived h) is;
      posted = q.posted;
      paired = λ p h is. elim (member-append_cases p m.pairs _ h) [
        | inl k ↦ q.paired p k is
        | inr k ↦ elim k [ inl e ↦ absurd (q.arrived a (found a refl) (ap (λ (x : Pair). x.message.life) e ∙ is)) | inr never ↦ elim never [ ] ]
      ];
    }

-- an arrival of another life
arrive_rests : (l : Life) (old : List Pair) (m : Matching) (a : Arrived) (o : Option PostedRecv) → (a.life ≡ l → ⊥) → Rests l old m → Rests l old (after_arrive m a o)
unfolding after_arrive
arrive_rests l old m a None out q =
    record {
      arrived = λ b h is. elim (member-append_cases b m.arrived (a ∷ []) h) [
        | inl k ↦ q.arrived b k is
        | inr k ↦ elim k [ inl e ↦ out (ap (λ (x : Arrived). x.life) e ∙ is) | inr never ↦ elim never [ ] ]
      ];
      posted = q.posted;
      paired = q.paired;
    }
arrive_rests l old m a (Some r) out q =
    record {
      arrived = q.arrived;
      posted = λ w h is. q.posted w (without_member (λ x. accepts x a) w m.posted h) is;
      paired = λ p h is. elim (member-append_cases p m.pairs _ h) [
        | inl k ↦ q.paired p k is
        | inr k ↦ elim k [ inl e ↦ absurd (out (ap (λ (x : Pair). x.message.life) e ∙ is)) | inr never ↦ elim never [ ] ]
      ];
    }

-- so each event that leaves the life out
after_rests : (l : Life) (old : List Pair) (m : Matching) (e : Event) → LeavesOut l e → Rests l old m → Rests l old (after m e)
unfolding after
after_rests l old m (Post r) out q = post_rests l old m r (find (accepts r) m.arrived) (λ a h. (find_member (accepts r) a m.arrived h).0) out q
after_rests l old m (Arrive a) out q = arrive_rests l old m a (find (λ r. accepts r a) m.posted) out q
after_rests l old m (Cancel n) out q = record { arrived = q.arrived; posted = λ w h is. q.posted w (without_member (is_recv n) w m.posted h) is; paired = q.paired }
after_rests l old m (Forget k) out q =
    record {
      arrived = λ a h is. q.arrived a (member-filter _ a m.arrived h).0 is;
      posted = λ w h is. q.posted w (member-filter _ w m.posted h).0 is;
      paired = q.paired;
    }

-- and events in order
run_rests : (l : Life) (old : List Pair) (es : List Event) (m : Matching) → ((e : Event) → Member e es → LeavesOut l e) → Rests l old m → Rests l old (run m es)
unfolding run
run_rests l old [] m out q = q
run_rests l old (e ∷ es) m out q = run_rests l old es (after m e) (λ x h. out x (inr h)) (after_rests l old m e (out e (inl refl)) q)

-- a life that is forgotten loses what waits of it
forget_rests : (l k : Life) (m : Matching) → same_life l k ≡ true → Rests l m.pairs (after m (Forget k))
unfolding after
forget_rests l k m same =
    let e : l ≡ k = same_life-true l k same in
    record {
      arrived = λ a h is. (
          let t = member-filter (λ (x : Arrived). not (same_life x.life k)) a m.arrived h in
          let n = not-true (same_life a.life k) t.1 in
          let s : same_life a.life k ≡ true = subst (λ (x : Life). same_life x k ≡ true) (sym (is ∙ e)) (same_life-refl k) in
          cc);
      posted = λ w h is. (
          let t = member-filter (λ (x : PostedRecv). not (is_life x.from k)) w m.posted h in
          let n = not-true (is_life w.from k) t.1 in
          let s : is_life w.from k ≡ true = subst (λ (x : Life). is_life w.from x ≡ true) e is in
          cc);
      paired = λ p h is. h;
    }

-- to forget brings nothing
forgets_out : (l : Life) (ls : List Life) (e : Event) → Member e (map Forget ls) → LeavesOut l e
forgets_out l ls e h = let r = member-map Forget e ls h in subst (LeavesOut l) r.2 tt

-- so it is where one of the lives that are forgotten is that one
forgets_rest : (l : Life) (ls : List Life) (m : Matching) → list_any (same_life l) ls ≡ true → Rests l m.pairs (run m (map Forget ls))
unfolding run after
forgets_rest l [] m h = cc
forgets_rest l (k ∷ ks) m h =
    elim (or_cases (same_life l k) (list_any (same_life l) ks) h) [
      | inl a ↦ run_rests l m.pairs (map Forget ks) (after m (Forget k)) (forgets_out l ks) (forget_rests l k m a)
      | inr a ↦ forgets_rest l ks (after m (Forget k)) a
    ]

-- a datagram that a life takes is not of one that it forgot
pub took_kept : (own : Own) (before : List Deed) (from l : Life) (item : Item) → LifeLocal own (Took from item ∷ before) → is_forgotten before l ≡ true → from ≡ l → ⊥
unfolding item_class_by
took_kept own before from l item local forgotten is =
    let step : LifeStep own before (Took from item) = local.1 in
    let s = life_scene step.0 own step.1 before in
    let a = first_none (not (is_connid s.now own.life.connid)) ToOther _ step.2 in
    let b = first_none (is_other (current s.log from.port.0) from) FromOther _ a.1 in
    let kept = not_forgotten own before from local.0 b.0 in
    let f : is_forgotten before from ≡ true = subst (λ (x : Life). is_forgotten before x ≡ true) (sym is) forgotten in
    cc

-- a life that is there
life_there : (o : Option Life) (l : Life) → is_life o l ≡ true → o ≡ Some l
unfolding is_life
life_there None l h = cc
life_there (Some a) l h = ap Some (same_life-true a l h)

-- the life itself
life_self : (l : Life) → is_life (Some l) l ≡ true
unfolding is_life
life_self l = same_life-refl l

-- a receive that a life posts names none that it forgot
names_kept : (own : Own) (before : List Deed) (l : Life) (from : Option PortNo) → LifeLocal own before → is_forgotten before l ≡ true → is_life (named_life before from) l ≡ true → ⊥
unfolding named_life
names_kept own before l None local forgotten h = let n = life_there None l h in cc
names_kept own before l (Some port) local forgotten h =
    let r = forgotten_replaced own before l local forgotten in
    let c : current before port.0 ≡ Some l = life_there (current before port.0) l h in
    let p : l.port.0 ≡ port.0 = current_port before port.0 l c in
    let d : current before l.port.0 ≡ Some l = ap (λ (n : ℕ). current before n) p ∙ c in
    let now : is_current before l ≡ true = life_at before l (Some l) d ∙ life_self l in
    let not_now = r.not_now in
    cc

-- the events of a deed leave out a life that was forgotten before
deed_out : (own : Own) (first : ℕ) (heads : Heads) (d : Deed) (before : List Deed) (l : Life) → LifeLocal own (d ∷ before) → is_forgotten before l ≡ true
    → (e : Event) → Member e (events_by first heads before d) → LeavesOut l e
unfolding events_by
deed_out own first heads (Did (Recv req)) before l local forgotten e (inl is) = subst (LeavesOut l) is (names_kept own before l req.from local.0 forgotten)
deed_out own first heads (Did (Recv req)) before l local forgotten e (inr never) = elim never [ ]
deed_out own first heads (Did (CancelOp recv)) before l local forgotten e (inl is) = subst (LeavesOut l) is tt
deed_out own first heads (Did (CancelOp recv)) before l local forgotten e (inr never) = elim never [ ]
deed_out own first heads (Did (Insert k)) before l local forgotten e h = forgets_out l (forgotten_by before (Did (Insert k))) e h
deed_out own first heads (Took from item) before l local forgotten e h =
    let r = member-map (arrival heads from) e _ h in subst (LeavesOut l) r.2 (took_kept own before from l item local forgotten)
deed_out own first heads _ before l local forgotten e h = elim h [ ]

-- the matcher after an insert
after_insert : (first : ℕ) (heads : Heads) (k : Life) (before : List Deed)
    → matching first heads (Did (Insert k) ∷ before) ≡ run (matching first heads before) (map Forget (forgotten_by before (Did (Insert k))))
unfolding matching events_by
after_insert first heads k before = refl

-- what rests, with all its pairs
rests_all : (l : Life) (old : List Pair) (m : Matching) → Rests l old m → Rests l m.pairs m
rests_all l old m q = record { arrived = q.arrived; posted = q.posted; paired = λ p h is. h }

-- of a life that was forgotten nothing waits
pub forgotten_rests : (own : Own) (first : ℕ) (heads : Heads) (log : List Deed) (l : Life) → LifeLocal own log → is_forgotten log l ≡ true → Rests l (pairs first heads log) (matching first heads log)
unfolding is_forgotten matching
forgotten_rests own first heads [] l local h = cc
forgotten_rests own first heads (d ∷ before) l local h =
    elim (or_cases (is_forgotten before l) (list_any (same_life l) (forgotten_by before d)) h) [
      | inl a ↦
          rests_all l (pairs first heads before) (matching first heads (d ∷ before))
          (run_rests l (pairs first heads before) (events_by first heads before d) (matching first heads before) (deed_out own first heads d before l local a)
          (forgotten_rests own first heads before l local.0 a))
      | inr a ↦ (
          let f = forgets_now before d l a in
          let P : Deed → Type 0 = λ x. list_any (same_life l) (forgotten_by before x) ≡ true in
          let now = forgets_rest l (forgotten_by before (Did (Insert f.0))) (matching first heads before) (subst P f.1 a) in
          let Q : Matching → Type 0 = λ x. Rests l (pairs first heads before) x in
          let done = subst Q (sym (after_insert first heads f.0 before)) now in
          rests_all l (pairs first heads before) (matching first heads (d ∷ before)) (subst (λ (x : Deed). Q (matching first heads (x ∷ before))) (sym f.1) done))
    ]

-- a pair of a life that was forgotten was made before
pub old_pair : (own : Own) (first : ℕ) (heads : Heads) (d : Deed) (before : List Deed) (p : Pair) → LifeLocal own (d ∷ before) → is_forgotten before p.message.life ≡ true
    → Member p (pairs first heads (d ∷ before)) → Member p (pairs first heads before)
unfolding matching
old_pair own first heads d before p local forgotten h =
    (run_rests p.message.life (pairs first heads before) (events_by first heads before d) (matching first heads before) (deed_out own first heads d before p.message.life local forgotten)
    (forgotten_rests own first heads before p.message.life local.0 forgotten)).paired p h refl
