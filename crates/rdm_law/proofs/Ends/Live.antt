-- A paired receive is live until its message came whole or its life is forgotten.
use Rattle.std.proofs.Common.{◌≡◌, ℕ, ◌<◌, Bool, true, false, cond, ◌&&◌, not, List, [], ◌∷◌, length, Option, Some, None, refl, arith, inl, inr, sym, ◌∙◌, ap, subst}
use Rattle.std.specs.Prelude.{◌==◌, find}
use Rattle.std.specs.List.{list_any}
use Rattle.std.proofs.lemmas.Bool.{eqb-true, eq-eqb, and_parts, and_from, or_cases}
use Rattle.rdm_lists.specs.Lists.{Member, without_first, first_case}
use Rattle.rdm_num.specs.Lives.{is_life, is_life_or_none, same_life}
use Rattle.rdm_num.specs.declared.numbers.Life.{Life}
use Rattle.rdm_num.specs.declared.numbers.RecvNo.{RecvNo}
use Rattle.rdm_match.specs.declared.PostedRecv.{PostedRecv}
use Rattle.rdm_match.specs.declared.Arrived.{Arrived}
use Rattle.rdm_match.specs.Matcher.{Cancel as CancelEvent, Pair, Matching, accepts, after, run, is_recv, tags_agree}
use Rattle.rdm_model.specs.declared.job.Instr.TheVariants.{Cancel}
use Rattle.rdm_model.specs.declared.answer.DidWhat.{DidWhat}
use Rattle.rdm_model.specs.declared.answer.DidWhat.TheVariants.{Plain}
use Rattle.rdm_model.specs.declared.answer.Why.TheVariants.{NotPosted}
use Rattle.rdm_model.specs.declared.answer.Next.TheVariants.{Did as DidAnswer, Refused}
use Rattle.rdm_model.specs.Deeds.{Deed, Did}
use Rattle.rdm_model.specs.Beginnings.{Own, Heads}
use Rattle.rdm_model.specs.Currents.{is_forgotten}
use Rattle.rdm_model.specs.Matches.{Receive, receives, events_by, matching, pairs}
use Rattle.rdm_model.specs.Receives.{has_ended, is_filled, concerns, recv_ends}
use Rattle.rdm_model.specs.Scenes.{Scene}
use Rattle.rdm_model.specs.Targets.{live_pair}
use Rattle.rdm_model.specs.Facts.{is_unmatched}
use Rattle.rdm_model.specs.Answers.{answer_of, answer_by}
use Rattle.rdm_model.specs.Local.{heard_by}
use Rattle.rdm_model.proofs.SameMatches.{matching_same}
use Rattle.rdm_model.proofs.Grows.{agree_grows}
use Rattle.rdm_law.proofs.Lives.Lives.{LifeLocal, LifeStep, life_scene}
use Rattle.rdm_law.proofs.Matching.Numbered.{Numbered, matching_numbered, lacks_member, first_lacks}
use Rattle.rdm_law.proofs.Matching.Received.{posted_accepted, receive_stands, receive_once}
use Rattle.rdm_law.proofs.Matching.Accepts.{pair_accepts, Absent, absent_still, receives_longer}
use Rattle.rdm_law.proofs.Ends.Ends.{ended_cases}
use Rattle.rdm_lists.proofs.Members.{list_any_member, find_member, member_find}
use Rattle.rdm_lists.proofs.Options.{some_of}
use Rattle.rdm_num.proofs.Lives.{same_life-true, same_life-refl}

-- what was posted and is taken back is neither posted nor paired
withdraws : (m : Matching) (bound n : ℕ) (r : PostedRecv) → Numbered bound m → find (is_recv n) m.posted ≡ Some r → Absent n (after m (CancelEvent n)) × (n < bound)
unfolding after is_recv
withdraws m bound n r numbered f =
    let found = find_member (is_recv n) r m.posted f in
    let e : r.id.0 ≡ n = eqb-true r.id.0 n found.1 in
    let lacks = first_lacks (is_recv n) r m.posted numbered.apart f in (
      record {
        not_posted = λ x h i. lacks_member r.id.0 x (without_first (is_recv n) m.posted) lacks h (i ∙ sym e);
        not_paired = λ p h i. numbered.gone p r h found.0 (i ∙ sym e);
      },
      subst (λ k. k < bound) e (numbered.posted_below r found.0),
    )

-- a cancel that did is of a posted receive
pub did_posted : (s : Scene) (recv : RecvNo) (what : DidWhat) → answer_of s (Cancel recv) ≡ DidAnswer what → is_unmatched s recv.0 ≡ true
unfolding answer_by first_case
did_posted s recv what h =
    (elim (is_unmatched s recv.0) as (λ b. cond (not b) (Refused NotPosted) (DidAnswer Plain) ≡ DidAnswer what → b ≡ true) [
      | true ↦ λ k. refl
      | false ↦ λ k. cc
    ]) h

-- a posted receive is found
pub posted_recv : (s : Scene) (n : ℕ) → is_unmatched s n ≡ true → (r : PostedRecv) × (find (is_recv n) (matching s.own.limits.first s.ms.head s.log).posted ≡ Some r)
unfolding is_unmatched
posted_recv s n h = some_of (find (is_recv n) (matching s.own.limits.first s.ms.head s.log).posted) h

-- what a cancel leaves
cancel_run : (first : ℕ) (heads : Heads) (recv : RecvNo) (before : List Deed) → matching first heads (Did (Cancel recv) ∷ before) ≡ after (matching first heads before) (CancelEvent recv.0)
unfolding matching events_by run
cancel_run first heads recv before = refl

-- the same of an equal matching
pub absent_at : (n : ℕ) (m k : Matching) → m ≡ k → Absent n m → Absent n k
absent_at n m k e a = subst (λ (x : Matching). Absent n x) e a

-- the matcher by what was heard before is that by what is heard now
pub earlier_matching : (first : ℕ) (d : Deed) (before : List Deed) → matching first (heard_by first before).head before ≡ matching first (heard_by first (d ∷ before)).head before
earlier_matching first d before = matching_same first (heard_by first before).head (heard_by first (d ∷ before)).head before (agree_grows first d before).heads

-- a receive that was taken back is neither posted nor paired
pub withdrawn_absent : (own : Own) (log : List Deed) (recv : RecvNo) → LifeLocal own log → Member (Did (Cancel recv)) log
    → Absent recv.0 (matching own.limits.first (heard_by own.limits.first log).head log) × (recv.0 < length (receives log))
withdrawn_absent own [] recv l h = elim h [ ]
withdrawn_absent own (d ∷ before) recv l (inl is) =
    let first = own.limits.first in
    let step : LifeStep own before (Did (Cancel recv)) = subst (λ (x : Deed). LifeStep own before x) is l.1 in
    let s = life_scene step.0 own step.1 before in
    let p = posted_recv s recv.0 (did_posted s recv step.2 step.3) in
    let heads = (heard_by first (d ∷ before)).head in
    let f : find (is_recv recv.0) (matching first heads before).posted ≡ Some p.0 = subst (λ (x : Matching). find (is_recv recv.0) x.posted ≡ Some p.0) (earlier_matching first d before) p.1 in
    let w = withdraws (matching first heads before) (length (receives before)) recv.0 p.0 (matching_numbered first heads before) f in
    let now : Absent recv.0 (matching first heads (Did (Cancel recv) ∷ before)) = absent_at recv.0 (after (matching first heads before) (CancelEvent recv.0)) (matching first heads (Did (Cancel recv) ∷ before)) (sym (cancel_run first heads recv before)) w.0 in
    let e : Did (Cancel recv) ≡ d = sym is in (
      absent_at recv.0 (matching first heads (Did (Cancel recv) ∷ before)) (matching first heads (d ∷ before)) (ap (λ (x : Deed). matching first heads (x ∷ before)) e) now,
      (let a = w.1 in let b = receives_longer d before in omega arith),
    )
withdrawn_absent own (d ∷ before) recv l (inr h) =
    let first = own.limits.first in
    let r = withdrawn_absent own before recv l.0 h in
    let a = absent_at recv.0 (matching first (heard_by first before).head before) (matching first (heard_by first (d ∷ before)).head before) (earlier_matching first d before) r.0 in
    (absent_still first (heard_by first (d ∷ before)).head d before recv.0 r.1 a, (let x = r.1 in let b = receives_longer d before in omega arith))

-- the receive of a pair, as it was accepted
pub record PairRecv (log : List Deed) (p : Pair) : Type 0 where
  pub recv : Receive
  pub accepted : Member recv (receives log)
  pub number_is : recv.number ≡ p.recv.id.0
  pub posted_is : recv.posted ≡ p.recv

-- the receive of a pair was accepted
pub pair_recv : (first : ℕ) (heads : Heads) (log : List Deed) (p : Pair) → Member p (pairs first heads log) → PairRecv log p
pair_recv first heads log p h =
    let a = (posted_accepted first heads log).paired p h in
    let s = (receive_stands log a.recv a.accepted).1 in
    record { recv = a.recv; accepted = a.accepted; number_is = sym s ∙ ap (λ (x : PostedRecv). x.id.0) a.posted_is; posted_is = a.posted_is }

-- a receive that names one life takes messages of it alone
from_life : (o : Option Life) (a life : Life) → is_life_or_none o a ≡ true → is_life o life ≡ true → a ≡ life
unfolding is_life_or_none is_life
from_life None a life h k = cc
from_life (Some b) a life h k = sym (same_life-true b a h) ∙ same_life-true b life k

-- so the message that it accepts is of that life
from_accepted : (r : PostedRecv) (m : Arrived) (life : Life) → accepts r m ≡ true → is_life r.from life ≡ true → m.life ≡ life
unfolding accepts
from_accepted r m life a h = from_life r.from m.life life (and_parts (is_life_or_none r.from m.life) (tags_agree r.want m.tag) a).0 h

-- the life that a pair's receive concerns is that of its message
pub concerned : (first : ℕ) (heads : Heads) (log : List Deed) (p : Pair) (life : Life) (r : Receive) → Member p (pairs first heads log) → Member r (receives log) → r.number ≡ p.recv.id.0
    → concerns (pairs first heads log) life r ≡ true → p.message.life ≡ life
unfolding concerns is_recv
concerned first heads log p life r h m n c =
    let t : Pair → Bool = λ (q : Pair). q.recv.id.0 == r.number && same_life q.message.life life in
    let mine = pair_recv first heads log p h in
    let same : r ≡ mine.recv = receive_once log r mine.recv m mine.accepted (n ∙ sym mine.number_is) in
    let posted : r.posted ≡ p.recv = ap (λ (x : Receive). x.posted) same ∙ mine.posted_is in
    elim (or_cases (is_life r.posted.from life) (list_any t (pairs first heads log)) c) [
      | inl a ↦ from_accepted p.recv p.message life (pair_accepts first heads log p h) (subst (λ (x : PostedRecv). is_life x.from life ≡ true) posted a)
      | inr a ↦
          let q = list_any_member t (pairs first heads log) a in
          let b = and_parts (q.0.recv.id.0 == r.number) (same_life q.0.message.life life) q.2 in
          let e : q.0 ≡ p = (matching_numbered first heads log).once q.0 p q.1 h (eqb-true q.0.recv.id.0 r.number b.0 ∙ n) in
          ap (λ (x : Pair). x.message.life) (sym e) ∙ same_life-true q.0.message.life life b.1
    ]

-- a paired receive is live while its message has not come whole and its life is not forgotten
pub live_unless : (own : Own) (log : List Deed) (p : Pair) → LifeLocal own log → Member p (pairs own.limits.first (heard_by own.limits.first log).head log)
    → is_filled own.limits.first (heard_by own.limits.first log).head log p ≡ false → is_forgotten log p.message.life ≡ false
    → has_ended (recv_ends own.limits.first (heard_by own.limits.first log).head log) p.recv.id.0 ≡ false
live_unless own log p l h f g =
    let first = own.limits.first in
    let heads = (heard_by first log).head in
    (elim (has_ended (recv_ends first heads log) p.recv.id.0) as (λ b. has_ended (recv_ends first heads log) p.recv.id.0 ≡ b → b ≡ false) [
      | false ↦ λ e. refl
      | true ↦ λ e. absurd (elim (ended_cases first heads log p.recv.id.0 e) [
        | inl a ↦
            let same : a.pair ≡ p = (matching_numbered first heads log).once a.pair p a.member h a.recv_is in
            let t : is_filled first heads log p ≡ true = subst (λ (x : Pair). is_filled first heads log x ≡ true) same a.filled in
            cc
        | inr a ↦ elim a [
          | inl w ↦ (withdrawn_absent own log w.0 l w.1).0.not_paired p h (sym w.2)
          | inr gone ↦
              let is = concerned first heads log p gone.life gone.recv h gone.accepted gone.recv_is gone.concerns' in
              let t : is_forgotten log p.message.life ≡ true = subst (λ (x : Life). is_forgotten log x ≡ true) (sym is) gone.forgotten in
              cc
        ]
      ])
    ]) refl

-- a live receive is found by its number and the life of its message
pub live_pair_from : (s : Scene) (p : Pair) → Member p (pairs s.own.limits.first s.ms.head s.log)
    → has_ended (recv_ends s.own.limits.first s.ms.head s.log) p.recv.id.0 ≡ false → live_pair s p.message.life p.recv.id.0 ≡ Some p
unfolding live_pair is_recv
live_pair_from s p h e =
    let ps = pairs s.own.limits.first s.ms.head s.log in
    let t : Pair → Bool = λ (q : Pair).
    q.recv.id.0 == p.recv.id.0 && same_life q.message.life p.message.life && not (has_ended (recv_ends s.own.limits.first s.ms.head s.log) p.recv.id.0) in
    let n : not (has_ended (recv_ends s.own.limits.first s.ms.head s.log) p.recv.id.0) ≡ true = ap not e in
    let passes : t p ≡ true = and_from _ _ (and_from _ _ (eq-eqb p.recv.id.0 p.recv.id.0 refl) (same_life-refl p.message.life)) n in
    let f = some_of (find t ps) (member_find t p ps h passes) in
    let m = find_member t f.0 ps f.1 in
    let a = and_parts (f.0.recv.id.0 == p.recv.id.0 && same_life f.0.message.life p.message.life) (not (has_ended (recv_ends s.own.limits.first s.ms.head s.log) p.recv.id.0)) m.1 in
    let b = and_parts (f.0.recv.id.0 == p.recv.id.0) (same_life f.0.message.life p.message.life) a.0 in
    let same : f.0 ≡ p = (matching_numbered s.own.limits.first s.ms.head s.log).once f.0 p m.0 h (eqb-true f.0.recv.id.0 p.recv.id.0 b.0) in
    f.1 ∙ ap Some same
