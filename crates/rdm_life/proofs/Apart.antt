-- The ranges of live receives share no place.
use Rattle.std.proofs.Common.{◌≡◌, ℕ, ◌+◌, Bool, true, false, not, ◌&&◌, List, [], ◌∷◌, refl, arith, ◌⊎◌, inl, inr, sym, ◌∙◌, ap, subst}
use Rattle.std.specs.Prelude.{◌==◌, nat_lt, nat_le}
use Rattle.std.proofs.lemmas.Bool.{and_parts, and_from, or_parts, eqb-true, eq-eqb, not-true, ltb-true, lt-ltb, leb-true, false_from_ne_true}
use Rattle.rdm_lists.specs.Lists.{Member, first_case}
use Rattle.rdm_lists.proofs.Members.{member-append_cases, member-append_left, member-filter, filter-member, list_any_false, list_any_member, member_list_any}
use Rattle.rdm_num.specs.Pieces.{overlaps}
use Rattle.rdm_num.specs.declared.request.RecvReq.{RecvReq}
use Rattle.rdm_model.specs.declared.job.Instr.TheVariants.{Recv}
use Rattle.rdm_model.specs.declared.answer.DidWhat.{DidWhat}
use Rattle.rdm_model.specs.declared.answer.Next.{Next}
use Rattle.rdm_model.specs.declared.answer.Next.TheVariants.{Did as DidAnswer}
use Rattle.rdm_model.specs.Answers.{answer_of, answer_by, recv_answer}
use Rattle.rdm_model.specs.Beginnings.{Own}
use Rattle.rdm_model.specs.Deeds.{Deed, Did}
use Rattle.rdm_model.specs.Facts.{meets_receive}
use Rattle.rdm_model.specs.Matches.{Receive, receives, received_by, with_received}
use Rattle.rdm_model.specs.Receives.{has_ended, recv_ends, with_recv_ends, live_receives, ended_recv, RecvEnd}
use Rattle.rdm_model.specs.Scenes.{Scene}
use Rattle.rdm_model.specs.Local.{heard_by}
use Rattle.rdm_model.proofs.Grows.{agree_grows}
use Rattle.rdm_model.proofs.SameReceives.{recv_ends_same}
use Rattle.rdm_law.proofs.Lives.Lives.{LifeLocal, LifeStep, life_scene}
use Rattle.rdm_life.specs.Keeps.{told, own_live_receives}
use Rattle.rdm_life.specs.Memory.{is_place_of}

-- whether a receive has ended
abbrev pub own_ended : Own → List Deed → ℕ → Bool
own_ended own log number = has_ended (recv_ends own.limits.first (told own log).head log) number

-- a receive that has ended stays so
pub ended_stays : (own : Own) (d : Deed) (before : List Deed) (number : ℕ) → own_ended own before number ≡ true → own_ended own (d ∷ before) number ≡ true
unfolding recv_ends with_recv_ends has_ended
ended_stays own d before number h =
    let first = own.limits.first in
    let same = recv_ends_same first (told own before).head (told own (d ∷ before)).head before (agree_grows first d before).heads in
    let t : RecvEnd → Bool = λ e. ended_recv e == number in
    let m = list_any_member t (recv_ends first (told own before).head before) h in
    member_list_any t m.0 _ (member-append_left m.0 _ _ (subst (λ (es : List RecvEnd). Member m.0 es) same m.1)) m.2

-- a live receive was accepted and has not ended
pub live_is : (own : Own) (log : List Deed) (r : Receive) → Member r (own_live_receives own log) → Member r (receives log) × (own_ended own log r.number ≡ false)
unfolding live_receives
live_is own log r m =
    let f = member-filter (λ (x : Receive). not (own_ended own log x.number)) r (receives log) m in
    (f.0, not-true (own_ended own log r.number) f.1)

-- and one that was accepted and has not ended is live
pub is_live : (own : Own) (log : List Deed) (r : Receive) → Member r (receives log) → own_ended own log r.number ≡ false → Member r (own_live_receives own log)
unfolding live_receives
is_live own log r m e = filter-member (λ (x : Receive). not (own_ended own log x.number)) r (receives log) m (ap not e)

-- a live receive was live before the last deed, or was accepted by it
pub live_was : (own : Own) (d : Deed) (before : List Deed) (r : Receive) → Member r (own_live_receives own (d ∷ before))
    → Member r (own_live_receives own before) ⊎ Member r (received_by (receives before) before d)
unfolding receives with_received
live_was own d before r m =
    let l = live_is own (d ∷ before) r m in
    elim (member-append_cases r (receives before) (received_by (receives before) before d) l.0) [
      | inl a ↦ inl (is_live own before r a (false_from_ne_true (own_ended own before r.number) (λ e. let s = ended_stays own d before r.number e in let n = l.1 in cc)))
      | inr a ↦ inr a
    ]

-- an answer that did is none of a refusal
past : (b : Bool) (x : Next) (cs : List (Bool × Next)) (last : Next) (what : DidWhat) → (x ≡ DidAnswer what → ⊥) → first_case ((b, x) ∷ cs) last ≡ DidAnswer what
    → (b ≡ false) × (first_case cs last ≡ DidAnswer what)
unfolding first_case
past true x cs last what other h = absurd (other h)
past false x cs last what other h = (refl, h)

-- a receive that is accepted meets no live one
accepted_apart : (s : Scene) (req : RecvReq) (what : DidWhat) → answer_of s (Recv req) ≡ DidAnswer what → meets_receive s req.region.0 req.at req.len ≡ false
unfolding answer_by recv_answer
accepted_apart s req what h =
    let a = past _ _ _ _ what (λ e. cc) h in
    let b = past _ _ _ _ what (λ e. cc) a.1 in
    let c = past _ _ _ _ what (λ e. cc) b.1 in
    let d = past _ _ _ _ what (λ e. cc) c.1 in
    (or_parts _ _ d.0).0

-- a place of two ranges makes them meet
places_meet : (q s : RecvReq) (region place : ℕ) → is_place_of q region place ≡ true → is_place_of s region place ≡ true
    → (s.region.0 == q.region.0 && overlaps q.at q.len s.at s.len) ≡ true
unfolding is_place_of overlaps
places_meet q s region place h k =
    let a = and_parts (q.region.0 == region && nat_le q.at place) (nat_lt place (q.at + q.len)) h in
    let b = and_parts (q.region.0 == region) (nat_le q.at place) a.0 in
    let c = and_parts (s.region.0 == region && nat_le s.at place) (nat_lt place (s.at + s.len)) k in
    let e = and_parts (s.region.0 == region) (nat_le s.at place) c.0 in
    let x = eqb-true q.region.0 region b.0 in
    let y = eqb-true s.region.0 region e.0 in
    let qa = leb-true q.at place b.1 in
    let sa = leb-true s.at place e.1 in
    let qb = ltb-true place (q.at + q.len) a.1 in
    let sb = ltb-true place (s.at + s.len) c.1 in
    and_from _ _ (eq-eqb s.region.0 q.region.0 (y ∙ sym x))
    (and_from _ _ (and_from _ _ (and_from _ _ (lt-ltb 0 q.len (omega arith)) (lt-ltb 0 s.len (omega arith))) (lt-ltb q.at (s.at + s.len) (omega arith))) (lt-ltb s.at (q.at + q.len) (omega arith)))

-- an accepted receive has no place of a live one
new_apart : (own : Own) (before : List Deed) (req : RecvReq) (r : Receive) (region place : ℕ) → LifeStep own before (Did (Recv req)) → Member r (own_live_receives own before)
    → is_place_of req region place ≡ true → is_place_of r.req region place ≡ true → ⊥
unfolding meets_receive heard_by
new_apart own before req r region place step m h k =
    let s = life_scene step.0 own step.1 before in
    let none = list_any_false (λ (r : Receive). r.req.region.0 == req.region.0 && overlaps req.at req.len r.req.at r.req.len) (own_live_receives own before)
    (accepted_apart s req step.2 step.3) r m in
    let meet = places_meet req r.req region place h k in
    cc

-- no place of a new receive is one of a live one
pub received_apart : (own : Own) (d : Deed) (before : List Deed) (q r : Receive) (region place : ℕ) → LifeStep own before d → Member q (received_by (receives before) before d)
    → Member r (own_live_receives own before) → is_place_of q.req region place ≡ true → is_place_of r.req region place ≡ true → ⊥
unfolding received_by
received_apart own (Did (Recv req)) before q r region place step (inl is) m h k =
    new_apart own before req r region place step m (subst (λ (x : Receive). is_place_of x.req region place ≡ true) (sym is) h) k
received_apart own (Did (Recv req)) before q r region place step (inr never) m h k = elim never [ ]
received_apart own _ before q r region place step new m h k = elim new [ ]

-- a deed accepts one receive at most
received_one : (d : Deed) (before : List Deed) (q r : Receive) → Member q (received_by (receives before) before d) → Member r (received_by (receives before) before d) → q ≡ r
unfolding received_by
received_one (Did (Recv req)) before q r (inl a) (inl b) = sym a ∙ b
received_one (Did (Recv req)) before q r (inr never) b = elim never [ ]
received_one (Did (Recv req)) before q r (inl a) (inr never) = elim never [ ]
received_one _ before q r a b = elim a [ ]

-- receives that have a place in common are one, where each was live before a deed or was accepted by it
pub apart_with : (own : Own) (d : Deed) (before : List Deed) (q r : Receive) (region place : ℕ) → LifeStep own before d
    → (Member q (own_live_receives own before) → Member r (own_live_receives own before) → q ≡ r)
    → Member q (own_live_receives own before) ⊎ Member q (received_by (receives before) before d)
    → Member r (own_live_receives own before) ⊎ Member r (received_by (receives before) before d)
    → is_place_of q.req region place ≡ true → is_place_of r.req region place ≡ true → q ≡ r
apart_with own d before q r region place step old (inl a) (inl b) h i = old a b
apart_with own d before q r region place step old (inl a) (inr b) h i = absurd (received_apart own d before r q region place step b a i h)
apart_with own d before q r region place step old (inr a) (inl b) h i = absurd (received_apart own d before q r region place step a b h i)
apart_with own d before q r region place step old (inr a) (inr b) h i = received_one d before q r a b

-- live receives that have a place in common are one
pub ranges_apart : (own : Own) (log : List Deed) → LifeLocal own log → (q r : Receive) (region place : ℕ) → Member q (own_live_receives own log) → Member r (own_live_receives own log)
    → is_place_of q.req region place ≡ true → is_place_of r.req region place ≡ true → q ≡ r
unfolding receives
ranges_apart own [] local q r region place m k h i = elim (live_is own [] q m).0 [ ]
ranges_apart own (d ∷ before) local q r region place m k h i =
    apart_with own d before q r region place local.1 (λ a b. ranges_apart own before local.0 q r region place a b h i) (live_was own d before q m) (live_was own d before r k) h i
