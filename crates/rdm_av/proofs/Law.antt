-- Over any calls, the superseded lives are those that were current once and are not now.
use Rattle.std.proofs.Common.{◌≡◌, refl, sym, ap, subst, ◌∙◌, ℕ, Bool, true, false, List, [], ◌∷◌, Option, Some, None, Result, Ok, Err}
use Rattle.std.specs.Prelude.{cond, not, ◌&&◌, ◌||◌, nat_eq, option_map}
use Rattle.std.specs.Ordering.{nat_cmp, eq_by_cmp}
use Rattle.std.specs.Cmp.{nat_cmp_total, nat_eq_equiv, unsigned_tied, tied_then, Equal-is}
use Rattle.std.specs.FinMap as map
use Rattle.std.specs.FinSet as set
use Rattle.rdm_num.specs.Lives.{same_life, is_life, life}
use Rattle.rdm_num.specs.declared.numbers.PortNo.{PortNo}
use Rattle.rdm_num.specs.declared.numbers.Connid.{Connid}
use Rattle.rdm_num.specs.declared.numbers.Life.{Life}
use Rattle.rdm_av.specs.declared.Inserted.{Inserted}
use Rattle.rdm_av.specs.declared.Inserted.TheVariants.{Inserted as New, Same, Supersedes}
use Rattle.rdm_av.specs.declared.InsertRefused.TheVariants.{Superseded}
use Rattle.rdm_av.specs.Lives.{Lives, life_order, current_life, is_superseded, with_current, with_superseded, answer_or, reserved_answer, after_insert}
use Rattle.rdm_av.specs.Runs.{Call, Insert, Implicit, Reserve, InsertReserved, ImplicitReserved, after_calls, AreCalls, is_current, was_current, SupersededOnceCurrent}
use Rattle.rdm_av.proofs.HeldLives.{life_order_total, life_order-IsAntisymmetric, not_both}
use Rattle.rdm_av.proofs.Answered.{answers_refused, answers_new, answers_same, answers_supersedes}

-- what holds of the lives after calls, beside what was current at some time
record Standing (s : Lives) (was : Life → Bool) : Type 0 where
  superseded : (l : Life) → is_superseded s l ≡ (was l && not (is_life (current_life s l.port) l))
  none : (l : Life) → current_life s l.port ≡ None → was l ≡ false
  held : (l : Life) → is_life (current_life s l.port) l ≡ true → was l ≡ true

-- numbers that tie are the same
same_number : (a b : ℕ) → nat_eq a b ≡ true → a ≡ b
same_number a b h = set.nat_cmp-IsAntisymmetric a b ((Equal-is (nat_cmp a b)).0 (unsigned_tied a b ∙ h))

-- lives tie where they are the same
tied : (a b : Life) → eq_by_cmp life_order (a.port.0, a.connid.0) (b.port.0, b.connid.0) ≡ same_life a b
unfolding same_life
tied a b = sym (tied_then (nat_cmp a.port.0 b.port.0) (nat_cmp a.connid.0 b.connid.0)) ∙ (λ i. unsigned_tied a.port.0 b.port.0 i && unsigned_tied a.connid.0 b.connid.0 i)

-- the same life is one life
one_life : (a b : Life) → same_life a b ≡ true → a ≡ b
one_life a b h =
    let keys = life_order-IsAntisymmetric (a.port.0, a.connid.0) (b.port.0, b.connid.0) ((Equal-is _).0 (tied a b ∙ h)) in
    λ i. record { port = record { 0 = (keys i).0 }; connid = record { 0 = (keys i).1 } }

-- sameness goes both ways
same_turned : (a b : Life) → same_life a b ≡ same_life b a
unfolding same_life
same_turned a b = λ i. nat_eq_equiv.symm a.port.0 b.port.0 i && nat_eq_equiv.symm a.connid.0 b.connid.0 i

-- the current life of a port after a life came to be current
current-with : (s : Lives) (k : Life) (port : PortNo) → current_life (with_current s k) port ≡ option_map (life port) (cond (nat_eq port.0 k.port.0) (Some k.connid) (map.get s.current port.0))
current-with s k port =
    ap (option_map (life port)) (map.get-insert nat_cmp_total s.current k.port.0 k.connid port.0 ∙ ap (λ b. cond b (Some k.connid) (map.get s.current port.0)) (unsigned_tied port.0 k.port.0))

-- at its port it is the current one
current_here : (s : Lives) (k : Life) (port : PortNo) → nat_eq port.0 k.port.0 ≡ true → current_life (with_current s k) port ≡ Some k
current_here s k port h =
    current-with s k port
    ∙ ap (λ b. option_map (life port) (cond b (Some k.connid) (map.get s.current port.0))) h
    ∙ ap (λ n. Some (life (record { 0 = n }) k.connid)) (same_number port.0 k.port.0 h)

-- other ports keep theirs
current_elsewhere : (s : Lives) (k : Life) (port : PortNo) → nat_eq port.0 k.port.0 ≡ false → current_life (with_current s k) port ≡ current_life s port
current_elsewhere s k port h =
    current-with s k port ∙ ap (λ b. option_map (life port) (cond b (Some k.connid) (map.get s.current port.0))) h

-- ports of one number have one current life
current_at : (s : Lives) (a b : PortNo) → nat_eq a.0 b.0 ≡ true → current_life s a ≡ current_life s b
current_at s a b h = ap (λ n. current_life s (record { 0 = n })) (same_number a.0 b.0 h)

-- the port of a life, or that one
port_or : PortNo → Option Life → PortNo
port_or p None = p
port_or p (Some l) = l.port

-- a current life is of its port
port_kept : (p : PortNo) (o : Option Connid) → port_or p (option_map (life p) o) ≡ p
unfolding port_or
port_kept p None = refl
port_kept p (Some c) = refl

-- a current life is of its port
current_port : (s : Lives) (p : PortNo) (old : Life) → current_life s p ≡ Some old → old.port ≡ p
unfolding port_or
current_port s p old is = ap (port_or p) (sym is) ∙ port_kept p (map.get s.current p.0)

-- what is not now was before
drop_or : (a b : Bool) → (a && not b) ≡ ((a || b) && not b)
drop_or true true = refl
drop_or true false = refl
drop_or false true = refl
drop_or false false = refl

-- neither is
neither : (a b : Bool) → a ≡ false → b ≡ false → (a || b) ≡ false
neither a b p q = rw (p, q) refl

-- the second is
second_is : (a b : Bool) → b ≡ true → (a || b) ≡ true
second_is true b q = refl
second_is false b q = q

-- nothing was current before
not_was : (a b : Bool) → a ≡ false → false ≡ (a && b)
not_was a b p = rw p refl

-- the old life, the new life, and the others
pick : (was old new : Bool) → (old ≡ true → was ≡ true) → (old ≡ true → new ≡ false) → (new ≡ true → was ≡ false) → (old || (was && not old)) ≡ (was && not new)
pick true true true a b c = b refl
pick true true false a b c = refl
pick true false true a b c = c refl
pick true false false a b c = refl
pick false true new a b c = sym (a refl)
pick false false new a b c = refl

-- was before and is not now
was_of : (a b : Bool) → false ≡ (a && not b) → b ≡ false → a ≡ false
was_of true true p q = q
was_of true false p q = sym p
was_of false b p q = refl

-- one step, from what it does to the superseded lives and to ports without a current life
stands_after : (s : Lives) (was : Life → Bool) → ((l : Life) → is_superseded s l ≡ (was l && not (is_life (current_life s l.port) l))) → ((l : Life) → current_life s l.port ≡ None → was l ≡ false) → Standing s (λ l. was l || is_life (current_life s l.port) l)
unfolding is_life
stands_after s was superseded none =
    record {
      superseded = λ l. superseded l ∙ drop_or (was l) (is_life (current_life s l.port) l);
      none = λ l p. neither (was l) _ (none l p) (ap (λ o. is_life o l) p);
      held = λ l p. second_is (was l) _ p;
    }

-- by the two values of a test
by_test : {P : Type 0} (b : Bool) → (b ≡ true → P) → (b ≡ false → P) → P
by_test true hit miss = hit refl
by_test false hit miss = miss refl

-- a port's first life
stands_first : (s : Lives) (was : Life → Bool) (k : Life) → Standing s was → current_life s k.port ≡ None → Standing (with_current s k) (λ l. was l || is_life (current_life (with_current s k) l.port) l)
stands_first s was k st none =
    stands_after (with_current s k) was
    (λ l. by_test (nat_eq l.port.0 k.port.0)
    (λ h. let gone = st.none l (current_at s l.port k.port h ∙ none) in st.superseded l ∙ sym (not_was (was l) _ gone) ∙ not_was (was l) _ gone)
    (λ h. st.superseded l ∙ ap (λ o. was l && not (is_life o l)) (sym (current_elsewhere s k l.port h))))
    (λ l p. by_test (nat_eq l.port.0 k.port.0)
    (λ h. st.none l (current_at s l.port k.port h ∙ none))
    (λ h. st.none l (sym (current_elsewhere s k l.port h) ∙ p)))

-- lives of two ports are apart
apart : (l old k : Life) → nat_eq l.port.0 k.port.0 ≡ false → old.port ≡ k.port → same_life l old ≡ false
unfolding same_life
apart l old k h p = ap (λ (q : PortNo). nat_eq l.port.0 q.0 && nat_eq l.connid.0 old.connid.0) p ∙ ap (λ b. b && nat_eq l.connid.0 old.connid.0) h

-- a port's next life
stands_next : (s : Lives) (was : Life → Bool) (k old : Life) → Standing s was → is_superseded s k ≡ false → current_life s k.port ≡ Some old → same_life old k ≡ false → Standing (with_current (with_superseded s old) k) (λ l. was l || is_life (current_life (with_current (with_superseded s old) k) l.port) l)
unfolding is_life
stands_next s was k old st fresh is other =
    stands_after (with_current (with_superseded s old) k) was
    (λ l.
    set.contains-insert life_order_total s.superseded (old.port.0, old.connid.0) (l.port.0, l.connid.0)
    ∙ ap (λ b. b || is_superseded s l) (tied l old)
    ∙ by_test (nat_eq l.port.0 k.port.0)
    (λ h.
    let now : current_life s l.port ≡ Some old = current_at s l.port k.port h ∙ is in
    ap (λ b. b || is_superseded s l) (same_turned l old)
    ∙ ap (λ b. same_life old l || b) (st.superseded l ∙ ap (λ o. was l && not (is_life o l)) now)
    ∙ pick (was l) (same_life old l) (same_life k l)
    (λ e. st.held l (ap (λ o. is_life o l) now ∙ e))
    (λ e. same_turned k l ∙ ap (λ x. same_life x k) (sym (one_life old l e)) ∙ other)
    (λ e. ap was (sym (one_life k l e)) ∙ was_of (was k) (is_life (current_life s k.port) k) (sym fresh ∙ st.superseded k) (ap (λ o. is_life o k) is ∙ other))
    ∙ ap (λ o. was l && not (is_life o l)) (sym (current_here (with_superseded s old) k l.port h)))
    (λ h.
    ap (λ b. b || is_superseded s l) (apart l old k h (current_port s k.port old is))
    ∙ st.superseded l
    ∙ ap (λ o. was l && not (is_life o l)) (sym (current_elsewhere (with_superseded s old) k l.port h))))
    (λ l p. by_test (nat_eq l.port.0 k.port.0)
    (λ h. not_both _ k p (current_here (with_superseded s old) k l.port h))
    (λ h. st.none l (sym (current_elsewhere (with_superseded s old) k l.port h) ∙ p)))

-- what holds after one more call
abbrev StandsNow : (Life → Bool) → Lives → Type 0
StandsNow was s = Standing s (λ l. was l || is_life (current_life s l.port) l)

-- an insert by its answer
answered : {E : Type 0} (s : Lives) (was : Life → Bool) (k : Life) (given answer : Result Inserted E) → given ≡ answer → StandsNow was (after_insert s k answer) → StandsNow was (after_insert s k given)
answered s was k given answer is st = subst (λ a. StandsNow was (after_insert s k a)) (sym is) st

-- by whether a life is there
by_life : {P : Type 0} (o : Option Life) → (o ≡ None → P) → ((old : Life) → o ≡ Some old → P) → P
by_life None none some = none refl
by_life (Some old) none some = some old refl

-- an insert, with that error for a superseded life
stands_insert : {E : Type 0} (why : E) (s : Lives) (was : Life → Bool) (k : Life) → Standing s was → StandsNow was (after_insert s k (answer_or why s k))
unfolding after_insert
stands_insert why s was k st =
    by_test (is_superseded s k)
    (λ h. answered s was k _ (Err why) (answers_refused why s k h) (stands_after s was st.superseded st.none))
    (λ h. by_life (current_life s k.port)
    (λ none. answered s was k _ (Ok New) (answers_new why s k h none) (stands_first s was k st none))
    (λ old is. by_test (same_life old k)
    (λ e. answered s was k _ (Ok Same) (answers_same why s k old h is e) (stands_after s was st.superseded st.none))
    (λ e. answered s was k _ (Ok (Supersedes old)) (answers_supersedes why s k old h is e) (stands_next s was k old st h is e))))

-- the room is no part of what holds
room_apart : (s r : Lives) (was : Life → Bool) → r.current ≡ s.current → r.superseded ≡ s.superseded → StandsNow was s → StandsNow was r
room_apart s r was current superseded st =
    subst (StandsNow was) (λ i. record { current = sym current i; superseded = sym superseded i; room = r.room }) (record { superseded = st.superseded; none = st.none; held = st.held })

-- all calls
stands : (calls : List Call) → AreCalls calls → Standing (after_calls calls) (was_current calls)
unfolding after_calls was_current is_current is_life
stands [] t =
    record {
      superseded = λ l. set.contains-empty life_order (l.port.0, l.connid.0);
      none = λ l p. refl;
      held = λ l p. sym (ap (λ o. is_life (option_map (life l.port) o) l) (map.get-empty nat_cmp l.port.0)) ∙ p;
    }
stands (Insert k ∷ before) t = stands_insert Superseded (after_calls before) (was_current before) k (stands before t)
stands (Implicit k ∷ before) t = stands_first (after_calls before) (was_current before) k (stands before t.0) t.1
stands (Reserve ∷ before) t =
    let st = stands before t in
    room_apart (after_calls before) _ (was_current before) refl refl (stands_after (after_calls before) (was_current before) st.superseded st.none)
stands (InsertReserved k ∷ before) t =
    room_apart (after_insert (after_calls before) k (reserved_answer (after_calls before) k)) _ (was_current before) refl refl (stands_insert (record {}) (after_calls before) (was_current before) k (stands before t))
stands (ImplicitReserved k ∷ before) t =
    room_apart (with_current (after_calls before) k) _ (was_current before) refl refl (stands_first (after_calls before) (was_current before) k (stands before t.0) t.1)

-- a life is superseded exactly where it was current once and is not now
pub superseded_once_current : SupersededOnceCurrent
unfolding is_current
superseded_once_current calls l t = (stands calls t).superseded l
