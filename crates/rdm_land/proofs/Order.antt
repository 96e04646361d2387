-- Ranges in order.
use Rattle.std.proofs.Common.{eq-eqb, eqb, ◌≡◌, ℕ, zero, suc, ◌<◌, ◌≤◌, ◌⊎◌, inl, inr, Bool, true, false, ◌&&◌, ◌||◌, cond, leb, ltb, List, [], ◌∷◌, length, get_or, refl, sym, ap, subst, ◌∙◌, arith, leb-true, lt-ltb}
use Rattle.std.proofs.lemmas.Bool.{eqb-true, le-leb, le-ltb, true≢false, false≢true}
use Rattle.std.specs.List.{AllWithin, insert, remove, Contains}
use Rattle.std.specs.List.Sorted.{IsNonDecreasingBy}
use Rattle.rdm_land.specs.declared.spans.Span.{Span}
use Rattle.rdm_land.specs.Spans.{has, have, same, with_span, without_span, AreApart}
use Rattle.rdm_mr.proofs.Overlays.{by_lt}

-- a test of numbers that fails
pub lt-leb : (a b : ℕ) → b < a → leb a b ≡ false
lt-leb a b lt = elim (leb a b) as (λ v. leb a b ≡ v → v ≡ false) [ true ↦ λ e. absurd (let le = leb-true a b e in omega arith) | false ↦ λ e. refl ] refl

-- a range has the places from its start up to its end
pub has_yes : (k : ℕ) (s : Span) → s.start ≤ k → k < s.end → has k s ≡ true
has_yes k s p q = rw (le-leb s.start k p, lt-ltb k s.end q) refl

pub has_before : (k : ℕ) (s : Span) → k < s.start → has k s ≡ false
has_before k s p = ap (λ b. b && ltb k s.end) (lt-leb s.start k p)

pub has_after : (k : ℕ) (s : Span) → s.end ≤ k → has k s ≡ false
has_after k s p = ap (λ b. leb s.start k && b) (le-ltb k s.end p) ∙ none (leb s.start k)
  where
    none : (b : Bool) → (b && false) ≡ false
    none true = refl
    none false = refl

pub has_out : (k : ℕ) (s : Span) → (k < s.start) ⊎ (s.end ≤ k) → has k s ≡ false
has_out k s (inl p) = has_before k s p
has_out k s (inr p) = has_after k s p

pub by_has : {X : Type 0} (k : ℕ) (s : Span) → (s.start ≤ k → k < s.end → has k s ≡ true → X) → (has k s ≡ false → (k < s.start) ⊎ (s.end ≤ k) → X) → X
by_has k s inside outside =
    by_lt k s.start (λ p. outside (has_before k s p) (inl p)) (λ p. by_lt k s.end (λ q. inside p q (has_yes k s p q)) (λ q. outside (has_after k s q) (inr q)))

-- a range among those that lie from lo on
pub apart_from : (lo n c : ℕ) (spans : List Span) → AreApart lo n c spans → (i : ℕ) (d : Span) → i < length spans → (lo ≤ (get_or spans i d).start) × ((get_or spans i d).start < (get_or spans i d).end)
apart_from lo n c [] a i d lt = absurd (omega arith)
apart_from lo n c (s ∷ spans) a zero d lt = (a.0, a.1)
apart_from lo n c (s ∷ spans) a (suc i) d lt =
    let rest = apart_from s.end n c spans a.3 i d (omega arith) in
    (omega (arith, a.0, a.1, rest.0), rest.1)

pub apart_le : (lo n c : ℕ) (spans : List Span) → AreApart lo n c spans → lo ≤ n
apart_le lo n c [] a = a
apart_le lo n c (s ∷ spans) a = let rest = apart_le s.end n c spans a.3 in omega (arith, a.0, a.1)

pub apart_lower : (lo lower n c : ℕ) (spans : List Span) → lower ≤ lo → AreApart lo n c spans → AreApart lower n c spans
apart_lower lo lower n c [] le a = omega (arith, a)
apart_lower lo lower n c (s ∷ spans) le a = (omega (arith, a.0), a.1, a.2, a.3)

pub ends_in_order : (lo n c : ℕ) (spans : List Span) → AreApart lo n c spans → IsNonDecreasingBy (λ (s : Span). s.end) spans
ends_in_order lo n c [] a i j d le lt = absurd (omega arith)
ends_in_order lo n c (s ∷ spans) a zero zero d le lt = omega arith
ends_in_order lo n c (s ∷ spans) a zero (suc j) d le lt = let later = apart_from s.end n c spans a.3 j d (omega arith) in omega (arith, later.0, later.1)
ends_in_order lo n c (s ∷ spans) a (suc i) zero d le lt = absurd (omega arith)
ends_in_order lo n c (s ∷ spans) a (suc i) (suc j) d le lt = ends_in_order s.end n c spans a.3 i j d (omega arith) (omega arith)

-- no range has a place below the first
pub none_before : (lo n c k : ℕ) (spans : List Span) → AreApart lo n c spans → k < lo → have k spans ≡ false
none_before lo n c k [] a lt = refl
none_before lo n c k (s ∷ spans) a lt =
    ap (λ b. b || have k spans) (has_before k s (omega (arith, a.0))) ∙ none_before s.end n c k spans a.3 (omega (arith, a.0, a.1))

-- a place that some range has lies inside
pub have_inside : (lo n c k : ℕ) (spans : List Span) → AreApart lo n c spans → have k spans ≡ true → (lo ≤ k) × (k < n)
have_inside lo n c k [] a h = absurd (true≢false (sym h))
have_inside lo n c k (s ∷ spans) a h =
    by_has k s
    (λ p q e. let le = apart_le s.end n c spans a.3 in (omega (arith, a.0), omega arith))
    (λ e o. let rest = have_inside s.end n c k spans a.3 (ap (λ b. b || have k spans) (sym e) ∙ h) in (omega (arith, a.0, a.1, rest.0), rest.1))

-- the range at i is the first that ends after the place
pub have_at : (lo n c k i : ℕ) (d : Span) (spans : List Span) → AreApart lo n c spans → AllWithin (λ (s : Span). s.end ≤ k) spans 0 i → i < length spans → k < (get_or spans i d).end → have k spans ≡ has k (get_or spans i d)
have_at lo n c k i d [] a before lt after = absurd (omega arith)
have_at lo n c k zero d (s ∷ spans) a before lt after =
    by_has k s (λ p q e. ap (λ b. b || have k spans) e ∙ sym e) (λ e o. ap (λ b. b || have k spans) e ∙ none_before s.end n c k spans a.3 after ∙ sym e)
have_at lo n c k (suc i) d (s ∷ spans) a before lt after =
    ap (λ b. b || have k spans) (has_after k s (before 0 s (omega arith) (omega arith))) ∙ have_at s.end n c k i d spans a.3 (λ j e low below. before (suc j) e (omega arith) (omega arith)) (omega arith) after

-- no range ends after the place
pub have_none : (k : ℕ) (spans : List Span) → AllWithin (λ (s : Span). s.end ≤ k) spans 0 (length spans) → have k spans ≡ false
have_none k [] before = refl
have_none k (s ∷ spans) before = ap (λ b. b || have k spans) (has_after k s (before 0 s (omega arith) (omega arith))) ∙ have_none k spans (λ j e low below. before (suc j) e (omega arith) (omega arith))

-- an insert before the first that ends after its start
pub insert_is : (s : Span) (i : ℕ) (spans : List Span) → i ≤ length spans → AllWithin (λ (t : Span). t.end ≤ s.start) spans 0 i → AllWithin (λ (t : Span). s.start < t.end) spans i (length spans) → insert spans i s ≡ with_span s spans
insert_is s zero [] le before after = refl
insert_is s (suc i) [] le before after = absurd (omega arith)
insert_is s zero (t ∷ spans) le before after = ap (λ b. cond b (t ∷ with_span s spans) (s ∷ t ∷ spans)) (sym (lt-leb t.end s.start (after 0 t (omega arith) (omega arith))))
insert_is s (suc i) (t ∷ spans) le before after =
    ap (λ l. t ∷ l) (insert_is s i spans (omega arith) (λ j e low below. before (suc j) e (omega arith) (omega arith)) (λ j e low below. after (suc j) e (omega arith) (omega arith)))
    ∙ ap (λ b. cond b (t ∷ with_span s spans) (s ∷ t ∷ spans)) (sym (le-leb t.end s.start (before 0 t (omega arith) (omega arith))))

-- the same range, and another
pub same_is : (s t : Span) → same s t ≡ true → t ≡ s
same_is s t e = both (eqb s.start t.start) (eqb s.end t.end) refl refl e
  where
    both : (a b : Bool) → eqb s.start t.start ≡ a → eqb s.end t.end ≡ b → (a && b) ≡ true → t ≡ s
    both true true p q e = λ i. record { start = sym (eqb-true s.start t.start p) i; end = sym (eqb-true s.end t.end q) i }
    both true false p q e = absurd (false≢true e)
    both false b p q e = absurd (false≢true e)

pub is_same : (s : Span) → same s s ≡ true
is_same s = ap (λ b. b && eqb s.end s.end) (eq-eqb s.start s.start refl) ∙ eq-eqb s.end s.end refl

pub earlier_is_other : (s t : Span) → t.end ≤ s.start → s.start < s.end → same s t ≡ false
earlier_is_other s t p q = elim (same s t) as (λ v. same s t ≡ v → v ≡ false) [ true ↦ λ e. absurd (let end = ap (λ (x : Span). x.end) (same_is s t e) in omega (arith, end)) | false ↦ λ e. refl ] refl

-- s is one of the ranges: the first that ends after its start, or one of the others
pub contains_rest : (s t : Span) (spans : List Span) → t.end ≤ s.start → t.start < t.end → Contains (t ∷ spans) s → Contains spans s
contains_rest s t spans p q (zero, lt, e) = absurd (let start = ap (λ (x : Span). x.start) e in omega (arith, start))
contains_rest s t spans p q (suc k, lt, e) = (k, omega arith, e)

pub first_is : (lo n c : ℕ) (s t : Span) (spans : List Span) → AreApart lo n c (t ∷ spans) → s.start < t.end → Contains (t ∷ spans) s → t ≡ s
first_is lo n c s t spans a p (zero, lt, e) = e
first_is lo n c s t spans a p (suc k, lt, e) =
    let later = apart_from t.end n c spans a.3 k s (omega arith) in
    let start = ap (λ (x : Span). x.start) e in
    absurd (omega (arith, start, later.0))

-- so a remove of the first that ends after its start is a remove of it
pub remove_is : (lo n c : ℕ) (s : Span) (i : ℕ) (spans : List Span) → AreApart lo n c spans → s.start < s.end → Contains spans s → i < length spans → AllWithin (λ (t : Span). t.end ≤ s.start) spans 0 i → AllWithin (λ (t : Span). s.start < t.end) spans i (length spans)
    → remove spans i ≡ without_span s spans
remove_is lo n c s i [] a some h lt before after = absurd (omega arith)
remove_is lo n c s zero (t ∷ spans) a some h lt before after =
    let is = first_is lo n c s t spans a (after 0 t (omega arith) (omega arith)) h in
    ap (λ b. cond b spans (t ∷ without_span s spans)) (sym (ap (same s) is ∙ is_same s))
remove_is lo n c s (suc i) (t ∷ spans) a some h lt before after =
    let le = before 0 t (omega arith) (omega arith) in
    ap (λ l. t ∷ l)
    (remove_is t.end n c s i spans a.3 some (contains_rest s t spans le a.1 h) (omega arith) (λ j e low below. before (suc j) e (omega arith) (omega arith)) (λ j e low below. after (suc j) e (omega arith) (omega arith)))
    ∙ ap (λ b. cond b spans (t ∷ without_span s spans)) (sym (earlier_is_other s t le some))

-- where the search for a place stopped, the range there has it, or none does
pub found : (lo n c k i : ℕ) (d : Span) (spans : List Span) → AreApart lo n c spans → AllWithin (λ (t : Span). t.end ≤ k) spans 0 i → i < length spans → (get_or spans i d).start ≤ k → (j : ℕ) → k ≤ j → j < (get_or spans i d).end → have j spans ≡ true
found lo n c k i d spans a before lt start j low high =
    have_at lo n c j i d spans a (λ m e p q. let le = before m e p q in omega (arith, le, low)) lt high ∙ has_yes j (get_or spans i d) (omega (arith, start, low)) high

pub found_none : (lo n c k i : ℕ) (d : Span) (spans : List Span) → AreApart lo n c spans → AllWithin (λ (t : Span). t.end ≤ k) spans 0 i → i < length spans → k < (get_or spans i d).end → k < (get_or spans i d).start → have k spans ≡ false
found_none lo n c k i d spans a before lt after start = have_at lo n c k i d spans a before lt after ∙ has_before k (get_or spans i d) start

pub past_all : (k i : ℕ) (spans : List Span) → length spans ≤ i → AllWithin (λ (t : Span). t.end ≤ k) spans 0 i → have k spans ≡ false
past_all k i spans le before = have_none k spans (λ j d low lt. before j d low (omega arith))

-- so where some range has it, the search stopped at one
pub stops_at : (k i : ℕ) (slice spans : List Span) → slice ≡ spans → AllWithin (λ (t : Span). t.end ≤ k) slice 0 i → have k spans ≡ true → i < length spans
stops_at k i slice spans is before there =
    by_lt i (length spans) (λ lt. lt) (λ le. absurd (false≢true (sym (past_all k i spans le (subst (λ l. AllWithin (λ (t : Span). t.end ≤ k) l 0 i) is before)) ∙ there)))
