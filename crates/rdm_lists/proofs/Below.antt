-- The numbers below a bound.
use Rattle.std.proofs.Common.{[], arith, inl, inr, suc, ℕ, ◌≡◌, ◌<◌, ◌⊎◌, Bool, ap, true, false, Some, None, zero, ◌∙◌, refl, map, ◌∷◌, add-one, length, ◌-◌, get_or, sym}
use Rattle.std.proofs.lemmas.Bool.{cases_eq, and_parts, and_from, cases_lt}
use Rattle.rdm_lists.specs.Lists.{each_below, below, Member}
use Rattle.std.proofs.lemmas.List.{map-append, length_push, get_or_append_left, get_or_push}
use Rattle.rdm_lists.proofs.Members.{member-append_left, member-append_right, member-append_cases, member_find}
use Rattle.std.specs.List.{list_all}
use Rattle.std.specs.Prelude.{find, is_some}
use Rattle.std.proofs.lemmas.List.Folds.{list_all-append, find-append}

-- a number below n + 1 is n or below n
pub last_or_less : (k n : ℕ) → k < suc n → (k ≡ n) ⊎ (k < n)
last_or_less k n h = elim (cases_eq k n) [ inl a ↦ inl a | inr a ↦ inr (omega arith) ]

-- a test that each number below n passes is passed by this one
pub each_below_at : (p : ℕ → Bool) (n k : ℕ) → each_below p n ≡ true → k < n → p k ≡ true
unfolding each_below
each_below_at p zero k e h = absurd (omega arith)
each_below_at p (suc n) k e h =
    let parts = and_parts (each_below p n) (p n) e in
    elim (last_or_less k n h) [
      | inl a ↦ ap p a ∙ parts.1
      | inr a ↦ each_below_at p n k parts.0 a
    ]

-- a weaker test is passed where the stronger one is
pub each_below_more : (p q : ℕ → Bool) (n : ℕ) → ((k : ℕ) → p k ≡ true → q k ≡ true) → each_below p n ≡ true → each_below q n ≡ true
unfolding each_below
each_below_more p q zero h e = refl
each_below_more p q (suc n) h e =
    let parts = and_parts (each_below p n) (p n) e in
    and_from (each_below q n) (q n) (each_below_more p q n h parts.0) (h n parts.1)

-- tests of the numbers below a bound that agree
pub each_below_same : (p q : ℕ → Bool) (n : ℕ) → ((k : ℕ) → p k ≡ q k) → each_below p n ≡ each_below q n
unfolding each_below
each_below_same p q zero h = refl
each_below_same p q (suc n) h = rw (each_below_same p q n h, h n)

-- each number below a bound passes where each one by itself does
pub each_below_from : (p : ℕ → Bool) (n : ℕ) → ((k : ℕ) → k < n → p k ≡ true) → each_below p n ≡ true
unfolding each_below
each_below_from p zero h = refl
each_below_from p (suc n) h = and_from (each_below p n) (p n) (each_below_from p n (λ k l. h k (omega arith))) (h n (omega arith))

-- a map over numbers by two functions that agree below the bound
pub map_below_same : (f g : ℕ → ℕ) (n : ℕ) → ((k : ℕ) → k < n → f k ≡ g k) → map f (below n) ≡ map g (below n)
unfolding below
map_below_same f g zero h = refl
map_below_same f g (suc n) h =
    let earlier = map_below_same f g n (λ k l. h k (omega arith)) in
    let last = h n (omega arith) in
    simp map-append (cc)

-- a number that is less than n is below n
pub below_member : (n k : ℕ) → k < n → Member k (below n)
unfolding below
below_member zero k h = absurd (omega arith)
below_member (suc n) k h =
    elim (cases_lt k n) [
      | inl less ↦ member-append_left k (below n) (n ∷ []) (below_member n k less)
      | inr last ↦ (let is : n ≡ k = omega arith in member-append_right k (below n) (n ∷ []) (inl is))
    ]

-- the numbers below n are below it
pub member_below : (n k : ℕ) → Member k (below n) → k < n
unfolding below
member_below zero k h = elim h [ ]
member_below (suc n) k h =
    elim (member-append_cases k (below n) _ h) [
      | inl a ↦ let l = member_below n k a in omega arith
      | inr a ↦ elim a [ inl is ↦ omega arith | inr never ↦ elim never [ ] ]
    ]

-- there are n numbers below n
pub length-below : (n : ℕ) → length (below n) ≡ n
unfolding below
length-below zero = refl
length-below (suc n) = length_push (below n) n ∙ add-one _ ∙ ap suc (length-below n)

-- each number below n stands at its place
pub get_or-below : (n k d : ℕ) → k < n → get_or (below n) k d ≡ k
unfolding below
get_or-below zero k d h = absurd (omega arith)
get_or-below (suc n) k d h =
    elim (last_or_less k n h) [
      | inl a ↦ get_or_push (below n) n d k (length-below n ∙ sym a) ∙ sym a
      | inr a ↦ get_or_append_left (below n) (n ∷ []) d k (let e = length-below n in omega arith) ∙ get_or-below n k d a
    ]

-- each number below n passes
pub all_below : (p : ℕ → Bool) (n k : ℕ) → list_all p (below n) ≡ true → k < n → p k ≡ true
unfolding below
all_below p zero k h l = absurd (omega arith)
all_below p (suc n) k h l =
    let parts = and_parts (list_all p (below n)) (list_all p (n ∷ [])) (sym (list_all-append p (below n) (n ∷ [])) ∙ h) in
    elim (cases_lt k n) [
      | inl less ↦ all_below p n k parts.0 less
      | inr more ↦ (let e : k ≡ n = omega arith in ap p e ∙ (and_parts (p n) true parts.1).0)
    ]

-- where no number is found, each one below the bound fails the test
pub none_below : (t : ℕ → Bool) (n : ℕ) → find t (below n) ≡ None → (k : ℕ) → k < n → t k ≡ false
none_below t n none k less =
    (elim (t k) as (λ b. t k ≡ b → b ≡ false) [
      | true ↦ λ is. (let found : true ≡ false = sym (member_find t k (below n) (below_member n k less) is) ∙ ap is_some none in cc)
      | false ↦ λ is. refl
    ])
    refl

-- where each number below the bound fails the test, none is found
pub nothing_below : (t : ℕ → Bool) (n : ℕ) → ((k : ℕ) → k < n → t k ≡ false) → find t (below n) ≡ None
unfolding below
nothing_below t zero fails = refl
nothing_below t (suc n) fails =
    find-append t (below n) (n ∷ []) ∙ rw (nothing_below t n (λ k less. fails k (omega arith)), fails n (omega arith))

-- a number that passes where no lesser one does is the one that is found
pub least_below : (t : ℕ → Bool) (n k : ℕ) → k < n → t k ≡ true → ((j : ℕ) → j < k → t j ≡ false) → find t (below n) ≡ Some k
unfolding below
least_below t zero k less is before = absurd (omega arith)
least_below t (suc n) k less is before =
    find-append t (below n) (n ∷ [])
    ∙ (elim (last_or_less k n less) [
      | inl last ↦
          let here : t n ≡ true = ap t (sym last) ∙ is in
          rw (nothing_below t n (λ j l. before j (omega arith)), here, last)
      | inr lower ↦ rw (least_below t n k lower is before)
    ])
