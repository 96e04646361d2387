-- Which numbers of a life have entered, where the least one is known that was not heard of.
use Rattle.std.proofs.Common.{◌≡◌, ℕ, zero, suc, ◌+◌, ◌-◌, ◌<◌, ◌≤◌, Bool, true, false, cond, not, inl, inr, List, [], ◌∷◌, ◌++◌, map, length, refl, arith, ap, ◌∙◌, sym, subst}
use Rattle.std.specs.Prelude.{◌==◌, ◌&&◌, nat_le, nat_lt, filter, min}
use Rattle.std.proofs.lemmas.Bool.{eq-eqb, ne_eqb, le-leb, lt-leb, lt-ltb, le-ltb, cases_lt, cases_eq, and_right, false_from_ne_true}
use Rattle.std.proofs.lemmas.List.{append-nil, map-append}
use Rattle.std.proofs.lemmas.List.Elements.{filter-append}
use Rattle.rdm_lists.specs.Lists.{below, each_below}
use Rattle.rdm_num.specs.declared.numbers.Life.{Life}
use Rattle.rdm_model.specs.Deeds.{Deed}
use Rattle.rdm_model.specs.Heard.{is_heard, heard_below, has_entered, is_next_message, entering}
use Rattle.rdm_lists.proofs.Below.{each_below_at, each_below_from}

-- the least number of a life that was not heard of
pub record IsNextNumber (first : ℕ) (log : List Deed) (source : Life) (next : ℕ) : Type 0 where
  pub from : first ≤ next
  pub below : (n : ℕ) → first ≤ n → n < next → is_heard log source n ≡ true
  pub at : is_heard log source next ≡ false

-- all numbers below the next one were heard of
below_heard : (first : ℕ) (log : List Deed) (source : Life) (next n : ℕ) → IsNextNumber first log source next → first ≤ n → n ≤ next → heard_below first log source n ≡ true
unfolding heard_below
below_heard first log source next n h low high =
    let a : nat_le first n ≡ true = le-leb first n low in
    let b : each_below (λ k. is_heard log source (first + k)) (n - first) ≡ true =
    each_below_from (λ k. is_heard log source (first + k)) (n - first) (λ k lt. h.below (first + k) (omega arith) (omega arith)) in
    rw (a, b) refl

-- not all numbers below a greater one were
past_unheard : (first : ℕ) (log : List Deed) (source : Life) (next n : ℕ) → IsNextNumber first log source next → next < n → heard_below first log source n ≡ false
unfolding heard_below
past_unheard first log source next n h past =
    let f = h.from in
    let b : each_below (λ k. is_heard log source (first + k)) (n - first) ≡ false =
    false_from_ne_true (each_below (λ k. is_heard log source (first + k)) (n - first)) (λ e.
    let x = each_below_at (λ k. is_heard log source (first + k)) (n - first) (next - first) e (omega arith) in
    let same : first + (next - first) ≡ next = omega arith in
    let y : is_heard log source next ≡ true = subst (λ k. is_heard log source k ≡ true) same x in
    let z = h.at in
    cc) in
    rw b (and_right (nat_le first n) false refl)

-- and none below one that is below the first
low_unheard : (first : ℕ) (log : List Deed) (source : Life) (n : ℕ) → n < first → heard_below first log source n ≡ false
unfolding heard_below
low_unheard first log source n h = let a : nat_le first n ≡ false = lt-leb first n h in rw a refl

-- the numbers from the first one to the next one have entered
pub entered_is : (first : ℕ) (log : List Deed) (source : Life) (next n : ℕ) → IsNextNumber first log source next
    → has_entered first log source n ≡ (nat_le first n && nat_lt n next)
unfolding has_entered
entered_is first log source next n h =
    elim (cases_lt n first) [
      | inl low ↦
          let a = low_unheard first log source n low in
          let b : nat_le first n ≡ false = lt-leb first n low in
          rw (a, b) refl
      | inr from ↦ elim (cases_lt n next) [
        | inl less ↦
            let a = below_heard first log source next n h from (omega arith) in
            let b = h.below n from less in
            let c : nat_le first n ≡ true = le-leb first n from in
            let d : nat_lt n next ≡ true = lt-ltb n next less in
            rw (a, b, c, d) refl
        | inr more ↦
            let c : nat_le first n ≡ true = le-leb first n from in
            let d : nat_lt n next ≡ false = le-ltb n next more in
            elim (cases_eq n next) [
              | inl same ↦
                  let e : is_heard log source n ≡ false = subst (λ k. is_heard log source k ≡ false) (sym same) h.at in
                  rw (c, d, e) (and_right (heard_below first log source n) false refl)
              | inr other ↦
                  let e = past_unheard first log source next n h (omega arith) in
                  rw (c, d, e) refl
            ]
      ]
    ]

-- the next number is that one
pub next_is : (first : ℕ) (log : List Deed) (source : Life) (next n : ℕ) → IsNextNumber first log source next → is_next_message first log source n ≡ (n == next)
unfolding is_next_message
next_is first log source next n h =
    elim (cases_eq n next) [
      | inl same ↦
          let f = h.from in
          let a = below_heard first log source next n h (omega arith) (omega arith) in
          let b : is_heard log source n ≡ false = subst (λ k. is_heard log source k ≡ false) (sym same) h.at in
          let c : (n == next) ≡ true = eq-eqb n next same in
          rw (a, b, c) refl
      | inr other ↦
          let c : (n == next) ≡ false = ne_eqb n next other in
          elim (cases_lt n first) [
            | inl low ↦ (let a = low_unheard first log source n low in rw (a, c) refl)
            | inr from ↦ elim (cases_lt n next) [
              | inl less ↦ (let b = h.below n from less in rw (b, c) (and_right (heard_below first log source n) false refl))
              | inr more ↦ (let a = past_unheard first log source next n h (omega arith) in rw (a, c) refl)
            ]
          ]
    ]

-- one more number
below_more : (f : ℕ → ℕ) (n : ℕ) → map f (below (suc n)) ≡ map f (below n) ++ f n ∷ []
unfolding below
below_more f n = map-append f (below n) (n ∷ [])

-- a list and nothing more
nothing_more : {xs ys : List ℕ} → xs ≡ ys → xs ++ [] ≡ ys
nothing_more {xs} {ys} e = append-nil xs ∙ e

-- the numbers of a range that pass a test, where those from one place to another do
filter_range : (p : ℕ → Bool) (first a b n : ℕ) → a ≤ b → ((k : ℕ) → p (first + k) ≡ (nat_lt k b && not (nat_lt k a)))
    → filter p (map (λ k. first + k) (below n)) ≡ map (λ k. first + a + k) (below (min b n - a))
unfolding below
filter_range p first a b zero le h = let e : min b 0 - a ≡ 0 = omega arith in rw e refl
filter_range p first a b (suc n) le h =
    let earlier = filter_range p first a b n le h in
    let t = h n in
    ap (filter p) (below_more (λ k. first + k) n) ∙ filter-append p (map (λ k. first + k) (below n)) ((first + n) ∷ [])
    ∙ (elim (cases_lt n b) [
      | inr past ↦
          let c : nat_lt n b ≡ false = le-ltb n b past in
          let no : p (first + n) ≡ false = t ∙ ap (λ x. x && not (nat_lt n a)) c in
          let m : min b (suc n) - a ≡ min b n - a = omega arith in
          ap (λ x. filter p (map (λ k. first + k) (below n)) ++ cond x ((first + n) ∷ []) []) no ∙ nothing_more earlier ∙ ap (λ x. map (λ k. first + a + k) (below x)) (sym m)
      | inl less ↦ elim (cases_lt n a) [
        | inl low ↦
            let c : nat_lt n a ≡ true = lt-ltb n a low in
            let no : p (first + n) ≡ false = t ∙ ap (λ x. nat_lt n b && not x) c ∙ and_right (nat_lt n b) false refl in
            let m : min b (suc n) - a ≡ min b n - a = omega arith in
            ap (λ x. filter p (map (λ k. first + k) (below n)) ++ cond x ((first + n) ∷ []) []) no ∙ nothing_more earlier ∙ ap (λ x. map (λ k. first + a + k) (below x)) (sym m)
        | inr high ↦
            let c : nat_lt n b ≡ true = lt-ltb n b less in
            let d : nat_lt n a ≡ false = le-ltb n a high in
            let yes : p (first + n) ≡ true = t ∙ (rw (c, d) refl) in
            let m : min b (suc n) - a ≡ suc (n - a) = omega arith in
            let l : min b n - a ≡ n - a = omega arith in
            let same : first + a + (n - a) ≡ first + n = omega arith in
            ap (λ x. filter p (map (λ k. first + k) (below n)) ++ cond x ((first + n) ∷ []) []) yes
            ∙ ap (λ (xs : List ℕ). xs ++ (first + n) ∷ []) (earlier ∙ ap (λ x. map (λ k. first + a + k) (below x)) l)
            ∙ ap (λ x. map (λ k. first + a + k) (below (n - a)) ++ x ∷ []) (sym same)
            ∙ sym (below_more (λ k. first + a + k) (n - a)) ∙ ap (λ x. map (λ k. first + a + k) (below x)) (sym m)
      ]
    ])

-- a number below another, both less the first
shifted : (first k n : ℕ) → first ≤ n → nat_lt (first + k) n ≡ nat_lt k (n - first)
shifted first k n h =
    elim (cases_lt (first + k) n) [
      | inl less ↦ (let a : nat_lt (first + k) n ≡ true = lt-ltb (first + k) n less in let b : nat_lt k (n - first) ≡ true = lt-ltb k (n - first) (omega arith) in rw (a, b) refl)
      | inr more ↦ (let a : nat_lt (first + k) n ≡ false = le-ltb (first + k) n more in let b : nat_lt k (n - first) ≡ false = le-ltb k (n - first) (omega arith) in rw (a, b) refl)
    ]

-- the numbers that enter by a deed: from the next one to the one that is next then
pub entering_is : (first : ℕ) (d : Deed) (before : List Deed) (source : Life) (was now : ℕ) → IsNextNumber first before source was → IsNextNumber first (d ∷ before) source now
    → was ≤ now → now ≤ first + length (d ∷ before) → entering first d before source ≡ map (λ k. was + k) (below (now - was))
unfolding entering
entering_is first d before source was now w n le within =
    let f = w.from in
    let p = λ (x : ℕ). has_entered first (d ∷ before) source x && not (has_entered first before source x) in
    let each : (k : ℕ) → p (first + k) ≡ (nat_lt k (now - first) && not (nat_lt k (was - first))) =
    λ k.
    let a = entered_is first (d ∷ before) source now (first + k) n in
    let b = entered_is first before source was (first + k) w in
    let low : nat_le first (first + k) ≡ true = le-leb first (first + k) (omega arith) in
    let x : nat_lt (first + k) now ≡ nat_lt k (now - first) = shifted first k now (omega arith) in
    let y : nat_lt (first + k) was ≡ nat_lt k (was - first) = shifted first k was f in
    rw (a, b, low, x, y) refl in
    let size : min (now - first) (length (d ∷ before)) - (was - first) ≡ now - was = omega arith in
    let start : first + (was - first) ≡ was = omega arith in
    filter_range p first (was - first) (now - first) (length (d ∷ before)) (omega arith) each
    ∙ ap (λ x. map (λ k. first + (was - first) + k) (below x)) size
    ∙ ap (λ x. map (λ k. x + k) (below (now - was))) start
