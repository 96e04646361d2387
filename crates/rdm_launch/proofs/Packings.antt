-- What fits its place stays so from one list to two, and back.
use Rattle.std.proofs.Common.{◌≡◌, ℕ, zero, suc, ◌+◌, List, [], ◌∷◌, ◌++◌, length, reverse, take, Some, refl, ap, sym, ◌∙◌, subst, arith, ◌⊎◌, inl, inr}
use Rattle.std.specs.Prelude.{slice_get}
use Rattle.std.proofs.lemmas.List.{length-reverse, take_at}
use mathlib.Core.List.{reverse-cons}
use Rattle.rdm_lists.proofs.Places.{slice_get-append, slice_get-push}
use Rattle.rdm_turn.specs.Slots.{EachFits}
use Rattle.rdm_inbox.specs.Passes.{InboxState}
use Rattle.rdm_inbox.specs.Queues.{PassesState}
use Rattle.rdm_port.specs.Views.{PortView}
use Rattle.rdm_launch.specs.Fitting.{FitsPlace}
use Rattle.rdm_launch.specs.Packing.{AllFit}

-- what stands at a place of a list with one element more
pub snoc_at : {A : Type 0} (xs : List A) (y : A) (k : ℕ) (x : A) → slice_get (xs ++ y ∷ []) k ≡ Some x → (slice_get xs k ≡ Some x) ⊎ ((k ≡ length xs) × (y ≡ x))
snoc_at [] y zero x h = inr (refl, cc)
snoc_at [] y (suc k) x h = absurd (cc)
snoc_at (z ∷ xs) y zero x h = inl h
snoc_at (z ∷ xs) y (suc k) x h = elim (snoc_at xs y k x h) [ inl a ↦ inl a | inr a ↦ inr (ap suc a.0, a.1) ]

-- what stands at a place of a list in the other order stands as far from its end
record FromEnd {A : Type 0} (xs : List A) (i : ℕ) (x : A) : Type 0 where
  place : ℕ
  there : slice_get xs place ≡ Some x
  far : i + place + 1 ≡ length xs

reverse_at : {A : Type 0} (xs : List A) (i : ℕ) (x : A) → slice_get (reverse xs) i ≡ Some x → FromEnd xs i x
reverse_at [] i x h = absurd (cc)
reverse_at {A} (y ∷ xs) i x h =
    elim (snoc_at (reverse xs) y i x (sym (ap (λ (l : List A). slice_get l i) (reverse-cons y xs)) ∙ h)) [
      | inl a ↦ let r = reverse_at xs i x a in let f = r.far in record { place = suc r.place; there = r.there; far = omega arith }
      | inr a ↦ let n = length-reverse xs in let k = a.0 in record { place = 0; there = ap Some a.1; far = omega arith }
    ]

-- each element fits the place that is as far from the end of so many
abbrev pub FitBack : {A : Type 0} → (A → ℕ → Type 0) → (n : ℕ) → List A → Type 0
FitBack {A} fits n xs = (j i : ℕ) (x : A) → slice_get xs j ≡ Some x → i + j + 1 ≡ n → fits x i

pub back_none : {A : Type 0} (fits : A → ℕ → Type 0) (n : ℕ) (xs : List A) → length xs ≡ 0 → FitBack fits n xs
back_none fits n [] none j i x h e = absurd (cc)
back_none fits n (y ∷ xs) none j i x h e = absurd (omega arith)

-- one more at the end, which fits the place before them
pub back_more : {A : Type 0} (fits : A → ℕ → Type 0) (n : ℕ) (xs ys : List A) (y : A) (k : ℕ) → ys ≡ xs ++ y ∷ [] → FitBack fits n xs → k + length xs + 1 ≡ n → fits y k → FitBack fits n ys
back_more {A} fits n xs ys y k long b at h j i x there e =
    elim (snoc_at xs y j x (sym (ap (λ (l : List A). slice_get l j) long) ∙ there)) [
      | inl a ↦ b j i x a e
      | inr a ↦ let c = a.0 in let same : k ≡ i = omega arith in subst (λ (z : A). fits z i) a.1 (subst (fits y) same h)
    ]

-- all, in the other order, fit their places
pub back_all : {A : Type 0} (fits : A → ℕ → Type 0) (n : ℕ) (xs ys : List A) → ys ≡ reverse xs → FitBack fits n xs → length xs ≡ n → EachFits fits ys
back_all {A} fits n xs ys back b e i x h = let r = reverse_at xs i x (sym (ap (λ (l : List A). slice_get l i) back) ∙ h) in b r.place i x r.there (r.far ∙ e)

-- the same list fits too
pub each_same : {A : Type 0} (fits : A → ℕ → Type 0) (xs ys : List A) → ys ≡ xs → EachFits fits xs → EachFits fits ys
each_same {A} fits xs ys same e i x h = e i x (sym (ap (λ (l : List A). slice_get l i) same) ∙ h)

-- a vector whose slice was put in the other order has it in that order
pub written_back : {A : Type 0} (n : ℕ) (xs old new rest : List A) → new ≡ reverse old → old ≡ xs → n ≡ length xs → take n (new ++ rest) ≡ reverse xs
written_back {A} n xs old new rest back same count =
    let is : new ≡ reverse xs = back ∙ ap (λ (l : List A). reverse l) same in
    take_at new rest n (ap (λ (l : List A). length l) is ∙ length-reverse xs ∙ sym count) ∙ is

-- those before the last, and the last
pub each_last : {A : Type 0} (fits : A → ℕ → Type 0) (all xs : List A) (y : A) → all ≡ xs ++ y ∷ [] → EachFits fits all → EachFits fits xs × fits y (length xs)
each_last {A} fits all xs y long e = (
  (λ i x h. e i x (ap (λ (l : List A). slice_get l i) long ∙ slice_get-append xs (y ∷ []) i x h)),
  e (length xs) y (ap (λ (l : List A). slice_get l (length xs)) long ∙ slice_get-push xs y),
)

-- the same of two lists
abbrev pub BothBack : List InboxState → List PortView → (n : ℕ) → List PortView → List PassesState → Type 0
BothBack tables starts n ports all = (j i : ℕ) (p : PortView) (v : PassesState) → slice_get ports j ≡ Some p → slice_get all j ≡ Some v → i + j + 1 ≡ n → FitsPlace tables starts p v i

module _ (tables : List InboxState) (starts : List PortView) where
  pub both_none : (n : ℕ) (all : List PassesState) → BothBack tables starts n [] all
  both_none n all j i p v h k e = absurd (cc)

  -- an element at a place below the end is no other list's last one
  past : {A : Type 0} (xs : List A) (k : ℕ) (x : A) (Q : Type 0) → slice_get xs k ≡ Some x → k ≡ length xs → Q
  past [] k x Q h e = absurd (cc)
  past (y ∷ xs) zero x Q h e = absurd (omega arith)
  past (y ∷ xs) (suc k) x Q h e = past xs k x Q h (omega arith)

  pub both_more : (n : ℕ) (ports : List PortView) (all : List PassesState) (q : PortView) (u : PassesState) (k : ℕ) → BothBack tables starts n ports all → length all ≡ length ports
      → k + length ports + 1 ≡ n → FitsPlace tables starts q u k → BothBack tables starts n (ports ++ q ∷ []) (all ++ u ∷ [])
  both_more n ports all q u k b same at h j i p v there here e =
      elim (snoc_at ports q j p there) [
        | inl a ↦ elim (snoc_at all u j v here) [
          | inl c ↦ b j i p v a c e
          | inr c ↦ past ports j p (FitsPlace tables starts p v i) a (c.0 ∙ same)
        ]
        | inr a ↦ elim (snoc_at all u j v here) [
          | inl c ↦ past all j v (FitsPlace tables starts p v i) c (a.0 ∙ sym same)
          | inr c ↦
              let m = a.0 in
              let is : k ≡ i = omega arith in
              subst (λ (x : PortView). FitsPlace tables starts x v i) a.1 (subst (λ (x : PassesState). FitsPlace tables starts q x i) c.1 (subst (λ (x : ℕ). FitsPlace tables starts q u x) is h))
        ]
      ]

  pub both_all : (n : ℕ) (ports back : List PortView) (all other : List PassesState) → back ≡ reverse ports → other ≡ reverse all → BothBack tables starts n ports all → length ports ≡ n → length all ≡ n
      → AllFit tables starts back other
  both_all n ports back all other x y b c d i p v there here =
      let r = reverse_at ports i p (sym (ap (λ (l : List PortView). slice_get l i) x) ∙ there) in
      let s = reverse_at all i v (sym (ap (λ (l : List PassesState). slice_get l i) y) ∙ here) in
      let f = r.far in
      let g = s.far in
      let same : s.place ≡ r.place = omega arith in
      b r.place i p v r.there (ap (slice_get all) (sym same) ∙ s.there) (f ∙ c)

  -- the last port with the last passes, and those before them
  pub record Parted (ports : List PortView) (all : List PassesState) (q : PortView) (u : PassesState) : Type 0 where
    pub last : FitsPlace tables starts q u (length ports)
    pub others : AllFit tables starts ports all

  pub parted : (ports : List PortView) (all : List PassesState) (q : PortView) (u : PassesState) → length all ≡ length ports → AllFit tables starts (ports ++ q ∷ []) (all ++ u ∷ [])
      → Parted ports all q u
  parted ports all q u same fits = record {
    last = fits (length ports) q u (slice_get-push ports q) (subst (λ (n : ℕ). slice_get (all ++ u ∷ []) n ≡ Some u) same (slice_get-push all u));
    others = λ i p v a b. fits i p v (slice_get-append ports (q ∷ []) i p a) (slice_get-append all (u ∷ []) i v b);
  }
