-- Lists of which a part was taken.
use Rattle.std.proofs.Common.{◌≡◌, ℕ, ◌<◌, ◌≤◌, List, [], ◌∷◌, ◌++◌, length, take, drop, get_or, ◌+◌, arith, sym, ◌∙◌, ap, inl, inr}
use Rattle.std.proofs.lemmas.Bool.{cases_eq, cases_lt}
use Rattle.std.proofs.lemmas.List.{take_at, drop_at, take_all, drop_all, append-nil, get_or_append_left, get_or_push}

-- the first part of a list, where no more than n are in it, and fewer only where nothing is left
pub first_part : {A : Type 0} (n : ℕ) (xs got rest : List A) → xs ≡ got ++ rest → length got ≤ n → (length got < n → rest ≡ []) → got ≡ take n xs
first_part {A} n xs got rest is few all = elim (cases_eq (length got) n) [
  | inl exact ↦ sym (take_at got rest n exact) ∙ ap (take n) (sym is)
  | inr other ↦ (let none : rest ≡ [] = all (omega arith) in
      let whole : xs ≡ got = is ∙ ap (λ (r : List A). got ++ r) none ∙ append-nil got in
      sym whole ∙ sym (take_all n xs (omega (arith, ap length whole))))
]

-- the part that is left
pub last_part : {A : Type 0} (n : ℕ) (xs got rest : List A) → xs ≡ got ++ rest → length got ≤ n → (length got < n → rest ≡ []) → rest ≡ drop n xs
last_part {A} n xs got rest is few all = elim (cases_eq (length got) n) [
  | inl exact ↦ sym (drop_at got rest n exact) ∙ ap (drop n) (sym is)
  | inr other ↦ (let none : rest ≡ [] = all (omega arith) in
      let whole : xs ≡ got = is ∙ ap (λ (r : List A). got ++ r) none ∙ append-nil got in
      none ∙ sym (drop_all n xs (omega (arith, ap length whole))))
]

-- each of a list and one more is what stands for its place
pub get_or_more : {A : Type 0} (xs : List A) (x : A) (f : ℕ → A) (n : ℕ) (ys : List A) → ys ≡ xs ++ x ∷ [] → length xs ≡ n → ((i : ℕ) (d : A) → i < n → get_or xs i d ≡ f i)
    → x ≡ f n → (i : ℕ) (d : A) → i < n + 1 → get_or ys i d ≡ f i
get_or_more xs x f n ys e len at is i d lt =
    ap (λ zs. get_or zs i d) e
    ∙ elim (cases_lt i n) [
      | inl less ↦ get_or_append_left xs (x ∷ []) d i (omega arith) ∙ at i d less
      | inr more ↦ (let same : n ≡ i = omega arith in get_or_push xs x d i (len ∙ same) ∙ is ∙ ap f same)
    ]
