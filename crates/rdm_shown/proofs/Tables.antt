-- What changes of values under numbers are to the list that they are like.
use Rattle.std.proofs.Common.{◌≡◌, ℕ, Bool, true, false, not, cond, List, [], ◌∷◌, ◌++◌, length, Some, filter, find, refl, sym, ap, ◌∙◌, ◌≤◌, ◌<◌, ◌+◌, ◌==◌, inl, inr, arith}
use Rattle.rdm_lists.specs.Lists.{Member}
use Rattle.rdm_life.specs.Kept.{change_where}
use Rattle.rdm_pool.specs.Numbered.{value_at, with_value, without}
use Rattle.rdm_shown.specs.Tables.{AreLike, IsLike, IsEntry, NumbersRise, AreEntries}

-- numbers that rise from one rise from a lower one
pub rise_lower : {B : Type 0} (number : B → ℕ) (low least : ℕ) (ys : List B) → low ≤ least → NumbersRise number least ys → NumbersRise number low ys
rise_lower number low least [] le rise = tt
rise_lower number low least (y ∷ ys) le rise = (omega (arith, rise.0), rise.1)

-- each is at least the first bound
pub rise_from : {B : Type 0} (number : B → ℕ) (least : ℕ) (ys : List B) (z : B) → NumbersRise number least ys → Member z ys → least ≤ number z
rise_from number least [] z rise m = absurd m
rise_from number least (y ∷ ys) z rise (inl e) = rw (← e) rise.0
rise_from number least (y ∷ ys) z rise (inr m) = let after = rise_from number (number y + 1) ys z rise.1 m in let first = rise.0 in omega arith

-- a value is found where an element has its number, and is like it
pub entries_find : {A B : Type 0} (number : B → ℕ) (R : A → B → Type 0) (entries : List (ℕ × A)) (ys : List B) (n : ℕ)
    → AreLike (IsEntry number R) entries ys → IsLike R (value_at entries n) (find (λ y. number y == n) ys)
unfolding value_at
entries_find number R [] [] n like = tt
entries_find number R [] (y ∷ ys) n like = absurd like
entries_find number R (e ∷ es) [] n like = absurd like
entries_find {A} {B} number R (e ∷ es) (y ∷ ys) n like =
    let rest = entries_find number R es ys n like.1 in
    rw like.0.0 (elim (number y == n) as (λ b. IsLike R (cond b (Some e.1) (value_at es n)) (cond b (Some y) (find (λ z. number z == n) ys))) [
      | true ↦ like.0.1
      | false ↦ rest
    ])

-- there are as many
pub like_count : {A B : Type 0} (R : A → B → Type 0) (xs : List A) (ys : List B) → AreLike R xs ys → length xs ≡ length ys
like_count R [] [] like = refl
like_count R [] (y ∷ ys) like = absurd like
like_count R (x ∷ xs) [] like = absurd like
like_count R (x ∷ xs) (y ∷ ys) like = let rest = like_count R xs ys like.1 in omega arith

-- one more stands last on both sides
pub like_put : {A B : Type 0} (R : A → B → Type 0) (xs : List A) (ys : List B) (x : A) (y : B) → AreLike R xs ys → R x y → AreLike R (xs ++ x ∷ []) (ys ++ y ∷ [])
like_put R [] [] x y like is = (is, tt)
like_put R [] (z ∷ ys) x y like is = absurd like
like_put R (w ∷ xs) [] x y like is = absurd like
like_put R (w ∷ xs) (z ∷ ys) x y like is = (like.0, like_put R xs ys x y like.1 is)

-- what holds of those that are alike holds by another measure
pub like_pass : {A B : Type 0} (R S : A → B → Type 0) (xs : List A) (ys : List B) → AreLike R xs ys → ((x : A) (y : B) → Member y ys → R x y → S x y) → AreLike S xs ys
like_pass R S [] [] like h = tt
like_pass R S [] (y ∷ ys) like h = absurd like
like_pass R S (x ∷ xs) [] like h = absurd like
like_pass R S (x ∷ xs) (y ∷ ys) like h = (h x y (inl refl) like.0, like_pass R S xs ys like.1 (λ a b m. h a b (inr m)))

-- the greater number may stand last
pub rise_last : {B : Type 0} (number : B → ℕ) (least : ℕ) (ys : List B) (y : B) → least ≤ number y → NumbersRise number least ys → ((z : B) → Member z ys → number z < number y) → NumbersRise number least (ys ++ y ∷ [])
rise_last number least [] y le rise below = (le, tt)
rise_last number least (z ∷ ys) y le rise below =
    let first = below z (inl refl) in
    (rise.0, rise_last number (number z + 1) ys y (omega arith) rise.1 (λ w m. below w (inr m)))

-- a value that is put last, under a number above all others
pub entries_put : {A B : Type 0} (number : B → ℕ) (R : A → B → Type 0) (entries : List (ℕ × A)) (ys : List B) (x : A) (y : B)
    → AreEntries number R entries ys → ((z : B) → Member z ys → number z < number y) → R x y
    → AreEntries number R (entries ++ (number y, x) ∷ []) (ys ++ y ∷ [])
entries_put number R entries ys x y are above is =
    record {
      like = like_put (IsEntry number R) entries ys (number y, x) y are.like (refl, is);
      rise = rise_last number 0 ys y (omega arith) are.rise above;
    }

-- an element of a greater number is left as it is
no_later : {B : Type 0} (number : B → ℕ) (n : ℕ) (ys : List B) → NumbersRise number (n + 1) ys → (z : B) → Member z ys → (number z == n) ≡ false
no_later number n ys rise z m = let after = rise_from number (n + 1) ys z rise m in nat_differs (number z) n (λ e. omega arith)
  where
    nat_differs : (a b : ℕ) → (a ≡ b → ⊥) → (a == b) ≡ false
    nat_differs a b h = grind (arith, h)

-- nothing is changed where none passes
no_change : {B : Type 0} (p : B → Bool) (change : B → B) (ys : List B) → ((z : B) → Member z ys → p z ≡ false) → change_where p change ys ≡ ys
unfolding change_where
no_change p change [] h = refl
no_change p change (y ∷ ys) h = let e = h y (inl refl) in let rest = no_change p change ys (λ z m. h z (inr m)) in rw (e, rest) refl

-- nothing is left out where all pass
no_loss : {B : Type 0} (p : B → Bool) (ys : List B) → ((z : B) → Member z ys → p z ≡ false) → filter (λ z. not (p z)) ys ≡ ys
no_loss p [] h = refl
no_loss p (y ∷ ys) h = let e = h y (inl refl) in let rest = no_loss p ys (λ z m. h z (inr m)) in rw (e, rest) refl

-- a value that is written in the place of another: the element of its number is changed
pub entries_write : {A B : Type 0} (number : B → ℕ) (R : A → B → Type 0) (entries : List (ℕ × A)) (ys : List B) (least : ℕ) (n : ℕ) (x : A) (change : B → B)
    → AreLike (IsEntry number R) entries ys → NumbersRise number least ys
    → ((y : B) → Member y ys → number y ≡ n → (number (change y) ≡ n) × R x (change y))
    → AreLike (IsEntry number R) (with_value entries n x) (change_where (λ z. number z == n) change ys)
unfolding change_where with_value
entries_write number R [] [] least n x change like rise h = tt
entries_write number R [] (y ∷ ys) least n x change like rise h = absurd like
entries_write number R (e ∷ es) [] least n x change like rise h = absurd like
entries_write {A} {B} number R (e ∷ es) (y ∷ ys) least n x change like rise h =
    elim (number y == n) as (λ b. (number y == n) ≡ b → AreLike (IsEntry number R) (cond (e.0 == n) ((e.0, x) ∷ es) (e ∷ with_value es n x)) (cond (number y == n) (change y) y ∷ change_where (λ z. number z == n) change ys)) [
      | true ↦ λ is.
          let same : number y ≡ n = nat_is (number y) n is in
          let new = h y (inl refl) same in
          let later = no_change (λ z. number z == n) change ys (no_later number n ys (rw (← same) rise.1)) in
          rw like.0.0 (rw is (rw later ((same ∙ sym new.0, new.1), like.1)))
      | false ↦ λ is.
          let rest = entries_write number R es ys (number y + 1) n x change like.1 rise.1 (λ z m. h z (inr m)) in
          let differs : (e.0 == n) ≡ false = ap (λ k. k == n) like.0.0 ∙ is in
          rw differs (rw is (like.0, rest))
    ] refl
  where
    nat_is : (a b : ℕ) → (a == b) ≡ true → a ≡ b
    nat_is a b h = grind (arith, h)

-- a value that is taken: the element of its number is gone
pub entries_take : {A B : Type 0} (number : B → ℕ) (R : A → B → Type 0) (entries : List (ℕ × A)) (ys : List B) (least n : ℕ)
    → AreLike (IsEntry number R) entries ys → NumbersRise number least ys
    → AreLike (IsEntry number R) (without entries n) (filter (λ y. not (number y == n)) ys)
unfolding without
entries_take number R [] [] least n like rise = tt
entries_take number R [] (y ∷ ys) least n like rise = absurd like
entries_take number R (e ∷ es) [] least n like rise = absurd like
entries_take {A} {B} number R (e ∷ es) (y ∷ ys) least n like rise =
    elim (number y == n) as (λ b. (number y == n) ≡ b → AreLike (IsEntry number R) (cond (e.0 == n) es (e ∷ without es n)) (cond (not (number y == n)) (y ∷ filter (λ z. not (number z == n)) ys) (filter (λ z. not (number z == n)) ys))) [
      | true ↦ λ is.
          let same : number y ≡ n = nat_is (number y) n is in
          let later = no_loss (λ z. number z == n) ys (no_later number n ys (rw (← same) rise.1)) in
          let first : (e.0 == n) ≡ true = ap (λ k. k == n) like.0.0 ∙ is in
          rw first (rw is (rw later like.1))
      | false ↦ λ is.
          let rest = entries_take number R es ys (number y + 1) n like.1 rise.1 in
          let differs : (e.0 == n) ≡ false = ap (λ k. k == n) like.0.0 ∙ is in
          rw differs (rw is (like.0, rest))
    ] refl
  where
    nat_is : (a b : ℕ) → (a == b) ≡ true → a ≡ b
    nat_is a b h = grind (arith, h)

-- numbers that are left rise
pub rise_left : {B : Type 0} (number : B → ℕ) (p : B → Bool) (least : ℕ) (ys : List B) → NumbersRise number least ys → NumbersRise number least (filter p ys)
rise_left number p least [] rise = tt
rise_left {B} number p least (y ∷ ys) rise =
    let rest = rise_left number p (number y + 1) ys rise.1 in
    elim (p y) as (λ b. NumbersRise number least (cond b (y ∷ filter p ys) (filter p ys))) [
      | true ↦ (rise.0, rest)
      | false ↦ rise_lower number least (number y + 1) (filter p ys) (omega (arith, rise.0)) rest
    ]

-- numbers that stay rise
pub rise_changed : {B : Type 0} (number : B → ℕ) (t : B → Bool) (change : B → B) (least : ℕ) (ys : List B)
    → ((y : B) → Member y ys → number (change y) ≡ number y) → NumbersRise number least ys → NumbersRise number least (change_where t change ys)
unfolding change_where
rise_changed number t change least [] h rise = tt
rise_changed {B} number t change least (y ∷ ys) h rise =
    let rest = rise_changed number t change (number y + 1) ys (λ z m. h z (inr m)) rise.1 in
    elim (t y) as (λ b. NumbersRise number least (cond b (change y) y ∷ change_where t change ys)) [
      | true ↦ rw (h y (inl refl)) (rise.0, rest)
      | false ↦ (rise.0, rest)
    ]

-- ---- where both sides have numbers

-- what is found on one side by its number is like what is found on the other
pub like_find : {A B : Type 0} (key : A → ℕ) (number : B → ℕ) (R : A → B → Type 0) (xs : List A) (ys : List B) (n : ℕ)
    → ((x : A) (y : B) → R x y → key x ≡ number y) → AreLike R xs ys → IsLike R (find (λ x. key x == n) xs) (find (λ y. number y == n) ys)
like_find key number R [] [] n h like = tt
like_find key number R [] (y ∷ ys) n h like = absurd like
like_find key number R (x ∷ xs) [] n h like = absurd like
like_find {A} {B} key number R (x ∷ xs) (y ∷ ys) n h like =
    let rest = like_find key number R xs ys n h like.1 in
    rw (h x y like.0) (elim (number y == n) as (λ b. IsLike R (cond b (Some x) (find (λ z. key z == n) xs)) (cond b (Some y) (find (λ z. number z == n) ys))) [
      | true ↦ like.0
      | false ↦ rest
    ])

-- those that pass on both sides are changed
pub like_change : {A B : Type 0} (p : A → Bool) (q : B → Bool) (f : A → A) (g : B → B) (R : A → B → Type 0) (xs : List A) (ys : List B)
    → ((x : A) (y : B) → Member y ys → R x y → p x ≡ q y) → ((x : A) (y : B) → Member y ys → q y ≡ true → R x y → R (f x) (g y))
    → AreLike R xs ys → AreLike R (change_where p f xs) (change_where q g ys)
unfolding change_where
like_change p q f g R [] [] same changes like = tt
like_change p q f g R [] (y ∷ ys) same changes like = absurd like
like_change p q f g R (x ∷ xs) [] same changes like = absurd like
like_change {A} {B} p q f g R (x ∷ xs) (y ∷ ys) same changes like =
    let rest = like_change p q f g R xs ys (λ a b m. same a b (inr m)) (λ a b m. changes a b (inr m)) like.1 in
    rw (same x y (inl refl) like.0) (elim (q y) as (λ b. q y ≡ b → R (cond b (f x) x) (cond b (g y) y) × AreLike R (change_where p f xs) (change_where q g ys)) [
      | true ↦ λ is. (changes x y (inl refl) is like.0, rest)
      | false ↦ λ is. (like.0, rest)
    ] refl)

-- those that pass on both sides are left
pub like_left : {A B : Type 0} (p : A → Bool) (q : B → Bool) (R : A → B → Type 0) (xs : List A) (ys : List B)
    → ((x : A) (y : B) → Member y ys → R x y → p x ≡ q y) → AreLike R xs ys → AreLike R (filter p xs) (filter q ys)
like_left p q R [] [] same like = tt
like_left p q R [] (y ∷ ys) same like = absurd like
like_left p q R (x ∷ xs) [] same like = absurd like
like_left {A} {B} p q R (x ∷ xs) (y ∷ ys) same like =
    let rest = like_left p q R xs ys (λ a b m. same a b (inr m)) like.1 in
    rw (same x y (inl refl) like.0) (elim (q y) as (λ b. AreLike R (cond b (x ∷ filter p xs) (filter p xs)) (cond b (y ∷ filter q ys) (filter q ys))) [
      | true ↦ (like.0, rest)
      | false ↦ rest
    ])
