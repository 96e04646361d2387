-- Lists by what stands at each place.
use Rattle.std.proofs.Common.{◌≡◌, ◌≢◌, ℕ, zero, suc, ◌+◌, ◌-◌, ◌<◌, ◌≤◌, Bool, true, false, cond, nat_lt, nat_le, List, [], ◌∷◌, ◌++◌, length, map, set, get_or, take, sym, refl, ap, ap₂, ◌∙◌, subst, arith, length-set, inl, inr, Some}
use Rattle.std.proofs.lemmas.Bool.{cases_lt, lt-ltb, le-ltb, le-leb, lt-leb}
use mathlib.Core.Logic.{dite}
use native.Mathlib.Decide.{ℕ_discrete}
use Rattle.std.specs.Prelude.{slice_get}
use Rattle.rdm_inbox.proofs.Passing.{same_some, some_at, slice_get-low}

module _ {A : Type 0} where
  pub slice_get-set_here : (xs : List A) (n : ℕ) (y : A) → n < length xs → slice_get (set xs n y) n ≡ Some y
  slice_get-set_here [] n y lt = absurd (omega arith)
  slice_get-set_here (x ∷ xs) zero y lt = refl
  slice_get-set_here (x ∷ xs) (suc n) y lt = slice_get-set_here xs n y (omega arith)

  pub slice_get-set_else : (xs : List A) (n i : ℕ) (y : A) → i ≢ n → slice_get (set xs n y) i ≡ slice_get xs i
  slice_get-set_else [] n i y ne = refl
  slice_get-set_else (x ∷ xs) zero zero y ne = absurd (ne refl)
  slice_get-set_else (x ∷ xs) zero (suc i) y ne = refl
  slice_get-set_else (x ∷ xs) (suc n) zero y ne = refl
  slice_get-set_else (x ∷ xs) (suc n) (suc i) y ne = slice_get-set_else xs n i y (λ e. ne (ap suc e))

  pub take-more : (xs : List A) (n : ℕ) (x : A) → slice_get xs n ≡ Some x → take (n + 1) xs ≡ take n xs ++ x ∷ []
  take-more [] n x e = absurd (cc)
  take-more (y ∷ xs) zero x e = ap (λ z. z ∷ []) (same_some y x e)
  take-more (y ∷ xs) (suc n) x e = ap (λ m. take m (y ∷ xs)) (let m : suc n + 1 ≡ suc (n + 1) = omega arith in m) ∙ ap (λ zs. y ∷ zs) (take-more xs n x e)

  pub take-whole : (xs : List A) (n : ℕ) → length xs ≤ n → take n xs ≡ xs
  take-whole [] zero le = refl
  take-whole [] (suc n) le = refl
  take-whole (x ∷ xs) zero le = absurd (omega arith)
  take-whole (x ∷ xs) (suc n) le = ap (λ zs. x ∷ zs) (take-whole xs n (omega arith))

  pub slice_get-take : (xs : List A) (n i : ℕ) → i < n → slice_get (take n xs) i ≡ slice_get xs i
  slice_get-take xs zero i lt = absurd (omega arith)
  slice_get-take [] (suc n) i lt = refl
  slice_get-take (x ∷ xs) (suc n) zero lt = refl
  slice_get-take (x ∷ xs) (suc n) (suc i) lt = slice_get-take xs n i (omega arith)

  pub length-take : (xs : List A) (n : ℕ) → n ≤ length xs → length (take n xs) ≡ n
  length-take xs zero le = refl
  length-take [] (suc n) le = absurd (omega arith)
  length-take (x ∷ xs) (suc n) le = ap suc (length-take xs n (omega arith))

  pub take-less : (xs : List A) (n : ℕ) → take n (take (suc n) xs) ≡ take n xs
  take-less xs zero = refl
  take-less [] (suc n) = refl
  take-less (x ∷ xs) (suc n) = ap (λ zs. x ∷ zs) (take-less xs n)

  -- all but the last of the first
  pub take-but_last : (xs : List A) (n : ℕ) → n + 1 ≤ length xs → take (length (take (n + 1) xs) - 1) (take (n + 1) xs) ≡ take n xs
  take-but_last xs n le =
      let long = length-take xs (n + 1) le in ap (λ m. take m (take (n + 1) xs)) (let m : length (take (n + 1) xs) - 1 ≡ n = omega arith in m)
      ∙ (ap (λ m. take n (take m xs)) (let m : n + 1 ≡ suc n = omega arith in m) ∙ take-less xs n)

  -- an element that was read
  pub slice_get-read : (xs : List A) (i : ℕ) (d : A) → i < length xs → slice_get xs i ≡ Some (get_or xs i d)
  slice_get-read [] i d lt = absurd (omega arith)
  slice_get-read (x ∷ xs) zero d lt = refl
  slice_get-read (x ∷ xs) (suc i) d lt = slice_get-read xs i d (omega arith)

  -- two lists, of which the second has f of the first's elements at some places
  pub record Changed (some : ℕ → Bool) (f : ℕ → A → A) (xs ys : List A) : Type 0 where
    pub each : (i : ℕ) (x : A) → slice_get xs i ≡ Some x → slice_get ys i ≡ Some (cond (some i) (f i x) x)
    pub count : length ys ≡ length xs

  -- a place that has not changed yet
  pub Changed-here : (some : ℕ → Bool) (f : ℕ → A → A) (xs ys : List A) (n : ℕ) (d : A) → Changed some f xs ys → n < length xs → some n ≡ false → slice_get xs n ≡ Some (get_or ys n d)
  Changed-here some f xs ys n d c lt is = let x = some_at xs n lt in let count = c.count in
      x.1 ∙ (sym (c.each n x.0 x.1 ∙ ap (λ b. Some (cond b (f n x.0) x.0)) is) ∙ slice_get-read ys n d (omega arith))

  -- one more place changes
  pub Changed-more : (some more : ℕ → Bool) (f : ℕ → A → A) (xs ys : List A) (n : ℕ) (x : A) → Changed some f xs ys → slice_get xs n ≡ Some x → more n ≡ true → ((i : ℕ) → i ≢ n → more i ≡ some i) → Changed more f xs (set ys n (f n x))
  Changed-more some more f xs ys n x c at now others = record {
    each = λ i y e. dite (ℕ_discrete i n)
        (λ same. subst (λ k. slice_get (set ys n (f n x)) k ≡ Some (cond (more k) (f k y) y)) (sym same)
        (slice_get-set_here ys n (f n x) (let low = slice_get-low xs n x at in let count = c.count in omega arith)
        ∙ (ap (λ z. Some (f n z)) (same_some x y (sym at ∙ subst (λ k. slice_get xs k ≡ Some y) same e)) ∙ sym (ap (λ b. Some (cond b (f n y) y)) now))))
        (λ ne. slice_get-set_else ys n i (f n x) ne ∙ (c.each i y e ∙ sym (ap (λ b. Some (cond b (f i y) y)) (others i ne))));
    count = length-set ys n (f n x) ∙ c.count;
  }

-- a number is below the next one, and so are those that are below itself
pub lt-next : (n : ℕ) → nat_lt n (n + 1) ≡ true
lt-next n = lt-ltb n (n + 1) (omega arith)

pub lt-self : (n : ℕ) → nat_lt n n ≡ false
lt-self n = le-ltb n n (omega arith)

pub lt-others : (n i : ℕ) → i ≢ n → nat_lt i (n + 1) ≡ nat_lt i n
lt-others n i ne = elim (cases_lt i n) [ inl lt ↦ lt-ltb i (n + 1) (omega arith) ∙ sym (lt-ltb i n lt) | inr le ↦ le-ltb i (n + 1) (omega arith) ∙ sym (le-ltb i n le) ]

-- a number is from itself on, and so are those from the next one on
pub le-self : (n : ℕ) → nat_le n n ≡ true
le-self n = le-leb n n (omega arith)

pub le-next : (n : ℕ) → nat_le (n + 1) n ≡ false
le-next n = lt-leb (n + 1) n (omega arith)

pub le-others : (n i : ℕ) → i ≢ n → nat_le n i ≡ nat_le (n + 1) i
le-others n i ne = elim (cases_lt i n) [ inl lt ↦ lt-leb n i lt ∙ sym (lt-leb (n + 1) i (omega arith)) | inr le ↦ le-leb n i le ∙ sym (le-leb (n + 1) i (omega arith)) ]

-- lists whose elements give the same at each place
pub map-alike : {A B C : Type 0} (g : A → C) (h : B → C) (xs : List A) (ys : List B) → length xs ≡ length ys
    → ((i : ℕ) (x : A) (y : B) → slice_get xs i ≡ Some x → slice_get ys i ≡ Some y → g x ≡ h y) → map g xs ≡ map h ys
map-alike g h [] [] n same = refl
map-alike g h [] (y ∷ ys) n same = absurd (omega arith)
map-alike g h (x ∷ xs) [] n same = absurd (omega arith)
map-alike g h (x ∷ xs) (y ∷ ys) n same = ap₂ (λ a b. a ∷ b) (same 0 x y refl refl) (map-alike g h xs ys (omega arith) (λ i a b e f. same (suc i) a b e f))
