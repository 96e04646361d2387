-- A list with others written over a range of it, place by place.
use Rattle.std.proofs.Common.{◌≡◌, ℕ, zero, suc, ◌+◌, ◌-◌, ◌<◌, ◌≤◌, ◌⊎◌, inl, inr, true, false, ltb, List, [], ◌∷◌, ◌++◌, length, get_or, take, drop, map, replicate, Option, Some, None, is_none, refl, ap, ◌∙◌, arith, length-append, ltb-true, ltb-false}
use Rattle.std.proofs.lemmas.List.{length-take-le, length-drop, length-map, length-replicate, get_or-append_right, get_or_append_left, get_or-take, get_or-drop}
use Rattle.std.proofs.lemmas.Bool.{true≢false, false≢true}
use Rattle.rdm_mr.specs.Tiles.{AreHome, AreOut}

pub by_lt : {X : Type 0} (a b : ℕ) → (a < b → X) → (b ≤ a → X) → X
by_lt {X = X} a b f g = elim (ltb a b) as (λ v. ltb a b ≡ v → X) [ true ↦ λ e. f (ltb-true a b e) | false ↦ λ e. g (ltb-false a b e) ] refl

-- a place of a range, or another
pub by_range : {X : Type 0} (at n k : ℕ) → (at ≤ k → k < at + n → X) → ((k < at) ⊎ (at + n ≤ k) → X) → X
by_range at n k f g = by_lt k at (λ p. g (inl p)) (λ p. by_lt k (at + n) (λ q. f p q) (λ q. g (inr q)))

module _ {X : Type 0} (at : ℕ) (xs cs : List X) (d : X) (fits : at + length xs ≤ length cs) where
  abbrev pub new : List X
  new = take at cs ++ (xs ++ drop (at + length xs) cs)

  front : length (take at cs) ≡ at
  front = length-take-le at cs (omega arith)

  pub length-new : length new ≡ length cs
  length-new =
      let a = length-append (take at cs) (xs ++ drop (at + length xs) cs) in
      let b = length-append xs (drop (at + length xs) cs) in
      let c = length-drop (at + length xs) cs in
      omega (arith, a, b, c, front)

  pub new_in : (k : ℕ) → at ≤ k → k < at + length xs → get_or new k d ≡ get_or xs (k - at) d
  new_in k p q = get_or-append_right (take at cs) (xs ++ drop (at + length xs) cs) at k d front p ∙ get_or_append_left xs (drop (at + length xs) cs) d (k - at) (omega arith)

  pub new_out : (k : ℕ) → (k < at) ⊎ (at + length xs ≤ k) → get_or new k d ≡ get_or cs k d
  new_out k (inl lt) = get_or_append_left (take at cs) (xs ++ drop (at + length xs) cs) d k (omega (arith, front)) ∙ get_or-take at cs k d lt
  new_out k (inr le) =
      let sum : (at + length xs) + ((k - at) - length xs) ≡ k = omega arith in
      get_or-append_right (take at cs) (xs ++ drop (at + length xs) cs) at k d front (omega arith)
      ∙ get_or-append_right xs (drop (at + length xs) cs) (length xs) (k - at) d refl (omega arith)
      ∙ get_or-drop (at + length xs) cs ((k - at) - length xs) d ∙ ap (λ j. get_or cs j d) sum

-- each element of a range, and the range
each_front : {X : Type 0} (x d : X) (len : ℕ) (xs : List X) → len ≤ length xs → ((k : ℕ) → k < len → get_or xs k d ≡ x) → take len xs ≡ replicate len x
each_front x d zero xs le h = refl
each_front x d (suc len) [] le h = absurd (omega arith)
each_front x d (suc len) (y ∷ xs) le h = (λ i. h 0 (omega arith) i ∷ each_front x d len xs (omega arith) (λ k lt. h (suc k) (omega arith)) i)

pub from_each : {X : Type 0} (x d : X) (off len : ℕ) (xs : List X) → off + len ≤ length xs → ((k : ℕ) → off ≤ k → k < off + len → get_or xs k d ≡ x) → take len (drop off xs) ≡ replicate len x
from_each x d off len xs le h =
    let l = length-drop off xs in
    each_front x d len (drop off xs) (omega (arith, l)) (λ k lt. get_or-drop off xs k d ∙ h (off + k) (omega arith) (omega arith))

-- each cell of a range that is out, and the range
pub out_from_each : (off len : ℕ) (cells : List (Option ℕ)) → off + len ≤ length cells → ((k : ℕ) → off ≤ k → k < off + len → is_none (get_or cells k None) ≡ true) → AreOut off len cells
out_from_each off len cells le h =
    let n : length (replicate {A = Option ℕ} len None) ≡ len = length-replicate len None in
    (omega (arith, n), ap (λ j. take j (drop off cells)) n ∙ from_each None None off len cells le (λ k p q. none_is (get_or cells k None) (h k p q)))
  where
    none_is : (o : Option ℕ) → is_none o ≡ true → o ≡ None
    none_is None e = refl
    none_is (Some x) e = absurd (false≢true e)

-- what is nowhere out is at home
abbrev bytes_of : List (Option ℕ) → List ℕ
bytes_of [] = []
bytes_of (Some x ∷ cells) = x ∷ bytes_of cells
bytes_of (None ∷ cells) = 0 ∷ bytes_of cells

pub whole_from_each : (cells : List (Option ℕ)) → ((k : ℕ) → k < length cells → is_none (get_or cells k None) ≡ false) → cells ≡ map Some (bytes_of cells)
whole_from_each [] h = refl
whole_from_each (Some x ∷ cells) h = ap (λ l. Some x ∷ l) (whole_from_each cells (λ k lt. h (suc k) (omega arith)))
whole_from_each (None ∷ cells) h = absurd (true≢false (h 0 (omega arith)))

pub home_from_each : (off len : ℕ) (cells : List (Option ℕ)) → off + len ≤ length cells → ((k : ℕ) → off ≤ k → k < off + len → is_none (get_or cells k None) ≡ false) → AreHome off len cells
home_from_each off len cells le h =
    let middle = take len (drop off cells) in
    let d = length-drop off cells in
    let size : length middle ≡ len = length-take-le len (drop off cells) (omega (arith, d)) in
    let is = whole_from_each middle (λ k lt. ap is_none (get_or-take len (drop off cells) k None (omega (arith, size)) ∙ get_or-drop off cells k None) ∙ h (off + k) (omega arith) (omega (arith, size))) in
    let m = length-map (bytes_of middle) Some in
    let long = ap length is in
    let all : length (map Some (bytes_of middle)) ≡ len = omega (arith, long, size) in
    (bytes_of middle, omega (arith, m, long, size), (omega (arith, all), ap (λ j. take j (drop off cells)) all ∙ is))

-- a byte is no gap
pub some_bytes : (bytes : List ℕ) (k : ℕ) → k < length bytes → is_none (get_or (map Some bytes) k None) ≡ false
some_bytes [] k lt = absurd (omega arith)
some_bytes (x ∷ bytes) zero lt = refl
some_bytes (x ∷ bytes) (suc k) lt = some_bytes bytes k (omega arith)
