-- The bytes of places that came before.
use Rattle.std.proofs.Common.{◌≡◌, ℕ, zero, suc, ◌+◌, ◌-◌, ◌<◌, ◌≤◌, ◌⊎◌, inl, inr, Bool, true, false, cond, List, [], ◌∷◌, length, get_or, take, drop, map, Option, Some, None, is_none, refl, sym, ap, subst, ◌∙◌, arith, min}
use Rattle.std.proofs.lemmas.List.{length-map, length-take, length-take-le, length-drop, get_or-take, get_or-drop, get_or-map, get_or_past, ext_get_or}
use Rattle.rdm_gaps.specs.Places.{AreMissing}
use Rattle.rdm_gaps.proofs.Covered.{all_at}
use Rattle.rdm_mr.specs.Tiles.{laid, AreHome, IsWhole}
use Rattle.rdm_mr.proofs.Overlays.{by_lt, by_range, length-new, new_in, new_out, some_bytes, home_from_each, whole_from_each}
use Rattle.rdm_land.specs.Arrivals.{came_over}

pub length-came : (missing : List Bool) (bytes : List ℕ) (cells : List (Option ℕ)) → length (came_over missing bytes cells) ≡ length cells
length-came [] bytes cells = refl
length-came (m ∷ missing) [] cells = refl
length-came (m ∷ missing) (b ∷ bytes) [] = refl
length-came (m ∷ missing) (b ∷ bytes) (c ∷ cells) = ap suc (length-came missing bytes cells)

-- a place that came
pub came_in : (k : ℕ) (missing : List Bool) (bytes : List ℕ) (cells : List (Option ℕ)) → k < length missing → k < length bytes → k < length cells → get_or missing k false ≡ false
    → get_or (came_over missing bytes cells) k None ≡ Some (get_or bytes k 0)
came_in k [] bytes cells m b c e = absurd (omega arith)
came_in k (t ∷ missing) [] cells m b c e = absurd (omega arith)
came_in k (t ∷ missing) (x ∷ bytes) [] m b c e = absurd (omega arith)
came_in zero (t ∷ missing) (x ∷ bytes) (d ∷ cells) m b c e = ap (λ v. cond v d (Some x)) e
came_in (suc k) (t ∷ missing) (x ∷ bytes) (d ∷ cells) m b c e = came_in k missing bytes cells (omega arith) (omega arith) (omega arith) e

-- a place that is missing, or past the end
pub came_out : (k : ℕ) (missing : List Bool) (bytes : List ℕ) (cells : List (Option ℕ)) → get_or missing k true ≡ true → get_or (came_over missing bytes cells) k None ≡ get_or cells k None
came_out k [] bytes cells e = refl
came_out k (t ∷ missing) [] cells e = refl
came_out k (t ∷ missing) (x ∷ bytes) [] e = refl
came_out zero (t ∷ missing) (x ∷ bytes) (d ∷ cells) e = ap (λ v. cond v d (Some x)) e
came_out (suc k) (t ∷ missing) (x ∷ bytes) (d ∷ cells) e = came_out k missing bytes cells e

-- the cell of a place depends on the test of that place alone
pub came_same : (k : ℕ) (missing others : List Bool) (bytes : List ℕ) (cells : List (Option ℕ)) → get_or missing k true ≡ get_or others k true
    → get_or (came_over missing bytes cells) k None ≡ get_or (came_over others bytes cells) k None
came_same k [] others bytes cells e = sym (came_out k others bytes cells (sym e))
came_same k (t ∷ missing) [] bytes cells e = came_out k (t ∷ missing) bytes cells e
came_same k (t ∷ missing) (u ∷ others) [] cells e = refl
came_same k (t ∷ missing) (u ∷ others) (x ∷ bytes) [] e = refl
came_same zero (t ∷ missing) (u ∷ others) (x ∷ bytes) (d ∷ cells) e = ap (λ v. cond v d (Some x)) e
came_same (suc k) (t ∷ missing) (u ∷ others) (x ∷ bytes) (d ∷ cells) e = came_same k missing others bytes cells e

-- where all is at home, it stays so
pub came_home : (k : ℕ) (missing : List Bool) (bytes : List ℕ) (cells : List (Option ℕ)) → is_none (get_or cells k None) ≡ false → is_none (get_or (came_over missing bytes cells) k None) ≡ false
came_home k [] bytes cells e = e
came_home k (t ∷ missing) [] cells e = e
came_home k (t ∷ missing) (x ∷ bytes) [] e = e
came_home zero (true ∷ missing) (x ∷ bytes) (d ∷ cells) e = e
came_home zero (false ∷ missing) (x ∷ bytes) (d ∷ cells) e = refl
came_home (suc k) (t ∷ missing) (x ∷ bytes) (d ∷ cells) e = came_home k missing bytes cells e

-- no cell is out
abbrev AllHome : List (Option ℕ) → Type 0
AllHome cells = (k : ℕ) → k < length cells → is_none (get_or cells k None) ≡ false

whole_each : (cells : List (Option ℕ)) → IsWhole cells → AllHome cells
whole_each cells w = subst AllHome (sym w.1) (λ k lt. some_bytes w.0 k (let m = length-map w.0 Some in omega (arith, m)))

pub came_range : (missing : List Bool) (bytes : List ℕ) (cells : List (Option ℕ)) → IsWhole cells → (at n : ℕ) → at + n ≤ length cells → AreHome at n (came_over missing bytes cells)
came_range missing bytes cells w at n le =
    let size = length-came missing bytes cells in
    home_from_each at n (came_over missing bytes cells) (omega (arith, size)) (λ k p q. came_home k missing bytes cells (whole_each cells w k (omega arith)))

pub came_whole : (missing : List Bool) (bytes : List ℕ) (cells : List (Option ℕ)) → IsWhole cells → IsWhole (came_over missing bytes cells)
came_whole missing bytes cells w =
    let size = length-came missing bytes cells in
    (_, whole_from_each (came_over missing bytes cells) (λ k lt. came_home k missing bytes cells (whole_each cells w k (omega (arith, size)))))

-- the tests of the first places
front_in : (at k : ℕ) (missing : List Bool) → k < at → get_or (take at missing) k true ≡ get_or missing k true
front_in at k missing lt = get_or-take at missing k true lt

front_past : (at k : ℕ) (missing : List Bool) → at ≤ k → get_or (take at missing) k true ≡ true
front_past at k missing le = get_or_past (take at missing) k true (let l = length-take at missing in omega (arith, l))

module _ (missing : List Bool) (bytes : List ℕ) (cells : List (Option ℕ)) where
  -- the cells once the places below one are looked at
  abbrev pub so_far : ℕ → List (Option ℕ)
  so_far at = came_over (take at missing) bytes cells

  size : (at : ℕ) → length (so_far at) ≡ length cells
  size at = length-came (take at missing) bytes cells

  pub none_so_far : so_far 0 ≡ cells
  none_so_far = refl

  -- a run of places came
  pub come_on : (at stop : ℕ) → at ≤ stop → stop ≤ length missing → stop ≤ length bytes → stop ≤ length cells → ((k : ℕ) → at ≤ k → k < stop → get_or missing k false ≡ false)
      → laid at (map Some (take (stop - at) (drop at bytes))) (so_far at) ≡ so_far stop
  come_on at stop le m b c came =
      let xs = map Some (take (stop - at) (drop at bytes)) in
      let d = length-drop at bytes in
      let t : length (take (stop - at) (drop at bytes)) ≡ stop - at = length-take-le (stop - at) (drop at bytes) (omega (arith, d)) in
      let long : length xs ≡ stop - at = length-map (take (stop - at) (drop at bytes)) Some ∙ t in
      let old = size at in
      let new = size stop in
      let front = length-take-le stop missing m in
      let fits : at + length xs ≤ length (so_far at) = omega (arith, long, old) in
      let all = length-new at xs (so_far at) None fits in
      ext_get_or None (laid at xs (so_far at)) (so_far stop) (omega (arith, all, old, new)) (λ k lt.
      by_range at (length xs) k
      (λ p q.
      new_in at xs (so_far at) None fits k p q
      ∙ get_or-map Some (take (stop - at) (drop at bytes)) (k - at) 0 None (omega (arith, long, t))
      ∙ ap Some (get_or-take (stop - at) (drop at bytes) (k - at) 0 (omega (arith, long)) ∙ get_or-drop at bytes (k - at) 0 ∙ ap (λ j. get_or bytes j 0) (let e : at + (k - at) ≡ k = omega arith in e))
      ∙ sym (came_in k (take stop missing) bytes cells (omega (arith, long, front)) (omega (arith, long)) (omega (arith, long))
      (get_or-take stop missing k false (omega (arith, long)) ∙ came k p (omega (arith, long)))))
      (λ o. new_out at xs (so_far at) None fits k o ∙ came_same k (take at missing) (take stop missing) bytes cells (outside k o long)))
    where
      outside : (k : ℕ) → (k < at) ⊎ (at + length (map Some (take (stop - at) (drop at bytes))) ≤ k) → length (map Some (take (stop - at) (drop at bytes))) ≡ stop - at → get_or (take at missing) k true ≡ get_or (take stop missing) k true
      outside k (inl lt) long = front_in at k missing lt ∙ sym (front_in stop k missing (omega arith))
      outside k (inr ge) long = front_past at k missing (omega arith) ∙ sym (front_past stop k missing (omega (arith, long)))

  -- a run of places is missing
  pub go_on : (at stop : ℕ) → at ≤ stop → ((k : ℕ) → at ≤ k → k < stop → get_or missing k true ≡ true) → so_far at ≡ so_far stop
  go_on at stop le none =
      let old = size at in
      let new = size stop in
      ext_get_or None (so_far at) (so_far stop) (omega (arith, old, new)) (λ k lt. came_same k (take at missing) (take stop missing) bytes cells (
      by_range at (stop - at) k
      (λ p q. front_past at k missing p ∙ sym (front_in stop k missing (omega arith) ∙ none k p (omega arith)))
      (λ o. outside k o)))
    where
      outside : (k : ℕ) → (k < at) ⊎ (at + (stop - at) ≤ k) → get_or (take at missing) k true ≡ get_or (take stop missing) k true
      outside k (inl lt) = front_in at k missing lt ∙ sym (front_in stop k missing (omega arith))
      outside k (inr ge) = front_past at k missing (omega arith) ∙ sym (front_past stop k missing (omega arith))

  -- all places that have a byte or a cell are looked at
  pub all_came : (at : ℕ) → min (length bytes) (length cells) ≤ at → length bytes ≡ length missing → so_far at ≡ came_over missing bytes cells
  all_came at le long =
      let old = size at in
      let new = length-came missing bytes cells in
      ext_get_or None (so_far at) (came_over missing bytes cells) (omega (arith, old, new)) (λ k lt. came_same k (take at missing) missing bytes cells (
      by_lt k at
      (λ p. front_in at k missing p)
      (λ p. front_past at k missing p ∙ sym (get_or_past missing k true (omega (arith, old))))))

-- a missing run, with the places past the end as missing
pub missing_run : (at n : ℕ) (missing : List Bool) → AreMissing at n missing → (k : ℕ) → at ≤ k → k < at + n → get_or missing k true ≡ true
missing_run at n missing m k p q = all_at true true at n k missing m p q
