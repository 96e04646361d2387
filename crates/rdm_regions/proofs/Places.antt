-- Places of a region that are at home, and places that are out.
use Rattle.std.proofs.Common.{◌≡◌, refl, sym, ap, ◌∙◌, ℕ, suc, ◌+◌, ◌-◌, ◌<◌, ◌≤◌, Bool, true, false, List, [], ◌∷◌, ◌++◌, length, get_or, take, drop, map, replicate, Option, Some, None, arith, length-append}
use Rattle.std.specs.Prelude.{is_none}
use Rattle.std.specs.List.{filter_map}
use Rattle.std.proofs.lemmas.List.{length-map, length-replicate, length-take-le, length-drop, get_or-take, get_or-drop, get_or_append_left, get_or-append_right, get_or-map, get_or-replicate, ext_get_or}
use Rattle.rdm_mr.specs.Tiles.{laid, AreHome, AreOut}

-- whether a place is out
abbrev pub out_at : List (Option ℕ) → ℕ → Bool
out_at cells place = is_none (get_or cells place None)

-- other cells from a place on
module _ (at : ℕ) (xs cells : List (Option ℕ)) (le : at + length xs ≤ length cells) where
  pub length-laid : length (laid at xs cells) ≡ length cells
  length-laid =
      let rest = drop (at + length xs) cells in
      omega (arith, length-append (take at cells) (xs ++ rest), length-append xs rest, length-take-le at cells (omega arith), length-drop (at + length xs) cells)

  front : length (take at cells) ≡ at
  front = length-take-le at cells (omega arith)

  pub laid_before : (place : ℕ) → place < at → get_or (laid at xs cells) place None ≡ get_or cells place None
  laid_before place lt = get_or_append_left (take at cells) (xs ++ drop (at + length xs) cells) None place (omega (arith, front)) ∙ get_or-take at cells place None lt

  pub laid_within : (place : ℕ) → at ≤ place → place < at + length xs → get_or (laid at xs cells) place None ≡ get_or xs (place - at) None
  laid_within place low high = get_or-append_right (take at cells) (xs ++ drop (at + length xs) cells) at place None front low ∙ get_or_append_left xs (drop (at + length xs) cells) None (place - at) (omega arith)

  pub laid_after : (place : ℕ) → at + length xs ≤ place → get_or (laid at xs cells) place None ≡ get_or cells place None
  laid_after place low =
      let sum : (at + length xs) + ((place - at) - length xs) ≡ place = omega arith in
      get_or-append_right (take at cells) (xs ++ drop (at + length xs) cells) at place None front (omega arith)
      ∙ get_or-append_right xs (drop (at + length xs) cells) (length xs) (place - at) None refl (omega arith)
      ∙ get_or-drop (at + length xs) cells ((place - at) - length xs) None ∙ ap (λ k. get_or cells k None) sum

-- cells of which none is out are their bytes
pub full : (cells : List (Option ℕ)) → ((k : ℕ) → k < length cells → out_at cells k ≡ false) → map Some (filter_map (λ (c : Option ℕ). c) cells) ≡ cells
full [] h = refl
full (Some b ∷ cells) h = ap (λ (l : List (Option ℕ)). Some b ∷ l) (full cells (λ k lt. h (suc k) (omega arith)))
full (None ∷ cells) h = absurd (true_false (h 0 (omega arith)))
  where
    true_false : true ≡ false → ⊥
    true_false e = cc

-- a cell of a range
cell_of : (at len : ℕ) (cells : List (Option ℕ)) (k : ℕ) → k < len → get_or (take len (drop at cells)) k None ≡ get_or cells (at + k) None
cell_of at len cells k lt = get_or-take len (drop at cells) k None lt ∙ get_or-drop at cells k None

module _ (at len : ℕ) (cells : List (Option ℕ)) where
  -- a range is at home where none of its places is out
  pub home_from : at + len ≤ length cells → ((k : ℕ) → k < len → out_at cells (at + k) ≡ false) → AreHome at len cells
  home_from le h =
      let cs = take len (drop at cells) in
      let bytes = filter_map (λ (c : Option ℕ). c) cs in
      let size : length cs ≡ len = length-take-le len (drop at cells) (omega (arith, length-drop at cells)) in
      let is : map Some bytes ≡ cs = full cs (λ k lt. ap is_none (cell_of at len cells k (omega arith)) ∙ h k (omega arith)) in
      let long : length (map Some bytes) ≡ len = ap length is ∙ size in
      (bytes, sym (length-map bytes Some) ∙ long, (omega arith, ap (λ n. take n (drop at cells)) long ∙ sym is))

  -- none of the places of a range at home is out
  pub home_at : AreHome at len cells → (k : ℕ) → k < len → out_at cells (at + k) ≡ false
  home_at h k lt =
      let long : length (map Some h.0) ≡ len = length-map h.0 Some ∙ h.1 in
      let cell : get_or cells (at + k) None ≡ Some (get_or h.0 k 0) =
      sym (cell_of at (length (map Some h.0)) cells k (omega arith)) ∙ ap (λ l. get_or l k None) h.2.1 ∙ get_or-map Some h.0 k 0 None (omega (arith, h.1)) in
      ap is_none cell

  -- a range is out where each of its places is
  pub out_from : at + len ≤ length cells → ((k : ℕ) → k < len → out_at cells (at + k) ≡ true) → AreOut at len cells
  out_from le h =
      let size : length (replicate {A = Option ℕ} len None) ≡ len = length-replicate len None in
      let cs = take len (drop at cells) in
      let long : length cs ≡ len = length-take-le len (drop at cells) (omega (arith, length-drop at cells)) in (
        omega arith,
        ap (λ n. take n (drop at cells)) size
            ∙ ext_get_or None cs (replicate len None) (long ∙ sym size) (λ k lt. cell_of at len cells k (omega arith) ∙ (nothing _ (h k (omega arith)) ∙ sym (get_or-replicate len k None None (omega arith)))),
      )
    where
      nothing : (o : Option ℕ) → is_none o ≡ true → o ≡ None
      nothing None e = refl
      nothing (Some b) e = cc
