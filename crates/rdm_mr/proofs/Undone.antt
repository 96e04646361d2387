-- What taking a part out and putting it back come to.
use Rattle.std.proofs.Common.{◌≡◌, ℕ, ◌+◌, ◌-◌, ◌≤◌, List, [], ◌++◌, length, take, drop, map, replicate, Option, Some, None, is_none, sym, ap, subst, ◌∙◌, arith, append_assoc, length-append, take_at, drop_at, drop-drop}
use Rattle.std.proofs.lemmas.List.{length-map, length-replicate, length-take-le, take-append-drop, get_or-replicate}
use Rattle.rdm_mr.specs.Part.{Piece}
use Rattle.rdm_mr.specs.Tiles.{Tiles, laid, Lie, IsPartAt}
use Rattle.rdm_mr.specs.Homing.{TakenIsOut, BackUndoesOut}
use Rattle.rdm_mr.proofs.Overlays.{length-new, new_in, out_from_each}

-- what is written over a range is all that stays of it
module _ (at : ℕ) (xs ys cells : List (Option ℕ)) (fits : at + length ys ≤ length cells) (same : length xs ≡ length ys) where
  pub laid_over : laid at xs (laid at ys cells) ≡ laid at xs cells
  laid_over =
      let F = take at cells in
      let B = drop (at + length ys) cells in
      let f : length F ≡ at = length-take-le at cells (omega arith) in
      let front : take at (F ++ (ys ++ B)) ≡ F = take_at F (ys ++ B) at f in
      let l = length-append F ys in
      let all : length (F ++ ys) ≡ at + length xs = omega (arith, l, f, same) in
      let back : drop (at + length xs) (F ++ (ys ++ B)) ≡ B = ap (drop (at + length xs)) (sym (append_assoc F ys B)) ∙ drop_at (F ++ ys) B (at + length xs) all in
      ap (λ l. l ++ (xs ++ drop (at + length xs) (F ++ (ys ++ B)))) front ∙ ap (λ l. F ++ (xs ++ l)) back ∙ ap (λ n. F ++ (xs ++ drop (at + n) cells)) (sym same)

-- what lies there is laid there
pub laid_same : (at : ℕ) (xs cells : List (Option ℕ)) → Lie at xs cells → laid at xs cells ≡ cells
laid_same at xs cells l =
    ap (λ m. take at cells ++ (m ++ drop (at + length xs) cells)) (sym l.1) ∙ ap (λ m. take at cells ++ (take (length xs) (drop at cells) ++ m)) (sym (drop-drop (length xs) at cells))
    ∙ ap (λ m. take at cells ++ m) (take-append-drop (length xs) (drop at cells)) ∙ take-append-drop at cells

-- nothing is laid anywhere
pub laid_nothing : (off : ℕ) (cells : List (Option ℕ)) → laid off [] cells ≡ cells
laid_nothing off cells = let e : off + 0 ≡ off = omega arith in ap (λ k. take off cells ++ drop k cells) e ∙ take-append-drop off cells

-- a part of the tiles, at its place among them
module _ (t : Tiles) (at len : ℕ) (p : Piece) (is : IsPartAt t at len p) where
  place : at ≡ p.start - t.start
  place = omega (arith, is.1)

  lies : Lie (p.start - t.start) (map Some p.bytes) t.cells
  lies = subst (λ k. Lie k (map Some p.bytes) t.cells) place is.3

  long : length (map Some p.bytes) ≡ length p.bytes
  long = length-map p.bytes Some

  gone : length (replicate {A = Option ℕ} (length p.bytes) None) ≡ length p.bytes
  gone = length-replicate (length p.bytes) None

  fits : (p.start - t.start) + length (replicate {A = Option ℕ} (length p.bytes) None) ≤ length t.cells
  fits = omega (arith, gone, long, lies.0)

  pub is_out : Lie (p.start - t.start) (replicate (length p.bytes) None) (laid (p.start - t.start) (replicate (length p.bytes) None) t.cells)
  is_out =
      let size = length-new (p.start - t.start) (replicate (length p.bytes) None) t.cells None fits in
      out_from_each (p.start - t.start) (length p.bytes) (laid (p.start - t.start) (replicate (length p.bytes) None) t.cells) (omega (arith, size, fits, gone))
      (λ k low high. ap is_none (new_in (p.start - t.start) (replicate (length p.bytes) None) t.cells None fits k low (omega (arith, gone))) ∙ ap is_none (get_or-replicate (length p.bytes) (k - (p.start - t.start)) None None (omega arith)))

  pub back_undoes : laid (p.start - t.start) (map Some p.bytes) (laid (p.start - t.start) (replicate (length p.bytes) None) t.cells) ≡ t.cells
  back_undoes = laid_over (p.start - t.start) (map Some p.bytes) (replicate (length p.bytes) None) t.cells fits (long ∙ sym gone) ∙ laid_same (p.start - t.start) (map Some p.bytes) t.cells lies

pub taken_is_out : TakenIsOut
taken_is_out t at len p is = (is.0, omega (arith, is.1), is_out t at len p is)

pub back_undoes_out : BackUndoesOut
back_undoes_out t at len p is =
    let count : (t.out + 1) - 1 ≡ t.out = omega arith in
    λ i. record { block = t.block; whole = t.whole; start = t.start; cells = back_undoes t at len p is i; out = count i }
