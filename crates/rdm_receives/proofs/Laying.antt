-- Bytes that are laid over cells, place by place.
use Rattle.std.proofs.Common.{◌≡◌, ℕ, ◌+◌, ◌-◌, ◌<◌, ◌≤◌, ◌⊎◌, inl, inr, Bool, true, false, List, [], length, get_or, take, map, Option, Some, None, refl, sym, ap, subst, ◌∙◌, arith, min, unwrap_or, if◌then◌else◌}
use Rattle.std.specs.Prelude.{nat_lt}
use Rattle.std.proofs.lemmas.List.{length-map, length-take, get_or-take, get_or-map}
use Rattle.std.proofs.lemmas.Bool.{lt-ltb}
use Rattle.rdm_mr.specs.Tiles.{laid}
use Rattle.rdm_mr.proofs.Overlays.{by_lt, length-new, new_in, new_out}
use Rattle.rdm_mr.proofs.Undone.{laid_nothing}
use Rattle.rdm_life.specs.Landing.{laid_over}

-- below the length the new byte stands, or the old one
pub over_some : (len : ℕ) (came : ℕ → Option ℕ) (part : ℕ → ℕ) (k byte : ℕ) → k < len → came k ≡ Some byte → laid_over len came part k ≡ byte
unfolding laid_over
over_some len came part k byte lt e = ap (λ b. if b then unwrap_or (came k) (part k) else part k) (lt-ltb k len lt) ∙ ap (λ o. unwrap_or o (part k)) e

pub over_none : (len : ℕ) (came : ℕ → Option ℕ) (part : ℕ → ℕ) (k : ℕ) → came k ≡ None → laid_over len came part k ≡ part k
unfolding laid_over
over_none len came part k e =
    elim (nat_lt k len) as (λ b. (if b then unwrap_or (came k) (part k) else part k) ≡ part k) [ true ↦ ap (λ o. unwrap_or o (part k)) e | false ↦ refl ]

-- bytes over the cells from one on, those that fit
module _ (at : ℕ) (bytes : List ℕ) (cells : List (Option ℕ)) where
  abbrev kept : List ℕ
  kept = take (length cells - at) bytes

  long : length (map Some kept) ≡ min (length cells - at) (length bytes)
  long = length-map kept Some ∙ length-take (length cells - at) bytes

  abbrev pub filled_cells : List (Option ℕ)
  filled_cells = laid at (map Some (take (length cells - at) bytes)) cells

  past : length cells < at → filled_cells ≡ cells
  past lt = let none : length cells - at ≡ 0 = omega arith in ap (λ n. laid at (map Some (take n bytes)) cells) none ∙ laid_nothing at cells

  pub length-filled : length filled_cells ≡ length cells
  length-filled = by_lt (length cells) at (λ lt. ap length (past lt)) (λ le. length-new at (map Some kept) cells None (omega (arith, long)))

  pub filled_in : (k : ℕ) → at ≤ k → k < at + length bytes → k < length cells → get_or filled_cells k None ≡ Some (get_or bytes (k - at) 0)
  filled_in k p q lt =
      let size = length-take (length cells - at) bytes in
      new_in at (map Some kept) cells None (omega (arith, long)) k p (omega (arith, long))
      ∙ get_or-map Some kept (k - at) 0 None (omega (arith, size))
      ∙ ap Some (get_or-take (length cells - at) bytes (k - at) 0 (omega arith))

  pub filled_out : (k : ℕ) → k < length cells → (k < at) ⊎ (at + length bytes ≤ k) → get_or filled_cells k None ≡ get_or cells k None
  filled_out k lt o =
      by_lt (length cells) at
      (λ far. ap (λ l. get_or l k None) (past far))
      (λ near. new_out at (map Some kept) cells None (omega (arith, long)) k (beside o))
    where
      beside : (k < at) ⊎ (at + length bytes ≤ k) → (k < at) ⊎ (at + length (map Some kept) ≤ k)
      beside (inl p) = inl p
      beside (inr p) = inr (omega (arith, long))
