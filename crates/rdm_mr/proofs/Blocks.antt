-- A block with bytes in it is those bytes beside the rest of the block: the room behind them and the right to free it. Assumes `Logic`.
use Rattle.rdm_mr.proofs.Steps.{◌≡◌, ℕ, ◌-◌, ◌*◌, ◌<◌, List, [], ◌∷◌, length, refl, sym, ap, arith, Ura, full_share, ent, sep, sem, Fml, Logic, ‵, ◌$◌, ◌∵◌, !, qed, by, done, move, drop, fsplit, fjoin, rewrite, u8, Ptr, block_ptr, null_ptr, lies_at}
use Rattle.std.proofs.Common.{true, not}
use Rattle.std.proofs.lemmas.Bool.{ne_eqb}
use Rattle.std.specs.Allocator.{block_with_items}
use Rattle.std_alloc.specs.Vec.Detached.{spare}
use Rattle.std_alloc.specs.Vec.Ownership.{vec_owns, owns_if, has_block}
use base.Fml.{fsep}
use base.Logic.{never_e}
use denote.Array.{Array}
use denote.RawPtr.{room_for, ◌+ₚ◌}
use mir.Syntax.{Ty, ty_array, ty_int, w8}
use Rattle.rdm_mr.specs.Ownership.{run_owns}

-- what has room for something has a block
pub has_room : (c : ℕ) → 0 < c → has_block c ≡ true
has_room c some = ap not (ne_eqb c 0 (λ none. omega arith))

module _ {M : Type 1} {𝓤 : Ura M} (𝓛 : Logic 𝓤) (token : Ty → Ptr → Fml) where
  -- the room behind the first n of c bytes, and the right to free them all
  abbrev rest : Ptr → ℕ → ℕ → Fml
  rest p n c = fsep (room_for (ty_array (ty_int w8) (c - n)) (p +ₚ n * 1)) (token (ty_array (ty_int w8) c) p)

  pub block_out : (p : Ptr) (n c : ℕ) (bytes : List ℕ) → n ≡ length bytes → 0 < c
      → ent 𝓤 (sem 𝓛 (vec_owns token u8 p n c bytes)) (sep 𝓤 (sem 𝓛 (run_owns p bytes)) (sem 𝓛 (spare token u8 p n c)))
  block_out (block_ptr b o) n c bytes long some =
      let p = block_ptr b o in
      qed 𝓛 (‵ (vec_owns token u8 p n c bytes) ∷ []) ∵ fsplit ! $ move ! (1 ∷ []) $
      rewrite ! 0 (λ y. ‵ (owns_if y (block_with_items token u8 p n c bytes))) (has_room c some) refl $ fsplit ! $
      rewrite ! 0 (λ k. ‵ (lies_at (Array u8 k) full_share p bytes)) long refl $ move ! (1 ∷ []) $
      rewrite ! 0 (λ y. ‵ (owns_if y (rest p n c))) (sym (has_room c some)) refl $ move ! (2 ∷ 0 ∷ []) $ fjoin ! $ move ! (1 ∷ []) $ done !
  block_out null_ptr n c bytes long some = qed 𝓛 (‵ (vec_owns token u8 null_ptr n c bytes) ∷ []) ∵ fsplit ! $ drop ! $ by ! (never_e 𝓤 _)

  pub block_in : (p : Ptr) (n c : ℕ) (bytes : List ℕ) → n ≡ length bytes → 0 < c
      → ent 𝓤 (sep 𝓤 (sem 𝓛 (run_owns p bytes)) (sem 𝓛 (spare token u8 p n c))) (sem 𝓛 (vec_owns token u8 p n c bytes))
  block_in (block_ptr b o) n c bytes long some =
      let p = block_ptr b o in
      qed 𝓛 (‵ (run_owns p bytes) ∷ ‵ (spare token u8 p n c) ∷ []) ∵ rewrite ! 0 (λ k. ‵ (lies_at (Array u8 k) full_share p bytes)) (sym long) refl $
      move ! (1 ∷ []) $ fsplit ! $ move ! (1 ∷ []) $ rewrite ! 0 (λ y. ‵ (owns_if y (rest p n c))) (has_room c some) refl $ move ! (2 ∷ 0 ∷ []) $ fjoin ! $
      rewrite ! 0 (λ y. ‵ (owns_if y (block_with_items token u8 p n c bytes))) (sym (has_room c some)) refl $ move ! (1 ∷ 0 ∷ []) $ fjoin ! $ done !
  block_in null_ptr n c bytes long some = qed 𝓛 (‵ (run_owns null_ptr bytes) ∷ ‵ (spare token u8 null_ptr n c) ∷ []) ∵ move ! (1 ∷ []) $ drop ! $ by ! (never_e 𝓤 _)
