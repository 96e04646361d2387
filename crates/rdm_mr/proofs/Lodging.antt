-- A `Vec` that neither grows nor frees owns the run under it. Assumes `Logic`.
use Rattle.rdm_mr.proofs.Steps.{◌≡◌, ℕ, ◌-◌, ◌*◌, ◌^◌, ◌<◌, List, [], ◌∷◌, length, refl, sym, arith, w8, Ura, emp, ent, sem, ftrue, Logic, Val, ‵, ◌⊛◌, ◌$◌, ◌∵◌, !, qed, done, move, keep, use0, use1, use2, split, fjoin, flt_i, rewrite, RattleType, u8, Ptr, block_ptr, null_ptr, nothing}
use Rattle.std.proofs.Common.{◌+◌}
use Rattle.std_alloc.specs.Vec.Detached.{spare}
use Rattle.std_alloc.specs.Vec.Ownership.{lodged, owns_if}
use Rattle.std_alloc.specs.contracts.vec.Vec as Vec
use Rattle.std_alloc.specs.contracts.vec.lodged.Lodged as Lodged
use Rattle.std_alloc.specs.contracts.vec.lodged.LodgedAllocator.TheImpl.{ghosts}
use Rattle.std_alloc.proofs.vec.Vec.TheLaws as vec-laws
use Rattle.std_alloc.proofs.vec.lodged.Lodged.TheLaws as lodged-laws
use base.Fml.{froom, fsep}
use base.Logic.{never_e}
use denote.Laws.{Is, Tells}
use denote.Param.Laws.{Laws, Told, of_field}
use denote.Param.Shared.{copy_shared}
use denote.Struct.Field.{u8-field}
use denote.Struct.Laws.{u8-laws, u8-copy}
use mir.Syntax.{ty_int, ty_array}
use Rattle.rdm_mr.specs.Ownership.{run_owns}
use Rattle.rdm_mr.proofs.Blocks.{has_room, block_out, block_in}

abbrev pub byte_laws : Laws u8
byte_laws = of_field u8-field u8-laws refl (copy_shared u8-field u8-copy)

abbrev pub LodgedVec : RattleType
LodgedVec = Vec.the_row u8 Lodged.the_row ghosts

abbrev pub lodged_laws : Laws LodgedVec
lodged_laws = vec-laws.the_row_laws u8 Lodged.the_row ghosts byte_laws lodged-laws.the_row_laws

-- the machine's value is told by what the `Vec` is
abbrev lodged_told : Told LodgedVec
lodged_told = vec-laws.the_told u8 Lodged.the_row ghosts byte_laws lodged-laws.the_row_laws lodged-laws.the_told

abbrev pub lodged_vals : LodgedVec.Denot → List Val
lodged_vals vec = lodged_told.val vec ∷ []

pub lodged_Tells : Tells LodgedVec (Is LodgedVec) lodged_vals
lodged_Tells = lodged_told.tells

module _ {M : Type 1} {𝓤 : Ura M} (𝓛 : Logic 𝓤) where
  -- what it hands back has a run in it
  pub lodged_run : (p : Ptr) (n c : ℕ) (bytes : List ℕ) → n ≡ length bytes → 0 < c → ent 𝓤 (sem 𝓛 (lodged u8 p n c bytes)) (sem 𝓛 (run_owns p bytes))
  lodged_run p n c bytes long some =
      qed 𝓛 (‵ (lodged u8 p n c bytes) ∷ []) ∵ use1 𝓛 (‵ (run_owns p bytes) ⊛ ‵ (spare (λ _ _. ftrue) u8 p n c)) (block_out 𝓛 (λ _ _. ftrue) p n c bytes long some) $ split ! $ keep ! (0 ∷ []) $ done !

  -- behind bytes that fill their block there is no room
  no_room : (b o n : ℕ) → 0 < n → n < 2 ^ 63 → ent 𝓤 (emp 𝓤) (sem 𝓛 (spare (λ _ _. ftrue) u8 (block_ptr b o) n n))
  no_room b o n some small =
      let none : n - n ≡ 0 = omega arith in
      let Room = λ (k : ℕ). froom (ty_array (ty_int w8) k) b (o + n * 1) in
      qed 𝓛 [] ∵ nothing ! $ use0 𝓛 (‵ (Room 0)) (𝓛.laws.room_nil (ty_int w8) b (o + n * 1)) $ rewrite ! 0 (λ k. ‵ (Room k)) (sym none) refl $ fjoin ! $
      rewrite ! 0 (λ y. ‵ (owns_if y (fsep (Room (n - n)) ftrue))) (sym (has_room n some)) refl $ flt_i ! (n * 1) (2 ^ 63) (omega arith) $ fjoin ! $ done !

  -- what it takes is a run that it fills
  pub run_lodged : (p : Ptr) (n : ℕ) (bytes : List ℕ) → length bytes ≡ n → 0 < n → n < 2 ^ 63 → ent 𝓤 (sem 𝓛 (run_owns p bytes)) (sem 𝓛 (lodged u8 p n n bytes))
  run_lodged (block_ptr b o) n bytes long some small =
      qed 𝓛 (‵ (run_owns (block_ptr b o) bytes) ∷ []) ∵ use0 𝓛 (‵ (spare (λ _ _. ftrue) u8 (block_ptr b o) n n)) (no_room b o n some small) $ move ! (1 ∷ 0 ∷ []) $
      use2 𝓛 (‵ (lodged u8 (block_ptr b o) n n bytes)) (block_in 𝓛 (λ _ _. ftrue) (block_ptr b o) n n bytes (sym long) some) $ done !
  run_lodged null_ptr n bytes long some small = never_e 𝓤 _
