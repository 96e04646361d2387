-- A `Vec` from the heap is its bytes and a shell, and an owner is a struct around such a shell. Assumes `Logic`.
use Rattle.rdm_mr.proofs.Steps.{◌≡◌, ℕ, ◌<◌, List, [], ◌∷◌, length, refl, sym, arith, Ura, ent, sep, sem, Fml, ftrue, Logic, Val, ‵, ◌⊛◌, ◌$◌, ◌∵◌, !, qed, done, move, use1, use2, split, fsplit, fjoin, feq_i, fpack, nothing, u8, Ptr}
use Rattle.std.specs.contracts.alloc.Global as Global
use Rattle.std.specs.contracts.impls.GlobalAllocator.TheImpl.{ghosts}
use Rattle.std.proofs.alloc.Global.TheLaws as global-laws
use Rattle.std_alloc.specs.Vec.Detached.{spare}
use Rattle.std_alloc.specs.Vec.Ownership.{vec_owns}
use Rattle.std_alloc.proofs.vec.Vec.TheLaws as vec-laws
use base.Fml.{fsep, feq}
use denote.Laws.{Is, Tells, Typed}
use denote.Param.Laws.{Laws, Told}
use denote.Struct.Owning.{shape, to}
use denote.Struct.Struct.{Struct}
use mir.Syntax.{Ty}
use mir.Val.{vstruct, vcons, vnil}
use Rattle.rdm_mr.specs.Ownership.{Extent, HeapVec, heap_vec, run_owns, shell_owns}
use Rattle.rdm_mr.specs.contracts.block.Owner.{the_row as Owner}
use Rattle.rdm_mr.proofs.Blocks.{block_out, block_in}
use Rattle.rdm_mr.proofs.Lodging.{byte_laws}

abbrev pub heap_laws : Laws HeapVec
heap_laws = vec-laws.the_row_laws u8 Global.the_row ghosts byte_laws global-laws.the_row_laws

-- the machine's value is told by what the `Vec` is
abbrev pub heap_told : Told HeapVec
heap_told = vec-laws.the_told u8 Global.the_row ghosts byte_laws global-laws.the_row_laws global-laws.the_told

abbrev pub heap_vals : HeapVec.Denot → List Val
heap_vals vec = heap_told.val vec ∷ []

pub heap_Tells : Tells HeapVec (Is HeapVec) heap_vals
heap_Tells = heap_told.tells

-- the machine's value of an owner around a `Vec`
abbrev pub around : Val → Val
around u = vstruct (vcons u vnil)

-- the `Vec` with these bytes in the place of its own
abbrev pub refilled : (vec : HeapVec.Denot) (bytes : List ℕ) → length bytes ≡ vec.len → HeapVec.Denot
refilled vec bytes long = record { ptr = vec.ptr; len = vec.len; cap = vec.cap; alloc = vec.alloc; items = bytes; ok = (sym long, vec.ok.1); small = vec.small }

module _ {M : Type 1} {𝓤 : Ura M} (𝓛 : Logic 𝓤) where
  module _ (vec : HeapVec.Denot) (u : Val) (some : 0 < vec.len) where
    abbrev Fields : Fml
    Fields = (Struct (shape heap_vec)).own_val (to heap_vec vec) (u ∷ [])

    abbrev token : Ty → Ptr → Fml
    token = ghosts.dealloc_token vec.alloc

    pub vec_opens : ent 𝓤 (sem 𝓛 (HeapVec.own_val vec (u ∷ []))) (sep 𝓤 (sem 𝓛 (run_owns vec.ptr vec.items)) (sem 𝓛 (shell_owns vec u)))
    vec_opens =
        qed 𝓛 (‵ (HeapVec.own_val vec (u ∷ [])) ∷ []) ∵ fsplit ! $ move ! (1 ∷ []) $
        use1 𝓛 (‵ (run_owns vec.ptr vec.items) ⊛ ‵ (spare token u8 vec.ptr vec.len vec.cap)) (block_out 𝓛 token vec.ptr vec.len vec.cap vec.items vec.ok.0 (omega (arith, vec.ok.1))) $ split ! $
        move ! (2 ∷ 1 ∷ []) $ fjoin ! $ move ! (1 ∷ []) $ done !

    pub vec_closes : (bytes : List ℕ) (long : length bytes ≡ vec.len) → ent 𝓤 (sep 𝓤 (sem 𝓛 (run_owns vec.ptr bytes)) (sem 𝓛 (shell_owns vec u))) (sem 𝓛 (HeapVec.own_val (refilled vec bytes long) (u ∷ [])))
    vec_closes bytes long =
        qed 𝓛 (‵ (run_owns vec.ptr bytes) ∷ ‵ (shell_owns vec u) ∷ []) ∵ move ! (1 ∷ []) $ fsplit ! $ move ! (2 ∷ 1 ∷ []) $
        use2 𝓛 (‵ (vec_owns token u8 vec.ptr vec.len vec.cap bytes)) (block_in 𝓛 token vec.ptr vec.len vec.cap bytes (sym long) (omega (arith, vec.ok.1))) $ move ! (1 ∷ 0 ∷ []) $ fjoin ! $ done !

  -- a shell makes an owner
  pub owner_closes : (vec : HeapVec.Denot) (u : Val) → Typed Owner.mir (around u ∷ []) → ent 𝓤 (sem 𝓛 (shell_owns vec u)) (sem 𝓛 (Owner.own_val (record { ptr = vec.ptr; len = vec.len }) (around u ∷ [])))
  owner_closes vec u typed =
      let e : Extent = record { ptr = vec.ptr; len = vec.len } in
      qed 𝓛 (‵ (shell_owns vec u) ∷ []) ∵ feq_i ! ℕ vec.len e.len refl $ fjoin ! $ feq_i ! Ptr vec.ptr e.ptr refl $ fjoin ! $ feq_i ! (List Val) (around u ∷ []) (around u ∷ []) refl $ fjoin ! $
      fpack ! (HeapVec.Denot × Val) (λ s. fsep (feq (List Val) (around u ∷ []) (around s.1 ∷ [])) (fsep (feq Ptr s.0.ptr e.ptr) (fsep (feq ℕ s.0.len e.len) (shell_owns s.0 s.1)))) (vec, u) $
      nothing ! $ fpack ! (Typed Owner.mir (around u ∷ [])) (λ _. ftrue) typed $ fjoin ! $ done !
