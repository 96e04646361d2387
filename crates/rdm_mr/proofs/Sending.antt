-- An owner may go to another thread: what it owns names no thread.
use Rattle.rdm_mr.proofs.Steps.{ℕ, ◌*◌, ◌-◌, [], ◌∷◌, Fml, Val, u8, Ptr, block_ptr, null_ptr, ◌+ₚ◌}
use Rattle.std.proofs.Common.{Bool, true, false}
use Rattle.std.proofs.alloc.Global.TheSendSync as Global
use Rattle.std.below.std_heap.proofs.GlobalAllocator.TheSendSync.{the_frees}
use Rattle.std.specs.contracts.impls.GlobalAllocator.TheImpl.{ghosts}
use Rattle.std_alloc.specs.Vec.Detached.{spare}
use Rattle.std_alloc.specs.Vec.Ownership.{owns_if, has_block}
use base.Fml.{fsep}
use base.Shift.{Keyless}
use denote.Param.Send.{IsSend, IsSync, struct_send, plain_send}
use denote.RawPtr.{room_for}
use denote.Struct.Owning.{shape, to}
use mir.Syntax.{Ty, ty_array, ty_int, w8}
use Rattle.rdm_mr.specs.Ownership.{HeapVec, heap_vec, shell_owns}
use Rattle.rdm_mr.specs.contracts.block.Owner.{the_row as Owner}

room_keyless : (τ : Ty) (p : Ptr) → Keyless (room_for τ p)
room_keyless τ (block_ptr b o) = tt
room_keyless τ null_ptr = tt

if_keyless : (y : Bool) (F : Fml) → Keyless F → Keyless (owns_if y F)
if_keyless true F keyless = keyless
if_keyless false F keyless = tt

-- neither the room of a block nor the right to free it
spare_keyless : (token : Ty → Ptr → Fml) → ((τ : Ty) (p : Ptr) → Keyless (token τ p)) → (p : Ptr) (n c : ℕ) → Keyless (spare token u8 p n c)
spare_keyless token keyless p n c =
    let behind = room_keyless (ty_array (ty_int w8) (c - n)) (p +ₚ n * 1) in
    (tt, if_keyless (has_block c) (fsep (room_for (ty_array (ty_int w8) (c - n)) (p +ₚ n * 1)) (token (ty_array (ty_int w8) c) p)) (behind, keyless (ty_array (ty_int w8) c) p))

shell_keyless : (vec : HeapVec.Denot) (u : Val) → Keyless (shell_owns vec u)
shell_keyless vec u = (
  (struct_send (shape heap_vec) (plain_send _ _ _ _ _, (plain_send _ _ _ _ _, (plain_send _ _ _ _ _, (Global.the_send, tt))))).owned (to heap_vec vec) (u ∷ []),
  spare_keyless (ghosts.dealloc_token vec.alloc) (the_frees.frees vec.alloc) vec.ptr vec.len vec.cap,
)

pub owner_send : IsSend Owner
owner_send = record {
  owned = λ e vs. (λ _. tt, λ s. (tt, (tt, (tt, shell_keyless s.0 s.1))));
  leaving = λ k x w. tt;
}

-- a `&` to it shows nothing
pub owner_sync : IsSync Owner
owner_sync = record { shared = λ e b o κ. tt }
