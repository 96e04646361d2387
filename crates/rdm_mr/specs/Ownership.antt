-- What a run of bytes owns, and what an owner of their block.
use Rattle.std.specs.Prelude.{ℕ, List, [], ◌∷◌, length}
use Rattle.std.specs.contracts.alloc.Global as Global
use Rattle.std.specs.contracts.impls.GlobalAllocator.TheImpl.{ghosts}
use Rattle.std_alloc.specs.Vec.Detached.{spare}
use Rattle.std_alloc.specs.contracts.vec.Vec as Vec
use base.Fraction.{full_share}
use base.Fml.{Fml, fsep, fex, feq}
use denote.Builtin.{u8}
use denote.Array.{Array}
use denote.RattleType.{RattleType}
use denote.RawPtr.{Ptr, lies_at}
use denote.Struct.Owning.{Owning, shape, to}
use denote.Struct.Struct.{Struct}
use mir.Val.{Val, vstruct, vcons, vnil}

-- these bytes lie at p, and nothing else reaches them
abbrev pub run_owns : Ptr → List ℕ → Fml
run_owns p bytes = lies_at (Array u8 (length bytes)) full_share p bytes

-- where a block begins, and how many bytes of it are out
pub record Extent : Type 0 where
  pub ptr : Ptr
  pub len : ℕ

-- a `Vec` of bytes from the heap
abbrev pub heap_vec : Owning
heap_vec = Vec.the_type u8 Global.the_row ghosts

abbrev pub HeapVec : RattleType
HeapVec = Vec.the_row u8 Global.the_row ghosts

-- what it owns beside its bytes: its fields, the room behind the bytes and the right to free the block
abbrev pub shell_owns : HeapVec.Denot → Val → Fml
shell_owns vec u = fsep ((Struct (shape heap_vec)).own_val (to heap_vec vec) (u ∷ [])) (spare (ghosts.dealloc_token vec.alloc) u8 vec.ptr vec.len vec.cap)

-- an owner is a struct around such a `Vec`, whose bytes are out
abbrev pub owner_owns : Extent → List Val → Fml
owner_owns e vs = fex (HeapVec.Denot × Val) (λ s. fsep (feq (List Val) vs (vstruct (vcons s.1 vnil) ∷ [])) (fsep (feq Ptr s.0.ptr e.ptr) (fsep (feq ℕ s.0.len e.len) (shell_owns s.0 s.1))))
