-- Values in slots, and the block of memory of a vector.
use Rattle.std.specs.Prelude.{◌≡◌, ℕ, List, [], ◌∷◌, Option, Some, None, Vec, vec_len, vec_capacity, slice_get}
use Rattle.std.specs.Vec.{vec_ptr}
use mathlib.Core.Option.{some}
use Rattle.rdm_turn.specs.declared.block.Block.{Block}
use Rattle.atomic_table.specs.Table.{State}

-- the value at each index fits the place of that number
abbrev pub EachFits : {V : Type 0} → (V → ℕ → Type 0) → List V → Type 0
EachFits {V} fits values = (i : ℕ) (x : V) → slice_get values i ≡ Some x → fits x i

-- the values of the slots that have one, in order
abbrev pub values_of : {V : Type 0} → List (Option V) → List V
values_of [] = []
values_of (None ∷ slots) = values_of slots
values_of (Some x ∷ slots) = x ∷ values_of slots

-- the block of a vector
abbrev pub block_of : {V A : Type 0} → Vec V A → Block
block_of values = record { place = vec_ptr values; room = vec_capacity values }

-- the one slot is at home with an empty vector that has this block
abbrev pub KeepsBlock : {V A : Type 0} → Block → State (Vec V A) (Unit {0}) → Type 0
KeepsBlock {V} {A} block s = (values : Vec V A) × (s.homes ≡ some values ∷ []) × (vec_len values ≡ 0) × (block_of values ≡ block)
