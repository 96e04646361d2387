-- The receive that grants name.
use Rattle.std.proofs.Common.{◌≡◌, Option, Some, None, refl}
use Rattle.std.specs.Prelude.{option_map}
use Rattle.std.specs.Option.{option_or}
use Rattle.rdm_lists.specs.Lists.{or_else}
use Rattle.rdm_num.specs.declared.numbers.OpId.{OpId}

-- the first receive that was named stays
pub first_named : (named : Option OpId) (recv : OpId) → option_map (λ r. r.0) (option_or named (Some recv)) ≡ or_else (option_map (λ r. r.0) named) (Some recv.0)
unfolding or_else
first_named None recv = refl
first_named (Some r) recv = refl
