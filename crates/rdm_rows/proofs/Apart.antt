-- What is not the same, as rows of more than one file need it.
use Rattle.std.proofs.Common.{◌≡◌}
use Rattle.std.specs.Prelude.{Bool, true, false, if◌then◌else◌, Option, Some, None}
use Rattle.rdm_num.specs.declared.numbers.PortNo.{PortNo}
use Rattle.rdm_num.specs.declared.numbers.DatagramNo.{DatagramNo}
use Rattle.rdm_model.specs.declared.answer.Class.{Class}
use Rattle.rdm_model.specs.declared.answer.Entered.{Entered}
use Rattle.rdm_model.specs.declared.answer.Handled.{Handled}

-- none is not some
pub nothing : {A : Type 0} {B : Type 0} (p : A) → None ≡ Some p → B
nothing p e = absurd cc

-- nor is one of two that are none
pub nothing_either : {A : Type 0} {B : Type 0} (b : Bool) (p : A) → (if b then None else None) ≡ Some p → B
nothing_either true p e = absurd cc
nothing_either false p e = absurd cc

-- ports that are the same have one number
pub port_apart : (src src' : PortNo) → src ≡ src' → src.0 ≡ src'.0
port_apart src src' e = cc

-- and so have datagrams
pub number_apart : (n n' : DatagramNo) → n ≡ n' → n.0 ≡ n'.0
number_apart n n' e = cc

-- what is taken is not dropped
pub took_is_no_drop : (class' : Class) (entered : Option Entered) → Handled.Took entered ≡ Handled.Dropped class' → ⊥
took_is_no_drop class' entered e = absurd cc
