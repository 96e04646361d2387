use Rattle.std.proofs.Common.{◌∙◌, ap, length, List, arith}
use Rattle.rdm_model.specs.declared.job.Instr.{Instr}
use Rattle.rdm_port.proofs.Fresh.{fresh_sound}
use Rattle.rdm_port.proofs.port.Port.new.Goals as goal

pub invariant_of-result : goal.invariant_of-result
invariant_of-result c =
    let taken = c.in_ok-reserve.ensures.ok in
    let long = ap (λ (ops : List Instr). length ops) c.as_slice.ensures in
    fresh_sound _ c.new-2.result c.reserve.new.self.room (c.reserve.ensures.list ∙ c.new-log.ensures) c.new-2.ensures (omega arith)
