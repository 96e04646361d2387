use Rattle.std.proofs.Common.{◌≡◌, take}
use Rattle.std.specs.Prelude.{sum_by}
use Rattle.rdm_model.specs.Jobs as Jobs
use Rattle.rdm_world.proofs.budget.rank_sums.Given as goal

abbrev pub invariant-loop-instr : goal.invariant-loop-instr
invariant-loop-instr l = record {
  bytes : l.bytes ≡ sum_by Jobs.sent_length (take l.instr-index l.instrs);
  opens : l.opens ≡ sum_by Jobs.open_count (take l.instr-index l.instrs);
}
