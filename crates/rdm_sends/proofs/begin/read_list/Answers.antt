use Rattle.std.proofs.Common.{arith}
use Rattle.rdm_model.specs.Sends.{read_list}
use Rattle.rdm_sends.proofs.Begins.{list_step, list_whole}
use Rattle.rdm_sends.proofs.begin.read_list.Goals as goal

pub loop-part-init : goal.loop-part-init
unfolding read_list
loop-part-init c = record { list = c.new-entries.ensures; few = rw c.new-entries.ensures (omega arith) }

pub loop-part-preserved : goal.loop-part-preserved
loop-part-preserved c = record {
  list = list_step c.as_slice-ranges.result.now c.loop-part.part-index _ c.loop-part.entries.items c.add_range.new.entries.items
      c.loop-part-test.true c.loop-part.invariant.list c.add_range.ensures.items;
  few = omega arith;
}

pub returns-clause-list : goal.returns-clause-list
returns-clause-list c =
    list_whole c.as_slice-ranges.result.now c.args.parts.now c.loop-part.part-index c.loop-part.entries.items c.listed.result
    c.loop-part-test.false c.loop-part.auto.part-index-end c.loop-part.invariant.list c.as_slice-ranges.ensures.items c.listed.ensures.list
