use Rattle.std.proofs.Common.{map, drop, ◌+◌}
use Rattle.serde_json.specs.View.{view}
use Rattle.rdm_json.specs.declared.place.Place.TheVariants.{Op}
use Rattle.rdm_script.specs.Drafts.{made}
use Rattle.rdm_script.proofs.Programs.{program_of-next}
use Rattle.rdm_json.proofs.Seen.{view-next, placed-seen}
use Rattle.rdm_script.proofs.ranks.program_of.Goals as goal

pub loop-value-preserved : goal.loop-value-preserved
loop-value-preserved c =
    let i = c.loop-value.value-index in
    let values = c.args.values.now in
    let next = view-next values i c.value-item.result c.loop-value-test.true c.value-item.is in
    let read = placed-seen made (Op c.args.rank c.len.result) c.next_instr.result _ c.in_ok-draft.draft c.next_instr.ensures c.in_ok-draft.ensures in
    rw c.in_ok-push.ensures
    (program_of-next c.args.version c.args.rank c.args.ports c.loop-value.program (made c.in_ok-draft.draft) (view c.value-item.result) (map view (drop (i + 1) values)) _
    (rw c.len.ensures at read) (rw next at c.loop-value.invariant))
