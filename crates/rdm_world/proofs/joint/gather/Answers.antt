use Rattle.std.proofs.Common.{rules, List, sym, subst}
use Rattle.rdm_model.specs.declared.entry.Entry.{Entry}
use Rattle.rdm_model.specs.Joint.{IsJoint}
use Rattle.rdm_world.specs.Gathers.{logs_of}
use Rattle.rdm_world.proofs.Gathered.{joint_from_sort}
use Rattle.rdm_world.proofs.joint.gather.Goals as goal

pub returns : goal.returns
returns c =
    let P : List Entry → Type 0 = λ history. IsJoint (logs_of c.args.ports.now) history in
    subst P (sym c.from_vec.ensures)
    (joint_from_sort c.args.ports.now c.in_ok-entries.entries.items c.sort_by_key.new.self.items c.in_ok-entries.ensures c.requires c.in_ok-sort_by_key.ensures.sorted c.in_ok-sort_by_key.ensures.stable (λ a r q k. search rules))
