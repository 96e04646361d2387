use Rattle.std.proofs.Common.{◌∙◌, sym, refl}
use Rattle.rdm_port.proofs.Endings.{ends_none, ends_some, ends_as}
use Rattle.rdm_port.proofs.port.Port.ending.Goals as goal
use Rattle.rdm_port.proofs.port.Port.ending.Goals.{in-Ended, in_default}

pub returns : goal.returns
returns c =
    ends_as c.args.self.now _ c.self.inside.state _ c.as_slice.result.now c.match-next_answer.left c.len.result c.self.view_is c.state.view_is c.as_slice.ensures c.len.ensures
    c.self.invariant.kept
    (λ job p. elim c.match-next_answer.branch [
      | in-Ended w ↦
          ends_none job _ c.self.inside.state c.next_answer.result p c.self.invariant.kept (c.next_answer.ensures _ refl refl refl) w.in-Ended.is ∙ sym w.left-is
      | in_default w ↦
          ends_some job _ c.self.inside.state c.next_answer.result p c.self.invariant.kept (c.next_answer.ensures _ refl refl refl) w.in_default.not-Memory w.in_default.not-Ended
          ∙ sym w.left-is
    ])
