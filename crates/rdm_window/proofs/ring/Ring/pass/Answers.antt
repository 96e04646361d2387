use Rattle.std.proofs.Common.{◌∙◌, ap, sym, Bool}
use Rattle.std.specs.Prelude.{if◌then◌else◌}
use Rattle.rdm_window.specs.Marks.{passed}
use Rattle.rdm_window.proofs.Marked.{has_first, pass_first}
use Rattle.rdm_window.proofs.ring.Ring.pass.Goals as goal

pub returns-then-is_marked-clause-answer : goal.returns-then-is_marked-clause-answer
returns-then-is_marked-clause-answer c = has_first _ _ _ _ _ c.self.view_is c.slot-place.result c.self.invariant.0 c.slot-place.ensures.place

pub returns-else-is_marked-clause-answer : goal.returns-else-is_marked-clause-answer
returns-else-is_marked-clause-answer c = has_first _ _ _ _ _ c.self.view_is c.slot-place.result c.self.invariant.0 c.slot-place.ensures.place

pub returns-then-is_marked-clause-after : goal.returns-then-is_marked-clause-after
returns-then-is_marked-clause-after c =
    pass_first _ _ _ _ _ c.self.view_is _ c.slot-place.result c.take_out.result c.self.told c.slot-place.ensures.place c.take_out.ensures.answer
    ∙ sym (ap (λ (b : Bool). if b then passed c.args.self.now else c.args.self.now) c.if-is_marked.true)
