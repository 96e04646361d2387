use Rattle.std.proofs.Common.{ap, ◌∙◌}
use Rattle.rdm_window.specs.Window.{state_of, after_hear, with_spent}
use Rattle.rdm_window.proofs.Told.{spent_room, state_room}
use Rattle.rdm_window.proofs.window.Window.hear.Goals as goal

pub hear_reserved-requires-clause-state : goal.hear_reserved-requires-clause-state
hear_reserved-requires-clause-state c =
    ap (λ a. state_of a c.args.no.0) c.in_ok-reserve.ensures.ok ∙ state_room c.args.self.now c.args.no.0 ∙ c.requires

pub returns-clause-ok : goal.returns-clause-ok
returns-clause-ok c =
    c.hear_reserved.ensures.after
    ∙ ap (λ a. with_spent (after_hear a c.args.no.0 c.hear_reserved.result)) c.in_ok-reserve.ensures.ok
    ∙ ap (λ a. after_hear a c.args.no.0 c.hear_reserved.result) (spent_room c.args.self.now)
