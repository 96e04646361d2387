use Rattle.std.proofs.Common.{ap, ◌∙◌, subst, sym}
use Rattle.rdm_window.specs.Window.{with_spent}
use Rattle.rdm_window.proofs.Told.{hearing_of, hearing_spent, least_missing, window_spent}
use Rattle.rdm_window.proofs.window.Window.give_back.Goals as goal

pub returns-clause-after : goal.returns-clause-after
returns-clause-after c =
    ap (hearing_of c.self.inside.first) c.give_back.ensures ∙ hearing_spent c.self.inside.first c.self.inside.ring ∙ ap with_spent c.self.view_is

pub returns-clause-least : goal.returns-clause-least
returns-clause-least c =
    least_missing c.self.inside.first c.give_back.new.self (window_spent c.self.inside.first c.self.inside.ring c.give_back.new.self c.give_back.ensures c.self.invariant)
