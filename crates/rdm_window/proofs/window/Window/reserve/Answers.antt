use Rattle.std.proofs.Common.{ap, ◌∙◌}
use Rattle.std.proofs.lemmas.Result.{on_ok_weaker}
use Rattle.rdm_window.specs.Window.{with_room}
use Rattle.rdm_window.proofs.Told.{hearing_of, hearing_room, least_missing, window_reserved}
use Rattle.rdm_window.proofs.window.Window.reserve.Goals as goal

pub returns-clause-ok : goal.returns-clause-ok
returns-clause-ok c =
    on_ok_weaker c.reserve.result (λ made. ap (hearing_of c.self.inside.first) made ∙ hearing_room c.self.inside.first c.self.inside.ring ∙ ap with_room c.self.view_is) c.reserve.ensures.ok

pub returns-clause-least : goal.returns-clause-least
returns-clause-least c =
    least_missing c.self.inside.first c.reserve.new.self (window_reserved c.self.inside.first c.self.inside.ring c.reserve.new.self c.reserve.result c.reserve.ensures.ok c.reserve.ensures.err c.self.invariant)
