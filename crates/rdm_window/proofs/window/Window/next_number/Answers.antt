use Rattle.std.proofs.Common.{subst, ap, ◌∙◌}
use Rattle.rdm_window.specs.Window.{Hearing, IsLeastMissing}
use Rattle.rdm_window.proofs.Told.{least_missing}
use Rattle.rdm_window.proofs.window.Window.next_number.Goals as goal

pub returns-clause-least : goal.returns-clause-least
returns-clause-least c = subst IsLeastMissing c.self.view_is (least_missing _ _ c.self.invariant)
