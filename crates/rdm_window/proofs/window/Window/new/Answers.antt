use Rattle.std.proofs.Common.{◌∙◌, ap}
use Rattle.rdm_window.proofs.Told.{hearing_of, new_hearing, new_window, least_missing}
use Rattle.rdm_window.proofs.window.Window.new.Goals as goal

pub invariant_of-result : goal.invariant_of-result
invariant_of-result c = rw c.new.ensures (new_window c.args.first c.ranges.first.fits)

pub returns-clause-start : goal.returns-clause-start
returns-clause-start c = ap (hearing_of c.args.first) c.new.ensures ∙ new_hearing c.args.first

pub returns-clause-least : goal.returns-clause-least
returns-clause-least c = least_missing c.args.first c.new.result (rw c.new.ensures (new_window c.args.first c.ranges.first.fits))
