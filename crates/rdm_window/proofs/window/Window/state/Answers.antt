use Rattle.std.proofs.Common.{subst, sym, ◌∙◌}
use Rattle.rdm_window.specs.Window.{IsLeastMissing}
use Rattle.rdm_window.proofs.Told.{least_missing, waits_in_ring, new_to_ring}
use Rattle.rdm_window.proofs.window.Window.state.Goals as goal

pub returns-then-from-next_number-clause-least : goal.returns-then-from-next_number-clause-least
returns-then-from-next_number-clause-least c = subst IsLeastMissing c.self.view_is (least_missing _ _ c.self.invariant)

pub returns-then-has-clause-least : goal.returns-then-has-clause-least
returns-then-has-clause-least c = subst IsLeastMissing c.self.view_is (least_missing _ _ c.self.invariant)

pub returns-else-has-clause-least : goal.returns-else-has-clause-least
returns-else-has-clause-least c = subst IsLeastMissing c.self.view_is (least_missing _ _ c.self.invariant)

pub returns-then-has-clause-answer : goal.returns-then-has-clause-answer
returns-then-has-clause-answer c =
    waits_in_ring _ _ _ c.self.view_is c.self.invariant c.args.no.0 (rw (c.next_number.ensures.next, c.from.ensures) at c.if-from-next_number.false) c.has.ensures.fits (sym c.has.ensures.answer ∙ c.if-has.true)

pub returns-else-has-clause-answer : goal.returns-else-has-clause-answer
returns-else-has-clause-answer c =
    new_to_ring _ _ _ c.self.view_is c.self.invariant c.args.no.0 (rw (c.next_number.ensures.next, c.from.ensures) at c.if-from-next_number.false) c.has.ensures.fits (sym c.has.ensures.answer ∙ c.if-has.false)
