use Rattle.std.proofs.Common.{◌≤◌, ◌+◌, ap, ◌∙◌}
use Rattle.rdm_window.specs.Window.{Hearing}
use Rattle.rdm_window.specs.Marks.{Marks}
use Rattle.rdm_window.proofs.Told.{new_from_next, least_missing, hearing_after, window_after}
use Rattle.rdm_window.proofs.window.Window.hear_reserved.Goals as goal

pub mark_reserved-requires : goal.mark_reserved-requires
mark_reserved-requires c =
    record {
      from = rw (ap (λ (a : Hearing). a.next) c.self.view_is) (new_from_next c.args.self.now c.args.no.0 c.requires.state);
      room = rw (ap (λ (a : Hearing). a.room) c.self.view_is) c.requires.room;
    }

pub returns-clause-after : goal.returns-clause-after
returns-clause-after c =
    let past : c.self.inside.ring.next ≤ c.args.no.0 = rw (ap (λ (a : Hearing). a.next) c.self.view_is) (new_from_next c.args.self.now c.args.no.0 c.requires.state) in
    let rises = c.advance.ensures.count ∙ ap (λ (m : Marks). m.next + c.advance.result) c.mark_reserved.ensures.after in
    hearing_after c.self.inside.first c.self.inside.ring c.advance.new.self c.args.self.now c.args.no.0 c.advance.result c.self.view_is c.self.invariant past c.mark_reserved.ensures.fits (rw c.mark_reserved.ensures.after at c.advance.ensures.advanced) rises

pub returns-clause-least : goal.returns-clause-least
returns-clause-least c =
    least_missing c.self.inside.first c.advance.new.self (window_after c.self.inside.first c.self.inside.ring c.advance.new.self c.args.no.0 c.self.invariant (rw c.mark_reserved.ensures.after at c.advance.ensures.advanced) c.advance.ensures.fits c.advance.ensures.stops)
