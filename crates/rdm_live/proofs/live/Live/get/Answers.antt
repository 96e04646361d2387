use Rattle.std.proofs.Common.{sym, ap, ◌∙◌, option_copied}
use Rattle.rdm_live.proofs.Standing.{numbered_at, standing}
use Rattle.rdm_live.proofs.live.Live.get.Goals as goal

pub returns-in_err-place : goal.returns-in_err-place
returns-in_err-place c =
    let slots = c.self.inside.slots in
    let at = numbered_at slots c.self.inside.places.list c.args.number c.self.invariant.stand in
    rw (← c.self.view_is) (ap option_copied c.from_residual.ensures ∙ sym (at ∙ ap (standing slots) (sym c.get.ensures ∙ ap option_copied c.in_err-place.was)))

pub returns : goal.returns
returns c =
    let slots = c.self.inside.slots in
    let at = numbered_at slots c.self.inside.places.list c.args.number c.self.invariant.stand in
    rw (← c.self.view_is) (c.get-2.ensures ∙ sym (at ∙ ap (standing slots) (sym c.get.ensures ∙ ap option_copied c.in_ok-place.was)))
