use Rattle.std.proofs.Common.{length, sym, ap, ◌∙◌}
use Rattle.rdm_land.proofs.Came.{length-came}
use Rattle.rdm_receives.specs.View.{ReceiveView}
use Rattle.rdm_receives.proofs.tests.an_early_message_is_granted_in_windows.Goals as goal

pub ends_with-ended-requires-clause-whole : goal.ends_with-ended-requires-clause-whole
ends_with-ended-requires-clause-whole g c =
    let met = c.take_message.ensures in
    let cells = ap (λ (r : ReceiveView). length r.landed.tiles.cells) met ∙ length-came _ _ c.in_ok-receive.receive.landed.tiles.cells in
    let whole = ap (λ (r : ReceiveView). r.landed.tiles.whole) met in
    c.are_granted-granted.ensures.places ∙ cells ∙ c.in_ok-receive.ensures.whole ∙ sym (c.are_granted-granted.ensures.whole ∙ whole)
