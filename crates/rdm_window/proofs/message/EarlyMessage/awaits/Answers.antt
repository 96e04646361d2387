use Rattle.std.proofs.Common.{◌≡◌, ◌∙◌, ap, arith, ◌+◌, ◌≤◌, length, drop}
use Rattle.rdm_gaps.specs.Places.{run}
use Rattle.rdm_window.specs.Message.{Message}
use Rattle.rdm_window.proofs.Awaited.{awaits_by_run}
use Rattle.rdm_window.proofs.message.EarlyMessage.awaits.Goals as goal

pub returns-then-end-places : goal.returns-then-end-places
returns-then-end-places c =
    let places : c.places-places.result ≡ length c.args.self.now.gaps.places = c.places-places.ensures ∙ ap (λ (m : Message). length m.gaps.places) c.self.view_is in
    let end : c.in-Some.end ≡ c.args.at + c.args.len = c.in-Some.ensures.1 in
    let fits : c.in-Some.end ≤ c.places-places.result = c.if-end-places.true in
    awaits_by_run c.args.at c.args.len c.missing_from.result c.args.self.now.gaps.places (omega arith) (c.missing_from.ensures ∙ ap (λ (m : Message). run (drop c.args.at m.gaps.places)) c.self.view_is)
