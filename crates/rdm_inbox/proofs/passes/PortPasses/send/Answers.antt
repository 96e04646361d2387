use Rattle.std.proofs.Common.{◌≡◌, sym, ap, ◌∙◌, subst, set, MatchResult, Some}
use Rattle.std.specs.Prelude.{slice_get}
use Rattle.rdm_inbox.specs.Queues.{PassesState, after_sent, after_found_full, WasFullAt}
use Rattle.rdm_inbox.proofs.Passing.{slice_get-or, send_answer}
use Rattle.rdm_inbox.proofs.passes.PortPasses.send.Goals as goal

pub returns : goal.returns
returns g c =
    let at = subst (λ v. slice_get v.senders c.args.d.dst.0 ≡ Some c.requires.0) (sym c.self.view_is) c.requires.1 in
    let is = c.index_mut.ensures.value ∙ slice_get-or c.self.inside.senders.items c.args.d.dst.0 c.requires.0 c.index_mut.result.now at in
    let v : PassesState = record { port = c.self.inside.port.0; senders = c.self.inside.senders.items; reader = c.self.inside.reader } in
    let now : PassesState = record v { senders = set v.senders c.args.d.dst.0 c.send.new.pass } in
    subst (λ old. MatchResult c.send.result (λ _. now ≡ after_sent old c.args.d) (λ back. (back ≡ c.args.d) × (now ≡ after_found_full old c.args.d.dst.0) × WasFullAt c.args.inbox.now.size old c.args.d.dst.0)) c.self.view_is
    (send_answer c.args.inbox.now.size v c.args.d c.index_mut.result.now c.send.new.pass c.send.result (at ∙ ap (λ s. Some s) (sym is)) c.send.ensures)
