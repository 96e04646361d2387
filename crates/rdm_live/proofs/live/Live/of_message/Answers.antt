use Rattle.std.proofs.Common.{sym, ap, ◌∙◌, option_copied, refl}
use Rattle.rdm_live.specs.View.{LiveView, takes}
use Rattle.rdm_live.specs.Kept.{of_message_number}
use Rattle.rdm_live.proofs.Asking.{no_number, found_by_number}
use Rattle.rdm_live.proofs.live.Live.of_message.Goals as goal

pub returns-in_err-number : goal.returns-in_err-number
returns-in_err-number c =
    let known = ap (λ (v : LiveView). of_message_number v.list c.args.source c.args.no) (sym c.self.view_is) ∙ sym (c.self.invariant.known c.args.source c.args.no) ∙ sym c.receive_of.ensures ∙ c.in_err-number.was in
    ap option_copied c.from_residual.ensures ∙ sym (no_number _ known)

pub returns : goal.returns
returns c =
    let known = ap (λ (v : LiveView). of_message_number v.list c.args.source c.args.no) (sym c.self.view_is) ∙ sym (c.self.invariant.known c.args.source c.args.no) ∙ sym c.receive_of.ensures ∙ c.in_ok-number.was in
    c.get.ensures ∙ found_by_number c.args.self.now.list c.args.self.now.made (takes c.args.source c.args.no) c.in_ok-number.number _ c.live_law.ensures.rises refl known
