use Rattle.std.proofs.Common.{sym, ap, subst, ◌∙◌}
use Rattle.std.specs.Prelude.{IsTrue, ◌↔◌}
use Rattle.std.specs.Option.{option_copied, IsSomeAnd}
use Rattle.rdm_window.specs.Message.{Awaits}
use Rattle.rdm_window.proofs.Awaited.{none_awaits}
use Rattle.rdm_window.proofs.early.Early.missing.Goals as goal

pub returns-in-Some : goal.returns-in-Some
returns-in-Some c =
    subst (λ o. IsTrue c.awaits.result ↔ IsSomeAnd o (Awaits c.args.at c.args.len)) (sym (ap option_copied c.in-Some.is) ∙ c.get.ensures) c.awaits.ensures

pub returns-in-None : goal.returns-in-None
returns-in-None c = none_awaits _ (Awaits c.args.at c.args.len) (sym c.get.ensures ∙ ap option_copied c.in-None.is)
