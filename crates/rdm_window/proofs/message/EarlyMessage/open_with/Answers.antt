use Rattle.std.proofs.Common.{sym, ap, subst}
use Rattle.rdm_window.specs.Message.{Message, Awaits}
use Rattle.rdm_window.proofs.Awaited.{opened_awaits}
use Rattle.rdm_window.proofs.message.EarlyMessage.open_with.Goals as goal

pub add-requires : goal.add-requires
add-requires c = subst (Awaits c.args.at _) (sym c.in_ok-message.ensures) (opened_awaits c.args.at _ c.args.opening c.requires)
