use Rattle.std.proofs.Common.{◌∙◌}
use Rattle.rdm_window.proofs.Messages.{message_is_lookup}
use Rattle.rdm_window.proofs.early.Early.get.Goals as goal

pub returns : goal.returns
returns c = c.get.ensures.value ∙ rw c.key.ensures (message_is_lookup _ _ _ c.self.view_is c.args.life c.args.no)
