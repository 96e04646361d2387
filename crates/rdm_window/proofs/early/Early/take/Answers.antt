use Rattle.std.proofs.Common.{◌∙◌}
use Rattle.rdm_window.proofs.Messages.{message_is_lookup, held_without}
use Rattle.rdm_window.proofs.early.Early.take.Goals as goal

pub returns-clause-answer : goal.returns-clause-answer
returns-clause-answer c = c.remove.ensures.value ∙ rw c.key.ensures (message_is_lookup _ _ _ c.self.view_is c.args.life c.args.no)

pub returns-clause-after : goal.returns-clause-after
returns-clause-after c = held_without _ _ _ c.self.view_is _ c.args.life c.args.no (rw c.key.ensures at c.remove.ensures.updates.0)
