use Rattle.std.proofs.Common.{◌∙◌}
use Rattle.rdm_matched.proofs.Kept.{receive_is_lookup, taken_is}
use Rattle.rdm_matched.proofs.Matched.take.Goals as goal

pub returns-clause-answer : goal.returns-clause-answer
returns-clause-answer c = c.remove.ensures.value ∙ rw c.key.ensures (receive_is_lookup _ _ _ c.self.view_is c.args.life c.args.no)

pub returns-clause-after : goal.returns-clause-after
returns-clause-after c = taken_is _ _ _ c.self.view_is c.args.life c.args.no _ (rw c.key.ensures at c.remove.ensures.updates.0)
