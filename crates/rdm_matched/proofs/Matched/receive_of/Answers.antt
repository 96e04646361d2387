use Rattle.std.proofs.Common.{◌∙◌}
use Rattle.rdm_matched.proofs.Kept.{receive_is_lookup}
use Rattle.rdm_matched.proofs.Matched.receive_of.Goals as goal

pub returns : goal.returns
returns c = c.copied.ensures ∙ c.get.ensures.value ∙ rw c.key.ensures (receive_is_lookup _ _ _ c.self.view_is c.args.life c.args.no)
