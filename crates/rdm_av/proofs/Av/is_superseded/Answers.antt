use Rattle.std.proofs.Common.{sym, ◌∙◌}
use Rattle.rdm_av.proofs.HeldLives.{superseded_is_kept}
use Rattle.rdm_av.proofs.Av.is_superseded.Goals as goal

pub returns : goal.returns
returns c = c.contains.ensures ∙ sym (superseded_is_kept _ _ _ _ c.self.view_is c.args.life)
