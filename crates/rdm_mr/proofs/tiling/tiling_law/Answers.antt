use Rattle.rdm_mr.proofs.Tilings.{keeps_tiling}
use Rattle.rdm_mr.proofs.tiling.tiling_law.Goals as goal

pub returns : goal.returns
returns c = keeps_tiling
