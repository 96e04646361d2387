use Rattle.std.proofs.Common.{sym}
use Rattle.rdm_mr.proofs.Homes.{length-cells}
use Rattle.rdm_mr.proofs.home.Home.len.Goals as goal

pub returns : goal.returns
returns c = sym (length-cells _ _ _ _ _ _ _ c.self.invariant.apart c.self.view_is)
