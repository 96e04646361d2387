use Rattle.rdm_cq.proofs.Law.{comes_as_written}
use Rattle.rdm_cq.proofs.completions_law.Goals as goal

pub returns : goal.returns
returns g c = comes_as_written
