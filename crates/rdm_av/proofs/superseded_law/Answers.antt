use Rattle.rdm_av.proofs.Law.{superseded_once_current}
use Rattle.rdm_av.proofs.superseded_law.Goals as goal

pub returns : goal.returns
returns c = superseded_once_current
