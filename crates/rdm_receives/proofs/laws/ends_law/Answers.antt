use Rattle.rdm_receives.proofs.Backs.{bytes_show, excess_shows, part_shows}
use Rattle.rdm_receives.proofs.laws.ends_law.Goals as goal

pub returns-clause-bytes : goal.returns-clause-bytes
returns-clause-bytes c = bytes_show

pub returns-clause-excess : goal.returns-clause-excess
returns-clause-excess c = excess_shows

pub returns-clause-part : goal.returns-clause-part
returns-clause-part c = part_shows
