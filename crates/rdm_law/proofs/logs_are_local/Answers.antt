use Rattle.rdm_law.proofs.logs_are_local.Goals as goal
use Rattle.rdm_law.proofs.Classes.ClassFree.{all_free}
use Rattle.rdm_law.proofs.Central.LawfulPlayed.{lawful_played}

pub returns : goal.returns
returns c job history fair lawful = (lawful_played job history fair (all_free job) lawful).locals
