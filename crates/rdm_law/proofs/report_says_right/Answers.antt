use Rattle.rdm_law.proofs.report_says_right.Goals as goal
use Rattle.rdm_law.proofs.Central.TheLaw.{the_headline}

pub returns : goal.returns
returns c = the_headline
