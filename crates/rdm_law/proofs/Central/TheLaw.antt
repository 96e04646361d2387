-- The central law, and what it says of ends and of reports.
use Rattle.rdm_law.specs.Law.{Law, JointLaw, Completes}
use Rattle.rdm_law.specs.Headline.{Headline}
use Rattle.rdm_law.proofs.Classes.ClassFree.{all_free}
use Rattle.rdm_law.proofs.Central.Lawfully.{the_law_where, the_joint_law_where}
use Rattle.rdm_law.proofs.Settled.AllTaken.{all_taken}
use Rattle.rdm_law.proofs.Settled.Complete.{completes_where}
use Rattle.rdm_law.proofs.Central.Says.{headline_where}

-- logs that are right by themselves, over a wire that delivers once, make a lawful history
pub the_law : Law
the_law = the_law_where (λ job fair. all_free job)

-- and so do logs over inboxes that deliver once
pub the_joint_law : JointLaw
the_joint_law = the_joint_law_where (λ job fair. all_free job)

-- what settles is complete
pub the_end : Completes
the_end = completes_where all_taken

-- what a right report says
pub the_headline : Headline
the_headline = headline_where (λ job fair. all_free job) the_end
