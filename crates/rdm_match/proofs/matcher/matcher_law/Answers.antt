use Rattle.rdm_match.proofs.Law.{calls_are_the_plain_matcher}
use Rattle.rdm_match.proofs.matcher.matcher_law.Goals as goal

pub returns : goal.returns
returns c = calls_are_the_plain_matcher
