use Rattle.rdm_receives.proofs.Fullness.{full_shows, landed_shows, grant_shows, owes_show}
use Rattle.rdm_receives.proofs.laws.answers_law.Goals as goal

pub returns-clause-full : goal.returns-clause-full
returns-clause-full c = full_shows

pub returns-clause-landed : goal.returns-clause-landed
returns-clause-landed c = landed_shows

pub returns-clause-grant : goal.returns-clause-grant
returns-clause-grant c = grant_shows

pub returns-clause-owes : goal.returns-clause-owes
returns-clause-owes c = owes_show
