use Rattle.rdm_script.proofs.Formed.{formed_are_fair}
use Rattle.rdm_script.proofs.ReadPlayed.{read_are_fair, read_are_played}
use Rattle.rdm_script.proofs.laws.read_jobs.Goals as goal

pub returns-clause-formed : goal.returns-clause-formed
returns-clause-formed c = formed_are_fair

pub returns-clause-fair : goal.returns-clause-fair
returns-clause-fair c = read_are_fair

pub returns-clause-played : goal.returns-clause-played
returns-clause-played c = read_are_played
