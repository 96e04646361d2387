use Rattle.rdm_state.proofs.Accepted.{accepts, begins, greets, knows, learns, passes}
use Rattle.rdm_state.proofs.lives_law.Goals as goal

pub returns : goal.returns
returns c = record { accepts = accepts; begins = begins; knows = knows; greets = greets; passes = passes; learns = learns }
