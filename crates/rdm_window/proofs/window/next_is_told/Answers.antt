use Rattle.rdm_window.proofs.Told.{next_told}
use Rattle.rdm_window.proofs.window.next_is_told.Goals as goal

pub returns : goal.returns
returns c = next_told
