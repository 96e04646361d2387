use Rattle.rdm_state.proofs.Heard.{hears, adds, enters_aside}
use Rattle.rdm_state.proofs.Messages.{posts, takes, arrives, is_taken, meets, owes}
use Rattle.rdm_state.proofs.messages_law.Goals as goal

pub returns : goal.returns
returns c = record { posts = posts; takes = takes; arrives = arrives; is_taken = is_taken; meets = meets; owes = owes; hears = hears; adds = adds; enters = enters_aside }
