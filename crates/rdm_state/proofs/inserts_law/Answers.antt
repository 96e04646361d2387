use Rattle.rdm_state.proofs.Inserted.{inserts, supersedes}
use Rattle.rdm_state.proofs.inserts_law.Goals as goal

pub returns : goal.returns
returns c = record { inserts = inserts; supersedes = supersedes }
