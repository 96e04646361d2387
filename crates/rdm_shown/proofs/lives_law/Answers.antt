use Rattle.rdm_shown.proofs.Lives.{none_shows, insert_shows, source_shows, origins_show}
use Rattle.rdm_shown.proofs.lives_law.Goals as goal

pub returns : goal.returns
returns c = record { none = none_shows; insert = insert_shows; source = source_shows; origins = origins_show }
