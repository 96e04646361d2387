use Rattle.rdm_slots.proofs.Counts.{counts_move, empty_has_none}
use Rattle.rdm_slots.proofs.counts_law.Goals as goal

pub returns : goal.returns
returns g c = record { move_so = counts_move; empty = empty_has_none }
