use Rattle.std.proofs.Common.{rules}
use Rattle.rdm_turn.proofs.Seats.{splits}
use Rattle.rdm_turn.proofs.turns.Turns.split.Goals as goal

pub split_seat-other-requires : goal.split_seat-other-requires
split_seat-other-requires g c = (search rules, search rules, splits g.V.Tagged.fits c.self.inside.table.shared.key _ _ (search rules))
