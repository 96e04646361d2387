use Rattle.std.proofs.Common.{rules}
use Rattle.rdm_turn.proofs.Seats.{joins}
use Rattle.rdm_turn.proofs.turns.Turns.join.Goals as goal

pub join_seat-requires : goal.join_seat-requires
join_seat-requires g c = (search rules, search rules, search rules, search rules, joins g.V.Tagged.fits c.self.inside.table.shared.key _ _ _ _ (search rules) (search rules) (search rules))
