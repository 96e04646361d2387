use Rattle.std.proofs.Common.{rules}
use Rattle.rdm_turn.proofs.Keeps.{leaves}
use Rattle.rdm_turn.proofs.steps.leave.Goals as goal

pub store-requires : goal.store-requires
store-requires g c = (search rules, search rules, leaves g.V.Tagged.fits c.args.board.now.key c.args.board.now.table_id.slots _ c.args.i c.requires.place.1 _ c.requires.seat c.requires.once)
