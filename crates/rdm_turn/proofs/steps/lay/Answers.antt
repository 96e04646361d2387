use Rattle.std.proofs.Common.{rules}
use Rattle.rdm_turn.proofs.Keeps.{opens, fills}
use Rattle.rdm_turn.proofs.steps.lay.Goals as goal

pub load-requires : goal.load-requires
load-requires g c = (search rules, search rules, opens g.V.Tagged.fits c.args.board.now.key c.args.board.now.table_id.slots _ c.args.i c.requires.place.1 _ c.requires.seat c.requires.taken)

pub load-requires-2 : goal.load-requires-2
load-requires-2 g c = (
  search rules,
  search rules,
  fills g.V.Tagged.fits c.args.board.now.key c.args.board.now.table_id.slots _ c.args.i c.requires.place.1 _ _ _ _ _ c.args.value c.requires.seat.0 c.load.ensures.2 c.exchange.ensures.3 c.requires.fits,
)
