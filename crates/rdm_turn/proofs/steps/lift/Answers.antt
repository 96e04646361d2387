use Rattle.std.proofs.Common.{rules, Some}
use Rattle.rdm_turn.proofs.Keeps.{lifts, is_out, empties}
use Rattle.rdm_turn.proofs.steps.lift.Goals as goal

pub load-requires : goal.load-requires
load-requires g c = (search rules, search rules, lifts g.V.Tagged.fits c.args.board.now.key c.args.board.now.table_id.slots _ c.args.i c.requires.place.1 _ c.requires.seat)

pub exchange-value-requires : goal.exchange-value-requires
exchange-value-requires g c =
    let got = c.load.ensures.2 in
    (search rules, (Some got.0, is_out g.V.Tagged.fits c.args.board.now.key c.args.board.now.table_id.slots c.args.seat.now.id c.args.i c.requires.place.1 _ _ _ got.2))

pub load-requires-2 : goal.load-requires-2
load-requires-2 g c =
    let got = c.load.ensures.2 in
    (search rules, search rules, empties g.V.Tagged.fits c.args.board.now.key c.args.board.now.table_id.slots _ c.args.i c.requires.place.1 _ _ _ _ _ c.requires.seat.0 got.2 c.exchange-value.ensures.3)
