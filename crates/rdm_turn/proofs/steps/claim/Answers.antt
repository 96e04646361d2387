use Rattle.std.proofs.Common.{rules, sym, subst}
use Rattle.rdm_turn.specs.declared.rule.Hand.TheVariants.{Nothing}
use Rattle.rdm_turn.specs.Telling.{HasInHand}
use Rattle.rdm_turn.proofs.Keeps.{claims}
use Rattle.rdm_turn.proofs.steps.claim.Goals as goal

pub compare_exchange-requires : goal.compare_exchange-requires
compare_exchange-requires g c = (
  search rules,
  search rules,
  claims g.V.Tagged.fits c.args.board.now.key c.args.board.now.table_id.slots _ c.args.i c.requires.place.1 _ (subst (λ me. HasInHand Nothing me) (sym c.loop.invariant.4) c.requires.seat),
)
