use Rattle.std.proofs.Common.{ap, ◌∙◌}
use Rattle.rdm_turn.specs.Knowing.{is_among}
use Rattle.rdm_turn.proofs.Keeps.{gone}
use Rattle.rdm_turn.proofs.turns.Turns.give.Goals as goal

pub leave-requires-clause-once : goal.leave-requires-clause-once
leave-requires-clause-once g c = ap (λ m. is_among c.args.i m.0.taken) c.lay.ensures.seat ∙ gone c.args.i _
