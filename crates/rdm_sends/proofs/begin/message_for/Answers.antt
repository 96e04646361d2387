use Rattle.std.proofs.Common.{◌≤◌, sym, subst}
use Rattle.rdm_pkt.specs.declared.Kind.{Kind}
use Rattle.rdm_model.specs.Targets.{read_from}
use Rattle.rdm_sends.proofs.Begins.{chosen_from}
use Rattle.rdm_sends.proofs.begin.message_for.Goals as goal

pub returns-clause-read : goal.returns-clause-read
returns-clause-read c = subst (λ (k : Kind). read_from k ≤ c.args.total) (sym c.choose.ensures) (chosen_from _ _ _ _ _ _ _)
