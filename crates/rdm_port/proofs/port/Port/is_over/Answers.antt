use Rattle.std.proofs.Common.{ap, ◌∙◌}
use Rattle.rdm_port.specs.declared.port.Port.TheInside.{Inside}
use Rattle.rdm_port.proofs.Endings.{over_is}
use Rattle.rdm_port.proofs.port.Port.is_over.Goals as goal

pub returns : goal.returns
returns c =
    over_is c.args.self.now _ c.self.inside.state _ c.as_slice.result.now c.self.view_is (ap (λ (p : Inside). p.state) c.self-inside.view_is)
    (c.as_slice.ensures ∙ ap (λ (p : Inside). p.rank.ops) c.self-inside.view_is) c.self.invariant.kept
