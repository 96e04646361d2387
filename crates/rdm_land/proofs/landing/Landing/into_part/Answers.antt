use Rattle.std.proofs.Common.{ap, ◌∙◌}
use Rattle.rdm_land.specs.Landed.{Landed}
use Rattle.rdm_land.proofs.Agreed.{is_whole}
use Rattle.rdm_land.proofs.landing.Landing.into_part.Goals as goal

pub close-requires : goal.close-requires
close-requires c = is_whole _ _ _ c.self.invariant.agrees (ap (λ (l : Landed). l.lent) c.self.view_is ∙ c.requires)
