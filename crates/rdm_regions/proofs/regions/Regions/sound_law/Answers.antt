use Rattle.std.proofs.Common.{subst}
use Rattle.rdm_regions.specs.Survival.{IsSound}
use Rattle.rdm_regions.proofs.Sound.{is_sound}
use Rattle.rdm_regions.proofs.regions.Regions.sound_law.Goals as goal

pub returns : goal.returns
returns c =
    let i = c.self.inside in
    subst IsSound c.self.view_is (is_sound i.regions.items i.held.entries i.leased.entries c.self.invariant)
