-- Before any deed there is neither a region nor a receive.
use Rattle.std.proofs.Common.{[], refl}
use Rattle.rdm_model.specs.Beginnings.{Own}
use Rattle.rdm_model.specs.Matches.{receives}
use Rattle.rdm_model.specs.Receives.{live_receives}
use Rattle.rdm_model.specs.Regions.{regions}
use Rattle.rdm_life.specs.Kept.{nothing_kept}
use Rattle.rdm_life.specs.Keeps.{is_out, KeepsReceives}

-- nothing is kept of either
pub receives_start : (own : Own) → KeepsReceives own [] (nothing_kept own)
unfolding is_out live_receives receives regions
receives_start own = record { home_is = λ region place. refl; receives_are = refl }
