use Rattle.rdm_regions.specs.Ranges.{hold_key}
use Rattle.rdm_regions.proofs.Emptied.{free_in_none}
use Rattle.rdm_regions.proofs.tests.several_ranges_are_held_or_none.Goals as goal

pub are_held-held-requires : goal.are_held-held-requires
are_held-held-requires g c = (c.register-registered.ensures.1, λ i lt. free_in_none c.register-registered.new.regions.held (hold_key 7 i) c.register-registered.ensures.0)
