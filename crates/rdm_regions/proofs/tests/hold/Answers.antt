use Rattle.rdm_regions.specs.Ranges.{hold_key}
use Rattle.rdm_regions.proofs.Emptied.{free_in_none}
use Rattle.rdm_regions.proofs.tests.hold.Goals as goal

pub hold-requires : goal.hold-requires
hold-requires c = free_in_none c.args.regions.now.held (hold_key 0 0) c.requires.0
