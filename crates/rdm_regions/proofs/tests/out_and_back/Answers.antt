use Rattle.rdm_regions.proofs.Emptied.{free_in_none, back_to_none}
use Rattle.rdm_regions.specs.Ranges.{range}
use Rattle.rdm_regions.proofs.tests.out_and_back.Goals as goal

pub lease_out-requires : goal.lease_out-requires
lease_out-requires c = free_in_none c.args.regions.now.leased c.args.recv.0 c.requires

pub returns-in-Ok : goal.returns-in-Ok
returns-in-Ok c =
    back_to_none c.args.regions.now c.lease_out.new.self c.lease_back.new.self c.args.recv.0 (range c.args.region.0 c.args.at c.args.len) c.in-Ok.part c.requires c.in-Ok.ensures.after c.lease_back.ensures
