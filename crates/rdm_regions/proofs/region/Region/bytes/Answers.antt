use Rattle.std.proofs.Common.{sym}
use Rattle.rdm_regions.proofs.HomeBytes.{bytes_are}
use Rattle.rdm_regions.proofs.region.Region.bytes.Goals as goal

pub returns : goal.returns
returns c = sym (bytes_are c.args.at c.args.len c.in-Some.bytes.now c.args.self.now.home.cells c.in-Some.ensures.0 c.in-Some.ensures.1)
