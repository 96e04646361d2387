use Rattle.std.proofs.Common.{ap}
use Rattle.rdm_mr.specs.Tiles.{Tiles}
use Rattle.rdm_land.proofs.landing.Landing.new.Goals as goal

pub of-requires-clause-whole : goal.of-requires-clause-whole
of-requires-clause-whole c = (c.args.part.bytes, ap (λ (t : Tiles). t.cells) c.in-Ok-new.ensures)
