use Rattle.std.proofs.Common.{refl, arith}
use Rattle.rdm_regions.proofs.HomeBytes.{lifted}
use Rattle.rdm_regions.proofs.region.Region.lift.Goals as goal

pub returns-in-Ok-Some-clause-ok : goal.returns-in-Ok-Some-clause-ok
returns-in-Ok-Some-clause-ok c =
    let e = rw c.in-Ok-Some.field-0-is at c.in-Ok-Some.ensures in
    let h = lifted c.args.range.now c.args.self.now c.in-Ok-Some.part c.take_out.new.self (omega (arith, c.if-range-eq0.false)) c.requires.2 e.answer e.after in
    (h.0, record { home = h.1; starts = refl; ends = refl })
