use Rattle.std.proofs.Common.{arith, sym}
use Rattle.rdm_regions.proofs.Refusals.{no_region, passes, is_region_of}
use Rattle.rdm_regions.proofs.regions.region_of.Goals as goal

pub returns-then-fits : goal.returns-then-fits
returns-then-fits c =
    let h = c.in-Some.ensures.lookup.3 in
    is_region_of c.args.range.now c.args.regions.now c.in-Some.region.now h.0 (λ d. sym (h.1 d)) (c.fits.ensures.0 c.if-fits.true)

pub returns-else-fits : goal.returns-else-fits
returns-else-fits c =
    let h = c.in-Some.ensures.lookup.3 in
    passes c.args.range.now c.args.regions.now c.in-Some.region.now h.0 (sym (h.1 c.in-Some.region.now)) (grind (arith, c.fits.ensures, c.if-fits.false))

pub returns-in-None : goal.returns-in-None
returns-in-None c = no_region c.args.range.now c.args.regions.now c.in-None.ensures.lookup.3
