use Rattle.std.proofs.Common.{length, ap, arith}
use Rattle.rdm_gaps.specs.Places.{Missing}
use Rattle.rdm_gaps.proofs.Covered.{length-places_of}
use Rattle.rdm_gaps.proofs.Gaps.places.Goals as goal

pub returns : goal.returns
returns c =
    let size = length-places_of 0 c.self.inside.size c.self.inside.gaps.items c.self.invariant.apart in
    let places = ap (λ (m : Missing). length m.places) c.self.view_is in
    omega (arith, size, places)
