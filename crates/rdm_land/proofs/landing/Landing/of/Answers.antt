use Rattle.std.proofs.Common.{refl, arith}
use Rattle.rdm_land.proofs.Agreed.{agrees_whole, agrees_along}
use Rattle.rdm_land.proofs.landing.Landing.of.Goals as goal

pub invariant_of-result : goal.invariant_of-result
invariant_of-result c =
    record {
      fits = c.places-length.type_inv;
      length_is = c.places-length.ensures;
      agrees = agrees_along refl refl c.new.ensures.items (agrees_whole c.args.gaps.places c.args.home.cells c.requires.whole);
      counted = omega (arith, c.requires.none_out, c.new.ensures.len);
      spare = omega (arith, c.new.ensures.len, c.spare-room.ensures);
    }
