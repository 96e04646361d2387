use Rattle.std.proofs.Common.{length, refl, ap, ◌∙◌, arith}
use Rattle.rdm_mr.specs.Tiles.{Tiles}
use Rattle.rdm_land.specs.Landed.{Landed}
use Rattle.rdm_land.proofs.Agreed.{is_whole, agrees_whole, agrees_along}
use Rattle.rdm_land.proofs.Came.{came_whole}
use Rattle.rdm_land.proofs.landing.Landing.arrive.Goals as goal

pub write_came-requires-clause-whole : goal.write_came-requires-clause-whole
write_came-requires-clause-whole c = is_whole _ _ _ c.self.invariant.agrees (ap (λ (l : Landed). l.lent) c.self.view_is ∙ c.requires.none_lent)

pub invariant_of-self : goal.invariant_of-self
invariant_of-self c =
    let none = ap (λ (l : Landed). l.lent) c.self.view_is ∙ c.requires.none_lent in
    let whole = is_whole _ _ _ c.self.invariant.agrees none in
    let out = ap (λ (t : Tiles). t.out) c.write_came.ensures in
    record {
      fits = c.places-self-inside.type_inv;
      length_is = c.places-self-inside.ensures;
      agrees = agrees_along refl (ap (λ (t : Tiles). t.cells) c.write_came.ensures) none (agrees_whole c.args.gaps.places _ (came_whole c.args.gaps.places c.args.bytes.now c.self.inside.home.cells whole));
      counted = out ∙ c.self.invariant.counted;
      spare = let empty = ap length none in omega (arith, empty, c.spare-self-inside.ensures);
    }
