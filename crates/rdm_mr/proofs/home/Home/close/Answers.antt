use Rattle.std.proofs.Common.{◌≡◌, ℕ, ◌+◌, List, [], ◌++◌, length, map, Some, sym, ap, subst, ◌∙◌, arith}
use Rattle.rdm_mr.specs.Part.{Piece}
use Rattle.rdm_mr.specs.Ordered.{AreOf}
use Rattle.rdm_mr.specs.Tiles.{Tiles}
use Rattle.rdm_mr.proofs.Closes.{popped, none_left, zero_from}
use Rattle.rdm_mr.proofs.Lifts.{AreOf_at}
use Rattle.rdm_mr.proofs.home.Home.close.Goals as goal

pub destroy_empty-requires : goal.destroy_empty-requires
destroy_empty-requires c =
    let f = c.self.inside in
    let v = ap (λ (t : Tiles). t.cells) c.self.view_is in
    let p = popped f.anchor.start (f.anchor.start + f.size) (omega arith) f.parts.items c.pop.new.self.items c.in-Some.part c.requires.0 c.in-Some.ensures.items c.self.invariant.apart (v ∙ c.requires.1) in
    omega (arith, p.0, c.pop.new.self.ok.0)

pub join-requires : goal.join-requires
join-requires c =
    let f = c.self.inside in
    let v = ap (λ (t : Tiles). t.cells) c.self.view_is in
    let p = popped f.anchor.start (f.anchor.start + f.size) (omega arith) f.parts.items c.pop.new.self.items c.in-Some.part c.requires.0 c.in-Some.ensures.items c.self.invariant.apart (v ∙ c.requires.1) in
    let of = AreOf_at f.anchor.block f.anchor.whole [] c.in-Some.part [] (subst (AreOf f.anchor.block f.anchor.whole) p.1.is c.self.invariant.of_block) in
    let none = ap length c.self.invariant.anchor in
    (sym of.0, sym of.1, omega (arith, p.1.start, none))

pub returns-in-Some : goal.returns-in-Some
returns-in-Some c =
    let f = c.self.inside in
    let v = ap (λ (t : Tiles). t.cells) c.self.view_is in
    let p = popped f.anchor.start (f.anchor.start + f.size) (omega arith) f.parts.items c.pop.new.self.items c.in-Some.part c.requires.0 c.in-Some.ensures.items c.self.invariant.apart (v ∙ c.requires.1) in (
      ap (λ (x : Piece). x.block) c.join.ensures ∙ ap (λ (t : Tiles). t.block) c.self.view_is,
      ap (λ (x : Piece). x.whole) c.join.ensures ∙ ap (λ (t : Tiles). t.whole) c.self.view_is,
      ap (λ (x : Piece). x.start) c.join.ensures ∙ ap (λ (t : Tiles). t.start) c.self.view_is,
      ap (λ (x : Piece). map Some x.bytes) c.join.ensures ∙ ap (λ (l : List ℕ). map Some (l ++ c.in-Some.part.bytes)) c.self.invariant.anchor ∙ p.1.all ∙ v,
    )

pub returns-in-None : goal.returns-in-None
returns-in-None c =
    let f = c.self.inside in
    let v = ap (λ (t : Tiles). t.cells) c.self.view_is in
    let none : length f.parts.items ≡ 0 = let z = zero_from _ c.in-None.ensures.variant.1 in omega (arith, z, f.parts.ok.0) in (
      ap (λ (t : Tiles). t.block) c.self.view_is,
      ap (λ (t : Tiles). t.whole) c.self.view_is,
      ap (λ (t : Tiles). t.start) c.self.view_is,
      ap (λ (l : List ℕ). map Some l) c.self.invariant.anchor ∙ sym (none_left f.anchor.start (f.anchor.start + f.size) (omega arith) f.parts.items c.requires.0 none c.self.invariant.apart (v ∙ c.requires.1)) ∙ v,
    )
