use Rattle.std.proofs.Common.{rules, ◌≡◌, [], ◌∷◌, map, ap}
use mathlib.Core.Option.{some}
use Rattle.rdm_turn.proofs.block.EmptyVec.keep.Goals as goal

pub new-requires : goal.new-requires
new-requires g c =
    let one : c.push_reserved.new.self.items ≡ c.args.values ∷ [] = search rules in
    (c.args.values, ap (λ l. map some l) one, c.requires, search rules)
