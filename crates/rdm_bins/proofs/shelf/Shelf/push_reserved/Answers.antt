use Rattle.std.proofs.Common.{◌≡◌, ◌+◌, ◌<◌, ◌^◌, rules, arith, sym, ap, subst, ◌∙◌, ◌++◌, [], ◌∷◌, Some, length}
use Rattle.std.specs.Map.{values_of}
use Rattle.rdm_bins.specs.Shelf.{entries_from, values_on}
use Rattle.rdm_bins.proofs.Items.{values_last, one_more, within_places}
use Rattle.rdm_bins.proofs.Linked.{chains_more}
use Rattle.rdm_bins.proofs.Roomy.{one_of_room}
use Rattle.rdm_bins.proofs.shelf.Shelf.push_reserved.Goals as goal

pub invariant_of-self : goal.invariant_of-self
invariant_of-self g c =
    let old = c.self.inside in
    let items : c.push_reserved.new.self.items ≡ old.items.items ++ Some c.args.item ∷ [] = c.push_reserved.ensures.items in
    let some : 0 < old.room = subst (λ s. 0 < s.room) (sym c.self.view_is) c.requires in (
      record {
        by_bin = chains_more g.T.Shelved.bin_of old.items.items c.args.item old.bins c.self.invariant.0.by_bin c.append.new.self c.bin.result _ c.bin.ensures items c.append.ensures.ends c.append.ensures.links;
        by_group = chains_more g.T.Shelved.group_of old.items.items c.args.item old.groups c.self.invariant.0.by_group c.append-2.new.self c.group.result _ c.group.ensures items c.append-2.ensures.ends c.append-2.ensures.links;
        counted =
            let more : length (entries_from 0 c.push_reserved.new.self.items) ≡ length (entries_from 0 old.items.items) + 1 = ap (λ l. length (entries_from 0 l)) items ∙ one_more 0 old.items.items c.args.item in
            let within = within_places 0 c.push_reserved.new.self.items in
            let fits : length c.push_reserved.new.self.items < 2 ^ 64 = search rules in
            let count = c.self.invariant.0.counted in
            let counted = c.saturating_add-self-inside.ensures in
            omega arith;
      },
      record {
        places = let len = c.push_reserved.ensures.len in let capacity = c.push_reserved.ensures.capacity in let places = c.self.invariant.1.places in omega arith;
        by_bin = c.append.ensures.room _ (one_of_room old.room old.bins some c.self.invariant.1.by_bin);
        by_group = c.append-2.ensures.room _ (one_of_room old.room old.groups some c.self.invariant.1.by_group);
      },
    )

pub returns-clause-values : goal.returns-clause-values
returns-clause-values g c =
    ap (λ l. values_of (entries_from 0 l)) c.push_reserved.ensures.items
    ∙ values_last 0 c.self.inside.items.items c.args.item
    ∙ ap (λ s. values_on s ++ c.args.item ∷ []) c.self.view_is
