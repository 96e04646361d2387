use Rattle.std.proofs.Common.{◌≡◌, ◌+◌, length, sym, ap, subst, ◌∙◌, Some, arith}
use Rattle.rdm_bins.specs.Shelf.{item_at, without_at, entries_from, IsShelf}
use Rattle.rdm_bins.proofs.Items.{without_none, one_less}
use Rattle.rdm_bins.proofs.Unlinked.{chains_less}
use Rattle.rdm_bins.proofs.shelf.Shelf.remove.Goals as goal

pub invariant_of-self : goal.invariant_of-self
invariant_of-self g c =
    let old = c.self.inside in
    let there : item_at old.items.items c.args.place ≡ Some c.in-Some.item = sym c.take_item.ensures.answer ∙ c.in-Some.is in (
      record {
        by_bin = chains_less g.T.Shelved.bin_of old.items.items c.args.place c.in-Some.item there old.bins c.self.invariant.0.by_bin _ c.bin.result _ c.bin.ensures c.take_item.ensures.after c.remove.ensures.ends c.remove.ensures.links;
        by_group = chains_less g.T.Shelved.group_of old.items.items c.args.place c.in-Some.item there old.groups c.self.invariant.0.by_group _ c.group.result _ c.group.ensures c.take_item.ensures.after c.remove-in-Some.ensures.ends c.remove-in-Some.ensures.links;
        counted =
            let less : length (entries_from 0 (without_at old.items.items c.args.place)) + 1 ≡ length (entries_from 0 old.items.items) = one_less 0 old.items.items c.args.place c.in-Some.item there in
            let kept : length (entries_from 0 c.take_item.new.items.items) ≡ length (entries_from 0 (without_at old.items.items c.args.place)) = ap (λ l. length (entries_from 0 l)) c.take_item.ensures.after in
            let count = c.self.invariant.0.counted in
            let fewer = c.saturating_sub-self-inside.ensures in
            omega arith;
      },
      record {
        places = let len = c.take_item.ensures.len in let capacity = c.take_item.ensures.capacity in let places = c.self.invariant.1.places in omega arith;
        by_bin = c.remove.ensures.room old.room c.self.invariant.1.by_bin;
        by_group = c.remove-in-Some.ensures.room old.room c.self.invariant.1.by_group;
      },
    )

pub invariant_of-self-in_default : goal.invariant_of-self-in_default
invariant_of-self-in_default g c =
    let old = c.self.inside in (
      subst (λ l. IsShelf g.T.Shelved.bin_of g.T.Shelved.group_of l old.bins old.groups old.waiting) (without_none old.items.items c.args.place (sym c.take_item.ensures.answer ∙ c.in_default.is) ∙ sym c.take_item.ensures.after) c.self.invariant.0,
      record {
        places = let len = c.take_item.ensures.len in let capacity = c.take_item.ensures.capacity in let places = c.self.invariant.1.places in omega arith;
        by_bin = c.self.invariant.1.by_bin;
        by_group = c.self.invariant.1.by_group;
      },
    )
