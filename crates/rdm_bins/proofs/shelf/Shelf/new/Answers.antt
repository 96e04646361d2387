use Rattle.std.proofs.Common.{refl, arith}
use Rattle.rdm_bins.proofs.Linked.{chains_new}
use Rattle.rdm_bins.proofs.shelf.Shelf.new.Goals as goal

pub invariant_of-result : goal.invariant_of-result
invariant_of-result g c = (
  rw c.new.ensures.items (record {
    by_bin = chains_new g.T.Shelved.bin_of c.new-2.result c.new-2.ensures.ends c.new-2.ensures.links;
    by_group = chains_new g.T.Shelved.group_of c.new-3.result c.new-3.ensures.ends c.new-3.ensures.links;
    counted = refl;
  }),
  record {
    places = let len = c.new.ensures.len in omega arith;
    by_bin = c.new-2.ensures.room;
    by_group = c.new-3.ensures.room;
  },
)
