use Rattle.std.proofs.Common.{refl, arith}
use Rattle.rdm_bins.proofs.Roomy.{shelf_same}
use Rattle.rdm_bins.proofs.shelf.Shelf.set_room.Goals as goal

pub invariant_of-self-in_err-reserve-2 : goal.invariant_of-self-in_err-reserve-2
invariant_of-self-in_err-reserve-2 g c =
    let old = c.self.inside in (
      shelf_same g.T.Shelved.bin_of g.T.Shelved.group_of old.items.items c.reserve.new.self.items old.bins c.reserve-2.new.self old.groups old.groups old.waiting
          c.reserve.ensures.items c.reserve-2.ensures.ends c.reserve-2.ensures.links (λ b. refl) refl c.self.invariant.0,
      record {
        places = let len = c.reserve.ensures.len in let capacity = c.reserve.ensures.capacity in let places = c.self.invariant.1.places in omega arith;
        by_bin = c.reserve-2.ensures.kept old.room c.self.invariant.1.by_bin;
        by_group = c.self.invariant.1.by_group;
      },
    )

pub invariant_of-self-in_err-reserve-3 : goal.invariant_of-self-in_err-reserve-3
invariant_of-self-in_err-reserve-3 g c =
    let old = c.self.inside in (
      shelf_same g.T.Shelved.bin_of g.T.Shelved.group_of old.items.items c.reserve.new.self.items old.bins c.reserve-2.new.self old.groups c.reserve-3.new.self old.waiting
          c.reserve.ensures.items c.reserve-2.ensures.ends c.reserve-2.ensures.links c.reserve-3.ensures.ends c.reserve-3.ensures.links c.self.invariant.0,
      record {
        places = let len = c.reserve.ensures.len in let capacity = c.reserve.ensures.capacity in let places = c.self.invariant.1.places in omega arith;
        by_bin = c.reserve-2.ensures.kept old.room c.self.invariant.1.by_bin;
        by_group = c.reserve-3.ensures.kept old.room c.self.invariant.1.by_group;
      },
    )

pub invariant_of-self-2 : goal.invariant_of-self-2
invariant_of-self-2 g c =
    let old = c.self.inside in (
      shelf_same g.T.Shelved.bin_of g.T.Shelved.group_of old.items.items c.reserve.new.self.items old.bins c.reserve-2.new.self old.groups c.reserve-3.new.self old.waiting
          c.reserve.ensures.items c.reserve-2.ensures.ends c.reserve-2.ensures.links c.reserve-3.ensures.ends c.reserve-3.ensures.links c.self.invariant.0,
      record {
        places = c.in_ok-reserve.ensures.ok;
        by_bin = c.in_ok-reserve-2.ensures.room;
        by_group = c.in_ok-reserve-3.ensures.room;
      },
    )
