use Rattle.std.proofs.Common.{◌∙◌, ap, inr, length, arith}
use Rattle.rdm_pool.specs.Places.{live, marked_numbers}
use Rattle.rdm_pool.proofs.Live.{rises-filter, below-filter, live-filter, length-filter}
use Rattle.rdm_pool.proofs.Marked.{marked-filter}
use Rattle.rdm_pool.proofs.places.make_room.Goals as goal

pub returns-then-len-capacity-clause-live : goal.returns-then-len-capacity-clause-live
returns-then-len-capacity-clause-live c = ap live c.drop_gone.ensures.items ∙ live-filter c.args.places.now.items

pub returns-then-len-capacity-clause-rises : goal.returns-then-len-capacity-clause-rises
returns-then-len-capacity-clause-rises c = λ rises. rw c.drop_gone.ensures.items (rises-filter 0 c.args.places.now.items rises)

pub returns-then-len-capacity-clause-below : goal.returns-then-len-capacity-clause-below
returns-then-len-capacity-clause-below c = λ bound below. rw c.drop_gone.ensures.items (below-filter bound c.args.places.now.items below)

pub returns-then-len-capacity-clause-room : goal.returns-then-len-capacity-clause-room
returns-then-len-capacity-clause-room c =
    let few = ap length c.drop_gone.ensures.items ∙ length-filter c.args.places.now.items in
    omega (arith, few, c.requires.few, c.drop_gone.ensures.capacity)

pub returns-then-len-capacity-clause-seldom : goal.returns-then-len-capacity-clause-seldom
returns-then-len-capacity-clause-seldom c =
    let few = ap length c.drop_gone.ensures.items ∙ length-filter c.args.places.now.items in
    inr (omega (arith, c.if-len-capacity.true, c.len.ensures, c.capacity.ensures), omega (arith, few, c.requires.few, c.drop_gone.ensures.capacity))

pub set_ends-requires-clause-below : goal.set_ends-requires-clause-below
set_ends-requires-clause-below c = rw (c.deref.ensures.value, c.drop_gone.ensures.items) (below-filter 4294967295 c.args.places.now.items c.requires.below)

pub returns-then-len-capacity-clause-marked : goal.returns-then-len-capacity-clause-marked
returns-then-len-capacity-clause-marked c = ap marked_numbers c.drop_gone.ensures.items ∙ marked-filter c.args.places.now.items
