use Rattle.std.proofs.Common.{Some, None, arith}
use Rattle.std.proofs.lemmas.Option.{slice_get_within, get_or_from_slice_get}
use Rattle.rdm_slots.proofs.Counts.{count-set}
use Rattle.rdm_slots.proofs.Empty.{listed-last, listed-put}
use Rattle.rdm_slots.proofs.Slots.put.Goals as goal

pub index_mut-requires : goal.index_mut-requires
index_mut-requires g c =
    let last = listed-last _ _ _ _ _ c.take_last-place.ensures.items c.self.invariant in
    omega (arith, slice_get_within c.self.inside.places.items c.take_last-place.result None last, c.self.inside.places.ok.0)

pub unreachable-requires : goal.unreachable-requires
unreachable-requires g c =
    let last = listed-last _ _ _ _ _ c.take_last-place.ensures.items c.self.invariant in
    let read = get_or_from_slice_get c.self.inside.places.items c.take_last-place.result None c.index_mut.result.now last in
    cc (read, c.index_mut.ensures.value, c.replace.ensures.value, c.in-Some.is)

pub invariant_of-self : goal.invariant_of-self
invariant_of-self g c =
    rw (c.replace.ensures.after, c.take_last-place.ensures.capacity) (listed-put _ _ _ _ _ c.args.value c.take_last-place.ensures.items c.self.invariant)

pub returns-clause-empty : goal.returns-clause-empty
returns-clause-empty g c = rw (← c.self.view_is) (listed-last _ _ _ _ _ c.take_last-place.ensures.items c.self.invariant)

pub returns-clause-held : goal.returns-clause-held
returns-clause-held g c =
    let last = listed-last _ _ _ _ _ c.take_last-place.ensures.items c.self.invariant in
    let counted = count-set c.self.inside.places.items c.take_last-place.result None (Some c.args.value) last in
    rw (← c.self.view_is, c.replace.ensures.after) (omega (arith, counted))
