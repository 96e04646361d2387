use Rattle.std.proofs.Common.{◌≡◌, ◌-◌, true, arith, ap, ◌∙◌, Ok}
use Rattle.std.specs.declared.alloc.AllocError.{AllocError}
use Rattle.rdm_gaps.specs.Places.{with_taken, after_take}
use Rattle.rdm_tx.proofs.Counts.{asks_more}
use Rattle.rdm_tx.proofs.asked.Asked.ask.Goals as goal

-- each answer that was owed is for a place that was asked for, and a place was not
pub overflow_add-self : goal.overflow_add-self
overflow_add-self c =
    let may = rw (← c.self.view_is) at c.requires in
    let self = c.self.inside in
    let fits = c.self.invariant.fits in
    let room = (asks_more self.owed (c.args.ask.now.at - self.from) c.args.ask.now.length self.unasked.places c.self.invariant.owed may.0 may.2).room in
    omega (arith, fits, room)

-- the new answer is for places that are asked for now
pub invariant_of-self-2 : goal.invariant_of-self-2
invariant_of-self-2 c =
    let may = rw (← c.self.view_is) at c.requires in
    let self = c.self.inside in
    let off = c.args.ask.now.at - self.from in
    let len = c.args.ask.now.length in
    let more = asks_more self.owed off len self.unasked.places c.self.invariant.owed may.0 may.2 in
    let taken : c.in_ok-take.field-0 ≡ true = c.in_ok-take.ensures.answer.1 may.2 in
    let new : c.take.new.self ≡ with_taken self.unasked off len = c.in_ok-take.ensures.after ∙ ap (λ t. after_take {E = AllocError} self.unasked off len (Ok t)) taken in
    rw new (record { fits = rw (more.size) c.self.invariant.fits; owed = more.counted })
