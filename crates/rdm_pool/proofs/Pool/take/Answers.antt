use Rattle.std.proofs.Common.{sym, ◌∙◌, ap, length, arith}
use Rattle.std.proofs.lemmas.List.{with_items_is}
use Rattle.rdm_pool.specs.Places.{live, marked_numbers}
use Rattle.rdm_pool.proofs.Entries.{without-absent, length-without}
use Rattle.rdm_pool.proofs.SlabKeys.{key_held}
use Rattle.rdm_pool.proofs.Changed.{held-take}
use Rattle.rdm_pool.proofs.Seen.{found_under, taken_seen, nothing_taken}
use Rattle.rdm_pool.proofs.Pool.take.Goals as goal

pub remove-requires : goal.remove-requires
remove-requires g c =
    let p = c.self.inside in
    let is = rw c.deref_mut.ensures.value at c.in_ok-key.ensures.key in
    key_held p.values (live p.places.items) c.args.id.0 c.in_ok-key.key is c.self.invariant.held

pub invariant_of-self-2 : goal.invariant_of-self-2
invariant_of-self-2 g c =
    let p = c.self.inside in
    let kept = c.self.invariant in
    let gone = c.take_key.ensures in
    let slot = c.remove.ensures in
    let items = with_items_is p.places c.take_key.new.places (c.take_key.auto.places ∙ c.deref_mut.ensures.len) in
    let is = rw c.deref_mut.ensures.value at c.in_ok-key.ensures.key in
    let others = ap live items ∙ rw c.deref_mut.ensures.value at gone.live in
    let fewer = ap length others in
    let one_less = length-without (live p.places.items) c.args.id.0 c.in_ok-key.key (sym is) in
    record {
      held = rw others (held-take p.values _ (live p.places.items) c.args.id.0 c.in_ok-key.key (sym is) slot.updates kept.held);
      rises = rw items (gone.rises (rw c.deref_mut.ensures.value kept.rises));
      given = rw items (gone.below p.made (rw c.deref_mut.ensures.value kept.given));
      counted = omega (arith, slot.len, kept.counted, fewer, one_less);
      within = omega (arith, slot.len, kept.within);
      has_slots = rw slot.capacity kept.has_slots;
      has_places = kept.has_places;
      ended = rw items gone.ends;
      has_ends = rw gone.ends_stay kept.has_ends;
      mark_ended = rw items gone.marks;
      has_marks = rw gone.marks_stay kept.has_marks;
    }

pub invariant_of-self : goal.invariant_of-self
invariant_of-self g c =
    let p = c.self.inside in
    let kept = c.self.invariant in
    let gone = c.take_key.ensures in
    let items = with_items_is p.places c.take_key.new.places (c.take_key.auto.places ∙ c.deref_mut.ensures.len) in
    let none = rw c.deref_mut.ensures.value at c.in_err-key.ensures.key in
    let same = ap live items ∙ (rw c.deref_mut.ensures.value at gone.live) ∙ without-absent (live p.places.items) c.args.id.0 (sym none) in
    record {
      held = rw same kept.held;
      rises = rw items (gone.rises (rw c.deref_mut.ensures.value kept.rises));
      given = rw items (gone.below p.made (rw c.deref_mut.ensures.value kept.given));
      counted = rw same kept.counted;
      within = kept.within;
      has_slots = kept.has_slots;
      has_places = kept.has_places;
      ended = rw items gone.ends;
      has_ends = rw gone.ends_stay kept.has_ends;
      mark_ended = rw items gone.marks;
      has_marks = rw gone.marks_stay kept.has_marks;
    }

pub returns-clause-answer : goal.returns-clause-answer
returns-clause-answer g c =
    let is = rw c.deref_mut.ensures.value at c.in_ok-key.ensures.key in
    rw (← c.self.view_is) (sym (found_under c.self.inside c.self.invariant c.args.id _ is ∙ c.remove.ensures.value))

pub returns-clause-after : goal.returns-clause-after
returns-clause-after g c =
    let p = c.self.inside in
    let items = with_items_is p.places c.take_key.new.places (c.take_key.auto.places ∙ c.deref_mut.ensures.len) in
    let is = rw c.deref_mut.ensures.value at c.in_ok-key.ensures.key in
    let others = ap live items ∙ rw c.deref_mut.ensures.value at c.take_key.ensures.live in
    let marked = ap marked_numbers items ∙ rw c.deref_mut.ensures.value at c.take_key.ensures.marked in
    rw (← c.self.view_is) (taken_seen p c.self.invariant c.args.id c.in_ok-key.key _ _ _ is c.remove.ensures.updates others marked)

pub returns-in_err-key-clause-answer : goal.returns-in_err-key-clause-answer
returns-in_err-key-clause-answer g c =
    let none = rw c.deref_mut.ensures.value at c.in_err-key.ensures.key in
    rw (← c.self.view_is) (c.from_residual.ensures ∙ sym (found_under c.self.inside c.self.invariant c.args.id _ none))

pub returns-in_err-key-clause-after : goal.returns-in_err-key-clause-after
returns-in_err-key-clause-after g c =
    let p = c.self.inside in
    let items = with_items_is p.places c.take_key.new.places (c.take_key.auto.places ∙ c.deref_mut.ensures.len) in
    let none = rw c.deref_mut.ensures.value at c.in_err-key.ensures.key in
    let others = ap live items ∙ rw c.deref_mut.ensures.value at c.take_key.ensures.live in
    let marked = ap marked_numbers items ∙ rw c.deref_mut.ensures.value at c.take_key.ensures.marked in
    rw (← c.self.view_is) (nothing_taken p c.self.invariant c.args.id _ _ none others marked)
