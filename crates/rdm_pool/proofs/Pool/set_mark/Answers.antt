use Rattle.std.proofs.Common.{◌∙◌, ap, arith}
use Rattle.std.proofs.lemmas.List.{with_items_is}
use Rattle.rdm_pool.specs.Places.{live, marked_numbers}
use Rattle.rdm_pool.proofs.Live.{below-more}
use Rattle.rdm_pool.proofs.Seen.{set_mark_seen}
use Rattle.rdm_pool.proofs.Pool.set_mark.Goals as goal

pub set_mark-requires : goal.set_mark-requires
set_mark-requires g c =
    let p = c.self.inside in
    let kept = c.self.invariant in
    record {
      rises = rw c.deref_mut.ensures.value kept.rises;
      below = rw c.deref_mut.ensures.value (below-more p.made 4294967295 p.places.items (omega (arith, c.self.ranges.1.1.1.1.1.0.1)) kept.given);
      marks = rw c.deref_mut.ensures.value kept.mark_ended;
    }

pub invariant_of-self : goal.invariant_of-self
invariant_of-self g c =
    let p = c.self.inside in
    let kept = c.self.invariant in
    let set = c.set_mark.ensures in
    let items = with_items_is p.places c.set_mark.new.places (c.set_mark.auto.places ∙ c.deref_mut.ensures.len) in
    let same = ap live items ∙ rw c.deref_mut.ensures.value at set.live in
    record {
      held = rw same kept.held;
      rises = rw items (set.rises (rw c.deref_mut.ensures.value kept.rises));
      given = rw items (set.below p.made (rw c.deref_mut.ensures.value kept.given));
      counted = rw same kept.counted;
      within = kept.within;
      has_slots = kept.has_slots;
      has_places = kept.has_places;
      ended = rw items (set.ends p.ends (rw c.deref_mut.ensures.value kept.ended));
      has_ends = kept.has_ends;
      mark_ended = rw items set.marks;
      has_marks = rw set.marks_stay kept.has_marks;
    }

pub returns : goal.returns
returns g c =
    let p = c.self.inside in
    let set = c.set_mark.ensures in
    let items = with_items_is p.places c.set_mark.new.places (c.set_mark.auto.places ∙ c.deref_mut.ensures.len) in
    let same = ap live items ∙ rw c.deref_mut.ensures.value at set.live in
    let marked = ap marked_numbers items ∙ rw c.deref_mut.ensures.value at set.marked in
    rw (← c.self.view_is) (set_mark_seen p c.self.invariant c.args.id c.args.is_marked _ _ same marked)
