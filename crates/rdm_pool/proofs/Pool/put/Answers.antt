use Rattle.std.proofs.Common.{false, refl, ◌+◌, ◌<◌, ◌≤◌, [], ◌∷◌, ◌++◌, ◌∙◌, ap, length, length-append, Some, vec_capacity, arith}
use Rattle.std.proofs.lemmas.List.{length-set}
use Rattle.rdm_pool.specs.Places.{live, listed, marked_numbers}
use Rattle.rdm_pool.specs.declared.places.Place.{Place}
use Rattle.rdm_pool.proofs.Live.{below-more, below-last, rises-last, live-last}
use Rattle.rdm_pool.proofs.Following.{ends-last}
use Rattle.rdm_pool.proofs.Marked.{marks-last, marked-last}
use Rattle.rdm_pool.proofs.Changed.{listed-put, held-put}
use Rattle.rdm_pool.proofs.Seen.{room_left, put_seen}
use Rattle.rdm_pool.proofs.Pool.put.Goals as goal

pub make_room-requires : goal.make_room-requires
make_room-requires g c =
    let room = room_left c.self.inside c.self.invariant (rw (← c.self.view_is) at c.if-is_full.ensures.value) in
    record {
      few = omega (arith, room, c.self.invariant.counted, c.self.invariant.has_places);
      below = below-more c.self.inside.made 4294967295 c.self.inside.places.items (omega (arith, c.requires)) c.self.invariant.given;
      ends = c.self.invariant.ended;
      has_ends = c.self.invariant.has_ends;
      marks = c.self.invariant.mark_ended;
      has_marks = c.self.invariant.has_marks;
    }

pub insert_reserved-key-requires : goal.insert_reserved-key-requires
insert_reserved-key-requires g c =
    let room = room_left c.self.inside c.self.invariant (rw (← c.self.view_is) at c.if-is_full.ensures.value) in
    omega (arith, room, c.self.invariant.has_slots)

pub invariant_of-self : goal.invariant_of-self
invariant_of-self g c =
    let p = c.self.inside in
    let kept = c.self.invariant in
    let room = room_left p kept (rw (← c.self.view_is) at c.if-is_full.ensures.value) in
    let key = c.insert_reserved-key.result in
    let place : Place = record { number = p.made; key = Some key; is_marked = false } in
    let slot = c.insert_reserved-key.ensures in
    let made = c.make_room.ensures in
    let end = c.push_reserved.ensures in
    let pairs = ap live end.items ∙ live-last c.make_room.new.places.items p.made key ∙ ap (λ xs. xs ++ (p.made, key) ∷ []) made.live in
    let longer = ap length pairs ∙ length-append (live p.places.items) ((p.made, key) ∷ []) in
    let below = made.below p.made kept.given in
    let fit : vec_capacity c.make_room.new.places ≤ length c.make_room.new.ends = omega (arith, made.capacity, made.ends_stay, kept.has_ends) in
    let fit_marks : vec_capacity c.make_room.new.places ≤ length c.make_room.new.marks = omega (arith, made.capacity, made.marks_stay, kept.has_marks) in
    let fits : c.len.result < length c.make_room.new.ends = omega (arith, c.len.ensures, made.room, fit) in
    record {
      held = rw pairs (held-put p.values _ (live p.places.items) (p.made, key) c.args.value slot.updates slot.was_vacant kept.held);
      rises = rw end.items (rises-last 0 c.make_room.new.places.items place (omega arith) below (made.rises kept.rises));
      given = rw end.items (below-last (p.made + 1) c.make_room.new.places.items place (omega arith) (below-more p.made (p.made + 1) c.make_room.new.places.items (omega arith) below));
      counted = omega (arith, slot.len, longer, kept.counted);
      within = omega (arith, slot.len, room);
      has_slots = rw slot.capacity kept.has_slots;
      has_places = rw (end.capacity, made.capacity) kept.has_places;
      ended = rw (end.items, c.set.ensures, c.end.ensures) (ends-last c.make_room.new.places.items c.make_room.new.ends place c.len.result (omega (arith, c.len.ensures, c.make_room.new.places.ok)) fits made.ends);
      has_ends = rw (c.set.ensures, length-set c.make_room.new.ends c.len.result c.end.result, end.capacity) fit;
      mark_ended = rw end.items (marks-last c.make_room.new.places.items c.make_room.new.marks place refl (omega (arith, made.room, fit_marks)) made.marks);
      has_marks = rw end.capacity fit_marks;
    }

pub returns-clause-after : goal.returns-clause-after
returns-clause-after g c =
    let p = c.self.inside in
    let key = c.insert_reserved-key.result in
    let slot = c.insert_reserved-key.ensures in
    let made = c.make_room.ensures in
    let pairs = ap live c.push_reserved.ensures.items ∙ live-last c.make_room.new.places.items p.made key ∙ ap (λ xs. xs ++ (p.made, key) ∷ []) made.live in
    let marked = ap marked_numbers c.push_reserved.ensures.items ∙ marked-last c.make_room.new.places.items _ refl ∙ made.marked in
    rw (← c.self.view_is) (put_seen p c.args.value _ _ (rw (← c.self.view_is) at c.if-is_full.ensures.value) (ap (listed _) pairs ∙ listed-put p.values _ (live p.places.items) (p.made, key) c.args.value slot.updates slot.was_vacant c.self.invariant.held) marked)
