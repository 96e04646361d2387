use Rattle.std.proofs.Common.{◌≡◌, length, None, ◌∙◌, arith}
use Rattle.std.proofs.lemmas.List.{length_push, length-replicate, replicate_more}
use Rattle.rdm_slots.proofs.Empty.{empty-more}
use Rattle.rdm_slots.proofs.Slots.new.Goals as goal

pub loop-place-preserved : goal.loop-place-preserved
loop-place-preserved g c =
    let before = c.loop-place.invariant in
    let places = c.push_reserved.ensures.items in
    let empty = c.push_reserved-in-loop-place.ensures.items in
    let size : length c.loop-place.places.items ≡ c.loop-place.place = rw before.places (length-replicate c.loop-place.place None) in
    let more = empty-more c.loop-place.places.items c.loop-place.empty.items before.empty in
    record {
      places = rw (places, before.places) (replicate_more c.loop-place.place None);
      empty = rw (places, empty, ← size) more;
      all = rw (empty, length_push) (omega (arith, before.all));
      room = (c.push_reserved.ensures.capacity ∙ before.room.0, c.push_reserved-in-loop-place.ensures.capacity ∙ before.room.1);
    }
