use Rattle.std.proofs.Common.{◌≡◌, ◌<◌, length, set, refl, ap, subst, arith, MatchResult}
use Rattle.std.proofs.lemmas.Bool.{ltb-true}
use Rattle.rdm_inbox.specs.Queues.{InboxesState, seen_by, known_to, flights_to, after_put, after_full_inbox}
use Rattle.rdm_inbox.proofs.Passing.{slice_get-there}
use Rattle.rdm_inbox.proofs.Serving.{length-map-of}
use Rattle.rdm_inbox.proofs.Gathered.{put_kept, put_after, put_held, put_same, lists_here}
use Rattle.rdm_inbox.proofs.inboxes.InboxesWire.push.Goals as goal

pub put-requires-clause-of : goal.put-requires-clause-of
put-requires-clause-of g c =
    let low = c.requires.target in let q = ap (λ w. length w.flights) c.self.view_is in let n = length-map-of known_to c.self.inside.all.items in
    (c.self.invariant.each c.args.d.dst.0 c.index_mut.result.now (slice_get-there c.self.inside.all.items c.args.d.dst.0 c.index_mut.result.now (omega arith) c.index_mut.ensures.value)).reader

pub put-requires-clause-whole : goal.put-requires-clause-whole
put-requires-clause-whole g c =
    let low = c.requires.target in let q = ap (λ w. length w.flights) c.self.view_is in let n = length-map-of known_to c.self.inside.all.items in
    (c.self.invariant.each c.args.d.dst.0 c.index_mut.result.now (slice_get-there c.self.inside.all.items c.args.d.dst.0 c.index_mut.result.now (omega arith) c.index_mut.ensures.value)).whole

pub invariant_of-self : goal.invariant_of-self
invariant_of-self g c =
    let low = c.requires.target in let q = ap (λ w. length w.flights) c.self.view_is in let n = length-map-of known_to c.self.inside.all.items in
    let at = slice_get-there c.self.inside.all.items c.args.d.dst.0 c.index_mut.result.now (omega arith) c.index_mut.ensures.value in
    put_kept c.self.inside.queues c.self.inside.all.items c.self.invariant c.args.d.dst.0 c.index_mut.result.now c.put.new.passes at c.args.d _ _ c.put.result c.put.ensures.answer

-- the inboxes after the call, by what they were inside
after : goal.returns-clause-after
after g c =
    let low = c.requires.target in let q = ap (λ w. length w.flights) c.self.view_is in let n = length-map-of known_to c.self.inside.all.items in
    let at = slice_get-there c.self.inside.all.items c.args.d.dst.0 c.index_mut.result.now (omega arith) c.index_mut.ensures.value in
    let now : InboxesState = seen_by c.self.inside.queues (set c.self.inside.all.items c.args.d.dst.0 c.put.new.passes) in
    subst (λ w. MatchResult c.put.result (λ _. now ≡ after_put w c.args.d) (λ _. now ≡ after_full_inbox w)) c.self.view_is
    (put_after c.self.inside.queues c.self.inside.all.items c.self.invariant c.args.d.dst.0 c.index_mut.result.now c.put.new.passes at c.args.d _ _ c.put.result refl c.put.ensures.answer)

pub returns-clause-after : goal.returns-clause-after
returns-clause-after g c = after g c

pub returns-clause-held : goal.returns-clause-held
returns-clause-held g c =
    let low = c.requires.target in let q = ap (λ w. length w.flights) c.self.view_is in let n = length-map-of known_to c.self.inside.all.items in
    let at = slice_get-there c.self.inside.all.items c.args.d.dst.0 c.index_mut.result.now (omega arith) c.index_mut.ensures.value in
    let here = lists_here c.self.inside.queues c.self.inside.all.items c.self.invariant c.args.d.dst.0 c.index_mut.result.now c.put.new.passes at in
    let from = ltb-true c.args.d.src.0 (length c.args.self.now.flights) c.requires.source in
    put_held c.args.self.now (seen_by c.self.inside.queues (set c.self.inside.all.items c.args.d.dst.0 c.put.new.passes)) c.args.d c.put.result (after g c) low
    (subst (λ w. c.args.d.src.0 < length (flights_to w c.args.d.dst.0)) c.self.view_is (omega arith))

pub returns-clause-same : goal.returns-clause-same
returns-clause-same g c = put_same c.args.self.now (seen_by c.self.inside.queues (set c.self.inside.all.items c.args.d.dst.0 c.put.new.passes)) c.args.d c.put.result (after g c)
