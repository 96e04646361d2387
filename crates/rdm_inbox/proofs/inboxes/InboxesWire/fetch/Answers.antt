use Rattle.std.proofs.Common.{◌≡◌, ◌<◌, ◌∷◌, length, set, sym, refl, ap, subst, arith, drop, MatchOption, IfSome}
use Rattle.std.proofs.lemmas.Bool.{ltb-true}
use Rattle.rdm_inbox.specs.Senders.{list_at}
use Rattle.rdm_inbox.specs.Queues.{InboxesState, seen_by, known_to, flights_to, after_taken_out, after_empty_inbox, IsReadOf}
use Rattle.rdm_inbox.proofs.Passing.{slice_get-there}
use Rattle.rdm_inbox.proofs.Serving.{length-map-of}
use Rattle.rdm_inbox.proofs.Gathered.{out_kept, out_after, out_held, out_same, out_came, out_from}
use Rattle.rdm_inbox.proofs.inboxes.InboxesWire.fetch.Goals as goal

pub take_out-requires-clause-of : goal.take_out-requires-clause-of
take_out-requires-clause-of g c =
    let low = ltb-true c.args.port.0 (length c.args.self.now.flights) c.requires in let q = ap (λ w. length w.flights) c.self.view_is in let n = length-map-of known_to c.self.inside.all.items in
    let is = c.self.invariant.each c.args.port.0 c.index_mut.result.now (slice_get-there c.self.inside.all.items c.args.port.0 c.index_mut.result.now (omega arith) c.index_mut.ensures.value) in
    subst (λ p. IsReadOf c.self.inside.queues.tables p c.index_mut.result.now.reader) (sym is.own) is.reader

pub take_out-requires-clause-whole : goal.take_out-requires-clause-whole
take_out-requires-clause-whole g c =
    let low = ltb-true c.args.port.0 (length c.args.self.now.flights) c.requires in let q = ap (λ w. length w.flights) c.self.view_is in let n = length-map-of known_to c.self.inside.all.items in
    (c.self.invariant.each c.args.port.0 c.index_mut.result.now (slice_get-there c.self.inside.all.items c.args.port.0 c.index_mut.result.now (omega arith) c.index_mut.ensures.value)).whole

pub invariant_of-self : goal.invariant_of-self
invariant_of-self g c =
    let low = ltb-true c.args.port.0 (length c.args.self.now.flights) c.requires in let q = ap (λ w. length w.flights) c.self.view_is in let n = length-map-of known_to c.self.inside.all.items in
    let at = slice_get-there c.self.inside.all.items c.args.port.0 c.index_mut.result.now (omega arith) c.index_mut.ensures.value in
    out_kept c.self.inside.queues c.self.inside.all.items c.self.invariant c.args.port.0 c.index_mut.result.now c.take_out.new.passes at _ c.take_out.result c.take_out.ensures.answer

-- the inboxes after the call, by what they were inside
after : goal.returns-clause-after
after g c =
    let low = ltb-true c.args.port.0 (length c.args.self.now.flights) c.requires in let q = ap (λ w. length w.flights) c.self.view_is in let n = length-map-of known_to c.self.inside.all.items in
    let at = slice_get-there c.self.inside.all.items c.args.port.0 c.index_mut.result.now (omega arith) c.index_mut.ensures.value in
    let now : InboxesState = seen_by c.self.inside.queues (set c.self.inside.all.items c.args.port.0 c.take_out.new.passes) in
    subst (λ w. MatchOption c.take_out.result (now ≡ after_empty_inbox w) (λ d. now ≡ after_taken_out w d)) c.self.view_is
    (out_after c.self.inside.queues c.self.inside.all.items c.self.invariant c.args.port.0 c.index_mut.result.now c.take_out.new.passes at _ c.take_out.result c.take_out.ensures.answer)

pub returns-clause-after : goal.returns-clause-after
returns-clause-after g c = after g c

pub returns-clause-came : goal.returns-clause-came
returns-clause-came g c =
    let low = ltb-true c.args.port.0 (length c.args.self.now.flights) c.requires in let q = ap (λ w. length w.flights) c.self.view_is in let n = length-map-of known_to c.self.inside.all.items in
    let at = slice_get-there c.self.inside.all.items c.args.port.0 c.index_mut.result.now (omega arith) c.index_mut.ensures.value in
    subst (λ w. IfSome c.take_out.result (λ d. (d.dst ≡ c.args.port) × (d.src.0 < length w.flights))) c.self.view_is
    (out_from c.self.inside.queues c.self.inside.all.items c.self.invariant c.args.port.0 c.index_mut.result.now c.take_out.new.passes at _ c.take_out.result c.take_out.ensures.answer c.args.port refl)

pub returns-clause-held : goal.returns-clause-held
returns-clause-held g c =
    let low = ltb-true c.args.port.0 (length c.args.self.now.flights) c.requires in let q = ap (λ w. length w.flights) c.self.view_is in let n = length-map-of known_to c.self.inside.all.items in
    let at = slice_get-there c.self.inside.all.items c.args.port.0 c.index_mut.result.now (omega arith) c.index_mut.ensures.value in
    let came = out_came c.self.inside.queues c.self.inside.all.items c.self.invariant c.args.port.0 c.index_mut.result.now c.take_out.new.passes at _ c.take_out.result c.take_out.ensures.answer in
    out_held c.args.self.now (seen_by c.self.inside.queues (set c.self.inside.all.items c.args.port.0 c.take_out.new.passes)) c.args.port.0 c.take_out.result (after g c)
    (subst (λ w. IfSome c.take_out.result (λ d. (d.dst.0 ≡ c.args.port.0) × (d.src.0 < length (flights_to w c.args.port.0)) × (list_at (flights_to w c.args.port.0) d.src.0 ≡ d ∷ drop 1 (list_at (flights_to w c.args.port.0) d.src.0)))) c.self.view_is came)
    low

pub returns-clause-same : goal.returns-clause-same
returns-clause-same g c = out_same c.args.self.now (seen_by c.self.inside.queues (set c.self.inside.all.items c.args.port.0 c.take_out.new.passes)) c.take_out.result (after g c)
