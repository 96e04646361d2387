use Rattle.std.proofs.Common.{◌≡◌, ℕ, List, Vec, Global, map, take, None, refl, subst}
use Rattle.std.specs.Prelude.{find}
use Rattle.rdm_ep.specs.declared.state.Posted.{Posted}
use Rattle.rdm_ep.specs.Places.{IsPlaced}
use Rattle.rdm_ep.specs.Receiving.{takes}
use Rattle.rdm_ep.proofs.MeetingLemmas.{waits_is, taken_in_range, kept_in_range, lands_is, ranges_landed, places_landed}
use Rattle.rdm_ep.proofs.meeting.arrive.Goals as goal

pub returns-in_default-clause-met : goal.returns-in_default-clause-met
returns-in_default-clause-met c =
    let none : find (λ (p : Posted). takes p c.args.inbound) c.args.posted.now.items ≡ None =
    subst (λ (ps : List Posted). find (λ (p : Posted). takes p c.args.inbound) ps ≡ None) c.deref.ensures.value c.in_default.ensures in
    waits_is (map (λ (r : Vec ℕ Global). r.items) c.args.regions.now.items) c.args.posted.now.items c.args.arrived.now.items c.push_reserved.new.self.items c.args.completions.now.items
    c.args.inbound none c.push_reserved.ensures.items

pub write_region-requires-clause-region : goal.write_region-requires-clause-region
write_region-requires-clause-region c =
    let placed : IsPlaced (λ (p : Posted). takes p c.args.inbound) c.args.posted.now.items c.in-Some.at =
    subst (λ (ps : List Posted). IsPlaced (λ (p : Posted). takes p c.args.inbound) ps c.in-Some.at) c.deref.ensures.value c.in-Some.ensures in
    (taken_in_range (map (λ (r : Vec ℕ Global). r.items) c.args.regions.now.items) c.args.posted.now.items c.args.inbound c.take_out-receive.result c.in-Some.at placed
    c.take_out-receive.ensures.receive c.requires.ranges).0

pub write_region-requires-clause-range : goal.write_region-requires-clause-range
write_region-requires-clause-range c =
    let placed : IsPlaced (λ (p : Posted). takes p c.args.inbound) c.args.posted.now.items c.in-Some.at =
    subst (λ (ps : List Posted). IsPlaced (λ (p : Posted). takes p c.args.inbound) ps c.in-Some.at) c.deref.ensures.value c.in-Some.ensures in
    kept_in_range (map (λ (r : Vec ℕ Global). r.items) c.args.regions.now.items) c.args.posted.now.items c.args.inbound c.take_out-receive.result c.in-Some.at
    c.kept_bytes-kept.result.now c.as_slice.result.now placed c.take_out-receive.ensures.receive c.requires.ranges c.kept_bytes-kept.ensures

pub returns-clause-met : goal.returns-clause-met
returns-clause-met c =
    let placed : IsPlaced (λ (p : Posted). takes p c.args.inbound) c.args.posted.now.items c.in-Some.at =
    subst (λ (ps : List Posted). IsPlaced (λ (p : Posted). takes p c.args.inbound) ps c.in-Some.at) c.deref.ensures.value c.in-Some.ensures in
    let kept : c.kept_bytes-kept.result.now ≡ take c.take_out-receive.result.req.len c.args.inbound.bytes = rw (c.kept_bytes-kept.ensures, c.as_slice.ensures) refl in
    lands_is (map (λ (r : Vec ℕ Global). r.items) c.args.regions.now.items) (map (λ (r : Vec ℕ Global). r.items) c.write_region.new.regions.items) c.args.posted.now.items c.take_out-receive.new.posted.items
    c.args.arrived.now.items c.args.completions.now.items c.complete.new.completions.items c.args.inbound c.take_out-receive.result c.in-Some.at c.kept_bytes-kept.result.now
    placed c.take_out-receive.ensures.receive c.take_out-receive.ensures.left kept c.write_region.ensures (cc (c.complete.ensures.items, c.completion_of.ensures))

pub returns-clause-ranges : goal.returns-clause-ranges
returns-clause-ranges c =
    let placed : IsPlaced (λ (p : Posted). takes p c.args.inbound) c.args.posted.now.items c.in-Some.at =
    subst (λ (ps : List Posted). IsPlaced (λ (p : Posted). takes p c.args.inbound) ps c.in-Some.at) c.deref.ensures.value c.in-Some.ensures in
    ranges_landed (map (λ (r : Vec ℕ Global). r.items) c.args.regions.now.items) (map (λ (r : Vec ℕ Global). r.items) c.write_region.new.regions.items) c.args.posted.now.items c.take_out-receive.new.posted.items
    c.args.inbound c.take_out-receive.result c.in-Some.at c.kept_bytes-kept.result.now c.as_slice.result.now
    placed c.take_out-receive.ensures.receive c.take_out-receive.ensures.left c.kept_bytes-kept.ensures c.write_region.ensures c.requires.ranges

pub returns-clause-places : goal.returns-clause-places
returns-clause-places c =
    let placed : IsPlaced (λ (p : Posted). takes p c.args.inbound) c.args.posted.now.items c.in-Some.at =
    subst (λ (ps : List Posted). IsPlaced (λ (p : Posted). takes p c.args.inbound) ps c.in-Some.at) c.deref.ensures.value c.in-Some.ensures in
    places_landed c.args.posted.now.items c.take_out-receive.new.posted.items c.args.completions.now.items c.complete.new.completions.items c.in-Some.at c.completion_of.result
    placed.within c.take_out-receive.ensures.left c.complete.ensures.items
