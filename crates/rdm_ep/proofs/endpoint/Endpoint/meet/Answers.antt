use Rattle.std.proofs.Common.{◌≡◌, ◌+◌, ◌<◌, ◌≤◌, ◌++◌, ◌∷◌, [], ℕ, Vec, Global, map, take, length, get_or, refl, sym, ◌∙◌, subst}
use Rattle.rdm_lists.specs.Lists.{without_first}
use Rattle.rdm_model.specs.Regions.{change_at, put}
use Rattle.rdm_ep.specs.contracts.endpoint.Endpoint.{the_view}
use Rattle.rdm_ep.specs.View.{EndpointView}
use Rattle.rdm_ep.specs.Counts.{IsInRange, CountsFit}
use Rattle.rdm_ep.specs.Places.{IsPlaced}
use Rattle.rdm_ep.specs.Receiving.{takes, completion_of}
use Rattle.rdm_ep.proofs.SoundLemmas.{counts_received}
use Rattle.rdm_ep.proofs.RegionLemmas.{ranges_put, taken_lies}
use Rattle.rdm_ep.proofs.Landing.{receive_met}
use Rattle.rdm_ep.proofs.endpoint.Endpoint.meet.Goals as goal

pub invariant_of-self : goal.invariant_of-self
invariant_of-self c =
    let room : c.self.inside.sends + c.self.inside.receives < c.self.inside.limits.cq + c.self.inside.polled =
    subst (λ (v : EndpointView). v.sends + v.receives < v.own.limits.cq + v.polled) (sym c.self.view_is) c.requires.room in
    let few : c.self.inside.receives < 4294967295 = subst (λ (v : EndpointView). v.receives < 4294967295) (sym c.self.view_is) c.requires.receives in
    let range : IsInRange (map (λ (r : Vec ℕ Global). r.items) c.self.inside.regions.items) c.args.posted =
    subst (λ (v : EndpointView). IsInRange v.regions c.args.posted) (sym c.self.view_is) c.requires.range in
    let kept : c.kept_bytes-kept.result.now ≡ take c.args.posted.req.len c.as_slice.result.now = cc (c.kept_bytes-kept.ensures) in
    let lies : c.args.posted.req.at + length c.kept_bytes-kept.result.now ≤ length (get_or (map (λ (r : Vec ℕ Global). r.items) c.self.inside.regions.items) c.args.posted.req.region.0 []) =
    taken_lies c.args.posted.req.at c.args.posted.req.len (length (get_or (map (λ (r : Vec ℕ Global). r.items) c.self.inside.regions.items) c.args.posted.req.region.0 [])) c.kept_bytes-kept.result.now c.as_slice.result.now kept range.1 in
    record {
      counts = subst (λ (n : ℕ). CountsFit c.self.inside.limits.cq n c.self.inside.sends (c.self.inside.receives + 1) c.self.inside.polled c.self.inside.posted.items c.self.inside.outgoing.items c.complete.new.completions.items) (sym c.complete.ensures.room)
          (counts_received _ _ _ _ _ c.self.inside.posted.items c.self.inside.outgoing.items c.self.inside.completions.items c.complete.new.completions.items c.completion_of.result c.complete.ensures.items room few c.self.invariant.counts);
      ranges = ranges_put c.args.posted.req.region.0 c.args.posted.req.at c.kept_bytes-kept.result.now _ _ c.self.inside.posted.items c.write_region.ensures lies c.self.invariant.ranges;
      packets = c.self.invariant.packets;
    }

pub returns : goal.returns
returns c =
    let i = c.take_out-inbound.result in
    let placed : IsPlaced (takes c.args.posted) c.self.inside.arrived.items c.args.at = subst (λ (v : EndpointView). IsPlaced (takes c.args.posted) v.arrived c.args.at) (sym c.self.view_is) c.requires.placed in
    let without : without_first (takes c.args.posted) c.self.inside.arrived.items ≡ c.take_out-inbound.new.messages.items = placed.without ∙ sym c.take_out-inbound.ensures.left in
    let regions : map (λ (r : Vec ℕ Global). r.items) c.write_region.new.regions.items ≡ change_at (put c.args.posted.req.at (take c.args.posted.req.len i.bytes)) c.args.posted.req.region.0 (map (λ (r : Vec ℕ Global). r.items) c.self.inside.regions.items) =
    let k : c.kept_bytes-kept.result.now ≡ take c.args.posted.req.len i.bytes = rw (c.kept_bytes-kept.ensures, c.as_slice.ensures) refl in rw (c.write_region.ensures, k) refl in
    let completions : c.complete.new.completions.items ≡ c.self.inside.completions.items ++ completion_of c.args.posted i ∷ [] =
    cc (c.complete.ensures.items, c.completion_of.ensures) in
    rw (← c.self.view_is) (receive_met (the_view c.self.inside) c.args.posted i c.args.at (map (λ (r : Vec ℕ Global). r.items) c.write_region.new.regions.items) c.take_out-inbound.new.messages.items c.complete.new.completions.items c.take_out-inbound.ensures.message without regions completions)
