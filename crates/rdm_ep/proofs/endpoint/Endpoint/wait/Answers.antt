use Rattle.std.proofs.Common.{◌≡◌, ◌+◌, ◌<◌, ◌++◌, ◌∷◌, [], ℕ, Vec, Global, map, sym, subst}
use Rattle.rdm_ep.specs.View.{EndpointView}
use Rattle.rdm_ep.specs.Counts.{IsInRange}
use Rattle.rdm_ep.proofs.SoundLemmas.{counts_posted, ranges_posted}
use Rattle.rdm_ep.proofs.endpoint.Endpoint.wait.Goals as goal

pub invariant_of-self-2 : goal.invariant_of-self-2
invariant_of-self-2 c =
    let room : c.self.inside.sends + c.self.inside.receives < c.self.inside.limits.cq + c.self.inside.polled =
    subst (λ (v : EndpointView). v.sends + v.receives < v.own.limits.cq + v.polled) (sym c.self.view_is) c.requires.room in
    let few : c.self.inside.receives < 4294967295 = subst (λ (v : EndpointView). v.receives < 4294967295) (sym c.self.view_is) c.requires.receives in
    let range : IsInRange (map (λ (r : Vec ℕ Global). r.items) c.self.inside.regions.items) c.args.posted =
    subst (λ (v : EndpointView). IsInRange v.regions c.args.posted) (sym c.self.view_is) c.requires.range in
    let posted : c.push_reserved.new.self.items ≡ c.self.inside.posted.items ++ c.args.posted ∷ [] = cc (c.push_reserved.ensures.items, c.in_ok-reserve.ensures.items) in
    record {
      counts = counts_posted _ _ _ _ _ c.self.inside.posted.items c.push_reserved.new.self.items c.args.posted _ _ posted room few c.self.invariant.counts;
      ranges = ranges_posted _ c.self.inside.posted.items c.push_reserved.new.self.items c.args.posted posted c.self.invariant.ranges range;
      packets = c.self.invariant.packets;
    }
