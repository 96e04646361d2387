use Rattle.std.proofs.Common.{Vec, Global, ℕ}
use Rattle.rdm_ep.proofs.SoundLemmas.{ranges_more}
use Rattle.rdm_ep.proofs.endpoint.Endpoint.reg.Goals as goal

pub invariant_of-self-2 : goal.invariant_of-self-2
invariant_of-self-2 c =
    record {
      counts = c.self.invariant.counts;
      ranges = ranges_more (λ (r : Vec ℕ Global). r.items) c.self.inside.regions.items c.push.new.self.items c.in_ok-region.region c.self.inside.posted.items c.in_ok-push.ensures.items c.self.invariant.ranges;
      packets = c.self.invariant.packets;
    }
