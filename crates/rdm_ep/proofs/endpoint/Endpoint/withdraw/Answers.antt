use Rattle.std.proofs.Common.{◌≡◌, ℕ, Vec, Global, map, remove, sym, ◌∙◌, subst}
use Rattle.rdm_ep.specs.View.{EndpointView}
use Rattle.rdm_ep.specs.Counts.{RangesFit, CountsFit}
use Rattle.rdm_ep.specs.Places.{IsPlaced}
use Rattle.rdm_ep.specs.Cancelling.{has_number}
use Rattle.rdm_ep.proofs.SoundLemmas.{counts_landed, ranges_without}
use Rattle.rdm_ep.proofs.endpoint.Endpoint.withdraw.Goals as goal

pub invariant_of-self : goal.invariant_of-self
invariant_of-self c =
    let old = c.self.inside in
    let placed : IsPlaced (has_number c.args.recv.0) old.posted.items c.args.at =
    subst (λ (v : EndpointView). IsPlaced (has_number c.args.recv.0) v.posted c.args.at) (sym c.self.view_is) c.requires in
    let left : c.remove.new.self.items ≡ remove old.posted.items c.args.at = c.remove.ensures.items in
    let rs = map (λ (r : Vec ℕ Global). r.items) old.regions.items in
    record {
      counts = subst (λ (n : ℕ). CountsFit old.limits.cq n old.sends old.receives old.polled c.remove.new.self.items old.outgoing.items c.complete.new.completions.items) (sym c.complete.ensures.room)
          (counts_landed _ _ _ _ _ old.posted.items c.remove.new.self.items c.args.at old.outgoing.items old.completions.items c.complete.new.completions.items _ left placed.within c.complete.ensures.items c.self.invariant.counts);
      ranges = subst (RangesFit rs) (placed.without ∙ sym left) (ranges_without (has_number c.args.recv.0) rs old.posted.items c.self.invariant.ranges);
      packets = c.self.invariant.packets;
    }
