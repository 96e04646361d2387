-- Messages and receives that meet.
use Rattle.std.proofs.Common.{◌≡◌, ℕ, ◌+◌, List, [], ◌∷◌, ◌++◌, take, Some, refl}
use Rattle.std.specs.Prelude.{slice_get}
use Rattle.rdm_lists.specs.Lists.{without_first}
use Rattle.rdm_num.specs.declared.completion.Completion.{Completion}
use Rattle.rdm_model.specs.Regions.{change_at, put}
use Rattle.rdm_ep.specs.declared.state.Posted.{Posted}
use Rattle.rdm_ep.specs.declared.state.Inbound.{Inbound}
use Rattle.rdm_ep.specs.View.{EndpointView}
use Rattle.rdm_ep.specs.Receiving.{takes, completion_of, landed, after_post, one_more_receive}

-- a receive that took the message at a place, whose bytes landed and whose completion waits, is that receive posted
pub receive_met : (v : EndpointView) (p : Posted) (i : Inbound) (at : ℕ) (regions : List (List ℕ)) (arrived : List Inbound) (completions : List Completion)
    → slice_get v.arrived at ≡ Some i → without_first (takes p) v.arrived ≡ arrived → regions ≡ change_at (put p.req.at (take p.req.len i.bytes)) p.req.region.0 v.regions
    → completions ≡ v.completions ++ completion_of p i ∷ []
    → ◌≡◌ {A = EndpointView} (record v { receives = v.receives + 1; regions = regions; arrived = arrived; completions = completions })
    (after_post (one_more_receive v) p (slice_get v.arrived at))
unfolding after_post landed
receive_met v p i at regions arrived completions found without r k = rw (found, without, r, k) refl
