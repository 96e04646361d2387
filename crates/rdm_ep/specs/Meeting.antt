-- Where messages and receives meet.
use Rattle.std.specs.Prelude.{ℕ, List, [], ◌∷◌, ◌++◌, take, Option, Some, None, find}
use Rattle.rdm_lists.specs.Lists.{without_first}
use Rattle.rdm_num.specs.declared.completion.Completion.{Completion}
use Rattle.rdm_model.specs.Regions.{change_at, put}
use Rattle.rdm_ep.specs.declared.state.Posted.{Posted}
use Rattle.rdm_ep.specs.declared.state.Inbound.{Inbound}
use Rattle.rdm_ep.specs.View.{EndpointView}
use Rattle.rdm_ep.specs.Receiving.{takes, completion_of}

-- the lists that a message and a receive change where they meet
pub record Meeting : Type 0 where
  pub regions : List (List ℕ)
  pub posted : List Posted
  pub arrived : List Inbound
  pub completions : List Completion

-- those of an endpoint
abbrev pub meeting_of : EndpointView → Meeting
meeting_of v = record { regions = v.regions; posted = v.posted; arrived = v.arrived; completions = v.completions }

-- the endpoint with other ones
abbrev pub with_meeting : Meeting → EndpointView → EndpointView
with_meeting m v = record v { regions = m.regions; posted = m.posted; arrived = m.arrived; completions = m.completions }

-- that receive takes the message, whose first bytes then stand at the front of its range, or the message waits last
unfoldable pub met : Meeting → Inbound → Option Posted → Meeting
met m i None = record m { arrived = m.arrived ++ i ∷ [] }
met m i (Some p) =
    record m {
      regions = change_at (put p.req.at (take p.req.len i.bytes)) p.req.region.0 m.regions;
      posted = without_first (λ q. takes q i) m.posted;
      completions = m.completions ++ completion_of p i ∷ [];
    }

-- the first receive that accepts a message takes it
abbrev pub after_arrival : Meeting → Inbound → Meeting
after_arrival m i = met m i (find (λ p. takes p i) m.posted)

-- messages arrive one after the other
unfoldable pub after_arrivals : Meeting → List Inbound → Meeting
after_arrivals m [] = m
after_arrivals m (i ∷ is) = after_arrivals (after_arrival m i) is
