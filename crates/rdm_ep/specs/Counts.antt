-- The counts of an endpoint's operations, the ranges of its receives, and the packets of its sends.
use Rattle.std.specs.Prelude.{◌≡◌, ◌<◌, ◌≤◌, ℕ, ◌+◌, IsTrue, List, [], length, get_or}
use Rattle.rdm_lists.specs.Lists.{Member}
use Rattle.rdm_pkt.specs.Grammar.{packet_fits}
use Rattle.rdm_num.specs.declared.parts.Span.{Span}
use Rattle.rdm_num.specs.declared.completion.Completion.{Completion}
use Rattle.rdm_ep.specs.declared.state.Posted.{Posted}
use Rattle.rdm_ep.specs.declared.state.Outbound.{Outbound}

-- each accepted operation is live, or its completion waits or was polled; what is not polled has its place
pub record CountsFit (cq capacity sends receives polled : ℕ) (posted : List Posted) (outgoing : List Outbound) (completions : List Completion) : Type 0 where
  pub adds_up : length posted + length outgoing + length completions + polled ≡ sends + receives
  pub within : length posted + length outgoing + length completions ≤ cq
  pub room : cq ≤ capacity
  pub few_sends : sends ≤ 4294967295
  pub few_receives : receives ≤ 4294967295

-- a range lies in its region
abbrev pub LiesIn : List (List ℕ) → Span → Type 0
LiesIn regions s = (s.region.0 < length regions) × (s.at + s.len ≤ length (get_or regions s.region.0 []))

-- a receive lies in its region
abbrev pub IsInRange : List (List ℕ) → Posted → Type 0
IsInRange regions p = (p.req.region.0 < length regions) × (p.req.at + p.req.len ≤ length (get_or regions p.req.region.0 []))

-- each receive lies in its region
abbrev pub RangesFit : List (List ℕ) → List Posted → Type 0
RangesFit regions posted = (p : Posted) → Member p posted → IsInRange regions p

-- each packet that is to be pushed fits
abbrev pub PacketsFit : List Outbound → Type 0
PacketsFit outgoing = (o : Outbound) → Member o outgoing → IsTrue (packet_fits o.packet)

-- what is true of each endpoint
pub record IsSound (cq capacity sends receives polled : ℕ) (regions : List (List ℕ)) (posted : List Posted) (outgoing : List Outbound) (completions : List Completion) : Type 0 where
  pub counts : CountsFit cq capacity sends receives polled posted outgoing completions
  pub ranges : RangesFit regions posted
  pub packets : PacketsFit outgoing
