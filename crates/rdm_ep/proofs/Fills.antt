-- What a receive that meets its message writes and completes.
use Rattle.std.proofs.Common.{◌≡◌, ℕ, ◌-◌, List, [], ◌∷◌, ◌++◌, map, length, take, Option, Some, ap, ◌∙◌}
use Rattle.std.specs.Prelude.{option_to_list}
use Rattle.rdm_num.specs.declared.head.Head.{Head}
use Rattle.rdm_num.specs.declared.completion.Completion.{Completion}
use Rattle.rdm_num.specs.declared.completion.Completion.TheVariants.{Recv}
use Rattle.rdm_num.specs.declared.completion.Outcome.{Outcome}
use Rattle.rdm_num.specs.declared.completion.Outcome.TheVariants.{Took as TookOutcome}
use Rattle.rdm_match.specs.declared.Arrived.{Arrived}
use Rattle.rdm_match.specs.Matcher.{Pair}
use Rattle.rdm_model.specs.Beginnings.{Messages}
use Rattle.rdm_model.specs.Matches.{Receive}
use Rattle.rdm_model.specs.Receives.{Filled, ended_recv, receive_numbered}
use Rattle.rdm_model.specs.Regions.{put, change_at, kept_bytes, written_by, after_end, after_ends}
use Rattle.rdm_model.specs.Completions.{took_outcome, outcome, recv_completion, recv_completions}
use Rattle.rdm_ep.specs.declared.state.Inbound.{Inbound}
use Rattle.rdm_ep.specs.Receiving.{arrived_message, completion_of}
use Rattle.rdm_ep.specs.Handling.{inbound_head}
use Rattle.rdm_ep.specs.Keeps.{posted_of}

-- the pair is of that receive and of that message, as the account tells it
pub record IsFill (ms : Messages) (rs : List Receive) (q : Pair) (r : Receive) (i : Inbound) : Type 0 where
  pub numbered : receive_numbered rs q.recv.id.0 ≡ Some r
  pub message : q.message ≡ arrived_message i
  pub head : ms.head i.life i.no.0 ≡ inbound_head i
  pub bytes : ms.bytes i.life i.no.0 ≡ i.bytes

-- the message stands at the front of the receive's range
pub fill_written : (ms : Messages) (rs : List Receive) (q : Pair) (r : Receive) (i : Inbound) (regions : List (List ℕ)) → IsFill ms rs q r i
    → after_ends ms rs (map Filled (q ∷ [])) regions ≡ change_at (put r.req.at (take r.req.len i.bytes)) r.req.region.0 regions
unfolding after_ends after_end ended_recv written_by kept_bytes
fill_written ms rs q r i regions f =
    ap (λ (o : Option Receive). after_end ms (Filled q) o regions) f.numbered
    ∙ ap (λ (a : Arrived). change_at (put r.req.at (take r.req.len (ms.bytes a.life a.no.0))) r.req.region.0 regions) f.message
    ∙ ap (λ (bytes : List ℕ). change_at (put r.req.at (take r.req.len bytes)) r.req.region.0 regions) f.bytes

-- the completion tells of the message
pub fill_completes : (ms : Messages) (rs : List Receive) (q : Pair) (r : Receive) (i : Inbound) → IsFill ms rs q r i
    → recv_completions ms rs (map Filled (q ∷ [])) ≡ completion_of (posted_of r) i ∷ []
unfolding recv_completions recv_completion ended_recv outcome took_outcome kept_bytes completion_of
fill_completes ms rs q r i f =
    let c : Outcome → List Completion = λ o. Recv (record { 0 = r.number }) o ∷ [] in
    ap (λ (o : Option Receive). map (λ (x : Receive). Recv (record { 0 = x.number }) (outcome ms (Filled q) x)) (option_to_list o) ++ []) f.numbered
    ∙ ap (λ (a : Arrived). c (TookOutcome a.life (ms.head a.life a.no.0).tag (ms.head a.life a.no.0).cq_data (take r.req.len (ms.bytes a.life a.no.0))
    ((ms.head a.life a.no.0).length - r.req.len))) f.message
    ∙ ap (λ (h : Head). c (TookOutcome i.life h.tag h.cq_data (take r.req.len (ms.bytes i.life i.no.0)) (h.length - r.req.len))) f.head
    ∙ ap (λ (bytes : List ℕ). c (TookOutcome i.life i.tag i.cq_data (take r.req.len bytes) (length i.bytes - r.req.len))) f.bytes
