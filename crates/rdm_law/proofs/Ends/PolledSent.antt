-- What a receive completed with was sent.
use Rattle.std.proofs.Common.{◌≡◌, ℕ, ◌-◌, List, [], ◌∷◌, ◌++◌, map, take, Option, refl, inl, inr}
use Rattle.std.specs.Prelude.{option_to_list}
use Rattle.rdm_lists.specs.Lists.{Member}
use Rattle.rdm_num.specs.declared.numbers.RecvNo.{RecvNo}
use Rattle.rdm_num.specs.declared.numbers.Life.{Life}
use Rattle.rdm_num.specs.declared.completion.Completion.{Completion}
use Rattle.rdm_num.specs.declared.completion.Completion.TheVariants.{Recv}
use Rattle.rdm_num.specs.declared.completion.Outcome.{Outcome}
use Rattle.rdm_num.specs.declared.completion.Outcome.TheVariants.{Took}
use Rattle.rdm_match.specs.Matcher.{Pair}
use Rattle.rdm_model.specs.Deeds.{Deed}
use Rattle.rdm_model.specs.Beginnings.{Own, Messages}
use Rattle.rdm_model.specs.Matches.{Receive, receives}
use Rattle.rdm_model.specs.Receives.{RecvEnd, Filled, Withdrawn, Gone, ended_recv, recv_ends, with_recv_ends, recv_ends_by, receive_numbered}
use Rattle.rdm_model.specs.Regions.{kept_bytes}
use Rattle.rdm_model.specs.Sends.{Sent}
use Rattle.rdm_model.specs.Dues.{progress}
use Rattle.rdm_model.specs.Completions.{took_outcome, outcome, recv_completion, recv_completions, send_completion, ended_sends, completions_by, completions}
use Rattle.rdm_lists.proofs.Members.{member-append_left, member-append_right, member-append_cases, member-map}

-- a receive completed by taking a message
pub record TookEnd (ms : Messages) (es : List RecvEnd) (from : Life) (tag cq_data : Option ℕ) (bytes : List ℕ) (excess : ℕ) : Type 0 where
  pub pair : Pair
  pub capacity : ℕ
  pub end' : Member (Filled pair) es
  pub life_is : pair.message.life ≡ from
  pub tag_is : (ms.head pair.message.life pair.message.no.0).tag ≡ tag
  pub cq_data_is : (ms.head pair.message.life pair.message.no.0).cq_data ≡ cq_data
  pub bytes_are : take capacity (ms.bytes pair.message.life pair.message.no.0) ≡ bytes
  pub excess_is : (ms.head pair.message.life pair.message.no.0).length - capacity ≡ excess

-- a receive that took a message ended with it
outcome_took : (ms : Messages) (e : RecvEnd) (r : Receive) (from : Life) (tag cq_data : Option ℕ) (bytes : List ℕ) (excess : ℕ) → outcome ms e r ≡ Took from tag cq_data bytes excess
    → TookEnd ms (e ∷ []) from tag cq_data bytes excess
unfolding outcome took_outcome kept_bytes
outcome_took ms (Filled p) r from tag cq_data bytes excess h =
    record { pair = p; capacity = r.req.len; end' = inl refl; life_is = cc; tag_is = cc; cq_data_is = cc; bytes_are = cc; excess_is = cc }
outcome_took ms (Withdrawn n) r from tag cq_data bytes excess h = cc
outcome_took ms (Gone n) r from tag cq_data bytes excess h = cc

-- an end is one of more ends
took_more : (ms : Messages) (es fs : List RecvEnd) (from : Life) (tag cq_data : Option ℕ) (bytes : List ℕ) (excess : ℕ) → ((p : Pair) → Member (Filled p) es → Member (Filled p) fs)
    → TookEnd ms es from tag cq_data bytes excess → TookEnd ms fs from tag cq_data bytes excess
took_more ms es fs from tag cq_data bytes excess more t =
    record {
      pair = t.pair;
      capacity = t.capacity;
      end' = more t.pair t.end';
      life_is = t.life_is;
      tag_is = t.tag_is;
      cq_data_is = t.cq_data_is;
      bytes_are = t.bytes_are;
      excess_is = t.excess_is;
    }

-- the completion of one end
one_took : (ms : Messages) (rs : List Receive) (e : RecvEnd) (recv : RecvNo) (from : Life) (tag cq_data : Option ℕ) (bytes : List ℕ) (excess : ℕ)
    → Member (Recv recv (Took from tag cq_data bytes excess)) (recv_completion ms rs e) → TookEnd ms (e ∷ []) from tag cq_data bytes excess
unfolding recv_completion
one_took ms rs e recv from tag cq_data bytes excess m =
    let r = member-map (λ (r : Receive). Recv (record { 0 = r.number }) (outcome ms e r)) (Recv recv (Took from tag cq_data bytes excess)) (option_to_list (receive_numbered rs (ended_recv e))) m in
    let o : outcome ms e r.0 ≡ Took from tag cq_data bytes excess = (let x = r.2 in cc) in
    outcome_took ms e r.0 from tag cq_data bytes excess o

-- the completions of ends in order
some_took : (ms : Messages) (rs : List Receive) (es : List RecvEnd) (recv : RecvNo) (from : Life) (tag cq_data : Option ℕ) (bytes : List ℕ) (excess : ℕ)
    → Member (Recv recv (Took from tag cq_data bytes excess)) (recv_completions ms rs es) → TookEnd ms es from tag cq_data bytes excess
unfolding recv_completions
some_took ms rs [] recv from tag cq_data bytes excess m = elim m [ ]
some_took ms rs (e ∷ es) recv from tag cq_data bytes excess m =
    elim (member-append_cases (Recv recv (Took from tag cq_data bytes excess)) (recv_completion ms rs e) (recv_completions ms rs es) m) [
      | inl k ↦ took_more ms (e ∷ []) (e ∷ es) from tag cq_data bytes excess
          (λ p n. elim n [ inl a ↦ inl a | inr never ↦ elim never [ ] ]) (one_took ms rs e recv from tag cq_data bytes excess k)
      | inr k ↦ took_more ms es (e ∷ es) from tag cq_data bytes excess (λ p n. inr n) (some_took ms rs es recv from tag cq_data bytes excess k)
    ]

-- the completion of a send is of no receive
send_no_recv : (log : List Deed) (ss : List Sent) (recv : RecvNo) (o : Outcome) → Member (Recv recv o) (map (send_completion log) ss) → ⊥
unfolding send_completion
send_no_recv log ss recv o m = let r = member-map (send_completion log) (Recv recv o) ss m in let e = r.2 in cc

-- a completion of a receive with a message is of an end of the receive
pub completed_took : (own : Own) (ms : Messages) (log : List Deed) (recv : RecvNo) (from : Life) (tag cq_data : Option ℕ) (bytes : List ℕ) (excess : ℕ)
    → Member (Recv recv (Took from tag cq_data bytes excess)) (completions own ms log) → TookEnd ms (recv_ends own.limits.first ms.head log) from tag cq_data bytes excess
unfolding completions completions_by recv_ends with_recv_ends
completed_took own ms [] recv from tag cq_data bytes excess m = elim m [ ]
completed_took own ms (d ∷ before) recv from tag cq_data bytes excess m =
    let c : Completion = Recv recv (Took from tag cq_data bytes excess) in
    let first = own.limits.first in
    let ends = recv_ends first ms.head before in
    let new = recv_ends_by first ms.head d before ends in
    let of_recvs = recv_completions ms (receives (d ∷ before)) new in
    let of_sends = map (send_completion (d ∷ before)) (ended_sends own ms d before (progress own ms before)) in
    elim (member-append_cases c (completions own ms before) (of_recvs ++ of_sends) m) [
      | inl k ↦ took_more ms ends (ends ++ new) from tag cq_data bytes excess (λ p n. member-append_left (Filled p) ends new n) (completed_took own ms before recv from tag cq_data bytes excess k)
      | inr k ↦ elim (member-append_cases c of_recvs of_sends k) [
        | inl l ↦ took_more ms new (ends ++ new) from tag cq_data bytes excess (λ p n. member-append_right (Filled p) ends new n) (some_took ms (receives (d ∷ before)) new recv from tag cq_data bytes excess l)
        | inr l ↦ absurd (send_no_recv (d ∷ before) (ended_sends own ms d before (progress own ms before)) recv (Took from tag cq_data bytes excess) l)
      ]
    ]
