-- How each end of a receive came about, and which completion it makes.
use Rattle.std.proofs.Common.{◌≡◌, ℕ, List, [], ◌∷◌, ◌++◌, map, Some, refl, inl, inr, sym, ◌∙◌, ap, subst}
use Rattle.std.specs.Prelude.{◌==◌, flat_map, option_to_list}
use Rattle.std.proofs.lemmas.Bool.{eqb-true, eq-eqb}
use Rattle.rdm_lists.specs.Lists.{Member}
use Rattle.rdm_num.specs.declared.numbers.RecvNo.{RecvNo}
use Rattle.rdm_num.specs.declared.completion.Completion.{Completion}
use Rattle.rdm_num.specs.declared.completion.Completion.TheVariants.{Recv}
use Rattle.rdm_num.specs.declared.completion.Outcome.{Outcome}
use Rattle.rdm_model.specs.declared.job.Instr.TheVariants.{Cancel}
use Rattle.rdm_model.specs.Deeds.{Deed, Did}
use Rattle.rdm_model.specs.Beginnings.{Own, Messages, Heads}
use Rattle.rdm_model.specs.Currents.{forgotten_by}
use Rattle.rdm_model.specs.Matches.{Receive, receives, pairs}
use Rattle.rdm_model.specs.Receives.{RecvEnd, Filled, Withdrawn, Gone, ended_recv, filled_by, gone_with, withdrawn_by, recv_ends_by, with_recv_ends, recv_ends, receive_numbered}
use Rattle.rdm_model.specs.Sends.{Sent}
use Rattle.rdm_model.specs.Dues.{progress}
use Rattle.rdm_model.specs.Completions.{outcome, recv_completion, recv_completions, send_completion, ended_sends, completions_by, completions}
use Rattle.rdm_model.proofs.Matches.{pair_still}
use Rattle.rdm_law.proofs.Matching.Received.{receives_more, receive_once}
use Rattle.rdm_law.proofs.Ends.Ends.{EndGone, withdrawn_from, filled_from, gone_from, concerns_still, forgotten_still, forgotten_now}
use Rattle.rdm_lists.proofs.Members.{member-append_left, member-append_right, member-append_cases, member-map, member-flat_map, option_member, find_member, member_find}
use Rattle.rdm_lists.proofs.Options.{some_of}

-- a filled receive is in a pair, a withdrawn one was cancelled, and one that is gone concerns a life that was forgotten
abbrev pub EndIs : (first : ℕ) → Heads → List Deed → RecvEnd → Type 0
EndIs first heads log (Filled p) = Member p (pairs first heads log)
EndIs first heads log (Withdrawn n) = (recv : RecvNo) × Member (Did (Cancel recv)) log × (recv.0 ≡ n)
EndIs first heads log (Gone n) = EndGone first heads log n

-- it stays so
end_still : (first : ℕ) (heads : Heads) (d : Deed) (before : List Deed) (e : RecvEnd) → EndIs first heads before e → EndIs first heads (d ∷ before) e
end_still first heads d before (Filled p) h = pair_still first heads d before p h
end_still first heads d before (Withdrawn n) h = (h.0, inr h.1, h.2)
end_still first heads d before (Gone n) h =
    record {
      life = h.life;
      forgotten = forgotten_still d before h.life h.forgotten;
      recv = h.recv;
      accepted = receives_more d before h.recv h.accepted;
      recv_is = h.recv_is;
      concerns' = concerns_still first heads d before h.life h.recv h.concerns';
    }

-- what ends by a deed does
end_new : (first : ℕ) (heads : Heads) (d : Deed) (before : List Deed) (ends : List RecvEnd) (e : RecvEnd) → Member e (recv_ends_by first heads d before ends)
    → EndIs first heads (d ∷ before) e
unfolding recv_ends_by
end_new first heads d before ends e h =
    let Q : RecvEnd → Type 0 = λ x. EndIs first heads (d ∷ before) x in
    elim (member-append_cases e (map Filled (filled_by first heads d before) ++ withdrawn_by d) (flat_map (gone_with first heads before ends) (forgotten_by before d)) h) [
      | inl a ↦ elim (member-append_cases e (map Filled (filled_by first heads d before)) (withdrawn_by d) a) [
        | inl b ↦
            let m = member-map Filled e (filled_by first heads d before) b in
            subst Q m.2 (filled_from first heads d before m.0 m.1).0
        | inr b ↦ let w = withdrawn_from d e b in subst Q (sym w.2) (w.0, inl w.1, refl)
      ]
      | inr a ↦
          let m = member-flat_map (gone_with first heads before ends) e (forgotten_by before d) a in
          let g = gone_from first heads before ends m.0 e m.2 in
          subst Q (sym g.3) (record {
            life = m.0;
            forgotten = forgotten_now d before m.0 m.1;
            recv = g.0;
            accepted = receives_more d before g.0 g.1;
            recv_is = refl;
            concerns' = concerns_still first heads d before m.0 g.0 g.2;
          })
    ]

-- so each end did
pub end_is : (first : ℕ) (heads : Heads) (log : List Deed) (e : RecvEnd) → Member e (recv_ends first heads log) → EndIs first heads log e
unfolding recv_ends with_recv_ends
end_is first heads [] e h = elim h [ ]
end_is first heads (d ∷ before) e h =
    elim (member-append_cases e (recv_ends first heads before) (recv_ends_by first heads d before (recv_ends first heads before)) h) [
      | inl a ↦ end_still first heads d before e (end_is first heads before e a)
      | inr a ↦ end_new first heads d before (recv_ends first heads before) e a
    ]

-- a completion of a receive tells of one of these ends, and of an accepted receive
pub record Completes (ms : Messages) (rs : List Receive) (es : List RecvEnd) (recv : RecvNo) (o : Outcome) : Type 0 where
  pub end' : RecvEnd
  pub receive : Receive
  pub member : Member end' es
  pub accepted : Member receive rs
  pub number_is : receive.number ≡ recv.0
  pub ended_is : receive.number ≡ ended_recv end'
  pub outcome_is : outcome ms end' receive ≡ o

-- so it does with more ends and more receives
completes_more : (ms : Messages) (rs ss : List Receive) (es fs : List RecvEnd) (recv : RecvNo) (o : Outcome) → ((e : RecvEnd) → Member e es → Member e fs)
    → ((r : Receive) → Member r rs → Member r ss) → Completes ms rs es recv o → Completes ms ss fs recv o
completes_more ms rs ss es fs recv o more_ends more c =
    record {
      end' = c.end';
      receive = c.receive;
      member = more_ends c.end' c.member;
      accepted = more c.receive c.accepted;
      number_is = c.number_is;
      ended_is = c.ended_is;
      outcome_is = c.outcome_is;
    }

-- the completion of one end
one_completes : (ms : Messages) (rs : List Receive) (e : RecvEnd) (recv : RecvNo) (o : Outcome) → Member (Recv recv o) (recv_completion ms rs e) → Completes ms rs (e ∷ []) recv o
unfolding recv_completion receive_numbered
one_completes ms rs e recv o m =
    let t : Receive → _ = λ (r : Receive). r.number == ended_recv e in
    let r = member-map (λ (r : Receive). Recv (record { 0 = r.number }) (outcome ms e r)) (Recv recv o) (option_to_list (receive_numbered rs (ended_recv e))) m in
    let f = find_member t r.0 rs (option_member (receive_numbered rs (ended_recv e)) r.0 r.1) in
    let is = r.2 in
    let number : record { 0 = r.0.number } ≡ recv = cc in
    record {
      end' = e;
      receive = r.0;
      member = inl refl;
      accepted = f.0;
      number_is = ap (λ (x : RecvNo). x.0) number;
      ended_is = eqb-true r.0.number (ended_recv e) f.1;
      outcome_is = cc;
    }

-- the completions of ends in order
some_complete : (ms : Messages) (rs : List Receive) (es : List RecvEnd) (recv : RecvNo) (o : Outcome) → Member (Recv recv o) (recv_completions ms rs es) → Completes ms rs es recv o
unfolding recv_completions
some_complete ms rs [] recv o m = elim m [ ]
some_complete ms rs (e ∷ es) recv o m =
    elim (member-append_cases (Recv recv o) (recv_completion ms rs e) (recv_completions ms rs es) m) [
      | inl k ↦ completes_more ms rs rs (e ∷ []) (e ∷ es) recv o (λ x n. elim n [ inl a ↦ inl a | inr never ↦ elim never [ ] ]) (λ r n. n) (one_completes ms rs e recv o k)
      | inr k ↦ completes_more ms rs rs es (e ∷ es) recv o (λ x n. inr n) (λ r n. n) (some_complete ms rs es recv o k)
    ]

-- the completion of a send is of no receive
send_no_recv : (log : List Deed) (ss : List Sent) (recv : RecvNo) (o : Outcome) → Member (Recv recv o) (map (send_completion log) ss) → ⊥
unfolding send_completion
send_no_recv log ss recv o m = let r = member-map (send_completion log) (Recv recv o) ss m in let e = r.2 in cc

-- a completion of a receive of a life tells of an end of a receive that the life accepted
pub completes : (own : Own) (ms : Messages) (log : List Deed) (recv : RecvNo) (o : Outcome) → Member (Recv recv o) (completions own ms log)
    → Completes ms (receives log) (recv_ends own.limits.first ms.head log) recv o
unfolding completions completions_by recv_ends with_recv_ends
completes own ms [] recv o m = elim m [ ]
completes own ms (d ∷ before) recv o m =
    let c : Completion = Recv recv o in
    let first = own.limits.first in
    let rs = receives (d ∷ before) in
    let ends = recv_ends first ms.head before in
    let new = recv_ends_by first ms.head d before ends in
    let of_recvs = recv_completions ms rs new in
    let of_sends = map (send_completion (d ∷ before)) (ended_sends own ms d before (progress own ms before)) in
    elim (member-append_cases c (completions own ms before) (of_recvs ++ of_sends) m) [
      | inl k ↦ completes_more ms (receives before) rs ends (ends ++ new) recv o (λ e n. member-append_left e ends new n) (receives_more d before) (completes own ms before recv o k)
      | inr k ↦ elim (member-append_cases c of_recvs of_sends k) [
        | inl l ↦ completes_more ms rs rs new (ends ++ new) recv o (λ e n. member-append_right e ends new n) (λ r n. n) (some_complete ms rs new recv o l)
        | inr l ↦ absurd (send_no_recv (d ∷ before) (ended_sends own ms d before (progress own ms before)) recv o l)
      ]
    ]

-- an accepted receive is found by its number
pub found_receive : (log : List Deed) (r : Receive) (n : ℕ) → Member r (receives log) → r.number ≡ n → receive_numbered (receives log) n ≡ Some r
unfolding receive_numbered
found_receive log r n m is =
    let t : Receive → _ = λ (x : Receive). x.number == n in
    let f = some_of (receive_numbered (receives log) n) (member_find t r (receives log) m (eq-eqb r.number n is)) in
    let g = find_member t f.0 (receives log) f.1 in
    f.1 ∙ ap Some (receive_once log f.0 r g.0 m (eqb-true f.0.number n g.1 ∙ sym is))
