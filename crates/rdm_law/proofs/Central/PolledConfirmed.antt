-- Where a send that asked for a receipt was polled as done, a receive took its message.
use Rattle.std.proofs.Common.{◌≡◌, ℕ, Bool, true, false, List, [], ◌∷◌, ◌++◌, map, Option, Some, None, true≢false, ◌⊎◌, inl, inr, sym, ◌∙◌, ap, subst}
use Rattle.std.specs.Prelude.{IsTrue, option_to_list}
use Rattle.std.specs.List.{list_any}
use Rattle.std.proofs.lemmas.Bool.{or_right}
use Rattle.rdm_lists.proofs.Places.{slice_get-member}
use Rattle.rdm_lists.specs.Lists.{Member}
use Rattle.rdm_num.specs.Lives.{life}
use Rattle.rdm_num.specs.declared.numbers.Connid.{Connid}
use Rattle.rdm_num.specs.declared.numbers.Life.{Life}
use Rattle.rdm_num.specs.declared.numbers.PortNo.{PortNo}
use Rattle.rdm_num.specs.declared.numbers.SendNo.{SendNo}
use Rattle.rdm_num.specs.declared.completion.Completion.{Completion}
use Rattle.rdm_num.specs.declared.completion.Completion.TheVariants.{Send, Recv}
use Rattle.rdm_model.specs.declared.job.Job.{Job}
use Rattle.rdm_model.specs.declared.entry.Entry.{Entry}
use Rattle.rdm_model.specs.declared.entry.Act.{Act}
use Rattle.rdm_model.specs.declared.entry.Act.TheVariants.{Poll}
use Rattle.rdm_model.specs.Deeds.{Deed, log_of, open_life, of_open_life}
use Rattle.rdm_model.specs.Beginnings.{Own, Messages, own_of, life_at}
use Rattle.rdm_model.specs.Matches.{Receive, receives}
use Rattle.rdm_model.specs.Receives.{RecvEnd, recv_ends, recv_ends_by, ended_recv, receive_numbered}
use Rattle.rdm_model.specs.Sends.{Sent, sends}
use Rattle.rdm_model.specs.Dues.{progress, ends_send, confirms}
use Rattle.rdm_model.specs.Completions.{outcome, recv_completion, recv_completions, ended_sends, send_completion, completions_by, completions, poll_count}
use Rattle.rdm_model.specs.Classes.{lives_class}
use Rattle.rdm_model.specs.Jobs.{is_fair, law_ops}
use Rattle.rdm_model.specs.Steps.{Does}
use Rattle.rdm_model.specs.Lawful.{Lawful, port_deeds, life_deeds, sends_in, sent_to, sent_scene, IsReceived}
use Rattle.rdm_model.proofs.Numbers.{sends_one}
use Rattle.rdm_model.proofs.Pushes.{pushed_of, member_later}
use Rattle.rdm_model.proofs.SameRegions.{sends_same}
use Rattle.rdm_law.specs.Confirmed.{ConfirmedWhenPolled}
use Rattle.rdm_law.proofs.Lives.Lives.{life_of}
use Rattle.rdm_law.proofs.Accounts.Wired.{Played}
use Rattle.rdm_law.proofs.Accounts.Known.{account}
use Rattle.rdm_law.proofs.Accounts.Sent.{SendsAre, agree_sent}
use Rattle.rdm_law.proofs.Accounts.SendsAre.{sends_are}
use Rattle.rdm_law.proofs.Classes.ClassLives.{AllFree}
use Rattle.rdm_law.proofs.Classes.EndsKnown.{end_taken}
use Rattle.rdm_law.proofs.Classes.ReceiptsKnown.{receipt_taken}
use Rattle.rdm_law.proofs.Ends.Overs.{over_by}
use Rattle.rdm_law.proofs.Ends.PolledWas.{scene_completions}
use Rattle.rdm_law.proofs.Refusals.DroppedOnly.{lawful_at}
use Rattle.rdm_law.proofs.Central.Confirmed.{ended_parts, received}
use Rattle.rdm_law.proofs.Central.LawfulPlayed.{lawful_played}
use Rattle.rdm_lists.proofs.Members.{member-append_cases, member-map}

-- how a send was done: its end was taken, or its receipt, or it asked for none
abbrev DoneBy : List Deed → Sent → Type 0
DoneBy log s = (list_any (ends_send s.to s.number) log ≡ true) ⊎ ((list_any (confirms s.to s.message.no.0) log ≡ true) ⊎ (s.message.confirm ≡ false))

-- the send of that number is done
abbrev IsDone : Own → Messages → List Deed → ℕ → Type 0
IsDone own ms log n = (s : Sent) × Member s (sends own ms log) × (s.number ≡ n) × DoneBy log s

-- the completions of receives are of no send
recvs_no_send : (ms : Messages) (rs : List Receive) (es : List RecvEnd) (send : SendNo) (gone : Bool) → Member (Send send gone) (recv_completions ms rs es) → ⊥
unfolding recv_completions recv_completion
recvs_no_send ms rs [] send gone m = m
recvs_no_send ms rs (e ∷ es) send gone m =
    elim (member-append_cases (Send send gone) (recv_completion ms rs e) (recv_completions ms rs es) m) [
      | inl k ↦ (
          let r = member-map (λ (r : Receive). Recv (record { 0 = r.number }) (outcome ms e r)) (Send send gone) (option_to_list (receive_numbered rs (ended_recv e))) k in
          let x = r.2 in
          cc)
      | inr k ↦ recvs_no_send ms rs es send gone k
    ]

-- what was done stays so
done_later : (own : Own) (ms : Messages) (d : Deed) (before : List Deed) (n : ℕ) → IsDone own ms before n → IsDone own ms (d ∷ before) n
done_later own ms d before n w =
    let s = w.0 in (
      s,
      member_later own ms d before s w.1,
      w.2,
      elim w.3 [
        | inl a ↦ inl (or_right (ends_send s.to s.number d) (list_any (ends_send s.to s.number) before) a)
        | inr x ↦ inr (elim x [
          | inl a ↦ inl (or_right (confirms s.to s.message.no.0 d) (list_any (confirms s.to s.message.no.0) before) a)
          | inr c ↦ inr c
        ])
      ],
    )

-- a send that a deed ended, other than as gone, is done after it
ended_done : (own : Own) (ms : Messages) (d : Deed) (before : List Deed) (send : SendNo)
    → Member (Send send false) (map (send_completion (d ∷ before)) (ended_sends own ms d before (progress own ms before))) → IsDone own ms (d ∷ before) send.0
unfolding send_completion
ended_done own ms d before send m =
    let r = member-map (send_completion (d ∷ before)) (Send send false) (ended_sends own ms d before (progress own ms before)) m in
    let s = r.0 in
    let is = r.2 in
    let p = ended_parts own ms d before s r.1 in (
      s,
      member_later own ms d before s p.0,
      cc,
      elim (over_by (d ∷ before) (pushed_of own ms (d ∷ before) s.number) s p.2 cc) [
        | inl a ↦ inl a.1
        | inr x ↦ elim x [ inl a ↦ inr (inl a.2) | inr a ↦ inr (inr a.1) ]
      ],
    )

-- a send that completed, other than as gone, is done
completed_done : (own : Own) (ms : Messages) (log : List Deed) (send : SendNo) → Member (Send send false) (completions own ms log) → IsDone own ms log send.0
unfolding completions completions_by
completed_done own ms [] send m = elim m [ ]
completed_done own ms (d ∷ before) send m =
    let c : Completion = Send send false in
    let of_recvs = recv_completions ms (receives (d ∷ before)) (recv_ends_by own.limits.first ms.head d before (recv_ends own.limits.first ms.head before)) in
    let of_sends = map (send_completion (d ∷ before)) (ended_sends own ms d before (progress own ms before)) in
    elim (member-append_cases c (completions own ms before) (of_recvs ++ of_sends) m) [
      | inl k ↦ done_later own ms d before send.0 (completed_done own ms before send k)
      | inr k ↦ elim (member-append_cases c of_recvs of_sends k) [
        | inl l ↦ absurd (recvs_no_send ms (receives (d ∷ before)) (recv_ends_by own.limits.first ms.head d before (recv_ends own.limits.first ms.head before)) send false l)
        | inr l ↦ ended_done own ms d before send l
      ]
    ]

-- of a life: a send that completed and asked for a receipt
done_received : (job : Job) (before : List Entry) (i : Life) (send : SendNo) (t : Sent) → Played job before → SendsAre job before
    → Member (Send send false) (completions (own_of job i) (sent_to job before i) (life_deeds job before i)) → Member t (sends_in job before i) → t.number ≡ send.0
    → t.message.confirm ≡ true → IsReceived job before t.to i t.message.no
done_received job before i send t played are m mine number confirm =
    let own = own_of job i in
    let ms = account job before i in
    let ns = sent_to job before i in
    let log = life_deeds job before i in
    let w = completed_done own ns log send m in
    let here : Member w.0 (sends own ms log) = subst (λ (xs : List Sent). Member w.0 xs) (sym (sends_same own ms ns log (agree_sent job before i played are))) w.1 in
    let there : Member t (sends own ms log) = subst (λ (xs : List Sent). Member t xs) (sym (are i)) mine in
    let same : w.0 ≡ t = sends_one own ms log w.0 t here there (w.2 ∙ sym number) in
    elim (subst (DoneBy log) same w.3) [
      | inl a ↦ (
          let of = (end_taken job before i t.to t.number played a).of in
          let one : of.known.sent ≡ t = sends_one own ms log of.known.sent t of.sent_member there of.number_is in
          received job before t.to i t.message.no of.pair played are of.member of.filled of.life_is (sym of.known.number_is ∙ ap (λ (x : Sent). x.message.no.0) one))
      | inr x ↦ elim x [
        | inl a ↦ (
            let of = (receipt_taken job before i t.to t.message.no.0 played a).of in
            received job before t.to i t.message.no of.pair played are of.member of.filled of.life_is of.number_is)
        | inr c ↦ absurd (true≢false (sym confirm ∙ c))
      ]
    ]

-- of the life that is open at a port
done_at : (job : Job) (before : List Entry) (port : PortNo) (now : Option Connid) (c : Connid) (send : SendNo) (t : Sent) → Played job before → SendsAre job before → now ≡ Some c
    → Member (Send send false) (completions (own_of job (life_at port.0 now)) (sent_to job before (life_at port.0 now)) (of_open_life now (port_deeds job port.0 before)))
    → Member t (sends_in job before (life port c)) → t.number ≡ send.0 → t.message.confirm ≡ true → IsReceived job before t.to (life port c) t.message.no
unfolding life_at of_open_life life_deeds
done_at job before port None c send t played are e m mine number confirm = absurd cc
done_at job before port (Some b) c send t played are e m mine number confirm =
    let same : b ≡ c = cc in
    done_received job before (life_of port.0 c) send t played are
    (subst (λ (x : Connid). Member (Send send false) (completions (own_of job (life_of port.0 x)) (sent_to job before (life_of port.0 x)) (life_deeds job before (life_of port.0 x)))) same m)
    mine number confirm

-- each send that was polled as done and asked for a receipt was received before
pub confirmed_when_polled : (job : Job) (history : List Entry) → IsTrue (is_fair law_ops job) → AllFree job → Lawful job history → ConfirmedWhenPolled job history
confirmed_when_polled job history fair free lawful newer e before send c t split is open' mine number confirm =
    let l = lawful_at job newer e before (subst (Lawful job) split lawful) in
    let played = lawful_played job before fair free l.0 in
    let s = sent_scene job e.port.0 before in
    let done : Completion = Send send false in
    let at : Does job lives_class s (log_of e.port.0 before) e (Poll done) = subst (λ (x : Act). Does job lives_class s (log_of e.port.0 before) e x) is l.3.2 in
    let m : Member done (completions s.own s.ms s.log) = slice_get-member (completions s.own s.ms s.log) (poll_count s.log) done at in
    done_at job before e.port (open_life (port_deeds job e.port.0 before)) c send t played (sends_are job before played) open'
    (subst (λ (xs : List Completion). Member done xs) (scene_completions job e.port.0 before) m) mine number confirm
