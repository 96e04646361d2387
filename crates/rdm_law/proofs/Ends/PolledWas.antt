-- Each receive that completed in a lawful history has what was sent, or its first bytes.
use Rattle.std.proofs.Common.{◌≡◌, ℕ, ◌-◌, not, List, [], ◌∷◌, ◌++◌, length, map, take, Option, Some, None, refl, inl, inr, sym, ◌∙◌, ap, subst}
use Rattle.std.specs.Prelude.{IsTrue, ◌&&◌, filter, flat_map}
use Rattle.rdm_lists.specs.Lists.{Member}
use Rattle.rdm_num.specs.declared.numbers.RecvNo.{RecvNo}
use Rattle.rdm_num.specs.declared.numbers.Connid.{Connid}
use Rattle.rdm_num.specs.declared.numbers.Life.{Life}
use Rattle.rdm_num.specs.declared.limits.EpLimits.{EpLimits}
use Rattle.rdm_num.specs.declared.completion.Completion.{Completion}
use Rattle.rdm_num.specs.declared.completion.Completion.TheVariants.{Recv}
use Rattle.rdm_num.specs.declared.completion.Outcome.TheVariants.{Took}
use Rattle.rdm_num.specs.declared.head.Head.{Head}
use Rattle.rdm_pkt.specs.declared.Kind.{Kind}
use Rattle.rdm_pkt.specs.Openings.{Message, message_head}
use Rattle.rdm_match.specs.Matcher.{Pair}
use Rattle.rdm_model.specs.declared.job.Job.{Job}
use Rattle.rdm_model.specs.declared.job.Instr.TheVariants.{Cancel}
use Rattle.rdm_model.specs.declared.entry.Entry.{Entry}
use Rattle.rdm_model.specs.declared.entry.Act.{Act}
use Rattle.rdm_model.specs.declared.entry.Act.TheVariants.{Poll}
use Rattle.rdm_model.specs.Deeds.{Deed, Did, open_life, of_open_life, log_of}
use Rattle.rdm_model.specs.Beginnings.{Heads, own_of, life_at}
use Rattle.rdm_model.specs.Currents.{forgotten_by}
use Rattle.rdm_model.specs.Matches.{Receive, receives, pairs}
use Rattle.rdm_model.specs.Receives.{RecvEnd, Filled, Gone, is_filled, filled_by, concerns, has_ended, withdrawn_by, gone_with, recv_ends, with_recv_ends, recv_ends_by}
use Rattle.rdm_model.specs.Sends.{Sent, sent_by, with_sent}
use Rattle.rdm_model.specs.Completions.{completions, poll_count}
use Rattle.rdm_model.specs.Scenes.{scene}
use Rattle.rdm_model.specs.Jobs.{is_fair, law_ops}
use Rattle.rdm_model.specs.Classes.{lives_class}
use Rattle.rdm_model.specs.Steps.{Does}
use Rattle.rdm_model.specs.Lawful.{port_deeds, life_deeds, deed_for, sends_in, sent_to, sent_scene, Lawful}
use Rattle.rdm_model.proofs.Matches.{pair_still}
use Rattle.rdm_model.proofs.SameMatches.{pairs_same}
use Rattle.rdm_law.specs.Polled.{TookOf, PolledWasSent}
use Rattle.rdm_law.proofs.Lives.Lives.{life_of}
use Rattle.rdm_law.proofs.Accounts.Wired.{Played}
use Rattle.rdm_law.proofs.Accounts.Known.{account}
use Rattle.rdm_law.proofs.Accounts.Named.{pair_known}
use Rattle.rdm_law.proofs.Accounts.Sent.{known_placed, agree_sent}
use Rattle.rdm_law.proofs.Accounts.SendsAre.{sends_are, sends_in_newest}
use Rattle.rdm_law.proofs.Classes.ClassLives.{AllFree}
use Rattle.rdm_law.proofs.Central.LawfulPlayed.{lawful_played}
use Rattle.rdm_law.proofs.Ends.PolledSent.{TookEnd, completed_took}
use Rattle.rdm_lists.proofs.Members.{member-append_left, member-append_cases, member-filter, member-map, member-flat_map}
use Rattle.rdm_lists.proofs.Places.{slice_get-member}

-- a receive that is taken back is not filled
withdrawn_no_pair : (d : Deed) (p : Pair) → Member (Filled p) (withdrawn_by d) → ⊥
unfolding withdrawn_by
withdrawn_no_pair (Did (Cancel recv)) p (inl is) = cc
withdrawn_no_pair (Did (Cancel recv)) p (inr never) = elim never [ ]
withdrawn_no_pair _ p m = elim m [ ]

-- a receive that is gone is not filled
gone_no_pair : (first : ℕ) (heads : Heads) (before : List Deed) (ends : List RecvEnd) (life' : Life) (p : Pair) → Member (Filled p) (gone_with first heads before ends life') → ⊥
unfolding gone_with
gone_no_pair first heads before ends life' p m =
    let r = member-map (λ (r : Receive). Gone r.number) (Filled p)
    (filter (λ (r : Receive). concerns (pairs first heads before) life' r && not (has_ended ends r.number)) (receives before)) m in
    let e = r.2 in
    cc

-- a receive that a deed fills is in a pair
filled_pair : (first : ℕ) (heads : Heads) (d : Deed) (before : List Deed) (p : Pair) → Member (Filled p) (map Filled (filled_by first heads d before)) → Member p (pairs first heads (d ∷ before))
unfolding filled_by
filled_pair first heads d before p m =
    let r = member-map Filled (Filled p) (filled_by first heads d before) m in
    let f = member-filter (λ p. is_filled first heads (d ∷ before) p && not (is_filled first heads before p)) r.0 (pairs first heads (d ∷ before)) r.1 in
    let e : r.0 ≡ p = (let x = r.2 in cc) in
    subst (λ (q : Pair). Member q (pairs first heads (d ∷ before))) e f.0

-- a receive that ended with a message is in a pair
pub end_paired : (first : ℕ) (heads : Heads) (log : List Deed) (p : Pair) → Member (Filled p) (recv_ends first heads log) → Member p (pairs first heads log)
unfolding recv_ends with_recv_ends recv_ends_by
end_paired first heads [] p m = elim m [ ]
end_paired first heads (d ∷ before) p m =
    let ends = recv_ends first heads before in
    let filled = map Filled (filled_by first heads d before) in
    let gone = flat_map (gone_with first heads before ends) (forgotten_by before d) in
    elim (member-append_cases (Filled p) ends (filled ++ withdrawn_by d ++ gone) m) [
      | inl k ↦ pair_still first heads d before p (end_paired first heads before p k)
      | inr k ↦ elim (member-append_cases (Filled p) (filled ++ withdrawn_by d) gone k) [
        | inl l ↦ elim (member-append_cases (Filled p) filled (withdrawn_by d) l) [
          | inl n ↦ filled_pair first heads d before p n
          | inr n ↦ absurd (withdrawn_no_pair d p n)
        ]
        | inr l ↦ let r = member-flat_map (gone_with first heads before ends) (Filled p) (forgotten_by before d) l in absurd (gone_no_pair first heads before ends r.0 p r.2)
      ]
    ]

-- what a life sent stays sent
pub sent_still : (job : Job) (e : Entry) (before : List Entry) (life' : Life) (s : Sent) → Member s (sends_in job before life') → Member s (sends_in job (e ∷ before) life')
unfolding with_sent
sent_still job e before life' s m =
    let more = sent_by (own_of job life') (sent_to job before life') (life_deeds job before life') (sends_in job before life') (deed_for job e before life') in
    subst (λ (xs : List Sent). Member s xs) (sym (sends_in_newest job e before life')) (member-append_left s (sends_in job before life') more m)

-- what was sent before stays so
took_still : (job : Job) (e : Entry) (before : List Entry) (port : ℕ) (from : Life) (tag cq_data : Option ℕ) (bytes : List ℕ) (excess : ℕ)
    → TookOf job before port from tag cq_data bytes excess → TookOf job (e ∷ before) port from tag cq_data bytes excess
took_still job e before port from tag cq_data bytes excess t =
    record {
      send = t.send;
      capacity = t.capacity;
      sent = sent_still job e before from t.send t.sent;
      to_port = t.to_port;
      tag_is = t.tag_is;
      cq_data_is = t.cq_data_is;
      bytes_are = t.bytes_are;
      excess_is = t.excess_is;
    }

-- the parts of a head
pub head_parts : (limits : EpLimits) (m : Message) (kind : Kind)
    → ((message_head limits m kind).tag ≡ m.tag) × ((message_head limits m kind).cq_data ≡ m.opt.cq_data) × ((message_head limits m kind).length ≡ length m.bytes)
unfolding message_head
head_parts limits m kind = (refl, refl, refl)

-- what a receive of a life ended with was sent to it
life_took : (job : Job) (history : List Entry) (life' from : Life) (tag cq_data : Option ℕ) (bytes : List ℕ) (excess : ℕ) → Played job history
    → TookEnd (sent_to job history life') (recv_ends (own_of job life').limits.first (sent_to job history life').head (life_deeds job history life')) from tag cq_data bytes excess
    → TookOf job history life'.port.0 from tag cq_data bytes excess
life_took job history life' from tag cq_data bytes excess played t =
    let first = (own_of job life').limits.first in
    let log = life_deeds job history life' in
    let ns = sent_to job history life' in
    let ms = account job history life' in
    let are = sends_are job history played in
    let a = agree_sent job history life' played are in
    let p = t.pair in
    let m = subst (λ (ps : List Pair). Member p ps) (sym (pairs_same first ms.head ns.head log a.heads)) (end_paired first ns.head log p t.end') in
    let k = pair_known job history life' p played m in
    let s = k.known.sent in
    let placed = known_placed job history life' p.message.life p.message.no.0 are k.known in
    let parts = head_parts job.limits s.message s.kind in
    let member : Member s (sends_in job history p.message.life) = subst (λ (ss : List Sent). Member s ss) (are p.message.life) k.known.member in
    record {
      send = s;
      capacity = t.capacity;
      sent = subst (λ (x : Life). Member s (sends_in job history x)) t.life_is member;
      to_port = ap (λ (x : Life). x.port.0) k.known.to_is;
      tag_is = sym (ap (λ (h : Head). h.tag) placed.0 ∙ parts.0) ∙ t.tag_is;
      cq_data_is = sym (ap (λ (h : Head). h.cq_data) placed.0 ∙ parts.1) ∙ t.cq_data_is;
      bytes_are = sym t.bytes_are ∙ ap (take t.capacity) placed.1;
      excess_is = sym t.excess_is ∙ ap (λ (n : ℕ). n - t.capacity) (ap (λ (h : Head). h.length) placed.0 ∙ parts.2);
    }

-- a completion of the open life, if there is one
poll_at : (job : Job) (before : List Entry) (port : ℕ) (now : Option Connid) (recv : RecvNo) (from : Life) (tag cq_data : Option ℕ) (bytes : List ℕ) (excess : ℕ) → Played job before
    → Member (Recv recv (Took from tag cq_data bytes excess)) (completions (own_of job (life_at port now)) (sent_to job before (life_at port now)) (of_open_life now (port_deeds job port before)))
    → TookOf job before port from tag cq_data bytes excess
unfolding life_at of_open_life completions life_deeds
poll_at job before port None recv from tag cq_data bytes excess played m = elim m [ ]
poll_at job before port (Some c) recv from tag cq_data bytes excess played m =
    let life' = life_of port c in
    life_took job before life' from tag cq_data bytes excess played
    (completed_took (own_of job life') (sent_to job before life') (life_deeds job before life') recv from tag cq_data bytes excess m)

-- the completions of a port, by its open life
pub scene_completions : (job : Job) (port : ℕ) (before : List Entry) → completions (sent_scene job port before).own (sent_scene job port before).ms (sent_scene job port before).log
    ≡ completions (own_of job (life_at port (open_life (port_deeds job port before)))) (sent_to job before (life_at port (open_life (port_deeds job port before))))
    (of_open_life (open_life (port_deeds job port before)) (port_deeds job port before))
unfolding sent_scene scene
scene_completions job port before = refl

-- a poll of an entry gives what was sent
entry_polled : (job : Job) (before : List Entry) (e : Entry) (recv : RecvNo) (from : Life) (tag cq_data : Option ℕ) (bytes : List ℕ) (excess : ℕ) → Played job before
    → Does job lives_class (sent_scene job e.port.0 before) (log_of e.port.0 before) e e.act → e.act ≡ Poll (Recv recv (Took from tag cq_data bytes excess))
    → TookOf job before e.port.0 from tag cq_data bytes excess
entry_polled job before e recv from tag cq_data bytes excess played does is =
    let s = sent_scene job e.port.0 before in
    let c : Completion = Recv recv (Took from tag cq_data bytes excess) in
    let at : Does job lives_class s (log_of e.port.0 before) e (Poll c) = subst (λ (x : Act). Does job lives_class s (log_of e.port.0 before) e x) is does in
    let m : Member c (completions s.own s.ms s.log) = slice_get-member (completions s.own s.ms s.log) (poll_count s.log) c at in
    poll_at job before e.port.0 (open_life (port_deeds job e.port.0 before)) recv from tag cq_data bytes excess played
    (subst (λ (xs : List Completion). Member c xs) (scene_completions job e.port.0 before) m)

-- each receive that completed in a lawful history has what was sent
pub polled_was_sent : (job : Job) (history : List Entry) → IsTrue (is_fair law_ops job) → AllFree job → Lawful job history → PolledWasSent job history
polled_was_sent job [] fair free l e recv from tag cq_data bytes excess m is = elim m [ ]
polled_was_sent job (f ∷ before) fair free l e recv from tag cq_data bytes excess (inl same) is =
    let played = lawful_played job before fair free l.0 in
    let act = ap (λ (x : Entry). x.act) same ∙ is in
    let t = entry_polled job before f recv from tag cq_data bytes excess played l.3.2 act in
    subst (λ (x : Entry). TookOf job (f ∷ before) x.port.0 from tag cq_data bytes excess) same (took_still job f before f.port.0 from tag cq_data bytes excess t)
polled_was_sent job (f ∷ before) fair free l e recv from tag cq_data bytes excess (inr m) is =
    took_still job f before e.port.0 from tag cq_data bytes excess (polled_was_sent job before fair free l.0 e recv from tag cq_data bytes excess m is)
