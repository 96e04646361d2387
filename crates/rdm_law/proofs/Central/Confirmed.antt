-- A confirmed send completes after a receive took its message.
use Rattle.std.proofs.Common.{◌≡◌, ℕ, Bool, true, false, List, [], ◌∷◌, Option, Some, None, refl, true≢false, inl, inr, sym, ◌∙◌, ap, subst}
use Rattle.std.specs.Prelude.{not, ◌==◌, filter}
use Rattle.std.specs.List.{list_any}
use Rattle.std.proofs.lemmas.Bool.{or_cases, not-true, eq-eqb}
use Rattle.rdm_lists.specs.Lists.{Member}
use Rattle.rdm_num.specs.Lives.{op_id}
use Rattle.rdm_num.specs.declared.numbers.Connid.{Connid}
use Rattle.rdm_num.specs.declared.numbers.Life.{Life}
use Rattle.rdm_num.specs.declared.numbers.MsgNo.{MsgNo}
use Rattle.rdm_pkt.specs.declared.Packet.TheVariants.{Eor, Receipt}
use Rattle.rdm_match.specs.Matcher.{Pair}
use Rattle.rdm_model.specs.declared.job.Job.{Job}
use Rattle.rdm_model.specs.declared.entry.Entry.{Entry}
use Rattle.rdm_model.specs.Deeds.{Deed, Spelled, deed_of, log_of, open_life, of_open_life}
use Rattle.rdm_model.specs.Beginnings.{Own, Messages, own_of, rank_of, life_at}
use Rattle.rdm_model.specs.Currents.{is_forgotten}
use Rattle.rdm_model.specs.Receives.{RecvEnd, Filled, is_filled}
use Rattle.rdm_model.specs.Scenes.{Scene, deeds_at}
use Rattle.rdm_model.specs.Sends.{Sent, sends}
use Rattle.rdm_model.specs.Dues.{progress, is_over, ends_send, confirms, live_of}
use Rattle.rdm_model.specs.Completions.{ended_sends}
use Rattle.rdm_model.specs.Classes.{class_of}
use Rattle.rdm_model.specs.Steps.{Does}
use Rattle.rdm_model.specs.Local.{own_scene}
use Rattle.rdm_model.specs.Lawful.{port_deeds, life_deeds, sent_to, IsReceived, Confirms}
use Rattle.rdm_model.specs.Wire.{Comes}
use Rattle.rdm_model.proofs.Numbers.{sends_one}
use Rattle.rdm_model.proofs.Pushes.{pushed_of}
use Rattle.rdm_model.proofs.SameRegions.{sends_same}
use Rattle.rdm_model.proofs.SameReceives.{recv_ends_same}
use Rattle.rdm_law.proofs.Lives.Lives.{life_of}
use Rattle.rdm_law.proofs.Accounts.Wired.{Played}
use Rattle.rdm_law.proofs.Accounts.Known.{account}
use Rattle.rdm_law.proofs.Accounts.Named.{pairs_of}
use Rattle.rdm_law.proofs.Accounts.Sent.{SendsAre, agree_sent}
use Rattle.rdm_law.proofs.Accounts.Carries.{taken_due}
use Rattle.rdm_law.proofs.Classes.EndsKnown.{ends_send_took, end_went}
use Rattle.rdm_law.proofs.Classes.ReceiptsKnown.{receipt_went}
use Rattle.rdm_law.proofs.Ends.FilledEnds.{filled_ended}
use Rattle.rdm_law.proofs.Ends.Overs.{over_by, over_from}
use Rattle.rdm_law.proofs.Ends.Receipts.{confirms_took}
use Rattle.rdm_lists.proofs.Members.{member-filter, filter-member, member_list_any}

-- a send that a deed ended was live, and is over after it
pub ended_parts : (own : Own) (ms : Messages) (d : Deed) (before : List Deed) (s : Sent) → Member s (ended_sends own ms d before (progress own ms before))
    → Member s (sends own ms before) × (is_over before (pushed_of own ms before s.number) s ≡ false) × (is_over (d ∷ before) (pushed_of own ms (d ∷ before) s.number) s ≡ true)
unfolding ended_sends live_of progress
ended_parts own ms d before s m =
    let live : Sent → Bool = λ t. not (is_over before (pushed_of own ms before t.number) t) in
    let over' : Sent → Bool = λ t. is_over (d ∷ before) (pushed_of own ms (d ∷ before) t.number) t in
    let a = member-filter over' s (filter live (sends own ms before)) m in
    let b = member-filter live s (sends own ms before) a.0 in
    (b.0, not-true (is_over before (pushed_of own ms before s.number) s) b.1, a.1)

-- one number of messages
same_number : (a b : MsgNo) → a.0 ≡ b.0 → a ≡ b
same_number a b h = subst (λ (x : ℕ). ◌≡◌ {A = MsgNo} a (record { 0 = x })) h refl

-- a receive that was filled took that message, by what was sent to its life
pub received : (job : Job) (before : List Entry) (i source : Life) (number : MsgNo) (p : Pair) → Played job before → SendsAre job before → Member p (pairs_of job before i)
    → is_filled (own_of job i).limits.first (account job before i).head (life_deeds job before i) p ≡ true → p.message.life ≡ source → p.message.no.0 ≡ number.0
    → IsReceived job before i source number
unfolding own_of
received job before i source number p played are m f l n =
    let log = life_deeds job before i in
    let agree = agree_sent job before i played are in (
      p,
      subst (λ (es : List RecvEnd). Member (Filled p) es) (recv_ends_same (own_of job i).limits.first (account job before i).head (sent_to job before i).head log agree.heads)
          (filled_ended (own_of job i).limits.first (account job before i).head log p m f),
      l,
      same_number p.message.no number n,
    )

-- of an open life
confirms_open : (job : Job) (before : List Entry) (e : Entry) (c : Connid) → Played job before → SendsAre job before → Comes before e e.act
    → open_life (deeds_at job e.port.0 (log_of e.port.0 before)) ≡ Some c
    → Does job class_of (own_scene job e.port.0 (deeds_at job e.port.0 (log_of e.port.0 before))) (log_of e.port.0 before) e e.act
    → (t : Sent)
    → Member t (ended_sends (own_of job (life_of e.port.0 c)) (sent_to job before (life_of e.port.0 c)) (deed_of (rank_of job e.port.0).ops e.act) (life_deeds job before (life_of e.port.0 c))
    (progress (own_of job (life_of e.port.0 c)) (sent_to job before (life_of e.port.0 c)) (life_deeds job before (life_of e.port.0 c))))
    → t.message.confirm ≡ true → is_forgotten (deed_of (rank_of job e.port.0).ops e.act ∷ life_deeds job before (life_of e.port.0 c)) t.to ≡ false
    → IsReceived job before t.to (life_of e.port.0 c) t.message.no
confirms_open job before e c played are comes now does t m confirm kept =
    let life' = life_of e.port.0 c in
    let own = own_of job life' in
    let ms = account job before life' in
    let ns = sent_to job before life' in
    let log = life_deeds job before life' in
    let d = deed_of (rank_of job e.port.0).ops e.act in
    let parts = ended_parts own ns d log t m in
    let mine : Member t (sends own ms log) = subst (λ (xs : List Sent). Member t xs) (sym (sends_same own ms ns log (agree_sent job before life' played are))) parts.0 in
    elim (over_by (d ∷ log) (pushed_of own ns (d ∷ log) t.number) t parts.2 kept) [
      | inl r ↦ elim (or_cases (ends_send t.to t.number d) (list_any (ends_send t.to t.number) log) r.1) [
        | inl new ↦ (
            let k = ends_send_took t.to t.number d new in
            let due' = taken_due job before e c t.to (Spelled (Eor (op_id t.number) k.0 k.1)) played comes now does k.2 in
            let of = end_went job before life' t.to (op_id t.number) k.0 k.1 due'.0 played due'.1 in
            let same : of.known.sent ≡ t = sends_one own ms log of.known.sent t of.sent_member mine of.number_is in
            received job before t.to life' t.message.no of.pair played are of.member of.filled of.life_is (sym of.known.number_is ∙ ap (λ (x : Sent). x.message.no.0) same))
        | inr was ↦ absurd (true≢false (sym (over_from log (pushed_of own ns log t.number) t (inl (r.0, was))) ∙ parts.1))
      ]
      | inr x ↦ elim x [
        | inl r ↦ elim (or_cases (confirms t.to t.message.no.0 d) (list_any (confirms t.to t.message.no.0) log) r.2) [
          | inl new ↦ (
              let k = confirms_took t.to t.message.no.0 d new in
              let due' = taken_due job before e c t.to (Spelled (Receipt t.message.no k.0)) played comes now does k.1 in
              let of = receipt_went job before life' t.to t.message.no k.0 due'.0 played due'.1 in
              received job before t.to life' t.message.no of.pair played are of.member of.filled of.life_is of.number_is)
          | inr was ↦ absurd (true≢false (sym (over_from log (pushed_of own ns log t.number) t (inr (inl (r.0, r.1, was)))) ∙ parts.1))
        ]
        | inr r ↦ absurd (true≢false (sym confirm ∙ r.1))
      ]
    ]

-- nothing ends where no life is open
none_ended : (own : Own) (ms : Messages) (d : Deed) (t : Sent) → Member t (ended_sends own ms d [] (progress own ms [])) → ⊥
unfolding ended_sends live_of sends
none_ended own ms d t m = m

-- of a port, whichever life is open
pub confirms_at : (job : Job) (before : List Entry) (e : Entry) (now : Option Connid) (s : Scene) → Played job before → SendsAre job before → Comes before e e.act
    → open_life (port_deeds job e.port.0 before) ≡ now
    → Does job class_of (own_scene job e.port.0 (port_deeds job e.port.0 before)) (log_of e.port.0 before) e e.act
    → s.own ≡ own_of job (life_at e.port.0 now) → s.ms ≡ sent_to job before (life_at e.port.0 now) → s.log ≡ of_open_life now (port_deeds job e.port.0 before)
    → Confirms job before s (deed_of (rank_of job e.port.0).ops e.act)
unfolding own_of life_at of_open_life port_deeds life_deeds
confirms_at job before e None s played are comes is does own ms log t m confirm kept =
    absurd (none_ended s.own s.ms (deed_of (rank_of job e.port.0).ops e.act) t
    (subst (λ (l : List Deed). Member t (ended_sends s.own s.ms (deed_of (rank_of job e.port.0).ops e.act) l (progress s.own s.ms l))) log m))
confirms_at job before e (Some c) s played are comes is does own ms log t m confirm kept =
    let d = deed_of (rank_of job e.port.0).ops e.act in
    let life' = life_of e.port.0 c in
    let m1 = subst (λ (x : Own). Member t (ended_sends x s.ms d s.log (progress x s.ms s.log))) own m in
    let m2 = subst (λ (x : Messages). Member t (ended_sends (own_of job life') x d s.log (progress (own_of job life') x s.log))) ms m1 in
    let m3 = subst (λ (x : List Deed). Member t (ended_sends (own_of job life') (sent_to job before life') d x (progress (own_of job life') (sent_to job before life') x))) log m2 in
    let k = subst (λ (x : List Deed). is_forgotten (d ∷ x) t.to ≡ false) log kept in
    let r = confirms_open job before e c played are comes is does t m3 confirm k in
    subst (λ (x : Life). IsReceived job before t.to x t.message.no) (sym (ap (λ (x : Own). x.life) own)) r
