-- A send that is over, to a life that is not forgotten, completed.
use Rattle.std.proofs.Common.{◌≡◌, ℕ, ◌<◌, ◌≤◌, Bool, true, false, cond, ◌&&◌, not, List, [], ◌∷◌, ◌++◌, map, length, Option, Some, None, refl, arith, true≢false, inl, inr, sym, ◌∙◌, ap, subst}
use Rattle.std.specs.Prelude.{◌==◌, ◌||◌, filter, nat_eq}
use Rattle.std.specs.List.{list_any}
use Rattle.std.proofs.lemmas.Bool.{and_parts, eqb-true, not-true, or_parts, not-false}
use Rattle.std.proofs.lemmas.List.{length-append}
use Rattle.rdm_lists.specs.Lists.{Member}
use Rattle.rdm_num.specs.Lives.{same_life, op_id}
use Rattle.rdm_num.specs.declared.numbers.Connid.{Connid}
use Rattle.rdm_num.specs.declared.numbers.Life.{Life}
use Rattle.rdm_num.specs.declared.numbers.OpId.{OpId}
use Rattle.rdm_num.specs.declared.completion.Completion.TheVariants.{Send as SendCompletion}
use Rattle.rdm_pkt.specs.declared.Packet.{Packet}
use Rattle.rdm_pkt.specs.declared.Packet.TheVariants.{Eor}
use Rattle.rdm_model.specs.Deeds.{Deed, Took, Spelled}
use Rattle.rdm_model.specs.Beginnings.{Own, Messages}
use Rattle.rdm_model.specs.Currents.{is_forgotten, forgotten_by}
use Rattle.rdm_model.specs.Matches.{receives}
use Rattle.rdm_model.specs.Receives.{recv_ends, recv_ends_by}
use Rattle.rdm_model.specs.Sends.{Sent, sends}
use Rattle.rdm_model.specs.Dues.{progress, is_pushed, is_over, ends_send, confirms, live_of, live_sends}
use Rattle.rdm_model.specs.Completions.{recv_completions, ended_sends, send_completion, completions_by, completions}
use Rattle.rdm_model.specs.Scenes.{Scene}
use Rattle.rdm_model.specs.Targets.{live_send, is_read_send}
use Rattle.rdm_model.specs.Classes.{is_no_op}
use Rattle.rdm_model.specs.Local.{heard_by}
use Rattle.rdm_model.proofs.Numbers.{NewSent, sends_step, sends_one, send_below, new_number}
use Rattle.rdm_model.proofs.Pushes.{pushed_of, pushed_step, none_pushed, member_later}
use Rattle.rdm_model.proofs.SameRegions.{Agree, agree_before, sends_same}
use Rattle.rdm_model.proofs.Grows.{agree_grows}
use Rattle.rdm_law.proofs.Lives.Lives.{LifeLocal, LifeStep, life_scene}
use Rattle.rdm_law.proofs.Classes.Classed.{taken_parts}
use Rattle.rdm_law.proofs.Accounts.Known.{message_is_one}
use Rattle.rdm_law.proofs.Ends.LiveSends.{live_parts}
use Rattle.rdm_law.proofs.Ends.Overs.{over_by}
use Rattle.rdm_law.proofs.Ends.Receipts.{PushedWhole, ReceiptsMade, whole_same, receipt_pushed}
use Rattle.rdm_law.proofs.Classes.EndsKnown.{ends_send_took}
use Rattle.rdm_lists.proofs.Members.{member-append_left, member-append_right, member-append_cases, member-filter, filter-member, map-member, list_any_member, find_member}

-- each end that was taken was of a send that had been made
abbrev pub EndsMade : Own → Messages → List Deed → Type 0
EndsMade own ms [] = Unit {0}
EndsMade own ms (d ∷ before) =
    EndsMade own ms before
    × ((from : Life) (send recv : OpId) (connid : Connid) → d ≡ Took from (Spelled (Eor send recv connid)) → send.0 < length (sends own ms before))

-- by accounts that agree
ends_made_same : (own : Own) (ms ns : Messages) (log : List Deed) → Agree own.limits.first ms ns log → EndsMade own ms log → EndsMade own ns log
ends_made_same own ms ns [] a m = tt
ends_made_same own ms ns (d ∷ before) a m =
    let b = agree_before own.limits.first ms ns d before a in (
      ends_made_same own ms ns before b m.0,
      λ from send recv connid e. subst (λ (x : List Sent). send.0 < length x) (sends_same own ms ns before b) (m.1 from send recv connid e),
    )

-- sends are only added
sends_more : (own : Own) (ms : Messages) (d : Deed) (before : List Deed) → length (sends own ms before) ≤ length (sends own ms (d ∷ before))
sends_more own ms d before =
    elim (sends_step own ms d before) [
      | inl a ↦ (let e = ap length a in omega arith)
      | inr a ↦ (let e = ap length a.2 in let l = length-append (sends own ms before) (a.0 ∷ []) in omega arith)
    ]

-- a send that is read is there
read_send : (o : Option Sent) → is_read_send o ≡ true → (t : Sent) × (o ≡ Some t)
unfolding is_read_send
read_send None h = cc
read_send (Some t) h = (t, refl)

-- a send that is found by its number was made
live_made : (s : Scene) (to : Life) (n : ℕ) (t : Sent) → live_send s to n ≡ Some t → n < length (sends s.own s.ms s.log)
unfolding live_send
live_made s to n t h =
    let m = find_member (λ (t : Sent). same_life t.to to && t.number == n) t (live_sends s.own s.ms s.log) h in
    let p = and_parts (same_life t.to to) (nat_eq t.number n) m.1 in
    let e = eqb-true t.number n p.1 in
    let b = send_below s.own s.ms s.log t (live_parts s.own s.ms s.log t m.0).0 in
    omega arith

-- an end that is taken is of a send that was made
end_step : (own : Own) (before : List Deed) (d : Deed) → LifeStep own before d → (from : Life) (send recv : OpId) (connid : Connid) → d ≡ Took from (Spelled (Eor send recv connid))
    → send.0 < length (sends own (heard_by own.limits.first before) before)
unfolding is_no_op
end_step own before d step from send recv connid e =
    let taken : LifeStep own before (Took from (Spelled (Eor send recv connid))) = subst (λ (x : Deed). LifeStep own before x) e step in
    let s = life_scene taken.0 own taken.1 before in
    let op = (taken_parts s from own.life.connid (Spelled (Eor send recv connid)) taken.2).has_op in
    let t = read_send (live_send s from send.0) (not-false (is_read_send (live_send s from send.0)) op) in
    live_made s from send.0 t.0 t.1

-- a life takes ends of sends that it made
pub ends_made : (own : Own) (log : List Deed) → LifeLocal own log → EndsMade own (heard_by own.limits.first log) log
ends_made own [] l = tt
ends_made own (d ∷ before) l =
    let first = own.limits.first in
    let g = agree_grows first d before in (
      ends_made_same own (heard_by first before) (heard_by first (d ∷ before)) before g (ends_made own before l.0),
      λ from send recv connid e.
          subst (λ (x : List Sent). send.0 < length x) (sends_same own (heard_by first before) (heard_by first (d ∷ before)) before g) (end_step own before d l.1 from send recv connid e),
    )

-- no end was taken of a send that had not been made
unended : (own : Own) (ms : Messages) (log : List Deed) (peer : Life) (n : ℕ) → EndsMade own ms log → length (sends own ms log) ≤ n → list_any (ends_send peer n) log ≡ false
unended own ms [] peer n m le = refl
unended own ms (d ∷ before) peer n m le =
    (elim (ends_send peer n d) as (λ b. ends_send peer n d ≡ b → (b || list_any (ends_send peer n) before) ≡ false) [
      | true ↦ λ e. absurd (
          let x = ends_send_took peer n d e in
          let l = m.1 peer (op_id n) x.0 x.1 x.2 in
          let r = sends_more own ms d before in
          omega arith)
      | false ↦ λ e. unended own ms before peer n m.0 (let r = sends_more own ms d before in omega arith)
    ]) refl

-- a send of which nothing was pushed is not pushed
none_over : (s : Sent) (ps : List Packet) → ps ≡ [] → is_pushed s ps ≡ false
unfolding is_pushed
none_over s ps e = rw e refl

-- a send that a deed makes is none of those before
not_new : (own : Own) (ms : Messages) (d : Deed) (before : List Deed) (s : Sent) → NewSent own ms before (sends own ms before) d s → Member s (sends own ms before) → ⊥
not_new own ms d before s new m =
    let n = new_number own ms before (sends own ms before) d s new in
    let b = send_below own ms before s m in
    absurd (omega arith)

-- a send is not over by the deed that makes it
new_live : (own : Own) (ms : Messages) (d : Deed) (before : List Deed) (s : Sent) → EndsMade own ms before → ReceiptsMade own ms before → NewSent own ms before (sends own ms before) d s
    → Member s (sends own ms (d ∷ before)) → is_forgotten (d ∷ before) s.to ≡ false → is_over (d ∷ before) (pushed_of own ms (d ∷ before) s.number) s ≡ true → ⊥
unfolding ends_send confirms
new_live own ms d before s made receipts new here f over =
    let n = new_number own ms before (sends own ms before) d s new in
    let none : pushed_of own ms before s.number ≡ [] = none_pushed own ms before s.number (omega arith) in
    let same : pushed_of own ms (d ∷ before) s.number ≡ [] = (elim (pushed_step own ms d before s.number) [
      | inl a ↦ a ∙ none
      | inr a ↦ absurd (let x = a.0.by in let y = new.by in cc)
    ]) in
    let ended : list_any (ends_send s.to s.number) (d ∷ before) ≡ false =
    subst (λ (x : Deed). list_any (ends_send s.to s.number) (x ∷ before) ≡ false) (sym new.by) (unended own ms before s.to s.number made (omega arith)) in
    elim (over_by (d ∷ before) (pushed_of own ms (d ∷ before) s.number) s over f) [
      | inl a ↦ true≢false (sym a.1 ∙ ended)
      | inr a ↦ elim a [
        | inl b ↦ (
            let was : list_any (confirms s.to s.message.no.0) before ≡ true = subst (λ (x : Deed). list_any (confirms s.to s.message.no.0) (x ∷ before) ≡ true) new.by b.2 in
            let w = receipts s.to s.message.no.0 was in
            let t : w.0 ≡ s = message_is_one own ms (d ∷ before) w.0 s (member_later own ms d before w.0 w.1) here w.2 w.3 in
            not_new own ms d before s new (subst (λ (x : Sent). Member x (sends own ms before)) t w.1))
        | inr b ↦ true≢false (sym b.2 ∙ none_over s (pushed_of own ms (d ∷ before) s.number) same)
      ]
    ]

-- a send that is over after a deed and was not before ended by it
newly_over : (own : Own) (ms : Messages) (d : Deed) (before : List Deed) (s : Sent) → Member s (sends own ms before)
    → is_over before (pushed_of own ms before s.number) s ≡ false → is_over (d ∷ before) (pushed_of own ms (d ∷ before) s.number) s ≡ true
    → Member s (ended_sends own ms d before (progress own ms before))
unfolding ended_sends live_of progress
newly_over own ms d before s m was now =
    let live : Sent → Bool = λ t. not (is_over before (pushed_of own ms before t.number) t) in
    let over' : Sent → Bool = λ t. is_over (d ∷ before) (pushed_of own ms (d ∷ before) t.number) t in
    filter-member over' s (filter live (sends own ms before)) (filter-member live s (sends own ms before) m (ap not was)) now

-- a send that ended by a deed completes by it
ended_completes : (own : Own) (ms : Messages) (d : Deed) (before : List Deed) (s : Sent) → Member s (ended_sends own ms d before (progress own ms before))
    → is_forgotten (d ∷ before) s.to ≡ false → Member (SendCompletion (record { 0 = s.number }) false) (completions_by own ms d before)
unfolding completions_by send_completion
ended_completes own ms d before s m f =
    let P : Bool → Type 0 = λ b. Member (SendCompletion (record { 0 = s.number }) b) (map (send_completion (d ∷ before)) (ended_sends own ms d before (progress own ms before))) in
    let here = subst P f (map-member (send_completion (d ∷ before)) s (ended_sends own ms d before (progress own ms before)) m) in
    member-append_right (SendCompletion (record { 0 = s.number }) false)
    (recv_completions ms (receives (d ∷ before)) (recv_ends_by own.limits.first ms.head d before (recv_ends own.limits.first ms.head before)))
    (map (send_completion (d ∷ before)) (ended_sends own ms d before (progress own ms before))) here

-- a life that is not forgotten was not before
forgotten_earlier : (d : Deed) (before : List Deed) (life : Life) → is_forgotten (d ∷ before) life ≡ false → is_forgotten before life ≡ false
unfolding is_forgotten
forgotten_earlier d before life h = (or_parts (is_forgotten before life) (list_any (same_life life) (forgotten_by before d)) h).0

-- each receipt that was taken was of a message that had been pushed whole
abbrev pub AllReceiptsMade : Own → Messages → List Deed → Type 0
AllReceiptsMade own ms [] = Unit {0}
AllReceiptsMade own ms (d ∷ before) = AllReceiptsMade own ms before × ReceiptsMade own ms before

-- by accounts that agree
all_receipts_same : (own : Own) (ms ns : Messages) (log : List Deed) → Agree own.limits.first ms ns log → AllReceiptsMade own ms log → AllReceiptsMade own ns log
all_receipts_same own ms ns [] a r = tt
all_receipts_same own ms ns (d ∷ before) a r =
    let b = agree_before own.limits.first ms ns d before a in
    (all_receipts_same own ms ns before b r.0, λ to n h. whole_same own ms ns before to n b (r.1 to n h))

-- a life takes receipts of messages that it pushed whole
receipts_made : (own : Own) (log : List Deed) → LifeLocal own log → AllReceiptsMade own (heard_by own.limits.first log) log
receipts_made own [] l = tt
receipts_made own (d ∷ before) l =
    let first = own.limits.first in
    let g = agree_grows first d before in (
      all_receipts_same own (heard_by first before) (heard_by first (d ∷ before)) before g (receipts_made own before l.0),
      λ to n h. whole_same own (heard_by first before) (heard_by first (d ∷ before)) before to n g (receipt_pushed own before to n l.0 h),
    )

-- the same by any account of the messages, where ends and receipts are of sends that were made
done_by : (own : Own) (ms : Messages) (log : List Deed) (s : Sent) → EndsMade own ms log → AllReceiptsMade own ms log → Member s (sends own ms log)
    → is_over log (pushed_of own ms log s.number) s ≡ true → is_forgotten log s.to ≡ false → Member (SendCompletion (record { 0 = s.number }) false) (completions own ms log)
unfolding completions sends
done_by own ms [] s e r m over f = elim m [ ]
done_by own ms (d ∷ before) s e r m over f =
    let c = SendCompletion (record { 0 = s.number }) false in
    let older : Member s (sends own ms before) → Member c (completions own ms before ++ completions_by own ms d before) =
    λ k. (elim (is_over before (pushed_of own ms before s.number) s) as (λ b. is_over before (pushed_of own ms before s.number) s ≡ b
    → Member c (completions own ms before ++ completions_by own ms d before)) [
      | true ↦ λ was. member-append_left c (completions own ms before) (completions_by own ms d before) (done_by own ms before s e.0 r.0 k was (forgotten_earlier d before s.to f))
      | false ↦ λ was. member-append_right c (completions own ms before) (completions_by own ms d before) (ended_completes own ms d before s (newly_over own ms d before s k was over) f)
    ]) refl in
    elim (sends_step own ms d before) [
      | inl same ↦ older (subst (λ (x : List Sent). Member s x) same m)
      | inr new ↦ elim (member-append_cases s (sends own ms before) (new.0 ∷ []) (subst (λ (x : List Sent). Member s x) new.2 m)) [
        | inl k ↦ older k
        | inr k ↦ elim k [
          | inl is ↦ absurd (new_live own ms d before s e.0 r.1 (subst (λ (x : Sent). NewSent own ms before (sends own ms before) d x) is new.1) m f over)
          | inr never ↦ elim never [ ]
        ]
      ]
    ]

-- a send that is over, to a life that is not forgotten, completed
pub send_done : (own : Own) (log : List Deed) (s : Sent) → LifeLocal own log → Member s (sends own (heard_by own.limits.first log) log)
    → is_over log ((progress own (heard_by own.limits.first log) log).packets s.number) s ≡ true → is_forgotten log s.to ≡ false
    → Member (SendCompletion (record { 0 = s.number }) false) (completions own (heard_by own.limits.first log) log)
send_done own log s l m over f =
    let ms = heard_by own.limits.first log in
    done_by own ms log s (ends_made own log l) (receipts_made own log l) m over f
