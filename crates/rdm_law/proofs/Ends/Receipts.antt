-- A receipt that a life took is of a message that it had pushed whole.
use Rattle.std.proofs.Common.{◌≡◌, ℕ, Bool, true, false, List, [], ◌∷◌, Option, Some, None, refl, inl, inr, sym, ◌∙◌, ap, subst}
use Rattle.std.specs.Prelude.{not, ◌&&◌, ◌==◌, nat_eq, find}
use Rattle.std.specs.List.{list_any}
use Rattle.std.proofs.lemmas.Bool.{and_parts, and_from, eqb-true, eq-eqb, not-false, or_cases}
use Rattle.rdm_lists.specs.Lists.{Member}
use Rattle.rdm_num.specs.Lives.{same_life}
use Rattle.rdm_num.specs.declared.numbers.Life.{Life}
use Rattle.rdm_num.specs.declared.numbers.MsgNo.{MsgNo}
use Rattle.rdm_num.specs.declared.numbers.Connid.{Connid}
use Rattle.rdm_pkt.specs.declared.Packet.{Packet}
use Rattle.rdm_pkt.specs.declared.Packet.TheVariants.{Receipt}
use Rattle.rdm_model.specs.Deeds.{Deed, Took, Spelled}
use Rattle.rdm_model.specs.Beginnings.{Own, Messages}
use Rattle.rdm_model.specs.Sends.{Sent, sends}
use Rattle.rdm_model.specs.Dues.{Progress, progress, is_pushed, is_over, confirms, live_sends}
use Rattle.rdm_model.specs.Scenes.{Scene}
use Rattle.rdm_model.specs.Targets.{live_message, is_confirmed_send}
use Rattle.rdm_model.specs.ClassFacts.{is_early_receipt}
use Rattle.rdm_model.specs.Classes.{is_mismatch, is_no_op}
use Rattle.rdm_model.specs.Local.{heard_by}
use Rattle.rdm_model.proofs.Pushes.{pushed_of, member_later}
use Rattle.rdm_model.proofs.Served.{pushed_longer}
use Rattle.rdm_model.proofs.SameRegions.{Agree, sends_same}
use Rattle.rdm_model.proofs.SameDues.{progress_same}
use Rattle.rdm_model.proofs.Grows.{agree_grows}
use Rattle.rdm_law.proofs.Lives.Lives.{LifeLocal, LifeStep, life_scene}
use Rattle.rdm_law.proofs.Accounts.Known.{message_is_one}
use Rattle.rdm_law.proofs.Classes.Classed.{taken_parts}
use Rattle.rdm_law.proofs.Ends.LiveSends.{live_parts, live_from}
use Rattle.rdm_law.proofs.Ends.Overs.{pushed_still}
use Rattle.rdm_lists.proofs.Members.{find_member, member_find}
use Rattle.rdm_lists.proofs.Options.{some_of}
use Rattle.rdm_num.proofs.Lives.{same_life-true, same_life-refl}

-- the message of that number to that life was pushed whole
abbrev pub PushedWhole : Own → Messages → List Deed → Life → ℕ → Type 0
PushedWhole own ms log to n = (t : Sent) × Member t (sends own ms log) × (t.to ≡ to) × (t.message.no.0 ≡ n) × (is_pushed t (pushed_of own ms log t.number) ≡ true)

-- each receipt that was taken is of a message that was pushed whole
abbrev pub ReceiptsMade : Own → Messages → List Deed → Type 0
ReceiptsMade own ms log = (to : Life) (n : ℕ) → list_any (confirms to n) log ≡ true → PushedWhole own ms log to n

-- by accounts that agree
pub whole_same : (own : Own) (ms ns : Messages) (log : List Deed) (to : Life) (n : ℕ) → Agree own.limits.first ms ns log → PushedWhole own ms log to n → PushedWhole own ns log to n
whole_same own ms ns log to n g w =
    let t = w.0 in (
      t,
      subst (λ (xs : List Sent). Member t xs) (sends_same own ms ns log g) w.1,
      w.2,
      w.3,
      subst (λ (q : Progress). is_pushed t (q.packets t.number) ≡ true) (progress_same own ms ns log g) w.4,
    )

-- a send that is found by its message's number was made
pub live_message_parts : (s : Scene) (to : Life) (n : ℕ) (t : Sent) → live_message s to n ≡ Some t → Member t (sends s.own s.ms s.log) × (t.to ≡ to) × (t.message.no.0 ≡ n)
unfolding live_message
live_message_parts s to n t h =
    let m = find_member (λ (t : Sent). same_life t.to to && t.message.no.0 == n) t (live_sends s.own s.ms s.log) h in
    let p = and_parts (same_life t.to to) (nat_eq t.message.no.0 n) m.1 in
    ((live_parts s.own s.ms s.log t m.0).0, same_life-true t.to to p.0, eqb-true t.message.no.0 n p.1)

-- a send that is not over is the live send of its message's number
pub live_message_is : (s : Scene) (t : Sent) (to : Life) (n : ℕ) → Member t (sends s.own s.ms s.log) → t.to ≡ to → t.message.no.0 ≡ n
    → is_over s.log ((progress s.own s.ms s.log).packets t.number) t ≡ false → live_message s to n ≡ Some t
unfolding live_message
live_message_is s t to n m e k h =
    let test : Sent → Bool = λ x. same_life x.to to && x.message.no.0 == n in
    let passes : test t ≡ true = and_from (same_life t.to to) (nat_eq t.message.no.0 n) (ap (λ (l : Life). same_life l to) e ∙ same_life-refl to) (eq-eqb t.message.no.0 n k) in
    let found = some_of (find test (live_sends s.own s.ms s.log)) (member_find test t (live_sends s.own s.ms s.log) (live_from s.own s.ms s.log t m h) passes) in
    let p = live_message_parts s to n found.0 found.1 in
    let same : found.0 ≡ t = message_is_one s.own s.ms s.log found.0 t p.0 m (p.1 ∙ sym e) (p.2 ∙ sym k) in
    found.1 ∙ ap Some same

-- a confirmed send is there
confirmed_some : (o : Option Sent) → is_confirmed_send o ≡ true → (t : Sent) × (o ≡ Some t)
unfolding is_confirmed_send
confirmed_some None h = cc
confirmed_some (Some t) h = (t, refl)

-- a receipt that is not early comes after the whole message was pushed
in_time : (s : Scene) (t : Sent) → is_early_receipt s (Some t) ≡ false → is_pushed t ((progress s.own s.ms s.log).packets t.number) ≡ true
unfolding is_early_receipt
in_time s t h = not-false (is_pushed t ((progress s.own s.ms s.log).packets t.number)) h

-- a receipt that is taken is of a message that was pushed whole
receipt_step : (own : Own) (before : List Deed) (d : Deed) → LifeStep own before d → (from : Life) (number : MsgNo) (connid : Connid) → d ≡ Took from (Spelled (Receipt number connid))
    → PushedWhole own (heard_by own.limits.first before) before from number.0
unfolding is_no_op is_mismatch
receipt_step own before d step from number connid e =
    let taken : LifeStep own before (Took from (Spelled (Receipt number connid))) = subst (λ (x : Deed). LifeStep own before x) e step in
    let s = life_scene taken.0 own taken.1 before in
    let parts = taken_parts s from own.life.connid (Spelled (Receipt number connid)) taken.2 in
    let t = confirmed_some (live_message s from number.0) (not-false (is_confirmed_send (live_message s from number.0)) parts.has_op) in
    let m = live_message_parts s from number.0 t.0 t.1 in
    (t.0, m.0, m.1, m.2, in_time s t.0 (ap (λ (o : Option Sent). is_early_receipt s o) (sym t.1) ∙ parts.agrees))

-- the deed that took the receipt of a message
pub confirms_took : (peer : Life) (n : ℕ) (d : Deed) → confirms peer n d ≡ true → (connid : Connid) × (d ≡ Took peer (Spelled (Receipt (record { 0 = n }) connid)))
unfolding confirms
confirms_took peer n (Took from (Spelled (Receipt number connid))) h =
    let p = and_parts (same_life from peer) (nat_eq number.0 n) h in (
      connid,
      ap (λ (x : Life). Took x (Spelled (Receipt number connid))) (same_life-true from peer p.0)
          ∙ ap (λ (x : ℕ). Took peer (Spelled (Receipt (record { 0 = x }) connid))) (eqb-true number.0 n p.1),
    )
confirms_took peer n _ h = cc

-- what was pushed whole stays so
whole_grows : (own : Own) (d : Deed) (before : List Deed) (to : Life) (n : ℕ) → PushedWhole own (heard_by own.limits.first before) before to n
    → PushedWhole own (heard_by own.limits.first (d ∷ before)) (d ∷ before) to n
whole_grows own d before to n w =
    let ms = heard_by own.limits.first before in
    let ns = heard_by own.limits.first (d ∷ before) in
    let v = whole_same own ms ns before to n (agree_grows own.limits.first d before) w in
    let t = v.0 in
    let more = pushed_longer own ns d before t.number in
    (t, member_later own ns d before t v.1, v.2, v.3, subst (λ (ps : List Packet). is_pushed t ps ≡ true) (sym more.1) (pushed_still t (pushed_of own ns before t.number) more.0 v.4))

-- where a receipt was taken, the message of its number was pushed whole
pub receipt_pushed : (own : Own) (log : List Deed) (to : Life) (n : ℕ) → LifeLocal own log → list_any (confirms to n) log ≡ true
    → PushedWhole own (heard_by own.limits.first log) log to n
receipt_pushed own [] to n l h = cc
receipt_pushed own (d ∷ before) to n l h =
    elim (or_cases (confirms to n d) (list_any (confirms to n) before) h) [
      | inl now ↦ (
          let c = confirms_took to n d now in
          whole_grows own d before to n (receipt_step own before d l.1 to (record { 0 = n }) c.0 c.1))
      | inr was ↦ whole_grows own d before to n (receipt_pushed own before to n l.0 was)
    ]

-- so a send whose receipt was taken was pushed whole
pub confirmed_pushed : (own : Own) (log : List Deed) (s : Sent) → LifeLocal own log → Member s (sends own (heard_by own.limits.first log) log)
    → list_any (confirms s.to s.message.no.0) log ≡ true → is_pushed s (pushed_of own (heard_by own.limits.first log) log s.number) ≡ true
confirmed_pushed own log s l m h =
    let ms = heard_by own.limits.first log in
    let w = receipt_pushed own log s.to s.message.no.0 l h in
    let same : w.0 ≡ s = message_is_one own ms log w.0 s w.1 m w.2 w.3 in
    subst (λ (x : Sent). is_pushed x (pushed_of own ms log x.number) ≡ true) same w.4
