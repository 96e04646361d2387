-- The live send that a grant, an ask, an end or a receipt names that is taken.
use Rattle.std.proofs.Common.{◌≡◌, ℕ, Bool, true, false, not, ◌&&◌, List, Option, Some, None, refl, sym, ◌∙◌, ap}
use Rattle.std.specs.Prelude.{◌==◌, nat_eq, find}
use Rattle.std.proofs.lemmas.Bool.{and_parts, and_from, eqb-true, eq-eqb, not-false, not-true}
use Rattle.rdm_lists.specs.Lists.{Member}
use Rattle.rdm_lists.proofs.Members.{find_member, member_find}
use Rattle.rdm_lists.proofs.Options.{some_of}
use Rattle.rdm_num.specs.Lives.{same_life}
use Rattle.rdm_num.specs.declared.numbers.Life.{Life}
use Rattle.rdm_num.specs.declared.numbers.OpId.{OpId}
use Rattle.rdm_num.specs.declared.numbers.MsgNo.{MsgNo}
use Rattle.rdm_num.specs.declared.numbers.Connid.{Connid}
use Rattle.rdm_num.proofs.Lives.{same_life-true, same_life-refl}
use Rattle.rdm_pkt.specs.declared.Packet.TheVariants.{Cts, Eor, Receipt}
use Rattle.rdm_wire.specs.declared.ReadAsk.{ReadAsk}
use Rattle.rdm_model.specs.Beginnings.{Own}
use Rattle.rdm_model.specs.Classes.{is_bad_key, is_no_op}
use Rattle.rdm_model.specs.Deeds.{Deed, Took, Spelled, Asks}
use Rattle.rdm_model.specs.Dues.{is_read}
use Rattle.rdm_model.specs.Scenes.{Scene}
use Rattle.rdm_model.specs.Sends.{Sent}
use Rattle.rdm_model.specs.Targets.{live_send, live_message, is_good_ask, is_long_send, is_read_send, is_confirmed_send}
use Rattle.rdm_model.proofs.Numbers.{sends_one}
use Rattle.rdm_law.proofs.Accounts.Known.{message_is_one}
use Rattle.rdm_law.proofs.Classes.Classed.{taken_parts}
use Rattle.rdm_law.proofs.Ends.LiveSends.{live_parts}
use Rattle.rdm_law.proofs.Lives.Lives.{LifeStep, life_scene}
use Rattle.rdm_life.specs.Keeps.{told, own_sends}
use Rattle.rdm_life.proofs.OwnSends.{own_live}

-- the live send of that number, which goes to that life
pub record Target (own : Own) (log : List Deed) (to : Life) (n : ℕ) : Type 0 where
  pub sent : Sent
  pub member : Member sent (own_live own log)
  pub to_is : sent.to ≡ to
  pub number_is : sent.number ≡ n

-- the same, where it is read
pub record ReadTarget (own : Own) (log : List Deed) (to : Life) (n : ℕ) : Type 0 where
  pub target : Target own log to n
  pub read : is_read target.sent.kind ≡ true

-- the live send of the message of that number, which goes to that life and waits for its receipt
pub record Confirmed (own : Own) (log : List Deed) (to : Life) (n : ℕ) : Type 0 where
  pub sent : Sent
  pub member : Member sent (own_live own log)
  pub to_is : sent.to ≡ to
  pub number_is : sent.message.no.0 ≡ n
  pub confirm : sent.message.confirm ≡ true
  pub unread : is_read sent.kind ≡ false

-- the live send of a number
target_is : (ports : ℕ) (own : Own) (port_log log : List Deed) (to : Life) (n : ℕ) (t : Sent) → live_send (life_scene ports own port_log log) to n ≡ Some t
    → (x : Target own log to n) × (x.sent ≡ t)
unfolding live_send
target_is ports own port_log log to n t h =
    let f = find_member (λ (x : Sent). same_life x.to to && x.number == n) t (own_live own log) h in
    let p = and_parts (same_life t.to to) (t.number == n) f.1 in
    (record { sent = t; member = f.0; to_is = same_life-true t.to to p.0; number_is = eqb-true t.number n p.1 }, refl)

-- a send that takes grants is there
some_long : (o : Option Sent) → is_long_send o ≡ true → (t : Sent) × (o ≡ Some t)
unfolding is_long_send
some_long None h = cc
some_long (Some t) h = (t, refl)

-- a send that may be asked is there
some_asked : (s : Scene) (from : Life) (ask : ReadAsk) (o : Option Sent) → is_good_ask s from ask o ≡ true → (t : Sent) × (o ≡ Some t)
unfolding is_good_ask
some_asked s from ask None h = cc
some_asked s from ask (Some t) h = (t, refl)

-- a send that is read is there
some_read : (o : Option Sent) → is_read_send o ≡ true → (t : Sent) × (o ≡ Some t) × (is_read t.kind ≡ true)
unfolding is_read_send
some_read None h = cc
some_read (Some t) h = (t, refl, h)

-- a send that a receipt completes is there
some_confirmed : (o : Option Sent) → is_confirmed_send o ≡ true → (t : Sent) × (o ≡ Some t) × (t.message.confirm ≡ true) × (is_read t.kind ≡ false)
unfolding is_confirmed_send
some_confirmed None h = cc
some_confirmed (Some t) h =
    let p = and_parts t.message.confirm (not (is_read t.kind)) h in
    (t, refl, p.0, not-true (is_read t.kind) p.1)

-- a grant that is taken names a live send to its life
pub grant_target : (own : Own) (log : List Deed) (from : Life) (send recv : OpId) (size : ℕ) (connid : Connid)
    → LifeStep own log (Took from (Spelled (Cts send recv size connid))) → Target own log from send.0
unfolding is_no_op
grant_target own log from send recv size connid step =
    let s = life_scene step.0 own step.1 log in
    let i = taken_parts s from own.life.connid (Spelled (Cts send recv size connid)) step.2 in
    let t = some_long (live_send s from send.0) (not-false (is_long_send (live_send s from send.0)) i.has_op) in
    (target_is step.0 own step.1 log from send.0 t.0 t.1).0

-- so does an ask
pub ask_target : (own : Own) (log : List Deed) (from : Life) (ask : ReadAsk) → LifeStep own log (Took from (Asks ask)) → Target own log from ask.send_id.0
unfolding is_bad_key
ask_target own log from ask step =
    let s = life_scene step.0 own step.1 log in
    let i = taken_parts s from own.life.connid (Asks ask) step.2 in
    let t = some_asked s from ask (live_send s from ask.send_id.0) (not-false (is_good_ask s from ask (live_send s from ask.send_id.0)) i.good_key) in
    (target_is step.0 own step.1 log from ask.send_id.0 t.0 t.1).0

-- an end names one that is read
pub end_target : (own : Own) (log : List Deed) (from : Life) (send recv : OpId) (connid : Connid)
    → LifeStep own log (Took from (Spelled (Eor send recv connid))) → ReadTarget own log from send.0
unfolding is_no_op
end_target own log from send recv connid step =
    let s = life_scene step.0 own step.1 log in
    let i = taken_parts s from own.life.connid (Spelled (Eor send recv connid)) step.2 in
    let t = some_read (live_send s from send.0) (not-false (is_read_send (live_send s from send.0)) i.has_op) in
    let x = target_is step.0 own step.1 log from send.0 t.0 t.1 in
    record { target = x.0; read = ap (λ (y : Sent). is_read y.kind) x.1 ∙ t.2 }

-- the live send of a message
message_is : (ports : ℕ) (own : Own) (port_log log : List Deed) (to : Life) (n : ℕ) (t : Sent) → live_message (life_scene ports own port_log log) to n ≡ Some t
    → Member t (own_live own log) × (t.to ≡ to) × (t.message.no.0 ≡ n)
unfolding live_message
message_is ports own port_log log to n t h =
    let f = find_member (λ (x : Sent). same_life x.to to && x.message.no.0 == n) t (own_live own log) h in
    let p = and_parts (same_life t.to to) (t.message.no.0 == n) f.1 in
    (f.0, same_life-true t.to to p.0, eqb-true t.message.no.0 n p.1)

-- a receipt names one that waits for it
pub receipt_target : (own : Own) (log : List Deed) (from : Life) (number : MsgNo) (connid : Connid)
    → LifeStep own log (Took from (Spelled (Receipt number connid))) → Confirmed own log from number.0
unfolding is_no_op
receipt_target own log from number connid step =
    let s = life_scene step.0 own step.1 log in
    let i = taken_parts s from own.life.connid (Spelled (Receipt number connid)) step.2 in
    let t = some_confirmed (live_message s from number.0) (not-false (is_confirmed_send (live_message s from number.0)) i.has_op) in
    let m = message_is step.0 own step.1 log from number.0 t.0 t.1 in
    record { sent = t.0; member = m.0; to_is = m.1; number_is = m.2; confirm = t.2; unread = t.3 }

-- a live send is one of the sends
pub live_sent : (own : Own) (log : List Deed) (s : Sent) → Member s (own_live own log) → Member s (own_sends own log)
live_sent own log s m = (live_parts own (told own log) log s m).0

-- the live send of that number is the only one
pub target_one : (own : Own) (log : List Deed) (to : Life) (n : ℕ) (t : Target own log to n) (s : Sent) → Member s (own_live own log) → s.number ≡ n → t.sent ≡ s
target_one own log to n t s m e =
    sends_one own (told own log) log t.sent s (live_sent own log t.sent t.member) (live_sent own log s m) (t.number_is ∙ sym e)

-- so is that of a message
pub message_one : (own : Own) (log : List Deed) (to : Life) (n : ℕ) (t : Confirmed own log to n) (s : Sent) → Member s (own_live own log) → s.to ≡ to → s.message.no.0 ≡ n → t.sent ≡ s
message_one own log to n t s m e f =
    message_is_one own (told own log) log t.sent s (live_sent own log t.sent t.member) (live_sent own log s m) (t.to_is ∙ sym e) (t.number_is ∙ sym f)

-- the send of that number to that life is found among all
pub target_found : (own : Own) (log : List Deed) (to : Life) (n : ℕ) (t : Target own log to n) → find (λ (s : Sent). same_life s.to to && s.number == n) (own_sends own log) ≡ Some t.sent
target_found own log to n t =
    let test : Sent → Bool = λ s. same_life s.to to && s.number == n in
    let m = live_sent own log t.sent t.member in
    let passes : test t.sent ≡ true = and_from (same_life t.sent.to to) (nat_eq t.sent.number n) (ap (λ (l : Life). same_life l to) t.to_is ∙ same_life-refl to) (eq-eqb t.sent.number n t.number_is) in
    let found = some_of (find test (own_sends own log)) (member_find test t.sent (own_sends own log) m passes) in
    let r = find_member test found.0 (own_sends own log) found.1 in
    let p = and_parts (same_life found.0.to to) (nat_eq found.0.number n) r.1 in
    found.1 ∙ ap Some (sends_one own (told own log) log found.0 t.sent r.0 m (eqb-true found.0.number n p.1 ∙ sym t.number_is))
