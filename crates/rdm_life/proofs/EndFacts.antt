-- Whether an end comes too early, as its send is kept.
use Rattle.std.proofs.Common.{◌≡◌, ℕ, ◌+◌, ◌≤◌, Bool, true, false, cond, not, ◌&&◌, ◌||◌, nat_lt, nat_le, leb-true, lt-ltb, List, [], ◌∷◌, length, filter, Option, Some, None, refl, arith, inl, inr, sym, ◌∙◌, ap, subst}
use Rattle.std.specs.Prelude.{◌==◌, option_map, find}
use Rattle.std.specs.List.{list_any}
use Rattle.std.proofs.lemmas.Bool.{and_parts, eqb-true, not-false}
use Rattle.rdm_lists.specs.Lists.{Member, each_below}
use Rattle.rdm_lists.proofs.Members.{member-append_cases, find_member}
use Rattle.rdm_num.specs.Lives.{same_life}
use Rattle.rdm_num.specs.declared.numbers.Life.{Life}
use Rattle.rdm_num.specs.declared.lists.IovEntry.{IovEntry}
use Rattle.rdm_num.proofs.Lives.{same_life-true}
use Rattle.rdm_pkt.specs.declared.Kind.{Kind}
use Rattle.rdm_wire.specs.declared.ReadAsk.{ReadAsk}
use Rattle.rdm_model.specs.Beginnings.{Own}
use Rattle.rdm_model.specs.ClassFacts.{is_number, is_early_end}
use Rattle.rdm_model.specs.Classes.{is_bad_key}
use Rattle.rdm_model.specs.Deeds.{Deed, Took, Asks}
use Rattle.rdm_model.specs.Dues.{live_sends, progress}
use Rattle.rdm_model.specs.Reads.{asks_of, asked_by, asked_bytes}
use Rattle.rdm_model.specs.Replies.{Reply}
use Rattle.rdm_model.specs.Scenes.{Scene}
use Rattle.rdm_model.specs.Sends.{Sent}
use Rattle.rdm_model.specs.Targets.{live_send, is_good_ask, read_from, is_in_entry, is_in_iov}
use Rattle.rdm_model.proofs.Numbers.{sends_one, made, sent_is_of}
use Rattle.rdm_law.proofs.Lives.Lives.{life_scene, LifeStep, LifeLocal}
use Rattle.rdm_law.proofs.Accounts.WasDue.{own_sends}
use Rattle.rdm_law.proofs.Classes.Classed.{taken_parts}
use Rattle.rdm_law.proofs.Classes.ClassEnds.{asks_all_apart, read_within}
use Rattle.rdm_law.proofs.Ends.LiveSends.{live_parts}
use Rattle.rdm_law.proofs.Ends.SentSizes.{sent_sized}
use Rattle.rdm_law.proofs.Fits.AnswersFit.{ranges_fit}
use Rattle.rdm_law.proofs.Replies.Asks.{iov_bytes}
use Rattle.rdm_law.proofs.Replies.ReplyDues.{asks_apart}
use Rattle.rdm_law.proofs.Windows.Allowed.{own_later}
use Rattle.rdm_life.specs.Kept.{Kept}
use Rattle.rdm_life.specs.Keeps.{told, kept_send, KeepsSends}
use Rattle.rdm_life.specs.Facts.{send_to_life, send_passes, ends_early}
use Rattle.rdm_life.specs.Sending.{is_asked}
use Rattle.rdm_life.proofs.AskedPlaces.{counted_is, counted_places}
use Rattle.rdm_life.proofs.AskFacts.{named}
use Rattle.rdm_life.proofs.SendFacts.{send_to_life_is}

-- an ask of that send that a deed took
ask_taken : (to : Life) (n : ℕ) (d : Deed) (a : ReadAsk) → Member a (asked_by to n d) → (d ≡ Took to (Asks a)) × (a.send_id.0 ≡ n)
unfolding asked_by
ask_taken to n (Took from (Asks ask)) a m =
    (elim (same_life from to && ask.send_id.0 == n) as (λ b. (same_life from to && ask.send_id.0 == n) ≡ b → Member a (cond b (ask ∷ []) []) → (Took from (Asks ask) ≡ Took to (Asks a)) × (a.send_id.0 ≡ n)) [
      | true ↦ λ is k.
          let p = and_parts (same_life from to) (ask.send_id.0 == n) is in
          let life = same_life-true from to p.0 in
          let one : ask ≡ a = elim k [ inl e ↦ e | inr none ↦ elim none [ ] ] in
          (ap (λ (l : Life). Took l (Asks ask)) life ∙ ap (λ (x : ReadAsk). Took to (Asks x)) one, ap (λ (x : ReadAsk). x.send_id.0) (sym one) ∙ eqb-true ask.send_id.0 n p.1)
      | false ↦ λ is k. elim k [ ]
    ])
    refl m
ask_taken to n d a m = elim m [ ]

-- the send that an ask was taken of, in which it lies
record AskOf (own : Own) (log : List Deed) (to : Life) (n : ℕ) (a : ReadAsk) : Type 0 where
  sent : Sent
  member : Member sent (own_sends own log)
  number_is : sent.number ≡ n
  from : read_from sent.kind ≤ a.at
  within : a.at + a.length ≤ iov_bytes sent.message.iov

-- an ask that lies in a range ends before the ranges do
in_ranges : (a : ReadAsk) (begin : ℕ) (iov : List IovEntry) → is_in_iov a begin iov ≡ true → a.at + a.length ≤ begin + iov_bytes iov
unfolding is_in_iov is_in_entry iov_bytes
in_ranges a begin [] h = cc
in_ranges a begin (e ∷ es) h =
    let rest = in_ranges a (begin + e.length) es in
    (elim (is_in_entry a begin e) as (λ b. is_in_entry a begin e ≡ b → (b || is_in_iov a (begin + e.length) es) ≡ true → a.at + a.length ≤ begin + iov_bytes (e ∷ es)) [
      | true ↦ λ here k. (let p = and_parts _ _ (and_parts _ _ (and_parts _ _ here).0).0 in let ends = leb-true (a.at + a.length) (begin + e.length) p.1 in omega arith)
      | false ↦ λ here k. (let r = rest k in omega arith)
    ]) refl h

-- a good ask lies in its send
good_in : (s : Scene) (from : Life) (a : ReadAsk) (t : Sent) → is_good_ask s from a (Some t) ≡ true → (read_from t.kind ≤ a.at) × (a.at + a.length ≤ iov_bytes t.message.iov)
unfolding is_good_ask
good_in s from a t h =
    let e = and_parts _ (is_in_iov a 0 t.message.iov) h in
    let d = and_parts _ _ e.0 in
    let c = and_parts _ (nat_le (read_from t.kind) a.at) d.0 in
    let ends = in_ranges a 0 t.message.iov e.1 in
    (leb-true (read_from t.kind) a.at c.1, omega arith)

-- a send that may be asked is there
good_there : (s : Scene) (from : Life) (a : ReadAsk) (o : Option Sent) → not (is_good_ask s from a o) ≡ false → (t : Sent) × (o ≡ Some t) × (is_good_ask s from a (Some t) ≡ true)
unfolding is_good_ask
good_there s from a None h = cc
good_there s from a (Some t) h = (t, refl, not-false _ h)

-- the live send of a number is found among the live sends
live_send_is : (s : Scene) (to : Life) (n : ℕ) → find (λ (x : Sent). same_life x.to to && x.number == n) (live_sends s.own s.ms s.log) ≡ live_send s to n
unfolding live_send
live_send_is s to n = refl

-- the newest ask lies in its send
newest_in : (own : Own) (d : Deed) (before : List Deed) (to : Life) (n : ℕ) (a : ReadAsk) → LifeLocal own (d ∷ before) → Member a (asked_by to n d) → AskOf own (d ∷ before) to n a
unfolding is_bad_key
newest_in own d before to n a local m =
    let t = ask_taken to n d a m in
    let step : LifeStep own before (Took to (Asks a)) = subst (LifeStep own before) t.0 local.1 in
    let s = life_scene step.0 own step.1 before in
    let good = (taken_parts s to own.life.connid (Asks a) step.2).good_key in
    let there = good_there s to a (live_send s to a.send_id.0) good in
    let is = named s to a.send_id.0 there.0 there.1 in
    let found = find_member (λ (x : Sent). same_life x.to to && x.number == a.send_id.0) there.0 (live_sends own s.ms before) (live_send_is s to a.send_id.0 ∙ there.1) in
    let lies = good_in s to a there.0 there.2 in
    record {
      sent = there.0;
      member = own_later own d before there.0 (live_parts own s.ms before there.0 found.0).0;
      number_is = is.1 ∙ t.1;
      from = lies.0;
      within = lies.1;
    }

-- so does each ask that was taken
ask_of : (own : Own) (log : List Deed) (to : Life) (n : ℕ) (a : ReadAsk) → LifeLocal own log → Member a (asks_of log to n) → AskOf own log to n a
unfolding asks_of
ask_of own [] to n a local m = elim m [ ]
ask_of own (d ∷ before) to n a local m =
    elim (member-append_cases a (asks_of before to n) (asked_by to n d) m) [
      | inl old ↦
          let o = ask_of own before to n a local.0 old in
          record { sent = o.sent; member = own_later own d before o.sent o.member; number_is = o.number_is; from = o.from; within = o.within }
      | inr new ↦ newest_in own d before to n a local new
    ]

-- the asks of a send lie between what comes ahead of the reads and its end
asks_within : (own : Own) (log : List Deed) (t : Sent) → LifeLocal own log → Member t (own_sends own log) → (a : ReadAsk) → Member a (asks_of log t.to t.number)
    → (read_from t.kind ≤ a.at) × (a.at + a.length ≤ length t.message.bytes)
asks_within own log t local m a k =
    let o = ask_of own log t.to t.number a local k in
    let same : o.sent ≡ t = sends_one own (told own log) log o.sent t o.member m o.number_is in
    let size = sent_sized own (told own log) log (ranges_fit own log local) t m in
    let from : read_from t.kind ≤ a.at = subst (λ (x : Sent). read_from x.kind ≤ a.at) same o.from in
    let end : a.at + a.length ≤ iov_bytes t.message.iov = subst (λ (x : Sent). a.at + a.length ≤ iov_bytes x.message.iov) same o.within in
    (from, omega arith)

-- what comes ahead of the reads is no more than the message
ahead_within : (own : Own) (log : List Deed) (t : Sent) → Member t (own_sends own log) → read_from t.kind ≤ length t.message.bytes
ahead_within own log t m =
    let is = sent_is_of own (told own log) log t (made own (told own log) log t m) in
    subst (λ (k : Kind). read_from k ≤ length t.message.bytes) (sym is.4) (read_within (length t.message.bytes) _ _ _ _ _ _)

-- all of a message was asked for exactly where the asks have as many bytes as are to be read
all_asked : (own : Own) (log : List Deed) (t : Sent) → LifeLocal own log → Member t (own_sends own log)
    → (asked_bytes (asks_of log t.to t.number) + read_from t.kind == length t.message.bytes)
    ≡ each_below (λ place. nat_lt place (read_from t.kind) || list_any (λ (a : ReadAsk). is_asked a place) (asks_of log t.to t.number)) (length t.message.bytes)
all_asked own log t local m =
    let asks = asks_of log t.to t.number in
    let test : ℕ → Bool = λ place. nat_lt place (read_from t.kind) || list_any (λ (a : ReadAsk). is_asked a place) asks in
    let apart = asks_all_apart log t.to t.number (asks_apart own log local) in
    let count = counted_places (read_from t.kind) asks (length t.message.bytes) (ahead_within own log t m) apart (asks_within own log t local m) in
    counted_is test (length t.message.bytes) (asked_bytes asks + read_from t.kind) count

-- some element passes exactly where those that pass are not none
pub some_pass : {A : Type 0} (p : A → Bool) (xs : List A) → nat_lt 0 (length (filter p xs)) ≡ list_any p xs
some_pass p [] = refl
some_pass {A} p (x ∷ xs) =
    (elim (p x) as (λ b. nat_lt 0 (length (cond b (x ∷ filter p xs) (filter p xs))) ≡ (b || list_any p xs)) [
      | true ↦ lt-ltb 0 (length (x ∷ filter p xs)) (omega arith)
      | false ↦ some_pass p xs
    ])

-- of a send that is there
early_of : (own : Own) (ports : ℕ) (port_log log : List Deed) (o : Option Sent) → LifeLocal own log → ((t : Sent) → o ≡ Some t → Member t (own_sends own log))
    → send_passes ends_early (option_map (kept_send own log) o) ≡ is_early_end (life_scene ports own port_log log) o
unfolding send_passes ends_early is_early_end kept_send
early_of own ports port_log log None local there = refl
early_of own ports port_log log (Some t) local there =
    let all = all_asked own log t local (there t refl) in
    let owes = some_pass (λ (r : Reply). same_life r.to t.to && is_number t.number r.gives) (progress own (told own log) log).replies in
    rw (all, owes)

-- whether an end comes too early
pub is_early_end_is : (own : Own) (ports : ℕ) (port_log log : List Deed) (v : Kept) (to : Life) (send : ℕ) → LifeLocal own log → KeepsSends own log v
    → send_passes ends_early (send_to_life v to send) ≡ is_early_end (life_scene ports own port_log log) (live_send (life_scene ports own port_log log) to send)
is_early_end_is own ports port_log log v to send local k =
    let s = life_scene ports own port_log log in
    ap (send_passes ends_early) (send_to_life_is own ports port_log log v to send k)
    ∙ early_of own ports port_log log (live_send s to send) local
    (λ t is. (let found = find_member (λ (x : Sent). same_life x.to to && x.number == send) t (live_sends own (told own log) log) (live_send_is s to send ∙ is) in
    (live_parts own (told own log) log t found.0).0))
