-- A life takes no more asks than its messages have bytes.
use Rattle.std.proofs.Common.{◌≡◌, ℕ, ◌+◌, ◌<◌, ◌≤◌, Bool, cond, List, [], ◌∷◌, length, map, refl, arith, ◌⊎◌, inl, inr, sym, ◌∙◌, ap}
use Rattle.std.proofs.lemmas.Bool.{and_from, eq-eqb}
use Rattle.std.proofs.lemmas.List.{length-append, length-map}
use Rattle.std.specs.Prelude.{◌==◌}
use Rattle.rdm_lists.specs.Lists.{Member, below}
use Rattle.rdm_num.specs.Lives.{same_life}
use Rattle.rdm_num.specs.declared.numbers.Life.{Life}
use Rattle.rdm_wire.specs.declared.ReadAsk.{ReadAsk}
use Rattle.rdm_model.specs.declared.job.Job.{Job}
use Rattle.rdm_model.specs.declared.entry.Entry.{Entry}
use Rattle.rdm_model.specs.Deeds.{Deed, Did, PushedNote, Pushed, TookNote, Took, Polled, Nothing, Spelled, Asks, Gives, Garbled, deed_count}
use Rattle.rdm_model.specs.Beginnings.{Own, Messages, own_of}
use Rattle.rdm_model.specs.Reads.{asked_by, asks_of}
use Rattle.rdm_model.specs.Sends.{Sent, sent_by, with_sent, sends}
use Rattle.rdm_model.specs.Local.{heard_by}
use Rattle.rdm_model.specs.Lawful.{life_deeds}
use Rattle.rdm_model.proofs.SameRegions.{Agree, agree_before}
use Rattle.rdm_model.proofs.Grows.{agree_grows}
use Rattle.rdm_law.proofs.Lives.Lives.{LifeLocal}
use Rattle.rdm_law.proofs.Accounts.Wired.{Played, own_life}
use Rattle.rdm_law.proofs.Accounts.Known.{account, sends_of}
use Rattle.rdm_law.proofs.Accounts.Chains.{ask_known}
use Rattle.rdm_law.proofs.Classes.ClassAsks.{asks_took}
use Rattle.rdm_law.proofs.Classes.ClassEnds.{asks_all_apart, ask_in}
use Rattle.rdm_law.proofs.Replies.ReplyDues.{asks_apart}
use Rattle.rdm_law.proofs.Classes.Cover.{AllApart}
use Rattle.rdm_law.proofs.Bound.Pigeons.{AreDistinct, distinct_fit}
use Rattle.rdm_law.proofs.Bound.Totals.{asks_taken_by}
use Rattle.rdm_law.proofs.Bound.PushCounts.{total_more}
use Rattle.rdm_law.proofs.Settled.OwedBack.{given_owed, agree_trans}
use Rattle.rdm_law.proofs.Settled.ReadLands.{agree_refl}
use Rattle.rdm_lists.proofs.Members.{member-map}
use Rattle.rdm_lists.proofs.Below.{length-below, below_member}
use Rattle.rdm_lists.proofs.Sums.{total, total-append, total_le}
use Rattle.rdm_num.proofs.Lives.{same_life-refl}

-- asks that are apart and have a byte begin at places of their own
starts_distinct : (asks : List ReadAsk) → AllApart asks → ((a : ReadAsk) → Member a asks → 0 < a.length) → AreDistinct (map (λ (a : ReadAsk). a.at) asks)
starts_distinct [] apart some = tt
starts_distinct (a ∷ as') apart some = (
  λ m.
      let b = member-map (λ (x : ReadAsk). x.at) a.at as' m in
      let e = b.2 in
      let s = some a (inl refl) in
      let t = some b.0 (inr b.1) in
      apart.1 b.0 b.1 (a.at, omega arith, omega arith, omega arith, omega arith),
  starts_distinct as' apart.0 (λ x m. some x (inr m)),
)

-- asks that are apart, have a byte and lie in a message are no more than its bytes
apart_count : (asks : List ReadAsk) (n : ℕ) → AllApart asks → ((a : ReadAsk) → Member a asks → 0 < a.length) → ((a : ReadAsk) → Member a asks → a.at < n) → length asks ≤ n
apart_count asks n apart some low =
    let starts = map (λ (a : ReadAsk). a.at) asks in
    let fit = distinct_fit starts (below n) (starts_distinct asks apart some) (λ x m. let b = member-map (λ (a : ReadAsk). a.at) x asks m in let l = low b.0 b.1 in let e = b.2 in below_member n x (omega arith)) in
    let l = length-map asks (λ (a : ReadAsk). a.at) in
    let c = length-below n in
    omega arith

-- a life takes no more asks for a send than its message has bytes
send_asks : (job : Job) (history : List Entry) (l : Life) (s : Sent) → Played job history → Member s (sends_of job history l)
    → length (asks_of (life_deeds job history l) s.to s.number) ≤ length s.message.bytes
send_asks job history l s played m =
    let log = life_deeds job history l in
    let asks = asks_of log s.to s.number in
    let parts : (a : ReadAsk) → Member a asks → (0 < a.length) × (a.at < length s.message.bytes) = λ a h.
    let t = asks_took log s.to s.number a h in
    let k = ask_known job history s.to l s a played m (sym t.1) t.0 in
    let r = ask_in job history s.to l s a played m k in
    let x = r.1 in
    let y = r.2 in
    (y, omega arith) in
    apart_count asks (length s.message.bytes) (asks_all_apart log s.to s.number (asks_apart (own_of job l) log (own_life job history played l)))
    (λ a h. (parts a h).0) (λ a h. (parts a h).1)

-- an ask counts for its send
asked_here : (from : Life) (a : ReadAsk) (n : ℕ) → n ≡ a.send_id.0 → length (asked_by from n (Took from (Asks a))) ≡ 1
unfolding asked_by
asked_here from a n e = ap (λ (b : Bool). length (cond b (a ∷ []) [])) (and_from (same_life from from) (a.send_id.0 == n) (same_life-refl from) (eq-eqb a.send_id.0 n (sym e)))

-- a deed adds its ask
asks_step : (d : Deed) (before : List Deed) (to : Life) (n : ℕ) → length (asks_of (d ∷ before) to n) ≡ length (asks_of before to n) + length (asked_by to n d)
unfolding asks_of
asks_step d before to n = length-append (asks_of before to n) (asked_by to n d)

-- a deed takes an ask or none
ask_or : (d : Deed) → (asks_taken_by d ≡ 0) ⊎ ((from : Life) × (a : ReadAsk) × (d ≡ Took from (Asks a)))
unfolding asks_taken_by
ask_or (Took from (Asks ask)) = inr (from, ask, refl)
ask_or (Took from (Spelled p)) = inl refl
ask_or (Took from (Gives g)) = inl refl
ask_or (Took from Garbled) = inl refl
ask_or (Did instr) = inl refl
ask_or PushedNote = inl refl
ask_or Pushed = inl refl
ask_or (TookNote from note) = inl refl
ask_or Polled = inl refl
ask_or Nothing = inl refl

-- an ask counts once
ask_one : (d : Deed) (from : Life) (a : ReadAsk) → d ≡ Took from (Asks a) → asks_taken_by d ≡ 1
unfolding asks_taken_by
ask_one d from a e = ap asks_taken_by e

-- how many asks these sends had
abbrev ask_total : List Deed → List Sent → ℕ
ask_total log ss = total (λ (s : Sent). length (asks_of log s.to s.number)) ss

-- more sends have a greater sum
total_wider : (own : Own) (ms : Messages) (d : Deed) (before : List Deed) (f : Sent → ℕ) → total f (sends own ms before) ≤ total f (sends own ms (d ∷ before))
unfolding sends with_sent
total_wider own ms d before f = let e = total-append f (sends own ms before) (sent_by own ms before (sends own ms before) d) in omega arith

-- each ask that was taken is of a send
asks_by : (own : Own) (ms : Messages) (log : List Deed) → LifeLocal own log → Agree own.limits.first (heard_by own.limits.first log) ms log
    → deed_count asks_taken_by log ≤ ask_total log (sends own ms log)
unfolding deed_count
asks_by own ms [] local g = omega arith
asks_by own ms (d ∷ before) local g =
    let earlier = agree_trans own.limits.first (heard_by own.limits.first before) (heard_by own.limits.first (d ∷ before)) ms before (agree_grows own.limits.first d before) (agree_before own.limits.first (heard_by own.limits.first (d ∷ before)) ms d before g) in
    let old = asks_by own ms before local.0 earlier in
    let wider = total_wider own ms d before (λ (s : Sent). length (asks_of before s.to s.number)) in
    elim (ask_or d) [
      | inl none ↦ (
          let rises = total_le (λ (s : Sent). length (asks_of before s.to s.number)) (λ (s : Sent). length (asks_of (d ∷ before) s.to s.number)) (sends own ms (d ∷ before))
          (λ s m. let e = asks_step d before s.to s.number in omega arith) in
          omega arith)
      | inr one ↦ (
          let own_ask = given_owed own ms (d ∷ before) one.0 one.1 local g (inl one.2) in
          let t = own_ask.sent in
          let here : length (asked_by t.to t.number d) ≡ 1 =
          ap (λ (x : Deed). length (asked_by t.to t.number x)) one.2 ∙ ap (λ (l : Life). length (asked_by l t.number (Took one.0 (Asks one.1)))) own_ask.to_is ∙ asked_here one.0 one.1 t.number own_ask.number_is in
          let step = asks_step d before t.to t.number in
          let more = total_more (λ (s : Sent). length (asks_of before s.to s.number)) (λ (s : Sent). length (asks_of (d ∷ before) s.to s.number)) t (sends own ms (d ∷ before))
          (λ s. let e = asks_step d before s.to s.number in omega arith) (omega arith) own_ask.member in
          let is = ask_one d one.0 one.1 one.2 in
          omega arith)
    ]

-- a life takes no more asks than its messages have bytes
pub asks_counted : (job : Job) (history : List Entry) (l : Life) → Played job history
    → deed_count asks_taken_by (life_deeds job history l) ≤ total (λ (s : Sent). length s.message.bytes) (sends_of job history l)
asks_counted job history l played =
    let own = own_of job l in
    let log = life_deeds job history l in
    let a = asks_by own (account job history l) log (own_life job history played l) (agree_refl own.limits.first (account job history l) log) in
    let b = total_le (λ (s : Sent). length (asks_of log s.to s.number)) (λ (s : Sent). length s.message.bytes) (sends_of job history l) (λ s m. send_asks job history l s played m) in
    omega arith
