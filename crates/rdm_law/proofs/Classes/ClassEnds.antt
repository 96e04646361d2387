-- An end that arrives is of a live read send, all of whose bytes were asked for and given: neither NoOp nor Mismatch.
use Rattle.std.proofs.Common.{◌≡◌, ℕ, ◌+◌, ◌-◌, ◌<◌, ◌≤◌, min, Bool, true, false, cond, List, [], ◌∷◌, ◌++◌, length, take, drop, Option, Some, None, refl, arith, ◌⊎◌, inl, inr, sym, ◌∙◌, ap, subst, length-take, length-drop}
use Rattle.std.specs.Prelude.{not, ◌&&◌, ◌==◌, nat_lt, nat_le, if◌then◌else◌}
use Rattle.std.specs.List.{list_any}
use Rattle.std.proofs.lemmas.Bool.{and_parts, eqb-true, eq-eqb, false_from_ne_true}
use Rattle.std.proofs.lemmas.List.{append-nil}
use Rattle.rdm_lists.specs.Lists.{Member}
use Rattle.rdm_num.specs.Lives.{same_life, op_id}
use Rattle.rdm_num.specs.Pieces.{Piece}
use Rattle.rdm_num.specs.declared.numbers.Life.{Life}
use Rattle.rdm_num.specs.declared.numbers.OpId.{OpId}
use Rattle.rdm_num.specs.declared.numbers.Connid.{Connid}
use Rattle.rdm_num.specs.declared.limits.EpLimits.{EpLimits}
use Rattle.rdm_pkt.specs.declared.Packet.TheVariants.{Eor}
use Rattle.rdm_pkt.specs.declared.Kind.{Kind}
use Rattle.rdm_pkt.specs.declared.Kind.TheVariants.{Eager, Medium, LongCts, LongRead, Runt}
use Rattle.rdm_pkt.specs.Choice.{choose, eager_room, both_have, read_feature, runt_feature}
use Rattle.rdm_match.specs.Matcher.{Pair}
use Rattle.rdm_wire.specs.declared.Datagram.{Datagram}
use Rattle.rdm_wire.specs.declared.ReadAsk.{ReadAsk}
use Rattle.rdm_wire.specs.declared.ReadData.{ReadData}
use Rattle.rdm_model.specs.declared.job.Job.{Job}
use Rattle.rdm_model.specs.declared.entry.Entry.{Entry}
use Rattle.rdm_model.specs.Deeds.{Deed, Took, Spelled, Asks, Gives}
use Rattle.rdm_model.specs.Beginnings.{Own, Messages, own_of}
use Rattle.rdm_model.specs.Currents.{is_forgotten}
use Rattle.rdm_model.specs.Reads.{asks_of, asked_by, asked_bytes}
use Rattle.rdm_model.specs.Replies.{Reply}
use Rattle.rdm_model.specs.Scenes.{Scene}
use Rattle.rdm_model.specs.Sends.{Sent}
use Rattle.rdm_model.specs.Dues.{progress, is_read, ends_send}
use Rattle.rdm_model.specs.Targets.{live_send, read_from, is_read_send}
use Rattle.rdm_model.specs.ClassFacts.{is_number, is_early_end, class_facts}
use Rattle.rdm_model.specs.Classes.{is_mismatch, is_no_op}
use Rattle.rdm_model.specs.Lawful.{life_deeds}
use Rattle.rdm_model.proofs.Numbers.{made, sent_is_of}
use Rattle.rdm_law.proofs.Replies.Queue.{owed}
use Rattle.rdm_law.proofs.Replies.Answered.{waits_owed}
use Rattle.rdm_law.proofs.Replies.Owed.{OwedIn, owed_in}
use Rattle.rdm_law.proofs.Replies.Causes.{owed_given}
use Rattle.rdm_law.proofs.Replies.Clashes.{Clash}
use Rattle.rdm_law.proofs.Replies.OwedOnce.{AsksApart}
use Rattle.rdm_law.proofs.Replies.ReplyDues.{reply_once, waits_once, asks_apart, took_asks}
use Rattle.rdm_law.proofs.Ends.LiveSends.{live_send_is}
use Rattle.rdm_law.proofs.Accounts.Wired.{Played, own_life}
use Rattle.rdm_law.proofs.Accounts.Known.{account, sends_of}
use Rattle.rdm_law.proofs.Accounts.Named.{went_reply}
use Rattle.rdm_law.proofs.Accounts.Chains.{AskKnown, ask_known}
use Rattle.rdm_law.proofs.Classes.Cover.{AllApart, apart_push, covered_bytes}
use Rattle.rdm_law.proofs.Classes.Asked.{filled_asked, filled_given}
use Rattle.rdm_law.proofs.Classes.EndsKnown.{EndSend, end_went, end_taken}
use Rattle.rdm_law.proofs.Classes.Fresh.{taken_before}
use Rattle.rdm_law.proofs.Accounts.Arrives.{Arrives, arriving_scene}
use Rattle.rdm_law.proofs.Classes.ClassAsks.{message_one, asks_took, asked_by_took}
use Rattle.rdm_law.proofs.Classes.ClassKeys.{sent_size, sent_one, not_forgotten_here, read_over}
use Rattle.rdm_lists.proofs.Members.{list_any_member}
use Rattle.rdm_lists.proofs.Places.{slice_get-member}
use Rattle.rdm_num.proofs.Lives.{same_life-true}

-- the asks of a send that a life took share no byte
asked_by_cases : (peer : Life) (send : ℕ) (d : Deed) → (asked_by peer send d ≡ []) ⊎ ((a : ReadAsk) × (asked_by peer send d ≡ a ∷ []))
unfolding asked_by
asked_by_cases peer send (Took from (Asks ask)) =
    elim (same_life from peer && ask.send_id.0 == send) as (λ t. (cond t (ask ∷ []) [] ≡ []) ⊎ ((a : ReadAsk) × (cond t (ask ∷ []) [] ≡ a ∷ []))) [
      | true ↦ inr (ask, refl)
      | false ↦ inl refl
    ]
asked_by_cases peer send _ = inl refl

-- no two asks of a send share a byte
pub asks_all_apart : (log : List Deed) (peer : Life) (send : ℕ) → AsksApart log → AllApart (asks_of log peer send)
unfolding asks_of
asks_all_apart [] peer send a = tt
asks_all_apart (d ∷ before) peer send a =
    let earlier = asks_all_apart before peer send a.0 in
    elim (asked_by_cases peer send d) [
      | inl none ↦ subst (λ (xs : List ReadAsk). AllApart (asks_of before peer send ++ xs)) (sym none) (subst AllApart (sym (append-nil (asks_of before peer send))) earlier)
      | inr one ↦
          let b = one.0 in
          let took = asked_by_took peer send d b (subst (λ (xs : List ReadAsk). Member b xs) (sym one.1) (inl refl)) in
          subst (λ (xs : List ReadAsk). AllApart (asks_of before peer send ++ xs)) (sym one.1)
          (apart_push (asks_of before peer send) b earlier
          (λ x m share. let t = asks_took before peer send x m in a.1 peer x b took.0 t.0 (t.1 ∙ sym took.1) share))
    ]

-- what is read of a message begins within it
pub read_within : (n : ℕ) (tagged cq_data raw : Bool) (own : ℕ) (known : Option ℕ) (limits : EpLimits) → read_from (choose n tagged cq_data raw own known limits) ≤ n
unfolding choose read_from
read_within n tagged cq_data raw own known limits =
    elim (nat_le n (eager_room tagged cq_data raw limits)) as (λ a. read_from (if a then Eager
    else if both_have read_feature own known && nat_le limits.read_limit n
    then (if nat_lt 0 limits.runt && both_have runt_feature own known then Runt (min limits.runt (n - 1)) else LongRead)
    else if nat_le n limits.medium then Medium
    else LongCts) ≤ n) [
      | true ↦ omega arith
      | false ↦ elim (both_have read_feature own known && nat_le limits.read_limit n) as (λ b. read_from (if b
          then (if nat_lt 0 limits.runt && both_have runt_feature own known then Runt (min limits.runt (n - 1)) else LongRead)
          else if nat_le n limits.medium then Medium
          else LongCts) ≤ n) [
            | true ↦ elim (nat_lt 0 limits.runt && both_have runt_feature own known) as (λ c. read_from (if c then Runt (min limits.runt (n - 1)) else LongRead) ≤ n) [
              | true ↦ omega arith
              | false ↦ omega arith
            ]
            | false ↦ elim (nat_le n limits.medium) as (λ c. read_from (if c then Medium else LongCts) ≤ n) [ true ↦ omega arith | false ↦ omega arith ]
          ]
    ]

-- what is read of a send begins within its message
pub sent_within : (job : Job) (history : List Entry) (j : Life) (s : Sent) → Member s (sends_of job history j) → read_from s.kind ≤ length s.message.bytes
sent_within job history j s m =
    let own = own_of job j in
    let is = sent_is_of own (account job history j) (life_deeds job history j) s (made own (account job history j) (life_deeds job history j) s m) in
    subst (λ (k : Kind). read_from k ≤ length s.message.bytes) (sym is.4) (read_within (length s.message.bytes) _ _ _ _ _ _)

-- an ask of a send lies in what is read of its message
pub ask_in : (job : Job) (history : List Entry) (i j : Life) (s : Sent) (a : ReadAsk) → Played job history → Member s (sends_of job history j) → AskKnown job history i j s a
    → (read_from s.kind ≤ a.at) × (a.at + a.length ≤ length s.message.bytes) × (0 < a.length)
ask_in job history i j s a played m k =
    let e = sent_size job history j s played m in
    let to = k.ask_of.to in
    (k.ask_of.from, omega arith, k.ask_of.has_byte)

-- where a receive is filled by a message that is read, all that is to be read of it was asked for
all_asked : (job : Job) (history : List Entry) (i j : Life) (send recv : ℕ) → Played job history → (e : EndSend job history i j send recv)
    → asked_bytes (asks_of (life_deeds job history j) i e.known.sent.number) + read_from e.known.sent.kind ≡ length e.known.sent.message.bytes
unfolding asked_bytes
all_asked job history i j send recv played e =
    let s = e.known.sent in
    let log = life_deeds job history j in
    let asks = asks_of log i s.number in
    let le = sent_within job history j s e.sent_member in
    let apart = asks_all_apart log i s.number (asks_apart (own_of job j) log (own_life job history played j)) in
    let sum = covered_bytes asks (read_from s.kind) (length s.message.bytes - read_from s.kind) apart
    (λ a m.
    let t = asks_took log i s.number a m in
    let k = ask_known job history i j s a played e.sent_member (sym t.1) t.0 in
    let r = ask_in job history i j s a played e.sent_member k in
    let end' = r.1 in
    (r.0, omega arith))
    (λ x low high.
    let b = filled_asked job history i j e.pair s x played e.life_is e.known refl e.head_is e.read e.filled low (omega arith) in
    (b.ask, took_asks i b.ask s.number log (sym b.names) b.took, b.from, b.to)) in
    omega arith

-- only bytes are given
owed_gives : (own : Own) (ms : Messages) (log : List Deed) (r : Reply) (n : ℕ) → OwedIn own ms r log → r.gives ≡ Some n → (g : ReadData) × (r.item ≡ Gives g)
owed_gives own ms [] r n h is = elim h [ ]
owed_gives own ms (d ∷ before) r n (inr h) is = owed_gives own ms before r n h is
owed_gives own ms (d ∷ before) r n (inl (inl x)) is = (let e = x.gives_is in cc)
owed_gives own ms (d ∷ before) r n (inl (inr (inl x))) is = (let e = x.gives_is in cc)
owed_gives own ms (d ∷ before) r n (inl (inr (inr (inl x)))) is = (let e = x.gives_is in cc)
owed_gives own ms (d ∷ before) r n (inl (inr (inr (inr (inl x))))) is = (let e = x.gives_is in cc)
owed_gives own ms (d ∷ before) r n (inl (inr (inr (inr (inr (inl x)))))) is = (let e = x.gives_is in cc)
owed_gives own ms (d ∷ before) r n (inl (inr (inr (inr (inr (inr x)))))) is =
    (record { recv_id = x.ask.recv_id; at = x.ask.at; bytes = take x.ask.length (drop x.ask.at x.sent.message.bytes) }, x.is)

-- a number that is that one
number_some : (n : ℕ) (o : Option ℕ) → is_number n o ≡ true → o ≡ Some n
unfolding is_number
number_some n None h = cc
number_some n (Some m) h = ap Some (eqb-true m n h)

-- where a receive is filled by a message that is read, no bytes of it wait to be given
none_waits : (job : Job) (history : List Entry) (i j : Life) (send recv : ℕ) → Played job history → (e : EndSend job history i j send recv) → (r : Reply)
    → Member r (progress (own_of job j) (account job history j) (life_deeds job history j)).replies → r.to ≡ i → r.gives ≡ Some e.known.sent.number → ⊥
none_waits job history i j send recv played e r m to gives =
    let own = own_of job j in
    let log = life_deeds job history j in
    let ms = account job history j in
    let s = e.known.sent in
    let w = waits_owed own ms log r m in
    let o = owed_in own ms log r (slice_get-member (owed own ms log) w.0.place r w.3) in
    let g = owed_gives own ms log r s.number o gives in
    let of = owed_given own ms log r g.0 o g.1 in
    let number : of.sent.number ≡ s.number = (let x = of.gives_is in cc) in
    let same : of.sent ≡ s = sent_one job history j of.sent s of.member e.sent_member number in
    let took = subst (λ (l : Life). Member (Took l (Asks of.ask)) log) to of.took in
    let k = ask_known job history i j s of.ask played e.sent_member (sym number ∙ of.names) took in
    let range = ask_in job history i j s of.ask played e.sent_member k in
    let from = range.0 in
    let end' = range.1 in
    let some = range.2 in
    let at = filled_given job history i j e.pair s of.ask.at played e.life_is e.known refl e.head_is e.read e.filled from (omega arith) in
    let went = at.given.went in
    let ours : g.0.at ≡ of.ask.at = ap (λ (y : ReadData). y.at) of.is in
    let len : length g.0.bytes ≡ length (take of.ask.length (drop of.ask.at s.message.bytes)) =
    ap (λ (y : ReadData). length y.bytes) of.is ∙ ap (λ (y : Sent). length (take of.ask.length (drop of.ask.at y.message.bytes))) same in
    let l1 = length-take of.ask.length (drop of.ask.at s.message.bytes) in
    let l2 = length-drop of.ask.at s.message.bytes in
    let theirs : at.piece.offset ≡ at.given.data'.at = ap (λ (y : Piece). y.offset) at.given.piece_is in
    let their_len : length at.piece.bytes ≡ length at.given.data'.bytes = ap (λ (y : Piece). length y.bytes) at.given.piece_is in
    let low = at.from in
    let high = at.to in
    let clash : Clash r went.reply =
    inr (inr (inr (inl (record {
      to_is = to ∙ sym went.to_is;
      gives_is = gives ∙ ap (λ (y : Sent). Some y.number) (sym at.given.sent_is) ∙ sym went.of.gives_is;
      data' = g.0;
      is = g.1;
      data'' = at.given.data';
      is' = went.item_is;
      share = (of.ask.at, omega arith, omega arith, omega arith, omega arith);
    })))) in
    waits_once own r went.reply at.due' log (own_life job history played j) m went.was_due clash

-- an end that arrives is the first of its send
end_new : (job : Job) (history : List Entry) (j i : Life) (send recv : OpId) (connid : Connid) (d : Datagram) → Arrives job history j i (Spelled (Eor send recv connid)) d
    → (e : EndSend job history i j send.0 recv.0) → list_any (ends_send i e.known.sent.number) (life_deeds job history j) ≡ false
end_new job history j i send recv connid d h e =
    false_from_ne_true (list_any (ends_send i e.known.sent.number) (life_deeds job history j)) (λ t.
    let w = end_taken job history j i e.known.sent.number h.played t in
    let same : w.of.known.sent ≡ e.known.sent = sent_one job history j w.of.known.sent e.known.sent w.of.sent_member e.sent_member w.of.number_is in
    let n : w.of.pair.message.no.0 ≡ e.pair.message.no.0 = sym w.of.known.number_is ∙ ap (λ (x : Sent). x.message.no.0) same ∙ e.known.number_is in
    let p = message_one job history i w.of.pair e.pair w.of.member e.member (w.of.life_is ∙ sym e.life_is) n in
    let x = went_reply job history j i (Eor (op_id e.known.sent.number) w.recv w.connid) w.taken.datagram w.taken.taken (λ z. z) in
    let y = went_reply job history j i (Eor send recv connid) d h.taken (λ z. z) in
    let clash : Clash x.reply y.reply =
    inr (inr (inl (record {
      send = op_id e.known.sent.number;
      recv = w.recv;
      connid = w.connid;
      is = x.is;
      send' = send;
      recv' = recv;
      connid' = connid;
      is' = y.is;
      recv_is = sym w.of.recv_is ∙ ap (λ (q : Pair). q.recv.id.0) p ∙ e.recv_is;
    }))) in
    let k = reply_once (own_of job i) x.reply y.reply w.taken.taken.place h.taken.place (life_deeds job history i) (own_life job history h.played i) x.was_due y.was_due clash in
    taken_before job history j i (Spelled (Eor send recv connid)) (Spelled (Eor (op_id e.known.sent.number) w.recv w.connid)) d h w.taken k)

-- the send that an arriving end names is live
end_live : (job : Job) (history : List Entry) (j i : Life) (send recv : OpId) (connid : Connid) (d : Datagram) (ports : ℕ) (port_log : List Deed)
    → (h : Arrives job history j i (Spelled (Eor send recv connid)) d) → (e : EndSend job history i j send.0 recv.0)
    → live_send (arriving_scene job history j ports port_log) i send.0 ≡ Some e.known.sent
end_live job history j i send recv connid d ports port_log h e =
    let log = life_deeds job history j in
    let s = e.known.sent in
    let f = subst (λ (x : Life). is_forgotten log x ≡ false) (sym e.known.to_is) (not_forgotten_here job history j i (Spelled (Eor send recv connid)) d h) in
    let n = subst (λ (x : Life). list_any (ends_send x s.number) log ≡ false) (sym e.known.to_is) (end_new job history j i send recv connid d h e) in
    live_send_is (arriving_scene job history j ports port_log) s i send.0 e.sent_member e.known.to_is e.number_is
    (read_over log ((progress (own_of job j) (account job history j) log).packets s.number) s f e.read n)

-- a read send
read_send : (t : Sent) → is_read t.kind ≡ true → is_read_send (Some t) ≡ true
unfolding is_read_send
read_send t h = h

-- an end that arrives ends a live read send
pub end_has_op : (job : Job) (history : List Entry) (j i : Life) (send recv : OpId) (connid : Connid) (d : Datagram) (ports : ℕ) (port_log : List Deed)
    → Arrives job history j i (Spelled (Eor send recv connid)) d → is_no_op (class_facts (arriving_scene job history j ports port_log)) i (Spelled (Eor send recv connid)) ≡ false
unfolding is_no_op
end_has_op job history j i send recv connid d ports port_log h =
    let e = end_went job history j i send recv connid d h.played h.taken in
    ap (λ o. not (is_read_send o)) (end_live job history j i send recv connid d ports port_log h e) ∙ ap not (read_send e.known.sent e.read)

-- an end is not early where all was asked for and nothing waits to be given
end_in_time : (s : Scene) (t : Sent) → asked_bytes (asks_of s.log t.to t.number) + read_from t.kind ≡ length t.message.bytes
    → ((r : Reply) → Member r (progress s.own s.ms s.log).replies → r.to ≡ t.to → r.gives ≡ Some t.number → ⊥) → is_early_end s (Some t) ≡ false
unfolding is_early_end
end_in_time s t all none =
    let a = eq-eqb (asked_bytes (asks_of s.log t.to t.number) + read_from t.kind) (length t.message.bytes) all in
    let test : Reply → Bool = λ r. same_life r.to t.to && is_number t.number r.gives in
    let b : list_any test (progress s.own s.ms s.log).replies ≡ false =
    false_from_ne_true (list_any test (progress s.own s.ms s.log).replies) (λ h.
    let r = list_any_member test (progress s.own s.ms s.log).replies h in
    let p = and_parts (same_life r.0.to t.to) (is_number t.number r.0.gives) r.2 in
    none r.0 r.1 (same_life-true r.0.to t.to p.0) (number_some t.number r.0.gives p.1)) in
    rw (a, b) refl

-- an end that arrives comes after all was asked for and given
pub end_agrees : (job : Job) (history : List Entry) (j i : Life) (send recv : OpId) (connid : Connid) (d : Datagram) (ports : ℕ) (port_log : List Deed)
    → Arrives job history j i (Spelled (Eor send recv connid)) d → is_mismatch (class_facts (arriving_scene job history j ports port_log)) i (Spelled (Eor send recv connid)) ≡ false
unfolding is_mismatch
end_agrees job history j i send recv connid d ports port_log h =
    let e = end_went job history j i send recv connid d h.played h.taken in
    let s = e.known.sent in
    let here = arriving_scene job history j ports port_log in
    let all = subst (λ (x : Life). asked_bytes (asks_of (life_deeds job history j) x s.number) + read_from s.kind ≡ length s.message.bytes) (sym e.known.to_is) (all_asked job history i j send.0 recv.0 h.played e) in
    ap (λ o. is_early_end here o) (end_live job history j i send recv connid d ports port_log h e)
    ∙ end_in_time here s all (λ r m to gives. none_waits job history i j send.0 recv.0 h.played e r m (to ∙ e.known.to_is) gives)
