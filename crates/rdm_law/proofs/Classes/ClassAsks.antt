-- An ask that arrives is for bytes of a live send that are to be read and were not asked for: it is not BadKey.
use Rattle.std.proofs.Common.{◌≡◌, ℕ, max, Bool, true, false, cond, List, [], ◌∷◌, refl, arith, inl, inr, sym, ◌∙◌, ap, subst}
use Rattle.std.specs.Prelude.{◌&&◌, ◌==◌, nat_eq}
use Rattle.std.specs.List.{list_any}
use Rattle.std.proofs.lemmas.Bool.{and_parts, eqb-true, false_from_ne_true}
use Rattle.rdm_lists.specs.Lists.{Member}
use Rattle.rdm_num.specs.Lives.{same_life}
use Rattle.rdm_num.specs.Pieces.{overlaps}
use Rattle.rdm_num.specs.declared.numbers.Life.{Life}
use Rattle.rdm_num.specs.declared.numbers.OpId.{OpId}
use Rattle.rdm_num.specs.declared.head.Head.{Head}
use Rattle.rdm_pkt.specs.Openings.{message_head}
use Rattle.rdm_match.specs.Matcher.{Pair}
use Rattle.rdm_wire.specs.declared.Datagram.{Datagram}
use Rattle.rdm_wire.specs.declared.ReadAsk.{ReadAsk}
use Rattle.rdm_model.specs.declared.job.Job.{Job}
use Rattle.rdm_model.specs.declared.entry.Entry.{Entry}
use Rattle.rdm_model.specs.Deeds.{Deed, Took, Asks}
use Rattle.rdm_model.specs.Beginnings.{own_of}
use Rattle.rdm_model.specs.Reads.{asks_of, asked_by}
use Rattle.rdm_model.specs.Sends.{Sent}
use Rattle.rdm_model.specs.Replies.{asks_for}
use Rattle.rdm_model.specs.Lawful.{life_deeds}
use Rattle.rdm_model.proofs.Rows.{overlap_parts}
use Rattle.rdm_law.proofs.Matching.Distinct.{matching_distinct}
use Rattle.rdm_law.proofs.Replies.Asks.{AsksShare}
use Rattle.rdm_law.proofs.Replies.Owed.{shape_in, recv_in}
use Rattle.rdm_law.proofs.Replies.Causes.{owed_ask}
use Rattle.rdm_law.proofs.Replies.Clashes.{Clash}
use Rattle.rdm_law.proofs.Replies.ReplyDues.{reply_once}
use Rattle.rdm_law.proofs.Accounts.Wired.{Played, TakenDue, taken_pushed, own_life}
use Rattle.rdm_law.proofs.Accounts.Known.{account, sends_of, Known}
use Rattle.rdm_law.proofs.Accounts.Named.{pairs_of, pair_known, went_ask, ask_of, head_shape, send_number}
use Rattle.rdm_law.proofs.Accounts.Chains.{AskKnown, ask_known_at, ask_known}
use Rattle.rdm_law.proofs.Classes.Fresh.{taken_before}
use Rattle.rdm_law.proofs.Accounts.Arrives.{Arrives}
use Rattle.rdm_lists.proofs.Members.{member-append_cases, list_any_member}
use Rattle.rdm_num.proofs.Lives.{same_life-true}

-- a message is in one pair at most
pub message_one : (job : Job) (history : List Entry) (life' : Life) (p q : Pair) → Member p (pairs_of job history life') → Member q (pairs_of job history life')
    → p.message.life ≡ q.message.life → p.message.no.0 ≡ q.message.no.0 → p ≡ q
message_one job history life' p q m n e k =
    (matching_distinct (own_of job life').limits.first (account job history life').head (life_deeds job history life')).once p q m n e k

-- the send that an ask names
pub record AskSend (job : Job) (history : List Entry) (j i : Life) (a : ReadAsk) : Type 0 where
  pub sent : Sent
  pub member : Member sent (sends_of job history j)
  pub to_is : sent.to ≡ i
  pub names : sent.number ≡ a.send_id.0
  pub known : AskKnown job history i j sent a

-- an ask of a pair names the send of its message
ask_send_at : (job : Job) (history : List Entry) (j i source : Life) (a : ReadAsk) (p : Pair) → source ≡ j → Member p (pairs_of job history i) → p.message.life ≡ source
    → (k : Known job history i source p.message.no.0) → (account job history i).head p.message.life p.message.no.0 ≡ message_head job.limits k.sent.message k.sent.kind
    → Member a (asks_for (shape_in (account job history i).head p) (recv_in p)) → AskSend job history j i a
ask_send_at job history j i source a p e m l k head of =
    let shape = ap (λ (x : Head). x.shape) head ∙ head_shape job.limits k.sent.message k.sent.kind in
    let ask = ask_of job.limits k.sent.message k.sent.kind (recv_in p) a (subst (λ x. Member a (asks_for x (recv_in p))) shape of) in
    let member : Member k.sent (sends_of job history j) = subst (λ (x : Life). Member k.sent (sends_of job history x)) e k.member in
    let names : k.sent.number ≡ a.send_id.0 = sym (ap (λ (x : OpId). x.0) (ask.send_is ∙ send_number job history j k.sent member)) in
    record {
      sent = k.sent;
      member = member;
      to_is = k.to_is;
      names = names;
      known = ask_known_at job history i j source k.sent a p e member names m l k head of;
    }

-- the ask that a life pushed names a send of the other one
pub ask_send : (job : Job) (history : List Entry) (j i : Life) (a : ReadAsk) (d : Datagram) → Played job history → TakenDue job history j i (Asks a) d → AskSend job history j i a
ask_send job history j i a d played t =
    let r = went_ask job history j i a d t in
    let o = owed_ask (own_of job i) (account job history i) (life_deeds job history i) r.reply a r.owed r.is in
    let k = pair_known job history i o.pair played o.member in
    ask_send_at job history j i o.pair.message.life a o.pair (o.to_is ∙ r.to_is) o.member refl k.known k.head_is o.of

-- asks for bytes of one send are of one pair
pub asks_recv : (job : Job) (history : List Entry) (j i : Life) (s : Sent) (a b : ReadAsk) → AskKnown job history i j s a → AskKnown job history i j s b → a.recv_id.0 ≡ b.recv_id.0
asks_recv job history j i s a b k l =
    let n : k.pair.message.no.0 ≡ l.pair.message.no.0 =
    sym k.known.number_is ∙ ap (λ (x : Sent). x.message.no.0) (k.sent_is ∙ sym l.sent_is) ∙ l.known.number_is in
    let p = message_one job history i k.pair l.pair k.member l.member (k.life_is ∙ sym l.life_is) n in
    sym k.recv_is ∙ ap (λ (x : Pair). x.recv.id.0) p ∙ l.recv_is

-- an ask that arrives shares no byte with one that was taken
pub ask_new : (job : Job) (history : List Entry) (j i : Life) (s : Sent) (a b : ReadAsk) (d : Datagram) → Arrives job history j i (Asks a) d
    → AskKnown job history i j s a → Member s (sends_of job history j) → s.number ≡ b.send_id.0 → Member (Took i (Asks b)) (life_deeds job history j) → AsksShare a b → ⊥
ask_new job history j i s a b d h k m names took share =
    let t = taken_pushed job history j i (Asks b) h.played took in
    let x = went_ask job history j i a d h.taken in
    let y = went_ask job history j i b t.datagram t.taken in
    let l = ask_known job history i j s b h.played m names took in
    let clash : Clash x.reply y.reply =
    inr (inl (record { ask = a; is = x.is; ask' = b; is' = y.is; recv_is = asks_recv job history j i s a b k l; share = share })) in
    let e = reply_once (own_of job i) x.reply y.reply h.taken.place t.taken.place (life_deeds job history i) (own_life job history h.played i) x.was_due y.was_due clash in
    taken_before job history j i (Asks a) (Asks b) d h t (sym e)

-- an ask of a send was taken
pub asked_by_took : (peer : Life) (send : ℕ) (d : Deed) (b : ReadAsk) → Member b (asked_by peer send d) → (d ≡ Took peer (Asks b)) × (b.send_id.0 ≡ send)
unfolding asked_by
asked_by_took peer send (Took from (Asks ask)) b m =
    (elim (same_life from peer && ask.send_id.0 == send) as (λ t. (same_life from peer && ask.send_id.0 == send) ≡ t → Member b (cond t (ask ∷ []) [])
    → (Took from (Asks ask) ≡ Took peer (Asks b)) × (b.send_id.0 ≡ send)) [
      | true ↦ λ is k. elim k [
        | inl same ↦
            let p = and_parts (same_life from peer) (nat_eq ask.send_id.0 send) is in
            let l = same_life-true from peer p.0 in
            (ap (λ (x : Life). Took x (Asks ask)) l ∙ ap (λ (x : ReadAsk). Took peer (Asks x)) same, sym (ap (λ (x : ReadAsk). x.send_id.0) same) ∙ eqb-true ask.send_id.0 send p.1)
        | inr never ↦ elim never [ ]
      ]
      | false ↦ λ is k. elim k [ ]
    ]) refl m
asked_by_took peer send _ b m = elim m [ ]

-- each ask of a send was taken
pub asks_took : (log : List Deed) (peer : Life) (send : ℕ) (b : ReadAsk) → Member b (asks_of log peer send) → Member (Took peer (Asks b)) log × (b.send_id.0 ≡ send)
unfolding asks_of
asks_took [] peer send b m = elim m [ ]
asks_took (d ∷ before) peer send b m =
    elim (member-append_cases b (asks_of before peer send) (asked_by peer send d) m) [
      | inl k ↦ let r = asks_took before peer send b k in (inr r.0, r.1)
      | inr k ↦ let r = asked_by_took peer send d b k in (inl r.0, r.1)
    ]

-- asks that overlap share a byte
share_from : (a b : ReadAsk) → overlaps a.at a.length b.at b.length ≡ true → AsksShare a b
share_from a b h =
    let p = overlap_parts a.at a.length b.at b.length h in
    let x = p.0 in
    let y = p.1 in
    let z = p.2 in
    let w = p.3 in
    (max a.at b.at, omega arith, omega arith, omega arith, omega arith)

-- nor does it with any ask of its send
pub asks_new : (job : Job) (history : List Entry) (j i : Life) (s : Sent) (a : ReadAsk) (d : Datagram) → Arrives job history j i (Asks a) d
    → AskKnown job history i j s a → Member s (sends_of job history j) → s.number ≡ a.send_id.0
    → list_any (λ (b : ReadAsk). overlaps a.at a.length b.at b.length) (asks_of (life_deeds job history j) i a.send_id.0) ≡ false
asks_new job history j i s a d h k m names =
    let test : ReadAsk → Bool = λ b. overlaps a.at a.length b.at b.length in
    false_from_ne_true (list_any test (asks_of (life_deeds job history j) i a.send_id.0)) (λ t.
    let r = list_any_member test (asks_of (life_deeds job history j) i a.send_id.0) t in
    let took = asks_took (life_deeds job history j) i a.send_id.0 r.0 r.1 in
    ask_new job history j i s a r.0 d h k m (names ∙ sym took.1) took.0 (share_from a r.0 r.2))
