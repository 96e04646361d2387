-- Granted bytes and read bytes are of the message that their receive was matched to.
use Rattle.std.proofs.Common.{◌≡◌, ℕ, List, [], ◌∷◌, refl, inl, inr, sym, ◌∙◌, ap, subst}
use Rattle.rdm_lists.specs.Lists.{Member}
use Rattle.rdm_num.specs.Lives.{op_id}
use Rattle.rdm_num.specs.declared.numbers.Life.{Life}
use Rattle.rdm_num.specs.declared.numbers.OpId.{OpId}
use Rattle.rdm_num.specs.declared.numbers.Connid.{Connid}
use Rattle.rdm_num.specs.declared.head.Head.{Head}
use Rattle.rdm_num.specs.declared.head.Shape.{Shape}
use Rattle.rdm_num.specs.declared.head.Shape.TheVariants as S
use Rattle.rdm_pkt.specs.declared.Packet.{Packet}
use Rattle.rdm_pkt.specs.declared.Packet.TheVariants.{Cts, CtsData}
use Rattle.rdm_pkt.specs.declared.Kind.TheVariants.{LongCts}
use Rattle.rdm_pkt.specs.Openings.{shape_by, message_head}
use Rattle.rdm_match.specs.Matcher.{Pair}
use Rattle.rdm_wire.specs.declared.Datagram.{Datagram}
use Rattle.rdm_wire.specs.declared.ReadAsk.{ReadAsk}
use Rattle.rdm_wire.specs.declared.ReadData.{ReadData}
use Rattle.rdm_model.specs.declared.job.Job.{Job}
use Rattle.rdm_model.specs.declared.entry.Entry.{Entry}
use Rattle.rdm_model.specs.Deeds.{Deed, Took, Spelled, Asks, Gives}
use Rattle.rdm_model.specs.Beginnings.{Own, Messages, own_of}
use Rattle.rdm_model.specs.Sends.{Sent}
use Rattle.rdm_model.specs.Grants.{Grant, grants}
use Rattle.rdm_model.specs.Replies.{Reply, asks_for}
use Rattle.rdm_model.specs.Dues.{Sends, Replies}
use Rattle.rdm_model.specs.Lawful.{life_deeds}
use Rattle.rdm_model.proofs.Sending.{DataPush, grant_taken}
use Rattle.rdm_law.proofs.Matching.Numbered.{matching_numbered}
use Rattle.rdm_law.proofs.Replies.Asks.{asks_for_recv}
use Rattle.rdm_law.proofs.Replies.Owed.{OwedIn, shape_in, recv_in}
use Rattle.rdm_law.proofs.Replies.Causes.{OfGiven, owed_given}
use Rattle.rdm_law.proofs.Lives.Lives.{WasDueAt}
use Rattle.rdm_law.proofs.Accounts.WasDue.{due_data, due_member}
use Rattle.rdm_law.proofs.Accounts.Wired.{Played, TakenDue}
use Rattle.rdm_law.proofs.Accounts.Went.{went}
use Rattle.rdm_law.proofs.Accounts.Known.{account, sends_of, Known}
use Rattle.rdm_law.proofs.Accounts.Named.{pairs_of, pair_known, grant_pair, ask_pair, head_shape, long_send, AskOf, ask_of, send_number, one_send, went_given}

-- a receive is in one pair at most
pub pair_one : (job : Job) (history : List Entry) (life' : Life) (p q : Pair) → Member p (pairs_of job history life') → Member q (pairs_of job history life')
    → p.recv.id.0 ≡ q.recv.id.0 → p ≡ q
pair_one job history life' p q m n e =
    (matching_numbered (own_of job life').limits.first (account job history life').head (life_deeds job history life')).once p q m n e

-- no reply has granted bytes
pub owed_data : (own : Own) (ms : Messages) (log : List Deed) (r : Reply) (recv : OpId) (offset : ℕ) (connid : Connid) (bytes : List ℕ)
    → OwedIn own ms r log → r.item ≡ Spelled (CtsData recv offset connid bytes) → ⊥
owed_data own ms [] r recv offset connid bytes h is = elim h [ ]
owed_data own ms (d ∷ before) r recv offset connid bytes (inr h) is = owed_data own ms before r recv offset connid bytes h is
owed_data own ms (d ∷ before) r recv offset connid bytes (inl (inl n)) is = (let e = n.is in cc)
owed_data own ms (d ∷ before) r recv offset connid bytes (inl (inr (inl n))) is = (let e = n.is in cc)
owed_data own ms (d ∷ before) r recv offset connid bytes (inl (inr (inr (inl n)))) is = (let e = n.is in cc)
owed_data own ms (d ∷ before) r recv offset connid bytes (inl (inr (inr (inr (inl n))))) is = (let e = n.is in cc)
owed_data own ms (d ∷ before) r recv offset connid bytes (inl (inr (inr (inr (inr (inl n)))))) is = (let e = n.is in cc)
owed_data own ms (d ∷ before) r recv offset connid bytes (inl (inr (inr (inr (inr (inr n)))))) is = (let e = n.is in cc)

-- granted bytes: a send of their life to the other one, and the grant that names the receive
pub record DataWent (job : Job) (history : List Entry) (life' from : Life) (recv : OpId) (offset : ℕ) (connid : Connid) (bytes : List ℕ) (k : ℕ) : Type 0 where
  pub sent : Sent
  pub was_due : WasDueAt (own_of job from) (Sends sent (CtsData recv offset connid bytes)) k (life_deeds job history from)
  pub member : Member sent (sends_of job history from)
  pub to_is : sent.to ≡ life'
  pub push : DataPush (own_of job from) (life_deeds job history from) sent (CtsData recv offset connid bytes)

-- granted bytes that went to a life are of a send
pub data_went : (job : Job) (history : List Entry) (life' from : Life) (recv : OpId) (offset : ℕ) (connid : Connid) (bytes : List ℕ) (d : Datagram)
    (t : TakenDue job history life' from (Spelled (CtsData recv offset connid bytes)) d) → DataWent job history life' from recv offset connid bytes t.place
data_went job history life' from recv offset connid bytes d t =
    let own = own_of job from in
    let log = life_deeds job history from in
    elim (went job history life' from (Spelled (CtsData recv offset connid bytes)) d t) [
      | inl s ↦
          let is = s.is in
          let e : s.packet ≡ CtsData recv offset connid bytes = cc in
          let was_due : WasDueAt own (Sends s.sent (CtsData recv offset connid bytes)) t.place log =
          subst (λ (x : Packet). WasDueAt own (Sends s.sent x) t.place log) e s.was_due in
          record {
            sent = s.sent;
            was_due = was_due;
            member = due_member own s.sent (CtsData recv offset connid bytes) t.place log was_due;
            to_is = s.to_is;
            push = due_data own s.sent recv offset connid bytes t.place log was_due;
          }
      | inr r ↦ absurd (owed_data own (account job history from) log r.reply recv offset connid bytes r.owed r.is)
    ]

-- a grant of a send of a life is of the pair of the send's message
pub record GrantKnown (job : Job) (history : List Entry) (life' from : Life) (s : Sent) (recv : ℕ) : Type 0 where
  pub pair : Pair
  pub member : Member pair (pairs_of job history life')
  pub recv_is : pair.recv.id.0 ≡ recv
  pub life_is : pair.message.life ≡ from
  pub known : Known job history life' from pair.message.no.0
  pub sent_is : known.sent ≡ s
  pub long : s.kind ≡ LongCts
  pub head_is : (account job history life').head pair.message.life pair.message.no.0 ≡ message_head job.limits s.message s.kind

-- a grant of a pair names the send of its message
grant_known_at : (job : Job) (history : List Entry) (life' from source : Life) (s : Sent) (send recv : OpId) (p : Pair) (credits : ℕ) → source ≡ from
    → Member s (sends_of job history from) → send ≡ op_id s.number → Member p (pairs_of job history life') → recv ≡ recv_in p → p.message.life ≡ source
    → (k : Known job history life' source p.message.no.0) → (account job history life').head p.message.life p.message.no.0 ≡ message_head job.limits k.sent.message k.sent.kind
    → shape_in (account job history life').head p ≡ S.LongCts send credits → GrantKnown job history life' from s recv.0
grant_known_at job history life' from source s send recv p credits e m n q r l k head shape =
    let known : Known job history life' from p.message.no.0 =
    record { sent = k.sent; member = subst (λ (x : Life). Member k.sent (sends_of job history x)) e k.member; to_is = k.to_is; number_is = k.number_is } in
    let by : shape_by job.limits k.sent.message k.sent.kind ≡ S.LongCts send credits = sym (head_shape job.limits k.sent.message k.sent.kind) ∙ ap (λ (x : Head). x.shape) (sym head) ∙ shape in
    let long = long_send job.limits k.sent.message k.sent.kind send credits by in
    let same : k.sent ≡ s = one_send job history from k.sent s known.member m (long.0 ∙ n ∙ sym (send_number job history from s m)) in
    record {
      pair = p;
      member = q;
      recv_is = ap (λ (x : OpId). x.0) (sym r);
      life_is = l ∙ e;
      known = known;
      sent_is = same;
      long = subst (λ (x : Sent). x.kind ≡ LongCts) same long.1;
      head_is = subst (λ (x : Sent). (account job history life').head p.message.life p.message.no.0 ≡ message_head job.limits x.message x.kind) same head;
    }

-- a grant that a life took of one of its sends
pub grant_known : (job : Job) (history : List Entry) (life' from : Life) (s : Sent) (recv : OpId) (size : ℕ) (connid : Connid) → Played job history
    → Member s (sends_of job history from) → Member (Took life' (Spelled (Cts (op_id s.number) recv size connid))) (life_deeds job history from)
    → GrantKnown job history life' from s recv.0
grant_known job history life' from s recv size connid played m t =
    let o = grant_pair job history from life' (op_id s.number) recv size connid played t in
    let k = pair_known job history life' o.pair played o.member in
    grant_known_at job history life' from o.pair.message.life s (op_id s.number) recv o.pair o.credits o.to_is m refl o.member o.recv_is refl k.known k.head_is o.shape_is

-- a grant that was taken from a life by another name
grant_at : (job : Job) (history : List Entry) (from to life' : Life) (send recv : OpId) (size : ℕ) (connid : Connid) → to ≡ life'
    → Member (Took to (Spelled (Cts send recv size connid))) (life_deeds job history from) → Member (Took life' (Spelled (Cts send recv size connid))) (life_deeds job history from)
grant_at job history from to life' send recv size connid e h = subst (λ (x : Life). Member (Took x (Spelled (Cts send recv size connid))) (life_deeds job history from)) e h

-- a grant of a send is of the pair of its message
pub grants_known : (job : Job) (history : List Entry) (life' from : Life) (s : Sent) (g : Grant) → Played job history → Member s (sends_of job history from) → s.to ≡ life'
    → Member g (grants (life_deeds job history from) s.to s.number) → GrantKnown job history life' from s g.recv
grants_known job history life' from s g played m to h =
    let t = grant_taken (life_deeds job history from) s.to s.number g h in
    grant_known job history life' from s (op_id g.recv) g.size t.0 played m (grant_at job history from s.to life' (op_id s.number) (op_id g.recv) g.size t.0 to t.1)

-- granted bytes name the receive of their grant
data_recv : (own : Own) (log : List Deed) (s : Sent) (recv : OpId) (offset : ℕ) (connid : Connid) (bytes : List ℕ) (p : DataPush own log s (CtsData recv offset connid bytes))
    → recv.0 ≡ p.grant.recv
data_recv own log s recv offset connid bytes p = (let is = p.is in let e : recv ≡ op_id p.grant.recv = cc in ap (λ (x : OpId). x.0) e)

-- their grant was taken
data_grant : (own : Own) (log : List Deed) (s : Sent) (p : Packet) (d : DataPush own log s p) → Member d.grant (grants log s.to s.number)
data_grant own log s p d = subst (λ (gs : List Grant). Member d.grant gs) (sym d.grants_are) (inl refl)

-- granted bytes are of the message that their receive was matched to
pub data_known : (job : Job) (history : List Entry) (life' from : Life) (recv : OpId) (offset : ℕ) (connid : Connid) (bytes : List ℕ) (k : ℕ) → Played job history
    → (w : DataWent job history life' from recv offset connid bytes k) → GrantKnown job history life' from w.sent recv.0
data_known job history life' from recv offset connid bytes k played w =
    let own = own_of job from in
    let log = life_deeds job history from in
    let g = grants_known job history life' from w.sent w.push.grant played w.member w.to_is (data_grant own log w.sent (CtsData recv offset connid bytes) w.push) in
    subst (λ (n : ℕ). GrantKnown job history life' from w.sent n) (sym (data_recv own log w.sent recv offset connid bytes w.push)) g

-- what is given: a send of its life to the other one, and the ask that it answers
pub record GivenWent (job : Job) (history : List Entry) (life' from : Life) (g : ReadData) (k : ℕ) : Type 0 where
  pub reply : Reply
  pub was_due : WasDueAt (own_of job from) (Replies reply) k (life_deeds job history from)
  pub to_is : reply.to ≡ life'
  pub item_is : reply.item ≡ Gives g
  pub of : OfGiven (own_of job from) (account job history from) (life_deeds job history from) reply g

-- what was given to a life answers its ask
pub given_went : (job : Job) (history : List Entry) (life' from : Life) (g : ReadData) (d : Datagram) (t : TakenDue job history life' from (Gives g) d)
    → GivenWent job history life' from g t.place
given_went job history life' from g d t =
    let r = went_given job history life' from g d t in
    record {
      reply = r.reply;
      was_due = r.was_due;
      to_is = r.to_is;
      item_is = r.is;
      of = owed_given (own_of job from) (account job history from) (life_deeds job history from) r.reply g r.owed r.is;
    }

-- an ask for bytes of a send of a life is of the pair of the send's message
pub record AskKnown (job : Job) (history : List Entry) (life' from : Life) (s : Sent) (a : ReadAsk) : Type 0 where
  pub pair : Pair
  pub member : Member pair (pairs_of job history life')
  pub recv_is : pair.recv.id.0 ≡ a.recv_id.0
  pub life_is : pair.message.life ≡ from
  pub known : Known job history life' from pair.message.no.0
  pub sent_is : known.sent ≡ s
  pub ask_of : AskOf s.message s.kind a
  pub of : Member a (asks_for (shape_by job.limits s.message s.kind) (recv_in pair))
  pub head_is : (account job history life').head pair.message.life pair.message.no.0 ≡ message_head job.limits s.message s.kind

-- an ask of a pair names the send of its message
pub ask_known_at : (job : Job) (history : List Entry) (life' from source : Life) (s : Sent) (a : ReadAsk) (p : Pair) → source ≡ from
    → Member s (sends_of job history from) → s.number ≡ a.send_id.0 → Member p (pairs_of job history life') → p.message.life ≡ source
    → (k : Known job history life' source p.message.no.0) → (account job history life').head p.message.life p.message.no.0 ≡ message_head job.limits k.sent.message k.sent.kind
    → Member a (asks_for (shape_in (account job history life').head p) (recv_in p)) → AskKnown job history life' from s a
ask_known_at job history life' from source s a p e m n q l k head of' =
    let known : Known job history life' from p.message.no.0 =
    record { sent = k.sent; member = subst (λ (x : Life). Member k.sent (sends_of job history x)) e k.member; to_is = k.to_is; number_is = k.number_is } in
    let shape : shape_in (account job history life').head p ≡ shape_by job.limits k.sent.message k.sent.kind =
    ap (λ (x : Head). x.shape) head ∙ head_shape job.limits k.sent.message k.sent.kind in
    let of : Member a (asks_for (shape_by job.limits k.sent.message k.sent.kind) (recv_in p)) = subst (λ (x : Shape). Member a (asks_for x (recv_in p))) shape of' in
    let ask = ask_of job.limits k.sent.message k.sent.kind (recv_in p) a of in
    let same : k.sent ≡ s = one_send job history from k.sent s known.member m (sym ask.send_is ∙ ap (λ x. op_id x) (sym n) ∙ sym (send_number job history from s m)) in
    record {
      pair = p;
      member = q;
      recv_is = sym (ap (λ (x : OpId). x.0) (asks_for_recv (shape_in (account job history life').head p) (recv_in p) a of'));
      life_is = l ∙ e;
      known = known;
      sent_is = same;
      ask_of = subst (λ (x : Sent). AskOf x.message x.kind a) same ask;
      of = subst (λ (x : Sent). Member a (asks_for (shape_by job.limits x.message x.kind) (recv_in p))) same of;
      head_is = subst (λ (x : Sent). (account job history life').head p.message.life p.message.no.0 ≡ message_head job.limits x.message x.kind) same head;
    }

-- an ask that a life took of one of its sends
pub ask_known : (job : Job) (history : List Entry) (life' from : Life) (s : Sent) (a : ReadAsk) → Played job history
    → Member s (sends_of job history from) → s.number ≡ a.send_id.0 → Member (Took life' (Asks a)) (life_deeds job history from) → AskKnown job history life' from s a
ask_known job history life' from s a played m n t =
    let o = ask_pair job history from life' a played t in
    let k = pair_known job history life' o.pair played o.member in
    ask_known_at job history life' from o.pair.message.life s a o.pair o.to_is m n o.member refl k.known k.head_is o.of

-- what is given is of the message that its receive was matched to
pub given_known : (job : Job) (history : List Entry) (life' from : Life) (g : ReadData) (k : ℕ) → Played job history → (w : GivenWent job history life' from g k)
    → AskKnown job history life' from w.of.sent w.of.ask
given_known job history life' from g k played w =
    let took = subst (λ (x : Life). Member (Took x (Asks w.of.ask)) (life_deeds job history from)) w.to_is w.of.took in
    ask_known job history life' from w.of.sent w.of.ask played w.of.member w.of.names took
