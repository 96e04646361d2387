-- What a life heard of was sent to it.
use Rattle.std.proofs.Common.{Bool, ◌≡◌, ℕ, ◌-◌, List, [], ◌∷◌, Option, Some, refl, inl, inr, sym, ◌∙◌, ap, subst}
use Rattle.std.specs.Prelude.{◌&&◌, nat_eq, slice_get}
use Rattle.std.proofs.lemmas.Bool.{and_parts, eqb-true}
use Rattle.rdm_lists.specs.Lists.{Member}
use Rattle.rdm_num.specs.Lives.{same_life}
use Rattle.rdm_num.specs.declared.numbers.Life.{Life}
use Rattle.rdm_num.specs.declared.numbers.MsgNo.{MsgNo}
use Rattle.rdm_num.specs.declared.head.Head.{Head}
use Rattle.rdm_hdr.specs.declared.Opt.{Opt}
use Rattle.rdm_pkt.specs.declared.Packet.{Packet}
use Rattle.rdm_pkt.specs.declared.Packet.TheVariants.{Rtm}
use Rattle.rdm_pkt.specs.declared.Form.{Form}
use Rattle.rdm_pkt.specs.Heads.{head_of}
use Rattle.rdm_pkt.specs.declared.Kind.{Kind}
use Rattle.rdm_pkt.specs.declared.Kind.TheVariants.{Eager, Medium, LongCts, LongRead, Runt}
use Rattle.rdm_pkt.specs.Openings.{Message, message_head, shape_by}
use Rattle.rdm_wire.specs.declared.Datagram.{Datagram}
use Rattle.rdm_model.specs.declared.job.Job.{Job}
use Rattle.rdm_model.specs.declared.entry.Entry.{Entry}
use Rattle.rdm_model.specs.Deeds.{Deed, Took, Spelled}
use Rattle.rdm_model.specs.Beginnings.{Own, Messages, own_of}
use Rattle.rdm_model.specs.Heard.{head_by, heard_head}
use Rattle.rdm_model.specs.Replies.{Reply}
use Rattle.rdm_model.specs.Sends.{Sent, sends, sends_to}
use Rattle.rdm_model.specs.Dues.{Sends}
use Rattle.rdm_model.specs.Local.{heard_by}
use Rattle.rdm_model.specs.Lawful.{life_deeds}
use Rattle.rdm_model.proofs.Numbers.{placed}
use Rattle.rdm_law.proofs.Replies.Owed.{OwedIn}
use Rattle.rdm_law.proofs.Accounts.Wired.{Played, TakenDue, taken_pushed}
use Rattle.rdm_law.proofs.Accounts.WasDue.{due_member, due_rtm}
use Rattle.rdm_law.proofs.Lives.Lives.{WasDueAt}
use Rattle.rdm_law.proofs.Accounts.Went.{SentIt, went}
use Rattle.rdm_lists.proofs.Options.{or_else_cases, then_some_parts}
use Rattle.rdm_num.proofs.Lives.{same_life-true}

-- what each life knows of the messages to it
abbrev pub account : Job → List Entry → Life → Messages
account job history life' = heard_by (own_of job life').limits.first (life_deeds job history life')

-- the accepted sends of a life, by what it took itself
abbrev pub sends_of : Job → List Entry → Life → List Sent
sends_of job history life' = sends (own_of job life') (account job history life') (life_deeds job history life')

-- a packet that opens the message and was taken
pub record HeadTaken (log : List Deed) (source : Life) (n : ℕ) (h : Head) : Type 0 where
  pub number : MsgNo
  pub tag : Option ℕ
  pub confirm : Bool
  pub opt : Opt
  pub form : Form
  pub took : Member (Took source (Spelled (Rtm number tag confirm opt form))) log
  pub number_is : number.0 ≡ n
  pub head_is : head_of tag confirm opt form ≡ h

-- a head that a deed tells is of a packet that it took
head_by_taken : (source : Life) (n : ℕ) (d : Deed) (before : List Deed) (h : Head) → head_by source n d ≡ Some h → HeadTaken (d ∷ before) source n h
unfolding head_by
head_by_taken source n (Took from (Spelled (Rtm number tag confirm opt form))) before h is =
    let t = then_some_parts (same_life from source && nat_eq number.0 n) (head_of tag confirm opt form) h is in
    let p = and_parts (same_life from source) (nat_eq number.0 n) t.0 in
    let s : from ≡ source = same_life-true from source p.0 in
    record {
      number = number;
      tag = tag;
      confirm = confirm;
      opt = opt;
      form = form;
      took = inl (ap (λ (x : Life). Took x (Spelled (Rtm number tag confirm opt form))) s);
      number_is = eqb-true number.0 n p.1;
      head_is = t.1;
    }
head_by_taken source n _ before h is = cc

-- a message that was heard of has a packet that was taken
pub heard_taken : (log : List Deed) (source : Life) (n : ℕ) (h : Head) → heard_head log source n ≡ Some h → HeadTaken log source n h
unfolding heard_head
heard_taken [] source n h is = cc
heard_taken (d ∷ before) source n h is =
    elim (or_else_cases (heard_head before source n) (head_by source n d) h is) [
      | inl a ↦
          let r = heard_taken before source n h a in
          record { number = r.number; tag = r.tag; confirm = r.confirm; opt = r.opt; form = r.form; took = inr r.took; number_is = r.number_is; head_is = r.head_is }
      | inr a ↦ head_by_taken source n d before h a.1
    ]

-- no reply opens a message
pub owed_rtm : (own : Own) (ms : Messages) (log : List Deed) (r : Reply) (number : MsgNo) (tag : Option ℕ) (confirm : Bool) (opt : Opt) (form : Form)
    → OwedIn own ms r log → r.item ≡ Spelled (Rtm number tag confirm opt form) → ⊥
owed_rtm own ms [] r number tag confirm opt form h is = elim h [ ]
owed_rtm own ms (d ∷ before) r number tag confirm opt form (inr h) is = owed_rtm own ms before r number tag confirm opt form h is
owed_rtm own ms (d ∷ before) r number tag confirm opt form (inl (inl n)) is = (let e = n.is in cc)
owed_rtm own ms (d ∷ before) r number tag confirm opt form (inl (inr (inl n))) is = (let e = n.is in cc)
owed_rtm own ms (d ∷ before) r number tag confirm opt form (inl (inr (inr (inl n)))) is = (let e = n.is in cc)
owed_rtm own ms (d ∷ before) r number tag confirm opt form (inl (inr (inr (inr (inl n))))) is = (let e = n.is in cc)
owed_rtm own ms (d ∷ before) r number tag confirm opt form (inl (inr (inr (inr (inr (inl n)))))) is = (let e = n.is in cc)
owed_rtm own ms (d ∷ before) r number tag confirm opt form (inl (inr (inr (inr (inr (inr n)))))) is = (let e = n.is in cc)

-- the message of that number to a life was sent
pub record Known (job : Job) (history : List Entry) (life' source : Life) (n : ℕ) : Type 0 where
  pub sent : Sent
  pub member : Member sent (sends_of job history source)
  pub to_is : sent.to ≡ life'
  pub number_is : sent.message.no.0 ≡ n

-- each number to a life is of one send
pub message_is_one : (own : Own) (ms : Messages) (log : List Deed) (a b : Sent) → Member a (sends own ms log) → Member b (sends own ms log) → a.to ≡ b.to
    → a.message.no.0 ≡ b.message.no.0 → a ≡ b
message_is_one own ms log a b m k to same =
    let p = (placed own ms log a m).1 in
    let q = (placed own ms log b k).1 in
    let x = subst (λ (n : ℕ). slice_get (sends_to (sends own ms log) b.to) (n - own.limits.first) ≡ Some a) same
    (subst (λ (l : Life). slice_get (sends_to (sends own ms log) l) (a.message.no.0 - own.limits.first) ≡ Some a) to p) in
    cc

-- so the message of that number is of one
pub known_one : (job : Job) (history : List Entry) (life' source : Life) (n : ℕ) (a b : Known job history life' source n) → a.sent ≡ b.sent
known_one job history life' source n a b =
    message_is_one (own_of job source) (account job history source) (life_deeds job history source) a.sent b.sent a.member b.member (a.to_is ∙ sym b.to_is) (a.number_is ∙ sym b.number_is)

-- a packet that opens a message and was pushed is of a send, and tells its head
pub record Opened (job : Job) (history : List Entry) (life' source : Life) (number : MsgNo) (tag : Option ℕ) (confirm : Bool) (opt : Opt) (form : Form) (k : ℕ) : Type 0 where
  pub known : Known job history life' source number.0
  pub head_is : head_of tag confirm opt form ≡ message_head job.limits known.sent.message known.sent.kind
  pub tag_is : tag ≡ known.sent.message.tag
  pub opt_is : opt ≡ known.sent.message.opt
  pub was_due : WasDueAt (own_of job source) (Sends known.sent (Rtm number tag confirm opt form)) k (life_deeds job history source)

-- what a message's packets say of it doesn't turn on the pools of its sender's rank
head_by_rank : (job : Job) (source : Life) (m : Message) (kind : Kind) → message_head (own_of job source).limits m kind ≡ message_head job.limits m kind
unfolding own_of message_head shape_by
head_by_rank job source m Eager = refl
head_by_rank job source m Medium = refl
head_by_rank job source m LongCts = refl
head_by_rank job source m LongRead = refl
head_by_rank job source m (Runt runt) = refl

-- a packet that opens a message, by the send that it is of
opened_by : (job : Job) (history : List Entry) (life' source : Life) (number : MsgNo) (tag : Option ℕ) (confirm : Bool) (opt : Opt) (form : Form) (k : ℕ)
    → SentIt (own_of job source) (life_deeds job history source) life' (Spelled (Rtm number tag confirm opt form)) k
    → Opened job history life' source number tag confirm opt form k
unfolding own_of
opened_by job history life' source number tag confirm opt form k s =
    let own = own_of job source in
    let log = life_deeds job history source in
    let is = s.is in
    let e : s.packet ≡ Rtm number tag confirm opt form = cc in
    let was_due : WasDueAt own (Sends s.sent (Rtm number tag confirm opt form)) k log = subst (λ (x : Packet). WasDueAt own (Sends s.sent x) k log) e s.was_due in
    let r = due_rtm own s.sent number tag confirm opt form k log was_due in
    record {
      known = record {
        sent = s.sent;
        member = due_member own s.sent s.packet k log s.was_due;
        to_is = s.to_is;
        number_is = ap (λ (x : MsgNo). x.0) (sym r.0);
      };
      head_is = r.3 ∙ head_by_rank job source s.sent.message s.sent.kind;
      tag_is = r.1;
      opt_is = r.2;
      was_due = was_due;
    }

-- a packet that opens a message and went to a life is of a send
pub opened : (job : Job) (history : List Entry) (life' source : Life) (number : MsgNo) (tag : Option ℕ) (confirm : Bool) (opt : Opt) (form : Form) (d : Datagram)
    (t : TakenDue job history life' source (Spelled (Rtm number tag confirm opt form)) d) → Opened job history life' source number tag confirm opt form t.place
opened job history life' source number tag confirm opt form d t =
    elim (went job history life' source (Spelled (Rtm number tag confirm opt form)) d t) [
      | inl s ↦ opened_by job history life' source number tag confirm opt form t.place s
      | inr r ↦ absurd (owed_rtm (own_of job source) (account job history source) (life_deeds job history source) r.reply number tag confirm opt form r.owed r.is)
    ]

-- a message that was heard of was sent, and its head is that of the send
pub record KnownHead (job : Job) (history : List Entry) (life' source : Life) (n : ℕ) (h : Head) : Type 0 where
  pub known : Known job history life' source n
  pub head_is : h ≡ message_head job.limits known.sent.message known.sent.kind

-- a message that was heard of was sent as it was heard of
pub known_head : (job : Job) (history : List Entry) (life' source : Life) (n : ℕ) (h : Head) → Played job history
    → heard_head (life_deeds job history life') source n ≡ Some h → KnownHead job history life' source n h
known_head job history life' source n h played is =
    let t = heard_taken (life_deeds job history life') source n h is in
    let p = taken_pushed job history life' source (Spelled (Rtm t.number t.tag t.confirm t.opt t.form)) played t.took in
    let o = opened job history life' source t.number t.tag t.confirm t.opt t.form p.datagram p.taken in
    record {
      known = record { sent = o.known.sent; member = o.known.member; to_is = o.known.to_is; number_is = o.known.number_is ∙ t.number_is };
      head_is = sym t.head_is ∙ o.head_is;
    }
