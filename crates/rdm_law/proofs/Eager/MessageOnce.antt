-- An eager life pushes each message once: a message that waits was not heard of yet.
use Rattle.std.proofs.Common.{Bool, ◌≡◌, ℕ, ◌-◌, false, is_some, slice_get, List, [], ◌∷◌, Option, Some, None, IsTrue, refl, inl, inr, sym, ◌∙◌, ap, subst}
use Rattle.rdm_lists.specs.Lists.{Member}
use Rattle.rdm_num.specs.Lives.{life}
use Rattle.rdm_num.specs.declared.numbers.PortNo.{PortNo}
use Rattle.rdm_num.specs.declared.numbers.Connid.{Connid}
use Rattle.rdm_num.specs.declared.numbers.Life.{Life}
use Rattle.rdm_num.specs.declared.numbers.MsgNo.{MsgNo}
use Rattle.rdm_num.specs.declared.head.Head.{Head}
use Rattle.rdm_hdr.specs.declared.Opt.{Opt}
use Rattle.rdm_pkt.specs.declared.Packet.{Packet}
use Rattle.rdm_pkt.specs.declared.Packet.TheVariants.{Rtm}
use Rattle.rdm_pkt.specs.declared.Form.{Form}
use Rattle.rdm_pkt.specs.declared.Kind.TheVariants.{Eager}
use Rattle.rdm_wire.specs.declared.Datagram.{Datagram}
use Rattle.rdm_wire.specs.declared.Body.{Body}
use Rattle.rdm_wire.specs.declared.Body.TheVariants.{Note, Between}
use Rattle.rdm_wire.specs.declared.Load.{Load}
use Rattle.rdm_wire.specs.declared.Load.TheVariants.{Packet as PacketLoad, Ask, Given}
use Rattle.rdm_model.specs.declared.job.Job.{Job}
use Rattle.rdm_model.specs.declared.answer.Handled.TheVariants.{Took as TookAnswer}
use Rattle.rdm_model.specs.declared.entry.Entry.{Entry}
use Rattle.rdm_model.specs.declared.entry.Act.{Act}
use Rattle.rdm_model.specs.declared.entry.Act.TheVariants.{Handle}
use Rattle.rdm_model.specs.Deeds.{Deed, Item, Spelled, item_of, of_life}
use Rattle.rdm_model.specs.Beginnings.{rank_of, Own, Messages, own_of, port_count}
use Rattle.rdm_model.specs.Jobs.{is_fair, law_ops}
use Rattle.rdm_model.specs.Heard.{heard_head, is_heard}
use Rattle.rdm_model.specs.Scenes.{deeds_at}
use Rattle.rdm_model.specs.Sends.{Sent, sends, sends_to}
use Rattle.rdm_model.specs.Dues.{Due, Replies, Sends}
use Rattle.rdm_model.specs.Going.{Goes, due_going}
use Rattle.rdm_model.specs.Local.{heard_by}
use Rattle.rdm_model.specs.Wire.{PushedIn, IsOther, IsUnhandled}
use Rattle.rdm_model.specs.Worlds.{World}
use Rattle.rdm_model.proofs.Numbers.{placed}
use Rattle.rdm_model.proofs.Sending.{IsSingle}
use Rattle.rdm_law.proofs.Lives.Lives.{life_of, WasDueAt}
use Rattle.rdm_law.proofs.Accounts.Pushed.{PlacedAt, placed_once, PushedDue, pushed_due}
use Rattle.rdm_law.proofs.Accounts.Wired.{HandledIn, taken_handled, bears_item}
use Rattle.rdm_law.proofs.Accounts.WasDue.{own_sends, due_member, due_rtm, due_opening}
use Rattle.rdm_law.proofs.Replies.ReplyDues.{was_due_owed}
use Rattle.rdm_law.proofs.Accounts.Known.{heard_taken, owed_rtm}
use Rattle.rdm_law.proofs.Fits.SmallBytes.{bytes_by_fit}
use Rattle.rdm_law.proofs.Fits.RegionsFit.{MessagesFit}
use Rattle.rdm_law.proofs.Fits.SentFits.{SentFits, sent_fits}
use Rattle.rdm_law.proofs.Fits.FairJobs.{fair_job}
use Rattle.rdm_law.proofs.Played.GoesWell.{life_fits}
use Rattle.rdm_law.proofs.Played.Delivers.{handled_waited}
use Rattle.rdm_law.proofs.Played.Sound.{waiting_in}
use Rattle.rdm_law.proofs.Eager.EagerDeeds.{deeds_with_pools}
use Rattle.rdm_law.proofs.Eager.EagerDues.{eager_sends, eager_kind}
use Rattle.rdm_law.proofs.Eager.EagerPorts.{EagerJob, IsEagerBody, handled_eager, life_eager}
use Rattle.rdm_law.proofs.Eager.EagerPlayed.{EagerWorld}
use Rattle.rdm_num.proofs.Lives.{port_is}

-- a packet that opens the message of a number to a life was due
pub record RtmDue (own : Own) (to : Life) (number : MsgNo) (k : ℕ) (log : List Deed) : Type 0 where
  pub sent : Sent
  pub to_is : sent.to ≡ to
  pub tag : Option ℕ
  pub confirm : Bool
  pub opt : Opt
  pub form : Form
  pub was_due : WasDueAt own (Sends sent (Rtm number tag confirm opt form)) k log

-- such a packet was due where it went out
rtm_by_due : (own : Own) (k : ℕ) (log : List Deed) (t : Due) (to : Life) (item : Item) (number : MsgNo) (tag : Option ℕ) (confirm : Bool) (opt : Opt) (form : Form)
    → WasDueAt own t k log → due_going (Some t) ≡ Some (Goes to item) → item ≡ Spelled (Rtm number tag confirm opt form) → RtmDue own to number k log
unfolding due_going
rtm_by_due own k log (Sends s p) to item number tag confirm opt form h g is =
    let same : p ≡ Rtm number tag confirm opt form = cc in
    let dest : s.to ≡ to = cc in
    record { sent = s; to_is = dest; tag = tag; confirm = confirm; opt = opt; form = form; was_due = subst (λ (x : Packet). WasDueAt own (Sends s x) k log) same h }
rtm_by_due own k log (Replies r) to item number tag confirm opt form h g is =
    let same : r.item ≡ Spelled (Rtm number tag confirm opt form) = cc in
    absurd (owed_rtm own (heard_by own.limits.first log) log r number tag confirm opt form (was_due_owed own r k log h) same)

-- a pushed packet that opens a message was due
pushed_rtm : (job : Job) (port : ℕ) (from : Connid) (to : Life) (load : Load) (d : Datagram) (log : List Entry) (number : MsgNo) (tag : Option ℕ) (confirm : Bool) (opt : Opt) (form : Form)
    → (p : PushedDue job port from to load d log) → item_of load ≡ Spelled (Rtm number tag confirm opt form) → RtmDue (own_of job (life_of port from)) to number p.place (of_life from (deeds_at job port log))
pushed_rtm job port from to load d log number tag confirm opt form p is =
    rtm_by_due (own_of job (life_of port from)) p.place (of_life from (deeds_at job port log)) p.due' to p.item number tag confirm opt form p.was_due p.gives
    (sym (bears_item p.item load p.bears) ∙ is)

-- sends to one life with one number are one send
numbered_once : (own : Own) (ms : Messages) (log : List Deed) (s t : Sent) → Member s (sends own ms log) → Member t (sends own ms log) → s.to ≡ t.to → s.message.no ≡ t.message.no → s ≡ t
numbered_once own ms log s t m k one_life one_number =
    let first = own.limits.first in
    let number : s.message.no.0 ≡ t.message.no.0 = ap (λ (x : MsgNo). x.0) one_number in
    let a = (placed own ms log s m).1 in
    let b : slice_get (sends_to (sends own ms log) s.to) (s.message.no.0 - first) ≡ Some t = rw (one_life, number) (placed own ms log t k).1 in
    cc

-- where all sends of a life are of one packet, it opens the message of a number to a life once
opens_once : (own : Own) (to : Life) (number : MsgNo) (k l : ℕ) (log : List Deed) → ((s : Sent) → Member s (own_sends own log) → s.kind ≡ Eager)
    → RtmDue own to number k log → RtmDue own to number l log → k ≡ l
opens_once own to number k l log eager a b =
    let ms = heard_by own.limits.first log in
    let ma = due_member own a.sent (Rtm number a.tag a.confirm a.opt a.form) k log a.was_due in
    let mb = due_member own b.sent (Rtm number b.tag b.confirm b.opt b.form) l log b.was_due in
    let na = (due_rtm own a.sent number a.tag a.confirm a.opt a.form k log a.was_due).0 in
    let nb = (due_rtm own b.sent number b.tag b.confirm b.opt b.form l log b.was_due).0 in
    let same : a.sent ≡ b.sent = numbered_once own ms log a.sent b.sent ma mb (a.to_is ∙ sym b.to_is) (sym na ∙ nb) in
    let single : IsSingle a.sent.kind = subst IsSingle (sym (eager a.sent ma)) tt in
    let then' : WasDueAt own (Sends a.sent (Rtm number b.tag b.confirm b.opt b.form)) l log = subst (λ (s : Sent). WasDueAt own (Sends s (Rtm number b.tag b.confirm b.opt b.form)) l log) (sym same) b.was_due in
    due_opening own a.sent number number a.tag b.tag a.confirm b.confirm a.opt b.opt a.form b.form k l log single a.was_due then'

-- an eager life opens the message of a number to a life once
life_opens_once : (job : Job) (lives : ℕ → Connid) (i to : Life) (w : World) (number : MsgNo) (k l : ℕ) → IsTrue (is_fair law_ops job) → EagerJob job lives → EagerWorld job lives w
    → RtmDue (own_of job i) to number k (of_life i.connid (deeds_at job i.port.0 (w.logs i.port.0)))
    → RtmDue (own_of job i) to number l (of_life i.connid (deeds_at job i.port.0 (w.logs i.port.0))) → k ≡ l
unfolding own_of heard_by
life_opens_once job lives i to w number k l fair plain p a b =
    let own = own_of job i in
    let log = w.logs i.port.0 in
    let mine = of_life i.connid (deeds_at job i.port.0 log) in
    let local = p.sound.local i.port.0 in
    let fits = life_fits job i.port.0 log i.connid (fair_job job fair) local (p.sound.handled i.port.0) in
    let deeds =
    deeds_with_pools job.limits (rank_of job i.port.0).limits lives mine
    (life_eager job lives w.logs i.port.0 i.connid log plain p.sound.local (p.sound.delivers.handled i.port.0) local (p.has.handled i.port.0)) in
    let ms = heard_by own.limits.first mine in
    let bytes : MessagesFit ms = λ source n. bytes_by_fit own.limits.first mine source n fits.taken in
    let sent : (s : Sent) → Member s (own_sends own mine) → SentFits own s = sent_fits (port_count job) own ms mine bytes fits.deeds_fit in
    opens_once own to number k l mine (λ s m. eager_kind own lives s (eager_sends own lives ms mine deeds s m) (sent s m)) a b

-- what was not handled is none of what a port took
unhandled_other : (d q : Datagram) (log : List Entry) → IsUnhandled d log → HandledIn q log → q ≡ d → ⊥
unhandled_other d q [] u k is = elim k [ ]
unhandled_other d q (e ∷ before) u (inl k) is =
    let P : Act → Type 0 = λ act. IsOther d act in
    let other : IsOther d (Handle q (TookAnswer k.0)) = subst P k.1 u.1 in
    other (ap (λ (x : Datagram). x.src) is) (ap (λ (x : Datagram). x.number) is)
unhandled_other d q (e ∷ before) u (inr k) is = unhandled_other d q before u.0 k is

-- a datagram with a message of an eager life
pub record HasMessage (from : Life) (number : MsgNo) (d : Datagram) : Type 0 where
  pub to : Connid
  pub load : Load
  pub src_is : d.src ≡ from.port
  pub body_is : d.body ≡ Between from.connid to load
  pub tag : Option ℕ
  pub confirm : Bool
  pub opt : Opt
  pub form : Form
  pub item_is : item_of load ≡ Spelled (Rtm number tag confirm opt form)

-- what was pushed by a source was pushed by its port
pushed_there : (logs : ℕ → List Entry) (d : Datagram) (l : Life) → d.src ≡ l.port → PushedIn d (logs d.src.0) → PushedIn d (logs l.port.0)
pushed_there logs d l is h = subst (λ (x : ℕ). PushedIn d (logs x)) (ap (λ (x : PortNo). x.0) is) h

-- two of them with one number to one life are one
message_once : (job : Job) (lives : ℕ → Connid) (i : Life) (w : World) (number : MsgNo) (d q : Datagram) → IsTrue (is_fair law_ops job) → EagerJob job lives → EagerWorld job lives w
    → PushedIn d (w.logs d.src.0) → PushedIn q (w.logs q.src.0) → (md : HasMessage i number d) → (mq : HasMessage i number q) → life d.dst md.to ≡ life q.dst mq.to → d ≡ q
message_once job lives i w number d q fair plain p hd hq md mq to_is =
    let log = w.logs i.port.0 in
    let local = p.sound.local i.port.0 in
    let mine = of_life i.connid (deeds_at job i.port.0 log) in
    let a = pushed_due job i.port.0 i.connid md.to md.load d log local (pushed_there w.logs d i md.src_is hd) md.body_is in
    let b = pushed_due job i.port.0 i.connid mq.to mq.load q log local (pushed_there w.logs q i mq.src_is hq) mq.body_is in
    let x = pushed_rtm job i.port.0 i.connid (life d.dst md.to) md.load d log number md.tag md.confirm md.opt md.form a.1 md.item_is in
    let y = pushed_rtm job i.port.0 i.connid (life q.dst mq.to) mq.load q log number mq.tag mq.confirm mq.opt mq.form b.1 mq.item_is in
    let y' : RtmDue (own_of job i) (life d.dst md.to) number b.1.place mine = subst (λ (l : Life). RtmDue (own_of job i) l number b.1.place mine) (sym to_is) y in
    let same : a.1.place ≡ b.1.place = life_opens_once job lives i (life d.dst md.to) w number a.1.place b.1.place fair plain p x y' in
    placed_once job i.port.0 i.connid d q b.1.place log (subst (λ (k : ℕ). PlacedAt job i.port.0 i.connid d k log) same a.1.placed) b.1.placed

-- an eager datagram is for the one life of its port
eager_to : (lives : ℕ → Connid) (first : ℕ) (d : Datagram) (body : Body) (from to : Connid) (load : Load) → IsEagerBody lives first d body → body ≡ Between from to load → to ≡ lives d.dst.0
eager_to lives first d (Between f t (PacketLoad bytes)) from to load h is = (let same : t ≡ to = cc in sym same ∙ h.1)
eager_to lives first d (Between f t (Ask a)) from to load h is = elim h [ ]
eager_to lives first d (Between f t (Given g)) from to load h is = elim h [ ]
eager_to lives first d (Note note) from to load h is = cc

-- eager datagrams for one port are for one life
one_dest : (lives : ℕ → Connid) (d q : Datagram) (a b : Connid) → d.dst.0 ≡ q.dst.0 → a ≡ lives d.dst.0 → b ≡ lives q.dst.0 → life d.dst a ≡ life q.dst b
one_dest lives d q a b dst ha hb = ap (λ (p : PortNo). life p a) (port_is d.dst q.dst dst) ∙ ap (λ (c : Connid). life q.dst c) (ha ∙ ap lives dst ∙ sym hb)

-- where nothing was heard
heard_none : (o : Option Head) → ((h : Head) → o ≡ Some h → ⊥) → is_some o ≡ false
heard_none None f = refl
heard_none (Some h) f = absurd (f h refl)

-- messages of one number have one number
same_number : (a b : MsgNo) → a.0 ≡ b.0 → a ≡ b
same_number a b h = ap (λ (n : ℕ). let x : MsgNo = record { 0 = n } in x) h

-- a message that waits for a port was not heard of by any life of the port
pub waits_unheard : (job : Job) (lives : ℕ → Connid) (i : Life) (w : World) (port : ℕ) (c : Connid) (d : Datagram) (number : MsgNo) → IsTrue (is_fair law_ops job) → EagerJob job lives
    → EagerWorld job lives w → Member d (waiting_in w port) → HasMessage i number d → is_heard (of_life c (deeds_at job port (w.logs port))) i number.0 ≡ false
unfolding is_heard
waits_unheard job lives i w port c d number fair plain p m has =
    let mine = of_life c (deeds_at job port (w.logs port)) in
    let first = job.limits.first in
    let wait = p.sound.delivers.waits port d m in
    heard_none (heard_head mine i number.0) (λ h is.
    let t = heard_taken mine i number.0 h is in
    let k = taken_handled job port c i (Spelled (Rtm t.number t.tag t.confirm t.opt t.form)) (w.logs port) (p.sound.local port) t.took in
    let q = k.0 in
    let had = handled_waited w.logs port q (w.logs port) (p.sound.delivers.handled port) k.1 in
    let mq : HasMessage i number q = record {
      to = c;
      load = k.2.load;
      src_is = k.2.src_is;
      body_is = k.2.body_is;
      tag = t.tag;
      confirm = t.confirm;
      opt = t.opt;
      form = t.form;
      item_is = k.2.item_is ∙ ap (λ (x : MsgNo). Spelled (Rtm x t.tag t.confirm t.opt t.form)) (same_number t.number number t.number_is);
    } in
    let to_q = eager_to lives first q q.body i.connid c k.2.load (handled_eager lives first q (w.logs port) (p.has.handled port) k.1) k.2.body_is in
    let to_d = eager_to lives first d d.body i.connid has.to has.load (p.has.waiting port d m) has.body_is in
    let dest = one_dest lives q d c has.to (had.0 ∙ sym wait.for_it) to_q to_d in
    unhandled_other d q (w.logs port) wait.fresh k.1 (message_once job lives i w number q d fair plain p had.1 wait.pushed mq has dest))
