-- At a settled end all grants that one standing life owed another were taken.
use Rattle.std.proofs.Common.{◌<◌, ◌≤◌, arith}
use Rattle.rdm_num.specs.declared.numbers.OpId.{OpId}
use Rattle.rdm_num.specs.declared.numbers.Stamp.{Stamp}
use Rattle.rdm_pkt.specs.declared.Packet.TheVariants.{Cts}
use Rattle.rdm_model.specs.Currents.{is_forgotten}
use Rattle.rdm_model.specs.Dues.{Replies}
use Rattle.rdm_model.specs.Local.{Local}
use Rattle.rdm_model.specs.declared.entry.Act.TheVariants.{Push}
use Rattle.rdm_law.proofs.Settled.Still.{settled_still, at_rest}
use Rattle.rdm_law.proofs.Settled.AllEnters.{stands}
use Rattle.rdm_law.proofs.Accounts.Pushed.{PlacedAt}
use Rattle.rdm_law.proofs.Accounts.Wired.{TakenAs}
use Rattle.rdm_law.proofs.Accounts.Known.{account}
use Rattle.rdm_law.proofs.Settled.Datagrams.{stamp_rises}
use Rattle.rdm_law.proofs.Replies.Queue.{Placed}
use Rattle.rdm_law.proofs.Replies.Answered.{Answered}
use Rattle.rdm_law.proofs.Settled.PlacedRest.{answered_was_due, was_due_placed, place_rest}
use Rattle.rdm_law.proofs.Windows.GrantsTaken.{placed_pushed}
use Rattle.rdm_law.proofs.Windows.GrantsReach.{AllTaken}
use Rattle.std.proofs.Common.{◌≡◌, ℕ, ◌<◌, false, List, [], ◌∷◌, Some, arith, inl, inr, sym, ◌∙◌, ap, subst}
use Rattle.std.specs.List.{list_any}
use Rattle.std.proofs.lemmas.Bool.{or_parts}
use Rattle.rdm_lists.specs.Lists.{Member}
use Rattle.rdm_num.specs.declared.numbers.Life.{Life}
use Rattle.rdm_num.specs.declared.numbers.Connid.{Connid}
use Rattle.rdm_num.specs.declared.numbers.PortNo.{PortNo}
use Rattle.rdm_wire.specs.declared.Datagram.{Datagram}
use Rattle.rdm_wire.specs.declared.Body.TheVariants.{Between}
use Rattle.rdm_wire.specs.declared.Load.{Load}
use Rattle.rdm_model.specs.declared.job.Job.{Job}
use Rattle.rdm_model.specs.declared.entry.Entry.{Entry}
use Rattle.rdm_model.specs.declared.entry.Act.{Act}
use Rattle.rdm_model.specs.declared.entry.Act.TheVariants.{Handle}
use Rattle.rdm_model.specs.declared.answer.Handled.TheVariants.{Dropped}
use Rattle.rdm_model.specs.Deeds.{Item, Spelled, log_of}
use Rattle.rdm_model.specs.Beginnings.{own_of}
use Rattle.rdm_model.specs.Going.{Goes, due_going}
use Rattle.rdm_model.specs.Classes.{class_of}
use Rattle.rdm_model.specs.Scenes.{deeds_at}
use Rattle.rdm_model.specs.Steps.{last_stamp, clock, Does}
use Rattle.rdm_model.specs.Takes.{handled_answer}
use Rattle.rdm_model.specs.Local.{own_scene}
use Rattle.rdm_model.specs.Wire.{PushedIn, Comes}
use Rattle.rdm_model.specs.Settled.{waiting_datagrams}
use Rattle.rdm_model.specs.Lawful.{life_deeds, port_deeds}
use Rattle.rdm_model.specs.Standing.{drops_between}
use Rattle.rdm_law.proofs.Accounts.Wired.{Played, played_before}
use Rattle.rdm_law.proofs.Played.Waiting.{waits_in_history}
use Rattle.rdm_law.proofs.Settled.Delivered.{HandledIt, handled_cases, it_was, local_at, dropped_between}
use Rattle.rdm_law.proofs.Settled.Meets.{Meet, IsUnheard, taken_or, waits_unheard}
use Rattle.rdm_law.proofs.Accounts.Wired.{HandledBy}

-- a datagram between the lives that was handled and not dropped was taken by the port
handled_by_it : (job : Job) (history : List Entry) (i j : Life) (d : Datagram) (load : Load) → Played job history → HandledIt d history
    → d.src.0 ≡ j.port.0 → d.dst ≡ i.port → d.body ≡ Between j.connid i.connid load → list_any (λ (e : Entry). drops_between i j e.act) history ≡ false
    → HandledBy i.port.0 d history
unfolding handled_answer
handled_by_it job [] i j d load played h s t b none = elim h [ ]
handled_by_it job (e ∷ before) i j d load played (inr h) s t b none =
    let n = or_parts (drops_between i j e.act) (list_any (λ (x : Entry). drops_between i j x.act) before) none in
    inr (handled_by_it job before i j d load (played_before job e before played) h s t b n.1)
handled_by_it job (e ∷ before) i j d load played (inl a) s t b none =
    let n = or_parts (drops_between i j e.act) (list_any (λ (x : Entry). drops_between i j x.act) before) none in
    let C : Act → Type 0 = λ x. Comes before e x in
    let comes : Comes before e (Handle d a.0) = subst C a.1 played.wire.1 in
    let port : e.port.0 ≡ i.port.0 = ap (λ (p : PortNo). p.0) (sym comes.0 ∙ t) in
    let fits = local_at job i.port.0 e before (played.locals i.port.0) port in
    let S = own_scene job i.port.0 (deeds_at job i.port.0 (log_of i.port.0 before)) in
    let D : Act → Type 0 = λ x. Does job class_of S (log_of i.port.0 before) e x in
    let does : Does job class_of S (log_of i.port.0 before) e (Handle d a.0) = subst D a.1 fits.2 in
    elim (taken_or S d d.body (class_of S d)) [
      | inl k ↦ inl (k.0, a.1 ∙ ap (Handle d) (does.0 ∙ k.1), port)
      | inr k ↦ (let act : e.act ≡ Handle d (Dropped k.0) = a.1 ∙ ap (Handle d) (does.0 ∙ k.1) in let x = dropped_between i j d load e.act k.0 act s t b in absurd (let y = n.0 in cc))
    ]

-- a datagram has a stamp that its port's clock has reached
pushed_stamp : (job : Job) (port : ℕ) (d : Datagram) (log : List Entry) → Local job port log → PushedIn d log → d.stamp.0 ≤ clock job log
unfolding clock
pushed_stamp job port d [] l h = elim h [ ]
pushed_stamp job port d (e ∷ before) l (inl a) =
    let S = own_scene job port (deeds_at job port before) in
    let D : Act → Type 0 = λ x. Does job class_of S before e x in
    let does : Does job class_of S before e (Push d) = subst D a l.2.2 in
    let s = ap (λ (x : Stamp). x.0) does.2 in
    omega arith
pushed_stamp job port d (e ∷ before) l (inr h) =
    let low = pushed_stamp job port d before l.0 h in
    let rises = stamp_rises (clock job before) e.act in
    let s = l.2.0 in
    omega arith

-- a grant that one standing life pushed for the other was taken by its port
grant_handled : (job : Job) (history : List Entry) (i j : Life) (x : Placed) (k : ℕ) (send recv : OpId) (size : ℕ) (connid : Connid) → Meet job history j i
    → Answered (own_of job i) (account job history i) x k (life_deeds job history i) → x.reply.to ≡ j → x.reply.item ≡ Spelled (Cts send recv size connid)
    → (d : Datagram) × TakenAs i j.connid (Spelled (Cts send recv size connid)) d × (d.dst.0 ≡ j.port.0) × PlacedAt job i.port.0 i.connid d k (log_of i.port.0 history)
    × HandledBy j.port.0 d history
unfolding life_deeds port_deeds due_going
grant_handled job history i j x k send recv size connid m a to is =
    let item = Spelled (Cts send recv size connid) in
    let was_due = answered_was_due (own_of job i) (life_deeds job history i) x k a in
    let goes : due_going (Some (Replies x.reply)) ≡ Some (Goes j item) = ap (λ (l : Life). Some (Goes l x.reply.item)) to ∙ ap (λ (y : Item). Some (Goes j y)) is in
    let t = was_due_placed job i.port.0 i.connid j item (Replies x.reply) k (log_of i.port.0 history) (m.played.locals i.port.0) was_due goes in
    let d = t.datagram in
    let here = placed_pushed job i.port.0 i.connid d k (log_of i.port.0 history) t.placed' in
    let src : d.src.0 ≡ i.port.0 = ap (λ (p : PortNo). p.0) t.as'.src_is in
    let pushed : PushedIn d (log_of d.src.0 history) = subst (λ (n : ℕ). PushedIn d (log_of n history)) (sym src) here in
    let body = t.as'.body_is in
    let stamp : d.stamp.0 < last_stamp = (let b = pushed_stamp job i.port.0 d (log_of i.port.0 history) (m.played.locals i.port.0) here in let c = m.standing.clock_j in omega arith) in
    elim (handled_cases d history) [
      | inl u ↦ absurd (
          let w0 = waits_in_history history d pushed u in
          let w : Member d (waiting_datagrams j.port.0 history) = subst (λ (p : PortNo). Member d (waiting_datagrams p.0 history)) t.dst_is w0 in
          let never = waits_unheard job history j i d t.as'.load m w src body stamp in
          let no' : IsUnheard (life_deeds job history j) i item = subst (λ (y : Item). IsUnheard (life_deeds job history j) i y) t.as'.item_is never in
          no')
      | inr u ↦ (
        d,
        t.as',
        ap (λ (p : PortNo). p.0) t.dst_is,
        t.placed',
        handled_by_it job history j i d t.as'.load m.played (it_was job history d m.played pushed u) src t.dst_is body m.standing.none_dropped,
      )
    ]

-- all grants that one standing life owed the other were taken
pub all_taken : (job : Job) (history : List Entry) (i j : Life) → Meet job history i j → Meet job history j i → AllTaken job history i j
all_taken job history i j m n =
    let own = own_of job i in
    let ms = account job history i in
    let log = life_deeds job history i in
    let rest = at_rest own ms log (settled_still job history i m.played m.settled m.standing.open_i m.standing.clock_i) in
    let kept = stands job history j i n in
    record {
      pushed = λ x h to. place_rest own ms log x h (subst (λ (l : Life). is_forgotten log l ≡ false) (sym to) kept) rest.no_reply;
      handled = λ x k send recv size connid a to is. grant_handled job history i j x k send recv size connid n a to is;
    }
