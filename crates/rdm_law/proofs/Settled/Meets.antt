-- At a settled end what one standing life pushed for the other was taken, but for packets of messages that were not heard of.
use Rattle.std.proofs.Common.{◌≡◌, ℕ, ◌<◌, true, false, not, ◌||◌, List, [], ◌∷◌, Option, Some, None, refl, arith, ◌⊎◌, inl, inr, sym, ◌∙◌, ap, subst}
use Rattle.std.specs.Prelude.{nat_le}
use Rattle.std.specs.List.{list_any}
use Rattle.std.proofs.lemmas.Bool.{and_parts, and_from, or_parts, or_from, or_cases, lt-leb, not-true}
use Rattle.rdm_lists.specs.Lists.{Member}
use Rattle.rdm_num.specs.Lives.{same_life, life}
use Rattle.rdm_num.specs.declared.numbers.Life.{Life}
use Rattle.rdm_num.specs.declared.numbers.Connid.{Connid}
use Rattle.rdm_num.specs.declared.numbers.PortNo.{PortNo}
use Rattle.rdm_pkt.specs.declared.Packet.TheVariants.{Rtm}
use Rattle.rdm_wire.specs.declared.Datagram.{Datagram}
use Rattle.rdm_wire.specs.declared.Body.{Body}
use Rattle.rdm_wire.specs.declared.Body.TheVariants.{Note, Between}
use Rattle.rdm_wire.specs.declared.Load.{Load}
use Rattle.rdm_model.specs.declared.job.Job.{Job}
use Rattle.rdm_model.specs.declared.entry.Entry.{Entry}
use Rattle.rdm_model.specs.declared.entry.Act.{Act}
use Rattle.rdm_model.specs.declared.entry.Act.TheVariants.{Handle}
use Rattle.rdm_model.specs.declared.answer.Handled.{Handled}
use Rattle.rdm_model.specs.declared.answer.Class.{Class}
use Rattle.rdm_model.specs.declared.answer.Entered.{Entered}
use Rattle.rdm_model.specs.declared.answer.Handled.TheVariants.{Took as TookAnswer, Dropped}
use Rattle.rdm_model.specs.Deeds.{Deed, Took, Item, Spelled, item_of, deed_of, deed_by_handle, log_of, of_open_life, open_life}
use Rattle.rdm_model.specs.Beginnings.{rank_of, own_of}
use Rattle.rdm_model.specs.Heard.{is_heard}
use Rattle.rdm_model.specs.Dues.{Due}
use Rattle.rdm_model.specs.Going.{Goes, due_going}
use Rattle.rdm_model.specs.Classes.{class_of, lives_class}
use Rattle.rdm_model.specs.Scenes.{Scene, scene, deeds_at}
use Rattle.rdm_model.specs.Steps.{last_stamp, clock, Does, Classing}
use Rattle.rdm_model.specs.Takes.{taken_answer, class_answer, handled_answer, needs_place, needs_place_by, body_needs_place, is_again_early, is_met}
use Rattle.rdm_model.specs.Local.{own_scene}
use Rattle.rdm_model.specs.Wire.{PushedIn, Comes}
use Rattle.rdm_model.specs.Settled.{waiting_datagrams, is_worn, is_worn_by, is_settled}
use Rattle.rdm_model.specs.Lawful.{life_deeds, port_deeds, sent_scene}
use Rattle.rdm_model.specs.Standing.{goes, drops_between, Standing}
use Rattle.rdm_law.proofs.Lives.Lives.{WasDueAt, is_connid-true}
use Rattle.rdm_law.proofs.Fits.SmallBytes.{all_member}
use Rattle.rdm_law.proofs.Lives.Handled.{life_newest}
use Rattle.rdm_law.proofs.Accounts.Wired.{Played, played_before, took_to, bears_item}
use Rattle.rdm_law.proofs.Played.Waiting.{waits_in_history}
use Rattle.rdm_law.proofs.Settled.Still.{quiet, open_rank, not_worn}
use Rattle.rdm_law.proofs.Settled.Datagrams.{was_due_carried}
use Rattle.rdm_law.proofs.Settled.Delivered.{HandledIt, handled_cases, it_was, local_at, deed_stays, dropped_between}
use Rattle.rdm_num.proofs.Lives.{same_life-refl, port_is}

-- a datagram that was taken is a deed of the life
took_deed : (job : Job) (i j : Life) (d : Datagram) (load : Load) (act : Act) (answer : Handled) (what : _) → act ≡ Handle d answer → answer ≡ TookAnswer what → d.body ≡ Between j.connid i.connid load → d.src.0 ≡ j.port.0
    → deed_of (rank_of job i.port.0).ops act ≡ Took j (item_of load)
unfolding deed_of deed_by_handle
took_deed job i j d load act answer what a k b s =
    let x : ◌≡◌ {A = Life} (life d.src j.connid) j = ap (λ (p : PortNo). let y : Life = record { port = p; connid = j.connid } in y) (port_is d.src j.port s) in
    rw (a, k, b) (ap (λ (l : Life). Took l (item_of load)) x)

-- the open life of a port
own_now : (job : Job) (port : ℕ) (log : List Deed) (c : Connid) → (own_scene job port log).now ≡ Some c → open_life log ≡ Some c
unfolding own_scene scene
own_now job port log c h = h

-- a taken datagram has an answer that says so
took_some : (s : Scene) (d : Datagram) (body : Body) → (what : Option Entered) × (taken_answer s d body ≡ TookAnswer what)
unfolding taken_answer
took_some s d (Note note) = (None, refl)
took_some s d (Between from to load) = (_, refl)

-- a handled datagram is taken or dropped
pub taken_or : (s : Scene) (d : Datagram) (body : Body) (o : Option Class) → ((what : Option Entered) × (class_answer s d o ≡ TookAnswer what)) ⊎ ((why : Class) × (class_answer s d o ≡ Dropped why))
unfolding class_answer
taken_or s d body None = inl (took_some s d d.body)
taken_or s d body (Some why) = inr (why, refl)

-- one that is handled is taken by the life that is open
answered : (job : Job) (e : Entry) (before : List Entry) (i j : Life) (d : Datagram) (load : Load) (answer : Handled) → e.act ≡ Handle d answer → e.port.0 ≡ i.port.0
    → d.src.0 ≡ j.port.0 → d.dst ≡ i.port → d.body ≡ Between j.connid i.connid load → drops_between i j e.act ≡ false
    → answer ≡ handled_answer class_of (own_scene job i.port.0 (port_deeds job i.port.0 before)) d
    → Member (Took j (item_of load)) (life_deeds job (e ∷ before) i)
unfolding handled_answer
answered job e before i j d load answer a p s t b none h =
    let S = own_scene job i.port.0 (port_deeds job i.port.0 before) in
    elim (taken_or S d d.body (class_of S d)) [
      | inl k ↦ (
          let is : answer ≡ TookAnswer k.0 = h ∙ k.1 in
          let now : open_life (port_deeds job i.port.0 before) ≡ Some i.connid =
          own_now job i.port.0 (port_deeds job i.port.0 before) i.connid (is_connid-true S.now i.connid (took_to S d j.connid i.connid load k.0 (sym is ∙ h) b)) in
          let deed : deed_of (rank_of job i.port.0).ops e.act ≡ Took j (item_of load) = took_deed job i j d load e.act answer k.0 a is b s in
          subst (λ (log : List Deed). Member (Took j (item_of load)) log) (sym (life_newest job i e before p now)) (inl deed))
      | inr k ↦ (let act : e.act ≡ Handle d (Dropped k.0) = a ∙ ap (Handle d) (h ∙ k.1) in let x = dropped_between i j d load e.act k.0 act s t b in absurd (cc))
    ]

-- a datagram between the lives that was handled and not dropped was taken
pub handled_taken : (job : Job) (history : List Entry) (i j : Life) (d : Datagram) (load : Load) → Played job history → HandledIt d history
    → d.src.0 ≡ j.port.0 → d.dst ≡ i.port → d.body ≡ Between j.connid i.connid load → list_any (λ (e : Entry). drops_between i j e.act) history ≡ false
    → Member (Took j (item_of load)) (life_deeds job history i)
unfolding port_deeds deeds_at
handled_taken job [] i j d load played h s t b none = elim h [ ]
handled_taken job (e ∷ before) i j d load played (inr h) s t b none =
    let n = or_parts (drops_between i j e.act) (list_any (λ (x : Entry). drops_between i j x.act) before) none in
    deed_stays job e before i (Took j (item_of load)) (handled_taken job before i j d load (played_before job e before played) h s t b n.1)
handled_taken job (e ∷ before) i j d load played (inl a) s t b none =
    let n = or_parts (drops_between i j e.act) (list_any (λ (x : Entry). drops_between i j x.act) before) none in
    let C : Act → Type 0 = λ x. Comes before e x in
    let comes : Comes before e (Handle d a.0) = subst C a.1 played.wire.1 in
    let port : e.port.0 ≡ i.port.0 = ap (λ (p : PortNo). p.0) (sym comes.0 ∙ t) in
    let fits = local_at job i.port.0 e before (played.locals i.port.0) port in
    let S = own_scene job i.port.0 (deeds_at job i.port.0 (log_of i.port.0 before)) in
    let D : Act → Type 0 = λ x. Does job class_of S (log_of i.port.0 before) e x in
    let does : Does job class_of S (log_of i.port.0 before) e (Handle d a.0) = subst D a.1 fits.2 in
    answered job e before i j d load a.0 a.1 port s t b n.0 does.0

-- a packet that opens a message that was not heard of
abbrev pub IsUnheard : List Deed → Life → Item → Type 0
IsUnheard log from (Spelled (Rtm number tag confirm opt form)) = is_heard log from number.0 ≡ false
IsUnheard log from _ = ⊥

-- what needs a place opens a message that was not heard of
unheard : (s : Scene) (from : Life) (item : Item) → needs_place s from item ≡ true → IsUnheard s.log from item
unfolding needs_place_by
unheard s from (Spelled (Rtm number tag confirm opt form)) h = not-true (is_heard s.log from number.0) (and_parts (not (is_heard s.log from number.0)) (not (is_met s from number.0 tag)) h).0
unheard s from _ h = cc

-- the same of what a datagram has in it
unheard_body : (s : Scene) (d : Datagram) (from to : Connid) (load : Load) → d.body ≡ Between from to load → body_needs_place s d d.body ≡ true → IsUnheard s.log (life d.src from) (item_of load)
unfolding body_needs_place
unheard_body s d from to load b h =
    let P : Body → Type 0 = λ x. body_needs_place s d x ≡ true in
    let q : body_needs_place s d (Between from to load) ≡ true = subst P b h in
    unheard s (life d.src from) (item_of load) q

-- what waits for a place needs one
again_place : (class_by : Classing) (s : Scene) (d : Datagram) → is_again_early class_by s d ≡ true → body_needs_place s d d.body ≡ true
unfolding is_again_early
again_place class_by s d h = (and_parts _ _ (and_parts _ _ h).0).1

-- the deeds of an open life in both scenes
sent_log : (job : Job) (history : List Entry) (i : Life) → open_life (port_deeds job i.port.0 history) ≡ Some i.connid → (sent_scene job i.port.0 history).log ≡ life_deeds job history i
unfolding sent_scene scene of_open_life life_deeds
sent_log job history i o = rw o refl

-- a datagram with a lower stamp wears no clock
fresh_stamp : (job : Job) (log : List Entry) (d : Datagram) → clock job log < last_stamp → d.stamp.0 < last_stamp → is_worn_by job log d ≡ false
unfolding is_worn_by
fresh_stamp job log d c s = or_from (is_worn job log) (nat_le last_stamp d.stamp.0) (not_worn job log c) (lt-leb last_stamp d.stamp.0 s)

-- two lives that stand at a settled end
pub record Meet (job : Job) (history : List Entry) (i j : Life) : Type 0 where
  pub played : Played job history
  pub settled : is_settled job history ≡ true
  pub standing : Standing job history i j

-- what waits between standing lives opens a message that was not heard of
pub waits_unheard : (job : Job) (history : List Entry) (i j : Life) (d : Datagram) (load : Load) → Meet job history i j → Member d (waiting_datagrams i.port.0 history)
    → d.src.0 ≡ j.port.0 → d.body ≡ Between j.connid i.connid load → d.stamp.0 < last_stamp → IsUnheard (life_deeds job history i) j (item_of load)
waits_unheard job history i j d load m w s b stamp =
    let q = quiet job history i.port.0 m.settled (open_rank job history i.port.0 i.connid m.standing.open_i) in
    let S = sent_scene job i.port.0 history in
    let t = all_member (λ (x : Datagram). is_again_early lives_class S x || is_worn_by job (log_of i.port.0 history) x) (waiting_datagrams i.port.0 history) d q.waits w in
    let fresh = fresh_stamp job (log_of i.port.0 history) d m.standing.clock_i stamp in
    let early : is_again_early lives_class S d ≡ true = elim (or_cases (is_again_early lives_class S d) (is_worn_by job (log_of i.port.0 history) d) t) [ inl a ↦ a | inr a ↦ cc ] in
    let u = unheard_body S d j.connid i.connid load b (again_place lives_class S d early) in
    let x : ◌≡◌ {A = Life} (life d.src j.connid) j = ap (λ (p : PortNo). let y : Life = record { port = p; connid = j.connid } in y) (port_is d.src j.port s) in
    subst (λ (l : Life). IsUnheard (life_deeds job history i) l (item_of load)) x (subst (λ (log : List Deed). IsUnheard log (life d.src j.connid) (item_of load)) (sent_log job history i m.standing.open_i) u)

-- it goes from the one life to the other
goes_from : (i j : Life) (d : Datagram) (load : Load) → d.src.0 ≡ j.port.0 → d.dst ≡ i.port → d.body ≡ Between j.connid i.connid load → goes j i d d.body ≡ true
unfolding goes
goes_from i j d load s t b =
    let x : ◌≡◌ {A = Life} (life d.src j.connid) j = ap (λ (p : PortNo). let y : Life = record { port = p; connid = j.connid } in y) (port_is d.src j.port s) in
    let z : ◌≡◌ {A = Life} (life d.dst i.connid) i = ap (λ (p : PortNo). let y : Life = record { port = p; connid = i.connid } in y) t in
    rw b (and_from _ _ (ap (λ (l : Life). same_life l j) x ∙ same_life-refl j) (ap (λ (l : Life). same_life l i) z ∙ same_life-refl i))

-- what one standing life pushed for the other was taken, or opens a message that was not heard of and waits
pub delivered : (job : Job) (history : List Entry) (i j : Life) (item : Item) (t : Due) (k : ℕ) → Meet job history i j
    → WasDueAt (own_of job j) t k (life_deeds job history j) → due_going (Some t) ≡ Some (Goes i item)
    → Member (Took j item) (life_deeds job history i) ⊎ (IsUnheard (life_deeds job history i) j item × ((d : Datagram) × Member d (waiting_datagrams i.port.0 history) × (goes j i d d.body ≡ true)))
unfolding life_deeds port_deeds
delivered job history i j item t k m h g =
    let c = was_due_carried job j.port.0 j.connid i item t k (log_of j.port.0 history) (m.played.locals j.port.0) h g in
    let it : item_of c.load ≡ item = bears_item item c.load c.bears in
    let src : PushedIn c.datagram (log_of c.datagram.src.0 history) = subst (λ (n : ℕ). PushedIn c.datagram (log_of n history)) (sym c.src_is) c.pushed in
    let stamp : c.datagram.stamp.0 < last_stamp = (let a = c.stamp_is in let b = m.standing.clock_j in omega arith) in
    elim (handled_cases c.datagram history) [
      | inl u ↦ (
          let w0 = waits_in_history history c.datagram src u in
          let w : Member c.datagram (waiting_datagrams i.port.0 history) = subst (λ (p : PortNo). Member c.datagram (waiting_datagrams p.0 history)) c.dst_is w0 in
          inr (
            subst (λ (x : Item). IsUnheard (life_deeds job history i) j x) it (waits_unheard job history i j c.datagram c.load m w c.src_is c.body_is stamp),
            (c.datagram, w, goes_from i j c.datagram c.load c.src_is c.dst_is c.body_is),
          ))
      | inr u ↦ (
          let taken = handled_taken job history i j c.datagram c.load m.played (it_was job history c.datagram m.played src u) c.src_is c.dst_is c.body_is m.standing.none_dropped in
          inl (subst (λ (x : Item). Member (Took j x) (life_deeds job history i)) it taken))
    ]
