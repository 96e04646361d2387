-- In a fair job, what goes out by a log that is right by itself fits the wire.
use Rattle.std.proofs.Common.{◌≡◌, ℕ, ◌<◌, ltb-true, List, [], ◌∷◌, length, get_or, Option, Some, None, IsTrue, refl, arith, inl, inr, sym, ◌∙◌, subst}
use Rattle.std.specs.Prelude.{slice_get}
use Rattle.std.proofs.lemmas.Bool.{cases_lt}
use Rattle.std.proofs.lemmas.List.{get_or_past}
use Rattle.rdm_num.specs.declared.numbers.PortNo.{PortNo}
use Rattle.rdm_num.specs.declared.numbers.Connid.{Connid}
use Rattle.rdm_num.specs.declared.numbers.Life.{Life}
use Rattle.rdm_wire.specs.declared.Body.{Body}
use Rattle.rdm_wire.specs.declared.Body.TheVariants.{Note, Between}
use Rattle.rdm_model.specs.declared.job.Job.{Job}
use Rattle.rdm_model.specs.declared.job.Rank.{Rank}
use Rattle.rdm_model.specs.declared.job.Instr.TheVariants.{OpenLife, CloseLife}
use Rattle.rdm_model.specs.declared.answer.Next.{Next as Answer}
use Rattle.rdm_model.specs.declared.answer.Handled.{Handled}
use Rattle.rdm_model.specs.declared.answer.Handled.TheVariants.{Took as TookAnswer}
use Rattle.rdm_model.specs.declared.entry.Entry.{Entry}
use Rattle.rdm_model.specs.declared.entry.Act.{Act}
use Rattle.rdm_model.specs.declared.entry.Act.TheVariants.{Next, Push, Handle, Poll}
use Rattle.rdm_model.specs.Deeds.{Deed, Did, Polled, Item, deed_by_next, deed_by_push, deed_by_handle, deed_of, deeds, open_after, open_life, of_life}
use Rattle.rdm_model.specs.Beginnings.{Own, rank_of, no_rank, port_count, own_of}
use Rattle.rdm_model.specs.Jobs.{is_fair, law_ops, instr_fits}
use Rattle.rdm_model.specs.Scenes.{Scene, scene, deeds_at}
use Rattle.rdm_model.specs.Notes.{next_note}
use Rattle.rdm_model.specs.Dues.{Due, due}
use Rattle.rdm_model.specs.Going.{Goes, due_going, life_going, going}
use Rattle.rdm_model.specs.Local.{heard_by, own_scene, Local}
use Rattle.rdm_law.proofs.Lives.Lives.{life_scene, life_of, opened_scene, note_goes, life_local}
use Rattle.rdm_law.proofs.Fits.Fitting.{AllHandledFit, CanGo}
use Rattle.rdm_law.proofs.Fits.SmallBytes.{AllTakenFit, bytes_by_fit}
use Rattle.rdm_law.proofs.Fits.RegionsFit.{DidFits, AllDidFit, MessagesFit}
use Rattle.rdm_law.proofs.Fits.AnswersFit.{ranges_fit, numbers_fit}
use Rattle.rdm_law.proofs.Fits.SentFits.{DeedsFit}
use Rattle.rdm_law.proofs.Fits.RepliesFit.{OwnFits, HeadsFit, heads_fit}
use Rattle.rdm_law.proofs.Fits.DuesFit.{due_fits}
use Rattle.rdm_law.proofs.Played.Sound.{GoesWell}
use Rattle.rdm_law.proofs.Fits.OpeningsFit.{LimitsFit}
use Rattle.rdm_law.proofs.Fits.FairJobs.{JobFits, fair_job, all_did_fit, all_taken_fit, life_did, life_taken, life_count, did_instructions, next_within}

-- none is not some
none_some : (c : Connid) → None ≡ Some c → ⊥
none_some c h = cc

-- a poll opens and closes nothing
stays_polled : (o : Option Connid) → open_after o Polled ≡ o
unfolding open_after
stays_polled o = refl

-- none is nothing that goes
goes_none : (to : Life) (item : Item) → None ≡ Some (Goes to item) → ⊥
goes_none to item h = cc

-- the identifier that is open after a deed is in its range
opened_by_next : (connid : Connid) (ports : ℕ) (before : Option Connid) (d : Deed) → ((c : Connid) → before ≡ Some c → c.0 < 4294967296) → DidFits ports d → open_after before d ≡ Some connid
    → connid.0 < 4294967296
unfolding open_after instr_fits
opened_by_next connid ports before (Did (OpenLife c)) was h is =
    let same : c ≡ connid = cc in
    subst (λ (x : Connid). x.0 < 4294967296) same (ltb-true _ _ h)
opened_by_next connid ports before (Did CloseLife) was h is = cc
opened_by_next connid ports before _ was h is = was connid is

-- the identifier of an open life is in its range
open_fits : (ports : ℕ) (log : List Deed) (c : Connid) → AllDidFit ports log → open_life log ≡ Some c → c.0 < 4294967296
unfolding open_life
open_fits ports [] c h is = cc
open_fits ports (d ∷ before) c h is = opened_by_next c ports (open_life before) d (λ x e. open_fits ports before x h.0 e) h.1 is

-- no instruction opens or closes where there is none
none_next : (index : ℕ) (o : Option Connid) (answer : Answer) → open_after o (deed_by_next (slice_get [] index) answer) ≡ o
unfolding open_after deed_by_next
none_next index o answer = refl

-- a push opens and closes nothing
none_push : (o : Option Connid) (body : Body) → open_after o (deed_by_push body) ≡ o
unfolding open_after deed_by_push
none_push o (Note note) = refl
none_push o (Between from to load) = refl

-- a handling opens and closes nothing
none_handle : (o : Option Connid) (src : PortNo) (body : Body) (answer : Handled) → open_after o (deed_by_handle src body answer) ≡ o
unfolding open_after deed_by_handle
none_handle o src (Note note) (TookAnswer entered) = refl
none_handle o src (Between from to load) (TookAnswer entered) = refl
none_handle o src _ _ = refl

-- no act opens or closes where there is no program
none_act : (o : Option Connid) (act : Act) → open_after o (deed_of [] act) ≡ o
unfolding deed_of
none_act o (Next index op answer) = none_next index o answer
none_act o (Push d) = none_push o d.body
none_act o (Handle d answer) = none_handle o d.src d.body answer
none_act o (Poll c) = (let unfolded : open_after o Polled ≡ o = stays_polled o in unfolded)

-- without a program no life is open
pub none_opens : (log : List Entry) → open_life (deeds [] log) ≡ None
unfolding open_life deeds
none_opens [] = refl
none_opens (e ∷ before) = none_act (open_life (deeds [] before)) e.act ∙ none_opens before

-- a port with an open life is a rank
pub open_port : (job : Job) (port : ℕ) (log : List Entry) (c : Connid) → open_life (deeds_at job port log) ≡ Some c → port < port_count job
unfolding deeds_at rank_of
open_port job port log c is =
    elim (cases_lt port (length job.ranks)) [
      | inl rank ↦ rank
      | inr past ↦
          let none : get_or job.ranks port no_rank ≡ no_rank = get_or_past job.ranks port no_rank past in
          let P : Rank → Type 0 = λ r. open_life (deeds r.ops log) ≡ Some c in
          let q : open_life (deeds [] log) ≡ Some c = subst P none is in
          let r = none_opens log in
          absurd (none_some c (sym r ∙ q))
    ]

-- what goes out of a port is the due item of its open life
due_of_going : (o : Option Due) (to : Life) (item : Item) → due_going o ≡ Some (Goes to item) → (t : Due) × (o ≡ Some t) × (due_going (Some t) ≡ Some (Goes to item))
unfolding due_going
due_of_going None to item h = cc
due_of_going (Some t) to item h = (t, refl, h)

-- what goes out of an open life is its due item
pub life_goes : (ports : ℕ) (own : Own) (port_log log : List Deed) (to : Life) (item : Item) → going (life_scene ports own port_log log) ≡ Some (Goes to item)
    → (t : Due) × (due own (heard_by own.limits.first log) log ≡ Some t) × (due_going (Some t) ≡ Some (Goes to item))
unfolding going life_going
life_goes ports own port_log log to item h =
    due_of_going (due own (heard_by own.limits.first log) log) to item
    (note_goes (next_note ports own.life.port.0 port_log) (due_going (due own (heard_by own.limits.first log) log)) to item h)

-- where no life is open nothing goes to a life
pub closed_goes : (s : Scene) (to : Life) (item : Item) → s.now ≡ None → going s ≡ Some (Goes to item) → ⊥
unfolding going life_going
closed_goes s to item now h =
    let a = note_goes (next_note s.ports s.own.life.port.0 s.port_log) (life_going s.now s) to item h in
    let b : life_going None s ≡ Some (Goes to item) = subst (λ (o : Option Connid). life_going o s ≡ Some (Goes to item)) now a in
    goes_none to item b

-- what fits of a life in a fair job, by a log that is right by itself
pub record LifeFits (job : Job) (port : ℕ) (log : List Entry) (c : Connid) : Type 0 where
  pub deeds_fit : DeedsFit (port_count job) job.limits.first (of_life c (deeds_at job port log))
  pub taken : AllTakenFit (of_life c (deeds_at job port log))

-- the deeds of each life fit
pub life_fits : (job : Job) (port : ℕ) (log : List Entry) (c : Connid) → JobFits job → Local job port log → AllHandledFit log → LifeFits job port log c
unfolding deeds_at own_of
life_fits job port log c fair l h =
    let own = own_of job (life_of port c) in
    let port_log = deeds (rank_of job port).ops log in
    let mine = of_life c port_log in
    let rank = fair.ranks port in
    let local = life_local job port c log l in
    let few = rank.few in
    let a = life_count c port_log in
    let b = did_instructions (rank_of job port).ops log in
    let n = next_within job port log l in
    record {
      deeds_fit = record {
        did = life_did (port_count job) c port_log (all_did_fit (port_count job) (rank_of job port).ops log rank.ops);
        ranges = ranges_fit own mine local;
        numbers = numbers_fit own mine local;
        count = omega arith;
      };
      taken = life_taken c port_log (all_taken_fit (rank_of job port).ops log h);
    }

-- what the endpoint of an open life begins with
pub life_begins : (job : Job) (port : ℕ) (log : List Entry) (c : Connid) → JobFits job → open_life (deeds_at job port log) ≡ Some c → OwnFits (own_of job (life_of port c))
unfolding deeds_at own_of
life_begins job port log c fair is =
    let rank = fair.ranks port in
    let ports = fair.ports in
    let rank_port = open_port job port log c is in
    record {
      port = omega arith;
      connid = open_fits (port_count job) (deeds (rank_of job port).ops log) c (all_did_fit (port_count job) (rank_of job port).ops log rank.ops) is;
      features = rank.features;
    }

-- a life's limits fit in a fair job, since its pools are not of those that packets turn on
own_limits_fit : (job : Job) (life : Life) → JobFits job → LimitsFit (own_of job life).limits
unfolding own_of
own_limits_fit job life fair = record { mtu = fair.limits.mtu; credits = fair.limits.credits; credits_top = fair.limits.credits_top }

-- what goes out of an open life can go
open_goes_well : (job : Job) (port : ℕ) (log : List Entry) (to : Life) (item : Item) (c : Connid) → JobFits job → Local job port log → AllHandledFit log
    → open_life (deeds_at job port log) ≡ Some c → going (own_scene job port (deeds_at job port log)) ≡ Some (Goes to item) → CanGo item
unfolding own_of heard_by
open_goes_well job port log to item c fair l h is goes =
    let own = own_of job (life_of port c) in
    let port_log = deeds_at job port log in
    let mine = of_life c port_log in
    let t = life_goes (port_count job) own port_log mine to item (subst (λ (s : Scene). going s ≡ Some (Goes to item)) (opened_scene job port c port_log is) goes) in
    let fits = life_fits job port log c fair l h in
    let ms = heard_by own.limits.first mine in
    let bytes : MessagesFit ms = λ source k. bytes_by_fit own.limits.first mine source k fits.taken in
    let heads : HeadsFit ms.head = heads_fit mine fits.taken in
    due_fits (port_count job) own ms mine t.0 to item (life_begins job port log c fair is) (own_limits_fit job own.life fair) bytes heads fits.deeds_fit fits.taken t.1 t.2

-- what goes out in a fair job fits the wire
pub goes_well : (job : Job) → IsTrue (is_fair law_ops job) → GoesWell job
unfolding own_scene scene
goes_well job fair port log to item l h goes =
    (elim (open_life (deeds_at job port log)) as (λ o. open_life (deeds_at job port log) ≡ o → CanGo item) [
      | None ↦ λ is. absurd (closed_goes (own_scene job port (deeds_at job port log)) to item is goes)
      | Some c ↦ λ is. open_goes_well job port log to item c (fair_job job fair) l h is goes
    ]) refl
