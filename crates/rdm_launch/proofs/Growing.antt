-- A step of a port leaves its log right by itself.
use Rattle.std.proofs.Common.{◌≡◌, ℕ, ◌+◌, ◌≤◌, ◌<◌, Bool, true, false, cond, ◌&&◌, List, [], ◌∷◌, unwrap_or, Option, Some, None, option_map, refl, ap, subst, arith, leb-false, ◌⊎◌, inl, inr}
use Rattle.std.specs.Prelude.{max, nat_le, remove, IsTrue}
use Rattle.std.proofs.lemmas.Bool.{or_parts}
use Rattle.rdm_num.specs.declared.numbers.Life.{Life}
use Rattle.rdm_num.specs.Lives.{life}
use Rattle.rdm_num.specs.declared.completion.Completion.{Completion}
use Rattle.rdm_wire.specs.declared.Datagram.{Datagram}
use Rattle.rdm_wire.specs.declared.Body.{Body}
use Rattle.rdm_wire.specs.declared.Body.TheVariants.{Note, Between}
use Rattle.rdm_wire.specs.declared.Load.{Load}
use Rattle.rdm_wire.specs.declared.Load.TheVariants.{Packet as PacketLoad, Ask, Given}
use Rattle.rdm_wire.specs.Flights.{InFlight}
use Rattle.rdm_model.specs.declared.job.Job.{Job}
use Rattle.rdm_model.specs.declared.job.Instr.{Instr}
use Rattle.rdm_model.specs.declared.entry.Entry.{Entry}
use Rattle.rdm_model.specs.declared.entry.Act.{Act}
use Rattle.rdm_model.specs.declared.answer.Next.{Next}
use Rattle.rdm_model.specs.declared.answer.Next.TheVariants as N
use Rattle.rdm_model.specs.declared.answer.Push.{Push}
use Rattle.rdm_model.specs.declared.answer.Push.TheVariants as Pu
use Rattle.rdm_model.specs.declared.answer.Handled.{Handled}
use Rattle.rdm_model.specs.declared.answer.Handled.TheVariants as H
use Rattle.rdm_model.specs.declared.answer.Polled.{Polled}
use Rattle.rdm_model.specs.declared.answer.Polled.TheVariants as P
use Rattle.rdm_model.specs.Beginnings.{Own}
use Rattle.rdm_model.specs.Deeds.{Deed, item_of}
use Rattle.rdm_model.specs.Scenes.{Scene, deeds_at}
use Rattle.rdm_model.specs.Answers.{answer_of, is_entry}
use Rattle.rdm_model.specs.Classes.{class_of}
use Rattle.rdm_model.specs.Takes.{handled_answer, is_again_early}
use Rattle.rdm_model.specs.Going.{Going, GoesNote, Goes, going}
use Rattle.rdm_model.specs.Jobs.{is_fair, law_ops}
use Rattle.rdm_model.specs.Steps.{clock, stamp_after, last_stamp, next_completion, Does}
use Rattle.rdm_model.specs.Settled.{is_worn, is_worn_by, instruction_left, left_at, left_answer, answer_or_worn}
use Rattle.rdm_model.specs.Local.{Local, own_scene}
use Rattle.rdm_model.specs.Worlds.{next_act, datagram_of, load_of, scene_in}
use Rattle.rdm_law.proofs.Fits.Fitting.{AllHandledFit, HandledFits, BodyFits, LoadFits, CanGo, load_bears}
use Rattle.rdm_law.proofs.Played.Sound.{entry_of, not_worn}
use Rattle.rdm_law.proofs.Played.GoesWell.{goes_well}
use Rattle.rdm_port.specs.Views.{PortView, IsPortOf, scene_at, logged, stashed}
use Rattle.rdm_port.specs.Built.{IsBuiltBody, IsBuiltDatagram}
use Rattle.rdm_port.specs.Nexts.{next_answer, after_instruction, after_next, DoesNext}
use Rattle.rdm_port.specs.Pushes.{lone_world, out_of, PushedAs, DoesPush}
use Rattle.rdm_port.specs.Polls.{PolledAs, DoesPoll}
use Rattle.rdm_port.specs.Handles.{answer_to, is_handling, after_answer, place_of, picked, DoesHandle}
use Rattle.rdm_ep.specs.Eager.{IsEagerItem}
use Rattle.rdm_launch.specs.Fitting.{IsBuiltAct, HandledBuilt}

-- what is built has bytes that are bytes
load_built : (own : Own) (log : List Deed) (from : Life) (load : Load) → IsEagerItem own log from (item_of load) → LoadFits load
unfolding item_of
load_built own log from (PacketLoad bytes) h = tt
load_built own log from (Ask a) h = tt
load_built own log from (Given g) h = elim h [ ]

body_built : (own : Own) (log : List Deed) (d : Datagram) (body : Body) → IsBuiltBody own log d body → BodyFits body
body_built own log d (Note note) h = tt
body_built own log d (Between from to load) h = load_built own log (life d.src from) load h

act_built : (s : Scene) (act : Act) → IsBuiltAct s act → HandledFits act
act_built s (Act.Handle d answer) h = body_built s.own s.log d d.body h
act_built s (Act.Next index op answer) h = tt
act_built s (Act.Push d) h = tt
act_built s (Act.Poll c) h = tt

pub all_built : (job : Job) (port : ℕ) (log : List Entry) → HandledBuilt job port log → AllHandledFit log
all_built job port [] h = tt
all_built job port (e ∷ before) h = (all_built job port before h.0, act_built (own_scene job port (deeds_at job port before)) e.act h.1)

-- the log is as it was, or has one entry more, with which it is right where it was and where what it handled was built
abbrev pub Grows : Job → ℕ → (before after : List Entry) → Type 0
Grows job port before after =
    (after ≡ before)
    ⊎ ((e : Entry) × (after ≡ e ∷ before)
    × (IsBuiltAct (own_scene job port (deeds_at job port before)) e.act → AllHandledFit before → Local job port before → Local job port (e ∷ before)))

-- so it is in each fair job of which it is the port
abbrev pub GrowsRight : PortView → PortView → Type 0
GrowsRight p q = (job : Job) → IsTrue (is_fair law_ops job) → IsPortOf job p → Grows job p.number p.log q.log

-- what an instruction answers, where that is an entry
entry_answer : (answer x : Next) (worn : Bool) → is_entry answer ≡ true → (answer ≡ N.Memory) ⊎ (answer ≡ cond (is_entry x && worn) N.Worn x) → (answer ≡ x) × (worn ≡ false)
unfolding is_entry
entry_answer answer x worn t (inl m) = absurd (let e : is_entry N.Memory ≡ true = subst (λ (y : Next). is_entry y ≡ true) m t in cc)
entry_answer answer x worn t (inr e) = by_cases (is_entry x) worn refl e
  where
    by_cases : (b w : Bool) → is_entry x ≡ b → answer ≡ cond (b && w) N.Worn x → (answer ≡ x) × (w ≡ false)
    by_cases true true is f = absurd (let g : is_entry N.Worn ≡ true = subst (λ (y : Next). is_entry y ≡ true) f t in cc)
    by_cases true false is f = (f, refl)
    by_cases false w is f = absurd (let g : is_entry x ≡ true = subst (λ (y : Next). is_entry y ≡ true) f t in cc)

-- the next instruction
next_case : (job : Job) (p q : PortView) (answer : Next) (o : Option Instr) → instruction_left job p.number p.log ≡ o → q ≡ after_instruction job p o answer
    → (answer ≡ N.Memory) ⊎ (answer ≡ unwrap_or (left_answer job (scene_at job p) p.log o) N.Ended) → Grows job p.number p.log q.log
unfolding after_instruction left_answer answer_or_worn instruction_left scene_at logged next_act stamp_after
next_case job p q answer None left after exact = inl (ap (λ (x : PortView). x.log) after)
next_case job p q answer (Some instr) left after exact =
    let act = next_act p.log instr answer in
    (elim (is_entry answer) as (λ b. is_entry answer ≡ b → q ≡ cond b (logged job p act) p → Grows job p.number p.log q.log) [
      | true ↦ λ t e.
          let a = entry_answer answer (answer_of (own_scene job p.number (deeds_at job p.number p.log)) instr) (is_worn job p.log) t exact in
          inr (entry_of job p.number p.log act, ap (λ (x : PortView). x.log) e, λ built fit l. (l, refl, (refl, not_worn job p.log a.1, (refl, (instr, left, refl, a.0), t))))
      | false ↦ λ t e. inl (ap (λ (x : PortView). x.log) e)
    ]) refl after

pub next_grows : (p q : PortView) (answer : Next) → DoesNext p q answer → GrowsRight p q
unfolding after_next next_answer left_at
next_grows p q answer does job fair is = next_case job p q answer (instruction_left job p.number p.log) refl (does.after job is) (does.exact job is)

-- a push left the port, or it went on with a datagram
push_cases : (job : Job) (p q : PortView) (o : Option Datagram) (answer : Push) → PushedAs job p q o answer
    → (q ≡ p) ⊎ ((d : Datagram) × (o ≡ Some d) × (is_worn job p.log ≡ false) × (q ≡ logged job p (Act.Push d)))
push_cases job p q None (Pu.Pushed number) h = elim h [ ]
push_cases job p q None Pu.Idle h = inl h
push_cases job p q None (Pu.Full port) h = elim h [ ]
push_cases job p q None Pu.Worn h = elim h [ ]
push_cases job p q None Pu.Memory h = inl h
push_cases job p q (Some d) (Pu.Pushed number) h = inr (d, refl, h.0, h.2)
push_cases job p q (Some d) Pu.Idle h = elim h [ ]
push_cases job p q (Some d) (Pu.Full port) h = inl h.2
push_cases job p q (Some d) Pu.Worn h = inl h.1
push_cases job p q (Some d) Pu.Memory h = inl h

-- what is some is no other, and not none
some_is : (d q : Datagram) → Some d ≡ Some q → d ≡ q
some_is d q e = cc

none_is : (d : Datagram) → None ≡ Some d → ⊥
none_is d e = cc

-- what goes out is what its port does next
push_does : (job : Job) (p : PortView) (g : Option Going) (d : Datagram) → IsTrue (is_fair law_ops job) → going (own_scene job p.number (deeds_at job p.number p.log)) ≡ g
    → option_map (datagram_of job (lone_world p) p.number) g ≡ Some d → AllHandledFit p.log → Local job p.number p.log
    → Does job class_of (own_scene job p.number (deeds_at job p.number p.log)) p.log (entry_of job p.number p.log (Act.Push d)) (Act.Push d)
unfolding datagram_of scene_in stamp_after
push_does job p None d fair is e fit l = absurd (none_is d e)
push_does job p (Some (GoesNote note)) d fair is e fit l =
    let same = some_is (datagram_of job (lone_world p) p.number (GoesNote note)) d e in
    subst (λ (x : Datagram). Does job class_of (own_scene job p.number (deeds_at job p.number p.log)) p.log (entry_of job p.number p.log (Act.Push x)) (Act.Push x)) same
    (refl, refl, refl, (GoesNote note, is, (refl, refl)))
push_does job p (Some (Goes to item)) d fair is e fit l =
    let same = some_is (datagram_of job (lone_world p) p.number (Goes to item)) d e in
    let can : CanGo item = goes_well job fair p.number p.log to item l fit is in
    subst (λ (x : Datagram). Does job class_of (own_scene job p.number (deeds_at job p.number p.log)) p.log (entry_of job p.number p.log (Act.Push x)) (Act.Push x)) same
    (refl, refl, refl, (Goes to item, is, (refl, (load_of item, refl, load_bears item can))))

pub push_grows : (p q : PortView) (answer : Push) → DoesPush p q answer → GrowsRight p q
unfolding out_of scene_at logged stamp_after
push_grows p q answer does job fair is =
    let s = own_scene job p.number (deeds_at job p.number p.log) in
    elim (push_cases job p q (option_map (datagram_of job (lone_world p) p.number) (going s)) answer (does job is)) [
      | inl e ↦ inl (ap (λ (x : PortView). x.log) e)
      | inr c ↦ inr (
        entry_of job p.number p.log (Act.Push c.0),
        ap (λ (x : PortView). x.log) c.3,
        λ built fit l.
            (l, refl, (refl, not_worn job p.log c.2, push_does job p (going s) c.0 fair refl c.1 fit l)),
      )
    ]

-- a poll left the port, or gave a completion
poll_cases : (job : Job) (p q : PortView) (o : Option Completion) (answer : Polled) → PolledAs job p q o answer
    → (q ≡ p) ⊎ ((c : Completion) × (o ≡ Some c) × (is_worn job p.log ≡ false) × (q ≡ logged job p (Act.Poll c)))
poll_cases job p q None (P.Some d) h = elim h [ ]
poll_cases job p q None P.None h = inl h
poll_cases job p q None P.Worn h = elim h [ ]
poll_cases job p q (Some c) (P.Some d) h = inr (c, refl, h.0, h.2)
poll_cases job p q (Some c) P.None h = elim h [ ]
poll_cases job p q (Some c) P.Worn h = inl h.1

pub poll_grows : (p q : PortView) (answer : Polled) → DoesPoll p q answer → GrowsRight p q
unfolding scene_at logged stamp_after
poll_grows p q answer does job fair is =
    elim (poll_cases job p q (next_completion (own_scene job p.number (deeds_at job p.number p.log))) answer (does job is)) [
      | inl e ↦ inl (ap (λ (x : PortView). x.log) e)
      | inr c ↦ inr (entry_of job p.number p.log (Act.Poll c.0), ap (λ (x : PortView). x.log) c.3, λ built fit l. (l, refl, (refl, not_worn job p.log c.2, c.1)))
    ]

-- a clock and a stamp that are not at the end can be passed
not_worn_by : (job : Job) (log : List Entry) (d : Datagram) → is_worn_by job log d ≡ false → max (clock job log) d.stamp.0 + 1 ≤ last_stamp
unfolding is_worn_by is_worn
not_worn_by job log d h =
    let a = or_parts (nat_le last_stamp (clock job log)) (nat_le last_stamp d.stamp.0) h in
    let b : clock job log < last_stamp = leb-false _ _ a.0 in
    let c : d.stamp.0 < last_stamp = leb-false _ _ a.1 in
    omega arith

-- what a datagram is answered, where that is an entry
handled_right : (answer x : Handled) (early worn : Bool) → is_handling answer ≡ true → (answer ≡ H.Memory) ⊎ (answer ≡ cond early H.AgainEarly (cond worn H.Worn x))
    → (answer ≡ x) × (early ≡ false) × (worn ≡ false)
unfolding is_handling
handled_right answer x early worn t (inl m) = absurd (let e : is_handling H.Memory ≡ true = subst (λ (y : Handled). is_handling y ≡ true) m t in cc)
handled_right answer x true worn t (inr e) = absurd (let f : is_handling H.AgainEarly ≡ true = subst (λ (y : Handled). is_handling y ≡ true) e t in cc)
handled_right answer x false true t (inr e) = absurd (let f : is_handling H.Worn ≡ true = subst (λ (y : Handled). is_handling y ≡ true) e t in cc)
handled_right answer x false false t (inr e) = (e, refl, refl)

-- a datagram that was looked at, or none
handle_case : (job : Job) (p q : PortView) (place : ℕ) (o : Option Datagram) (answer : Handled) → q ≡ after_answer job p place o answer
    → (((d : Datagram) → o ≡ Some d → IsBuiltDatagram job p d) → (answer ≡ H.Memory) ⊎ (answer ≡ answer_to job p o)) → Grows job p.number p.log q.log
unfolding after_answer answer_to scene_at logged stamp_after
handle_case job p q place None answer after exact = inl (ap (λ (x : PortView). x.log) after)
handle_case job p q place (Some d) answer after exact =
    let s = own_scene job p.number (deeds_at job p.number p.log) in
    let act = Act.Handle d answer in
    (elim (is_handling answer) as (λ b. is_handling answer ≡ b → q ≡ cond b (record (logged job p act) { stash = remove p.stash place }) p → Grows job p.number p.log q.log) [
      | true ↦ λ t e. inr (
        entry_of job p.number p.log act,
        ap (λ (x : PortView). x.log) e,
        λ built fit l.
            let all : (r : Datagram) → Some d ≡ Some r → IsBuiltDatagram job p r = λ r same. (let one : d ≡ r = cc in subst (λ (x : Datagram). IsBuiltDatagram job p x) one built) in
            let a = handled_right answer (handled_answer class_of s d) (is_again_early class_of s d) (is_worn_by job p.log d) t (exact all) in
            (l, refl, (refl, not_worn_by job p.log d a.2, (a.0, a.1))),
      )
      | false ↦ λ t e. inl (ap (λ (x : PortView). x.log) e)
    ]) refl after

-- a port with other datagrams in its stash is the same
restashed : (job : Job) (p : PortView) (got : List Datagram) → IsPortOf job p → IsPortOf job (stashed p got)
restashed job p got is = record { within = is.within; ports_are = is.ports_are; inbox_is = is.inbox_is; start_is = is.start_is; limits_are = is.limits_are; rank_is = is.rank_is }

pub handle_grows : (in_order : Bool) (p q : PortView) (pick : ℕ) (answer : Handled) (before after : Option InFlight) → DoesHandle in_order p q pick answer before after → GrowsRight p q
handle_grows in_order p q pick answer before after does job fair is =
    let r = stashed p does.got in
    let mine = restashed job p does.got is in
    handle_case job r q (place_of r pick) (picked r pick) answer (does.answers.after job mine) (does.answers.exact job mine)
