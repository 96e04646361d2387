-- At a settled end a standing life has nothing left to push.
use Rattle.std.proofs.Common.{◌≡◌, ℕ, ◌<◌, ◌≤◌, Bool, true, false, cond, ◌||◌, List, [], ◌∷◌, Option, Some, None, refl, arith, ◌⊎◌, inl, inr, ◌∙◌, ap, subst}
use Rattle.std.specs.Prelude.{slice_get, is_none}
use Rattle.std.specs.List.{list_all}
use Rattle.std.proofs.lemmas.Bool.{and_parts, or_cases, lt-leb, cases_lt}
use Rattle.std.proofs.lemmas.List.{get_or_past}
use Rattle.rdm_lists.specs.Lists.{Member}
use Rattle.rdm_num.specs.declared.numbers.Life.{Life}
use Rattle.rdm_num.specs.declared.numbers.Connid.{Connid}
use Rattle.rdm_pkt.specs.declared.Packet.{Packet}
use Rattle.rdm_wire.specs.declared.Datagram.{Datagram}
use Rattle.rdm_model.specs.declared.job.Job.{Job}
use Rattle.rdm_model.specs.declared.job.Rank.{Rank}
use Rattle.rdm_model.specs.declared.job.Instr.{Instr}
use Rattle.rdm_model.specs.declared.entry.Entry.{Entry}
use Rattle.rdm_model.specs.declared.entry.Act.{Act}
use Rattle.rdm_model.specs.declared.entry.Act.TheVariants.{Next, Push, Handle, Poll}
use Rattle.rdm_model.specs.declared.answer.Handled.{Handled}
use Rattle.rdm_model.specs.declared.answer.Handled.TheVariants.{Took as TookAnswer}
use Rattle.rdm_wire.specs.declared.Body.TheVariants.{Note, Between}
use Rattle.rdm_wire.specs.declared.Body.{Body}
use Rattle.rdm_num.specs.declared.numbers.PortNo.{PortNo}
use Rattle.rdm_model.specs.Deeds.{Deed, Did, deed_by_next, deed_by_push, deed_by_handle, deed_of, deeds, open_after, open_life, log_of}
use Rattle.rdm_model.specs.Beginnings.{Own, Messages, no_rank, rank_of, port_count, own_of}
use Rattle.rdm_model.specs.Notes.{OwedNote, next_note}
use Rattle.rdm_model.specs.Scenes.{Scene, deeds_at}
use Rattle.rdm_model.specs.Going.{Going, due_going, life_going, note_going, going}
use Rattle.rdm_model.specs.Steps.{last_stamp, clock}
use Rattle.rdm_model.specs.Classes.{lives_class}
use Rattle.rdm_model.specs.Local.{own_scene}
use Rattle.rdm_model.specs.Lawful.{port_deeds, life_deeds, sent_scene}
use Rattle.rdm_model.specs.Replies.{Reply}
use Rattle.rdm_model.specs.Sends.{Sent, sends}
use Rattle.rdm_model.specs.Dues.{Due, Replies, Sends, next_packet, is_over, send_due, next_send, reply_due, next_due, progress, due}
use Rattle.rdm_model.specs.Settled.{waiting_datagrams, is_worn, is_worn_by, left_at, is_no_entry, nothing_to_poll, is_quiet, is_quiet_in, is_settled}
use Rattle.rdm_model.specs.Takes.{is_again_early}
use Rattle.rdm_law.proofs.Lives.Lives.{life_scene, opened_scene}
use Rattle.rdm_law.proofs.Accounts.Wired.{Played}
use Rattle.rdm_law.proofs.Accounts.Known.{account}
use Rattle.rdm_law.proofs.Central.Agreed.{going_agreed}
use Rattle.rdm_lists.proofs.Options.{none_is}
use Rattle.rdm_lists.proofs.Below.{all_below}

-- what a quiet port says
pub record Quiet (job : Job) (history : List Entry) (port : ℕ) : Type 0 where
  pub left : is_no_entry (left_at job port (sent_scene job port history) (log_of port history)) ≡ true
  pub going_none : (is_none (going (sent_scene job port history)) || is_worn job (log_of port history)) ≡ true
  pub polled : (nothing_to_poll (sent_scene job port history) || is_worn job (log_of port history)) ≡ true
  pub waits : list_all (λ (d : Datagram). is_again_early lives_class (sent_scene job port history) d || is_worn_by job (log_of port history) d) (waiting_datagrams port history) ≡ true

-- at a settled end each port is quiet
pub quiet : (job : Job) (history : List Entry) (port : ℕ) → is_settled job history ≡ true → port < port_count job → Quiet job history port
unfolding is_settled is_quiet_in is_quiet
quiet job history port h l =
    let q = all_below (is_quiet_in job history) (port_count job) port h l in
    let a = and_parts _ _ q in
    let b = and_parts _ _ a.0 in
    let c = and_parts _ _ b.0 in
    record { left = c.0; going_none = c.1; polled = b.1; waits = a.1 }

-- a program with no instructions opens no life
closed_by : (was : Option Connid) (d : Deed) → was ≡ None → ((instr : Instr) → d ≡ Did instr → ⊥) → open_after was d ≡ None
unfolding open_after
closed_by was (Did instr) w h = absurd (h instr refl)
closed_by was _ w h = w

-- a push is no instruction
push_did : (body : Body) (instr : Instr) → deed_by_push body ≡ Did instr → ⊥
unfolding deed_by_push
push_did (Note note) instr h = cc
push_did (Between from to load) instr h = cc

-- nor is the handling of a datagram
handle_did : (src : PortNo) (body : Body) (answer : Handled) (instr : Instr) → deed_by_handle src body answer ≡ Did instr → ⊥
unfolding deed_by_handle
handle_did src (Note note) (TookAnswer entered) instr h = cc
handle_did src (Between from to load) (TookAnswer entered) instr h = cc
handle_did src _ _ instr h = cc

-- without instructions no deed is one
no_instr : (act : Act) (instr : Instr) → deed_of [] act ≡ Did instr → ⊥
unfolding deed_of deed_by_next
no_instr (Next index op answer) instr h = cc
no_instr (Push d) instr h = push_did d.body instr h
no_instr (Handle d answer) instr h = handle_did d.src d.body answer instr h
no_instr (Poll c) instr h = cc

-- and no life opens
none_open : (log : List Entry) → open_life (deeds [] log) ≡ None
unfolding open_life deeds
none_open [] = refl
none_open (e ∷ before) = closed_by (open_life (deeds [] before)) (deed_of [] e.act) (none_open before) (no_instr e.act)

-- a port past the ranks has no instructions
rank_past : (job : Job) (port : ℕ) → port_count job ≤ port → (rank_of job port).ops ≡ []
unfolding rank_of
rank_past job port h = ap (λ (r : Rank). r.ops) (get_or_past job.ranks port no_rank h)

-- a port with a life open is a rank
pub open_rank : (job : Job) (history : List Entry) (port : ℕ) (c : Connid) → open_life (port_deeds job port history) ≡ Some c → port < port_count job
unfolding port_deeds deeds_at
open_rank job history port c h =
    elim (cases_lt port (port_count job)) [
      | inl less ↦ less
      | inr more ↦ (let e = ap (λ (ops : List Instr). open_life (deeds ops (log_of port history))) (rank_past job port more) in let n = none_open (log_of port history) in cc)
    ]

-- the clock is not at its end
pub not_worn : (job : Job) (log : List Entry) → clock job log < last_stamp → is_worn job log ≡ false
unfolding is_worn
not_worn job log h = lt-leb last_stamp (clock job log) h

-- the first test holds where the second does not
or_left_true : (a b : Bool) → (a || b) ≡ true → b ≡ false → a ≡ true
or_left_true a b h k = elim (or_cases a b h) [ inl x ↦ x | inr x ↦ cc ]

-- where nothing goes, nothing goes from a life
note_none : (n : Option OwedNote) (o : Option Going) → note_going n o ≡ None → o ≡ None
unfolding note_going
note_none None o h = h
note_none (Some n) o h = cc

-- where nothing goes by a due item there is none
due_none : (o : Option Due) → due_going o ≡ None → o ≡ None
unfolding due_going
due_none None h = refl
due_none (Some (Replies r)) h = cc
due_none (Some (Sends s p)) h = cc

-- a scene from which nothing goes has no due item
scene_none : (s : Scene) (c : Connid) → s.now ≡ Some c → going s ≡ None → due s.own s.ms s.log ≡ None
unfolding going life_going
scene_none s c n h = due_none (due s.own s.ms s.log) (subst (λ (o : Option Connid). life_going o s ≡ None) n (note_none (next_note s.ports s.own.life.port.0 s.port_log) (life_going s.now s) h))

-- a life has no due item left
abbrev pub IsStill : Job → List Entry → Life → Type 0
IsStill job history l = due (own_of job l) (account job history l) (life_deeds job history l) ≡ None

-- the life of an endpoint is its own
own_now : (job : Job) (l : Life) → ◌≡◌ {A = Option Connid} (Some (own_of job l).life.connid) (Some l.connid)
unfolding own_of
own_now job l = refl

-- at a settled end an open life whose clock goes on has no due item left
pub settled_still : (job : Job) (history : List Entry) (l : Life) → Played job history → is_settled job history ≡ true
    → open_life (port_deeds job l.port.0 history) ≡ Some l.connid → clock job (log_of l.port.0 history) < last_stamp → IsStill job history l
unfolding life_deeds
settled_still job history l played h open' low =
    let port = l.port.0 in
    let q = quiet job history port h (open_rank job history port l.connid open') in
    let none = none_is (going (sent_scene job port history)) (or_left_true _ _ q.going_none (not_worn job (log_of port history) low)) in
    let own : going (own_scene job port (port_deeds job port history)) ≡ None = going_agreed job port history played ∙ none in
    let here = subst (λ (s : Scene). going s ≡ None) (opened_scene job port l.connid (port_deeds job port history) open') own in
    scene_none (life_scene (port_count job) (own_of job l) (port_deeds job port history) (life_deeds job history l)) l.connid (own_now job l) here

-- with no due item, no reply waits
reply_none : (o : Option Reply) (others : Option Due) → reply_due o others ≡ None → (o ≡ None) × (others ≡ None)
unfolding reply_due
reply_none None others h = (refl, h)
reply_none (Some r) others h = cc

-- with no due item, no send has a packet
send_none : (s : Sent) (o : Option Packet) (others : Option Due) → send_due s o others ≡ None → (o ≡ None) × (others ≡ None)
unfolding send_due
send_none s None others h = (refl, h)
send_none s (Some p) others h = cc

-- with no due item, each send is over or has nothing next
sends_none : (own : Own) (log : List Deed) (packets : ℕ → List Packet) (sents : List Sent) (s : Sent) → next_send own log packets sents ≡ None → Member s sents
    → (is_over log (packets s.number) s ≡ true) ⊎ (next_packet own log s (packets s.number) ≡ None)
unfolding next_send
sends_none own log packets [] s h m = elim m [ ]
sends_none own log packets (t ∷ ts) s h m =
    (elim (is_over log (packets t.number) t) as (λ b. is_over log (packets t.number) t ≡ b
    → cond b (next_send own log packets ts) (send_due t (next_packet own log t (packets t.number)) (next_send own log packets ts)) ≡ None
    → (is_over log (packets s.number) s ≡ true) ⊎ (next_packet own log s (packets s.number) ≡ None)) [
      | true ↦ λ is k. elim m [
        | inl a ↦ inl (subst (λ (x : Sent). is_over log (packets x.number) x ≡ true) a is)
        | inr a ↦ sends_none own log packets ts s k a
      ]
      | false ↦ λ is k.
          let n = send_none t (next_packet own log t (packets t.number)) (next_send own log packets ts) k in
          elim m [
            | inl a ↦ inr (subst (λ (x : Sent). next_packet own log x (packets x.number) ≡ None) a n.0)
            | inr a ↦ sends_none own log packets ts s n.1 a
          ]
    ]) refl h

-- what a life without a due item has: no reply that waits, and sends that are over or have nothing next
pub record AtRest (own : Own) (ms : Messages) (log : List Deed) : Type 0 where
  pub no_reply : slice_get (progress own ms log).replies 0 ≡ None
  pub each : (s : Sent) → Member s (sends own ms log) → (is_over log ((progress own ms log).packets s.number) s ≡ true) ⊎ (next_packet own log s ((progress own ms log).packets s.number) ≡ None)

-- a life without a due item is at rest
pub at_rest : (own : Own) (ms : Messages) (log : List Deed) → due own ms log ≡ None → AtRest own ms log
unfolding due next_due
at_rest own ms log h =
    let r = reply_none (slice_get (progress own ms log).replies 0) (next_send own log (progress own ms log).packets (sends own ms log)) h in
    record { no_reply = r.0; each = λ s m. sends_none own log (progress own ms log).packets (sends own ms log) s r.1 m }
