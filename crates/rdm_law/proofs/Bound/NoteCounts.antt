-- Notes that were pushed are no more than were owed, and polls no more than completions.
use Rattle.std.proofs.Common.{◌≡◌, ℕ, zero, suc, ◌+◌, ◌*◌, ◌<◌, ◌≤◌, not, List, [], ◌∷◌, length, Option, Some, refl, arith, ap, subst, length-append}
use Rattle.std.specs.Prelude.{◌==◌, slice_get, filter}
use Rattle.std.proofs.lemmas.Option.{slice_get_within}
use Rattle.std.proofs.lemmas.List.{length-map}
use Rattle.rdm_lists.specs.Lists.{below}
use Rattle.rdm_num.specs.declared.numbers.PortNo.{PortNo}
use Rattle.rdm_wire.specs.declared.Datagram.{Datagram}
use Rattle.rdm_wire.specs.declared.Body.{Body}
use Rattle.rdm_wire.specs.declared.Body.TheVariants.{Note, Between}
use Rattle.rdm_wire.specs.declared.NoteBody.{NoteBody}
use Rattle.rdm_wire.specs.declared.NoteBody.TheVariants.{Opened as OpenedNote}
use Rattle.rdm_model.specs.declared.job.Job.{Job}
use Rattle.rdm_model.specs.declared.job.Instr.{Instr}
use Rattle.rdm_model.specs.declared.job.Instr.TheVariants.{OpenLife, Note as NoteOp}
use Rattle.rdm_model.specs.declared.answer.Next.{Next as Answer}
use Rattle.rdm_model.specs.declared.answer.Next.TheVariants.{Did as DidAnswer}
use Rattle.rdm_model.specs.declared.answer.Handled.{Handled}
use Rattle.rdm_model.specs.declared.answer.Handled.TheVariants.{Took as TookAnswer}
use Rattle.rdm_model.specs.declared.entry.Entry.{Entry}
use Rattle.rdm_model.specs.declared.entry.Act.{Act}
use Rattle.rdm_model.specs.declared.entry.Act.TheVariants.{Next, Push, Handle, Poll}
use Rattle.rdm_model.specs.Deeds.{Deed, Did, PushedNote, Pushed, TookNote, Took, Polled, Nothing, deed_by_next, deed_by_push, deed_by_handle, deed_of, deeds, deed_count, log_of}
use Rattle.rdm_model.specs.Beginnings.{Own, rank_of, port_count}
use Rattle.rdm_model.specs.Notes.{OwedNote, note_to, notes_by, notes, note_pushes_by, next_note}
use Rattle.rdm_model.specs.Completions.{completions, completions_by, polls_by, poll_count}
use Rattle.rdm_model.specs.Scenes.{Scene, scene, deeds_at}
use Rattle.rdm_model.specs.Going.{Going, GoesNote, Goes, going, life_going, IsGoing, GoesNext}
use Rattle.rdm_model.specs.Classes.{class_of}
use Rattle.rdm_model.specs.Steps.{Does}
use Rattle.rdm_model.specs.Local.{heard_by, own_scene, Local}
use Rattle.rdm_model.proofs.SameCompletions.{completions_same}
use Rattle.rdm_model.proofs.Grows.{agree_grows}
use Rattle.rdm_law.proofs.Lives.Lives.{LifeStep, LifeLocal}
use Rattle.rdm_law.proofs.Accounts.Wired.{Played}
use Rattle.rdm_law.proofs.Lives.Opened.{first_note, no_life_note}
use Rattle.rdm_law.proofs.Lives.Knows.{own_port}
use Rattle.rdm_law.proofs.Bound.Pigeons.{total_to, total_to_le}
use Rattle.rdm_law.proofs.Bound.EntryCounts.{entry_weight, by_ports, past_ports}
use Rattle.rdm_law.proofs.Bound.LifeCounts.{deed_weight, deed_le, deed_at}
use Rattle.rdm_lists.proofs.Below.{length-below}
use Rattle.rdm_lists.proofs.Sums.{total}
use Rattle.rdm_lists.proofs.Filters.{filter_length}

-- 1 for each instruction
abbrev pub one : Instr → ℕ
one i = 1

-- a deed makes 16 notes owed at most
notes_few : (ports port : ℕ) (d : Deed) → ports ≤ 16 → length (notes_by ports port d) ≤ 16 * deed_weight one d
unfolding notes_by deed_weight
notes_few ports port (Did (OpenLife connid)) le =
    let xs = filter (λ p. not (p == port)) (below ports) in
    let a = filter_length (λ p. not (p == port)) (below ports) in
    let b = length-below ports in
    let c = length-map xs (note_to (OpenedNote connid)) in
    omega arith
notes_few ports port (Did (NoteOp to what)) le = omega arith
notes_few ports port _ le = omega arith

-- and so for a log
notes_len : (ports port : ℕ) (ops : List Instr) (log : List Entry) → ports ≤ 16 → length (notes ports port (deeds ops log)) ≤ 16 * total (λ (e : Entry). deed_weight one (deed_of ops e.act)) log
unfolding notes deeds total
notes_len ports port ops [] le = omega arith
notes_len ports port ops (e ∷ before) le =
    let r = notes_len ports port ops before le in
    let a = notes_few ports port (deed_of ops e.act) le in
    let b = length-append (notes ports port (deeds ops before)) (notes_by ports port (deed_of ops e.act)) in
    omega arith

-- an instruction is no push of a note
next_note_none : (o : Option Instr) (answer : Answer) → note_pushes_by (deed_by_next o answer) ≡ 0
unfolding note_pushes_by deed_by_next
next_note_none (Some i) (DidAnswer what) = refl
next_note_none o answer = refl

-- nor is a handling
handle_note_none : (src : PortNo) (body : Body) (answer : Handled) → note_pushes_by (deed_by_handle src body answer) ≡ 0
unfolding note_pushes_by deed_by_handle
handle_note_none src (Note n) (TookAnswer entered) = refl
handle_note_none src (Between f to load) (TookAnswer entered) = refl
handle_note_none src _ _ = refl

-- a note that goes next is one that is owed and was not pushed
going_left : (s : Scene) (n : OwedNote) → going s ≡ Some (GoesNote n) → deed_count note_pushes_by s.port_log < length (notes s.ports s.own.life.port.0 s.port_log)
unfolding going next_note
going_left s n h =
    let first = first_note (slice_get (notes s.ports s.own.life.port.0 s.port_log) (deed_count note_pushes_by s.port_log)) (life_going s.now s) n h (λ k. no_life_note s s.now n k) in
    slice_get_within (notes s.ports s.own.life.port.0 s.port_log) (deed_count note_pushes_by s.port_log) n first

-- so one is left where a note is pushed
push_left : (s : Scene) (d : Datagram) (note : NoteBody) (g : Going) → d.body ≡ Note note → going s ≡ Some g → IsGoing s g d
    → deed_count note_pushes_by s.port_log < length (notes s.ports s.own.life.port.0 s.port_log)
push_left s d note (GoesNote n) b is h = going_left s n is
push_left s d note (Goes to item) b is h = (let x = h.1.1 in cc)

-- the same of the log
eager_left : (job : Job) (port : ℕ) (log : List Deed) → deed_count note_pushes_by (own_scene job port log).port_log < length (notes (own_scene job port log).ports port (own_scene job port log).port_log)
    → deed_count note_pushes_by log < length (notes (port_count job) port log)
unfolding own_scene scene
eager_left job port log h = h

-- the same of the scene of a port
scene_left : (job : Job) (port : ℕ) (log : List Deed) → deed_count note_pushes_by (own_scene job port log).port_log < length (notes (own_scene job port log).ports (own_scene job port log).own.life.port.0 (own_scene job port log).port_log)
    → deed_count note_pushes_by log < length (notes (port_count job) port log)
scene_left job port log h =
    let p = own_port job port log in
    eager_left job port log (subst (λ n. deed_count note_pushes_by (own_scene job port log).port_log < length (notes (own_scene job port log).ports n (own_scene job port log).port_log)) p h)

-- a push leaves no more notes pushed than owed
note_push : (job : Job) (port : ℕ) (log : List Deed) (d : Datagram) (body : Body) → d.body ≡ body → GoesNext (own_scene job port log) d
    → deed_count note_pushes_by log ≤ length (notes (port_count job) port log)
    → deed_count note_pushes_by log + note_pushes_by (deed_by_push body) ≤ length (notes (port_count job) port log)
unfolding note_pushes_by deed_by_push
note_push job port log d (Note note) b n le = let l = scene_left job port log (push_left (own_scene job port log) d note n.0 b n.1 n.2) in omega arith
note_push job port log d (Between f to load) b n le = omega arith

-- and so does each act
note_act : (job : Job) (port : ℕ) (log : List Deed) (before : List Entry) (e : Entry) (act : Act) → Does job class_of (own_scene job port log) before e act
    → deed_count note_pushes_by log ≤ length (notes (port_count job) port log)
    → deed_count note_pushes_by log + note_pushes_by (deed_of (rank_of job port).ops act) ≤ length (notes (port_count job) port log)
unfolding deed_of note_pushes_by
note_act job port log before e (Next index op answer) does le = let z = next_note_none (slice_get (rank_of job port).ops index) answer in omega arith
note_act job port log before e (Push d) does le = note_push job port log d d.body refl does.3 le
note_act job port log before e (Handle d answer) does le = let z = handle_note_none d.src d.body answer in omega arith
note_act job port log before e (Poll c) does le = omega arith

-- a port pushed no more notes than it owed
notes_owed : (job : Job) (port : ℕ) (log : List Entry) → Local job port log → deed_count note_pushes_by (deeds_at job port log) ≤ length (notes (port_count job) port (deeds_at job port log))
unfolding deeds_at deeds deed_count notes
notes_owed job port [] l = omega arith
notes_owed job port (e ∷ before) l =
    let r = notes_owed job port before l.0 in
    let a = note_act job port (deeds_at job port before) before e e.act l.2.2 r in
    let b = length-append (notes (port_count job) port (deeds_at job port before)) (notes_by (port_count job) port (deed_of (rank_of job port).ops e.act)) in
    omega arith

-- entries of a port and its deeds push as many notes
count_deeds : (job : Job) (port : ℕ) (log : List Entry) → Local job port log → total (λ e. note_pushes_by (deed_at job e)) log ≡ deed_count note_pushes_by (deeds_at job port log)
unfolding deeds_at deeds deed_count total
count_deeds job port [] l = refl
count_deeds job port (e ∷ before) l =
    let r = count_deeds job port before l.0 in
    let p = l.1 in
    let t = ap (λ n. note_pushes_by (deed_of (rank_of job n).ops e.act)) p in
    omega arith

-- deeds of a port weigh no more than its entries
weigh_deeds : (job : Job) (port : ℕ) (log : List Entry) → Local job port log → total (λ (e : Entry). deed_weight one (deed_of (rank_of job port).ops e.act)) log ≤ total (entry_weight job one) log
unfolding total
weigh_deeds job port [] l = omega arith
weigh_deeds job port (e ∷ before) l =
    let r = weigh_deeds job port before l.0 in
    let a = deed_le (rank_of job e.port.0).ops one e.act in
    let p = l.1 in
    let t = ap (λ n. deed_weight one (deed_of (rank_of job n).ops e.act)) p in
    omega arith

-- a sum of multiples
times_to : (f : ℕ → ℕ) (n : ℕ) → total_to (λ p. 16 * f p) n ≡ 16 * total_to f n
unfolding total_to
times_to f zero = omega arith
times_to f (suc n) = let r = times_to f n in omega arith

-- all ports pushed at most 16 notes for each instruction
pub notes_counted : (job : Job) (history : List Entry) → port_count job ≤ 16 → Played job history
    → total (λ e. note_pushes_by (deed_at job e)) history ≤ 16 * total (entry_weight job one) history
unfolding deeds_at
notes_counted job history le played =
    let n = past_ports history in
    let f : ℕ → ℕ = λ p. total (entry_weight job one) (log_of p history) in
    let a = by_ports (λ e. note_pushes_by (deed_at job e)) history n (omega arith) in
    let b = by_ports (entry_weight job one) history n (omega arith) in
    let c = total_to_le (λ p. total (λ e. note_pushes_by (deed_at job e)) (log_of p history)) (λ p. 16 * f p) n
    (λ p. let l = played.locals p in
    let x = count_deeds job p (log_of p history) l in
    let y = notes_owed job p (log_of p history) l in
    let z = notes_len (port_count job) p (rank_of job p).ops (log_of p history) le in
    let w = weigh_deeds job p (log_of p history) l in
    omega arith) in
    let d = times_to f n in
    omega arith

-- a step leaves no more polled than completed
poll_step : (own : Own) (before : List Deed) (d : Deed) → LifeStep own before d → deed_count polls_by before ≤ length (completions own (heard_by own.limits.first before) before)
    → deed_count polls_by before + polls_by d ≤ length (completions own (heard_by own.limits.first before) before)
unfolding poll_count polls_by
poll_step own before Polled step le = let w = slice_get_within (completions own (heard_by own.limits.first before) before) (deed_count polls_by before) step.0 step.1 in omega arith
poll_step own before (Did i) step le = omega arith
poll_step own before PushedNote step le = omega arith
poll_step own before Pushed step le = omega arith
poll_step own before (TookNote from note) step le = omega arith
poll_step own before (Took from item) step le = omega arith
poll_step own before Nothing step le = omega arith

-- a life polled no more than it completed
pub polls_counted : (own : Own) (log : List Deed) → LifeLocal own log → poll_count log ≤ length (completions own (heard_by own.limits.first log) log)
unfolding poll_count deed_count completions
polls_counted own [] l = omega arith
polls_counted own (d ∷ before) l =
    let first = own.limits.first in
    let ms = heard_by first (d ∷ before) in
    let r = polls_counted own before l.0 in
    let same = ap length (completions_same own (heard_by first before) ms before (agree_grows first d before)) in
    let a = length-append (completions own ms before) (completions_by own ms d before) in
    let b = poll_step own before d l.1 r in
    omega arith
