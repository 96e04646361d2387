-- No queue has more datagrams than an inbox holds.
use Rattle.std.proofs.Common.{◌≡◌, ℕ, ◌+◌, ◌-◌, ◌≤◌, Bool, true, false, cond, not, ◌||◌, nat_le, leb-false, List, [], ◌∷◌, ◌++◌, length, drop, Option, Some, None, refl, arith, sym, subst, length-append, length-drop}
use Rattle.std.proofs.lemmas.Bool.{or_parts}
use Rattle.rdm_num.specs.declared.completion.Completion.{Completion}
use Rattle.rdm_wire.specs.declared.Datagram.{Datagram}
use Rattle.rdm_model.specs.Steps.{next_completion}
use Rattle.rdm_model.specs.declared.job.Job.{Job}
use Rattle.rdm_model.specs.declared.job.Instr.{Instr}
use Rattle.rdm_model.specs.declared.job.Choice.{Choice}
use Rattle.rdm_model.specs.Going.{Going, going}
use Rattle.rdm_model.specs.Jobs.{choice_rank}
use Rattle.rdm_model.specs.Settled.{is_worn, instruction_left}
use Rattle.rdm_model.specs.Worlds.{World, new_world, scene_in, put_at, with_entry, step_next, with_push, step_push, datagram_of, after_fetch, with_handle, after_handle_at, after_pick, step_handle, with_poll, after_choice}
use Rattle.rdm_law.proofs.Played.Apart.{put_at_case}
use Rattle.rdm_law.proofs.Played.Sound.{chosen}
use Rattle.rdm_law.proofs.Played.PlayedSteps.{Keeps}

-- each queue has at most as many
abbrev pub Holds : Job → World → Type 0
Holds job w = (port : ℕ) → length (w.queues port) ≤ job.inbox

-- before any step nothing is in a queue
pub new_holds : (job : Job) → Holds job new_world
new_holds job port = omega arith

-- an instruction moves none
next_holds : (job : Job) (w : World) (r : ℕ) (o : Option Instr) → Holds job w → Holds job (step_next job w r o)
unfolding step_next with_entry
next_holds job w r None h = h
next_holds job w r (Some instr) h = chosen (Holds job) _ _ w (λ is p. h p) (λ is. h)

-- a queue that is not full has room for one
put_holds : (job : Job) (w : World) (r : ℕ) (d : Datagram) → Holds job w → Holds job (with_push job w r d)
unfolding with_push with_entry
put_holds job w r d h =
    chosen (Holds job) (is_worn job (w.logs r) || nat_le job.inbox (length (w.queues d.dst.0))) w _ (λ is. h)
    (λ is p.
    put_at_case (λ (ds : List Datagram). length ds ≤ job.inbox) d.dst.0 (w.queues d.dst.0 ++ d ∷ []) w.queues p
    (λ here.
    let room = leb-false job.inbox (length (w.queues d.dst.0)) (or_parts (is_worn job (w.logs r)) _ is).1 in
    let more = length-append (w.queues d.dst.0) (d ∷ []) in
    omega arith)
    (λ other. h p))

-- a push
push_holds : (job : Job) (w : World) (r : ℕ) (o : Option Going) → Holds job w → Holds job (step_push job w r o)
unfolding step_push
push_holds job w r None h = h
push_holds job w r (Some g) h = put_holds job w r (datagram_of job w r g) h

-- a fetch takes some away
fetch_holds : (job : Job) (w : World) (r : ℕ) → Holds job w → Holds job (after_fetch job w r)
unfolding after_fetch
fetch_holds job w r h p =
    put_at_case (λ (ds : List Datagram). length ds ≤ job.inbox) r (drop job.inbox (w.queues r)) w.queues p
    (λ here. let less = length-drop job.inbox (w.queues r) in let was = h r in omega arith)
    (λ other. h p)

-- the handling of a datagram moves none
handle_holds : (job : Job) (w : World) (r place : ℕ) (o : Option Datagram) → Holds job w → Holds job (with_handle job w r place o)
unfolding with_handle with_entry
handle_holds job w r place None h = h
handle_holds job w r place (Some d) h = chosen (Holds job) _ w _ (λ is. h) (λ is p. h p)

-- a poll neither
poll_holds : (job : Job) (w : World) (r : ℕ) (o : Option Completion) → Holds job w → Holds job (with_poll job w r o)
unfolding with_poll with_entry
poll_holds job w r None h = h
poll_holds job w r (Some c) h = chosen (Holds job) _ w _ (λ is. h) (λ is p. h p)

-- so it is after each choice
pub holds_keeps : (job : Job) → Keeps job (Holds job)
unfolding after_choice step_handle after_pick after_handle_at
holds_keeps job w (Choice.Next port) rank h = next_holds job w port (instruction_left job port (w.logs port)) h
holds_keeps job w (Choice.Push port) rank h = push_holds job w port (going (scene_in job w port)) h
holds_keeps job w (Choice.Handle port pick) rank h = handle_holds job (after_fetch job w port) port _ _ (fetch_holds job w port h)
holds_keeps job w (Choice.Poll port) rank h = poll_holds job w port (next_completion (scene_in job w port)) h
