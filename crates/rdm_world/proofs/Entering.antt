-- An instruction, a push or a poll changes something exactly where it makes an entry.
use Rattle.std.proofs.Common.{◌≡◌, ℕ, ◌+◌, ◌<◌, Bool, true, false, cond, not, List, ◌∷◌, ◌++◌, [], length, Option, Some, None, refl, arith, eq-eqb, sym, ◌∙◌, ap}
use Rattle.std.specs.Prelude.{◌==◌, ◌&&◌, ◌||◌, nat_le}
use Rattle.std.proofs.lemmas.Bool.{ne_eqb}
use Rattle.rdm_num.specs.declared.completion.Completion.{Completion}
use Rattle.rdm_wire.specs.declared.Datagram.{Datagram}
use Rattle.rdm_model.specs.Steps.{next_completion}
use Rattle.rdm_model.specs.declared.job.Job.{Job}
use Rattle.rdm_model.specs.declared.job.Instr.{Instr}
use Rattle.rdm_model.specs.declared.job.Choice.{Choice}
use Rattle.rdm_model.specs.declared.job.Choice.TheVariants as ChoiceKind
use Rattle.rdm_model.specs.Jobs.{choice_rank}
use Rattle.rdm_model.specs.declared.entry.Entry.{Entry}
use Rattle.rdm_model.specs.declared.entry.Act.{Act}
use Rattle.rdm_model.specs.declared.entry.Act.TheVariants.{Push, Poll}
use Rattle.rdm_model.specs.Answers.{answer_of, is_entry}
use Rattle.rdm_model.specs.Going.{Going, going}
use Rattle.rdm_model.specs.Settled.{is_worn, instruction_left}
use Rattle.rdm_model.specs.Worlds.{World, put_at, scene_in, with_entry, next_act, step_next, datagram_of, with_push, step_push, with_poll, after_choice}
use Rattle.rdm_law.proofs.Played.Apart.{put_at_here}
use Rattle.rdm_world.specs.Shows.{has_changed}
use Rattle.rdm_world.specs.Views.{WorldView}
use Rattle.rdm_world.specs.Steps.{Steps, Enters, has_made}

-- nothing changed, and no entry was made
same_both : (w : World) (r : ℕ) → has_changed w w ≡ has_made r w w
unfolding has_changed
same_both w r = ap not (eq-eqb w.changes w.changes refl ∙ sym (eq-eqb (length (w.logs r)) (length (w.logs r)) refl))

-- what rises by one is another number
one_more : (n m : ℕ) → m ≡ n + 1 → (m == n) ≡ false
one_more n m e = ne_eqb m n (λ same. absurd (omega arith))

-- an entry was made, and the count of changes rose
entry_both : (job : Job) (w v : World) (r : ℕ) (act : Act) → v.logs r ≡ (with_entry job w r act).logs r → v.changes ≡ w.changes + 1 → has_changed w v ≡ has_made r w v
unfolding has_changed with_entry
entry_both job w v r act logs changes =
    let long : length (v.logs r) ≡ length (w.logs r) + 1 = ap length (logs ∙ put_at_here r _ w.logs) ∙ omega arith in
    ap not (one_more w.changes v.changes changes ∙ sym (one_more (length (w.logs r)) (length (v.logs r)) long))

-- an entry is a change
entry_changes : (job : Job) (w : World) (r : ℕ) (act : Act) → (with_entry job w r act).changes ≡ w.changes + 1
unfolding with_entry
entry_changes job w r act = refl

-- an instruction
next_by : (job : Job) (w : World) (r : ℕ) (o : Option Instr) → has_changed w (step_next job w r o) ≡ has_made r w (step_next job w r o)
unfolding step_next
next_by job w r None = same_both w r
next_by job w r (Some instr) =
    let v : World = with_entry job w r (next_act (w.logs r) instr (answer_of (scene_in job w r) instr)) in
    elim (is_entry (answer_of (scene_in job w r) instr) && not (is_worn job (w.logs r))) as (λ b. has_changed w (cond b v w) ≡ has_made r w (cond b v w)) [
      | true ↦ entry_both job w v r (next_act (w.logs r) instr (answer_of (scene_in job w r) instr)) refl (entry_changes job w r (next_act (w.logs r) instr (answer_of (scene_in job w r) instr)))
      | false ↦ same_both w r
    ]

pub next_made : (job : Job) (w : World) (r : ℕ) → has_changed w (after_choice job w (ChoiceKind.Next r)) ≡ has_made r w (after_choice job w (ChoiceKind.Next r))
unfolding after_choice
next_made job w r = next_by job w r (instruction_left job r (w.logs r))

-- a poll
poll_by : (job : Job) (w : World) (r : ℕ) (o : Option Completion) → has_changed w (with_poll job w r o) ≡ has_made r w (with_poll job w r o)
unfolding with_poll
poll_by job w r None = same_both w r
poll_by job w r (Some c) =
    elim (is_worn job (w.logs r)) as (λ b. has_changed w (cond b w (with_entry job w r (Poll c))) ≡ has_made r w (cond b w (with_entry job w r (Poll c)))) [
      | true ↦ same_both w r
      | false ↦ entry_both job w (with_entry job w r (Poll c)) r (Poll c) refl (entry_changes job w r (Poll c))
    ]

pub poll_made : (job : Job) (w : World) (r : ℕ) → has_changed w (after_choice job w (ChoiceKind.Poll r)) ≡ has_made r w (after_choice job w (ChoiceKind.Poll r))
unfolding after_choice
poll_made job w r = poll_by job w r (next_completion (scene_in job w r))

-- a push
push_to : (job : Job) (w : World) (r : ℕ) (d : Datagram) → has_changed w (with_push job w r d) ≡ has_made r w (with_push job w r d)
unfolding with_push
push_to job w r d =
    let v : World = record (with_entry job w r (Push d)) { queues = put_at d.dst.0 (w.queues d.dst.0 ++ d ∷ []) w.queues } in
    elim (is_worn job (w.logs r) || nat_le job.inbox (length (w.queues d.dst.0))) as (λ b. has_changed w (cond b w v) ≡ has_made r w (cond b w v)) [
      | true ↦ same_both w r
      | false ↦ entry_both job w v r (Push d) refl (entry_changes job w r (Push d))
    ]

push_by : (job : Job) (w : World) (r : ℕ) (o : Option Going) → has_changed w (step_push job w r o) ≡ has_made r w (step_push job w r o)
unfolding step_push
push_by job w r None = same_both w r
push_by job w r (Some g) = push_to job w r (datagram_of job w r g)

pub push_made : (job : Job) (w : World) (r : ℕ) → has_changed w (after_choice job w (ChoiceKind.Push r)) ≡ has_made r w (after_choice job w (ChoiceKind.Push r))
unfolding after_choice
push_made job w r = push_by job w r (going (scene_in job w r))

-- a step that tells a change tells an entry, where both are the same
abbrev SameBoth : Choice → Type 0
SameBoth c = (job : Job) (w : World) → has_changed w (after_choice job w c) ≡ has_made (choice_rank c) w (after_choice job w c)

enters_by : (c : Choice) → SameBoth c → (old new : WorldView) (b : Bool) → Steps c old new b → Enters c old new b
enters_by c same old new b s job w is built = let k = s job w is built in (k.0, k.1 ∙ same job w)

-- an instruction, a push and a poll
pub next_enters : (r : ℕ) (old new : WorldView) (b : Bool) → Steps (ChoiceKind.Next r) old new b → Enters (ChoiceKind.Next r) old new b
unfolding choice_rank
next_enters r = enters_by (ChoiceKind.Next r) (λ job w. next_made job w r)

pub push_enters : (r : ℕ) (old new : WorldView) (b : Bool) → Steps (ChoiceKind.Push r) old new b → Enters (ChoiceKind.Push r) old new b
unfolding choice_rank
push_enters r = enters_by (ChoiceKind.Push r) (λ job w. push_made job w r)

pub poll_enters : (r : ℕ) (old new : WorldView) (b : Bool) → Steps (ChoiceKind.Poll r) old new b → Enters (ChoiceKind.Poll r) old new b
unfolding choice_rank
poll_enters r = enters_by (ChoiceKind.Poll r) (λ job w. poll_made job w r)
