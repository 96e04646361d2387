-- A step that changes nothing: why it could not.
use Rattle.std.proofs.Common.{◌≡◌, ℕ, ◌<◌, true, false, not, ◌&&◌, ◌||◌, nat_le, List, length, slice_get, Option, Some, None, refl, arith, ◌⊎◌, inl, inr, ◌∙◌, subst}
use Rattle.rdm_num.specs.declared.completion.Completion.{Completion}
use Rattle.rdm_wire.specs.declared.Datagram.{Datagram}
use Rattle.rdm_model.specs.Steps.{next_completion}
use Rattle.rdm_model.specs.declared.job.Job.{Job}
use Rattle.rdm_model.specs.declared.job.Instr.{Instr}
use Rattle.rdm_model.specs.declared.job.Choice.{Choice}
use Rattle.rdm_model.specs.declared.entry.Entry.{Entry}
use Rattle.rdm_model.specs.declared.entry.Act.{Act}
use Rattle.rdm_model.specs.Scenes.{deeds_at}
use Rattle.rdm_model.specs.Answers.{answer_of, is_entry}
use Rattle.rdm_model.specs.Classes.{class_of}
use Rattle.rdm_model.specs.Going.{Going, GoesNote, Goes, going}
use Rattle.rdm_model.specs.Takes.{is_again_early}
use Rattle.rdm_model.specs.Settled.{is_worn, is_worn_by, instruction_left}
use Rattle.rdm_model.specs.Local.{own_scene}
use Rattle.rdm_model.specs.Worlds.{World, scene_in, with_entry, step_next, datagram_of, with_push, step_push, with_poll, after_choice}
use Rattle.rdm_law.proofs.Played.Sound.{chosen}

-- the worlds have the same logs, queues and stashes, and as many changes
pub record Still (w v : World) : Type 0 where
  pub changes : v.changes ≡ w.changes
  pub logs : (p : ℕ) → v.logs p ≡ w.logs p
  pub queues : (p : ℕ) → v.queues p ≡ w.queues p
  pub stashes : (p : ℕ) → v.stashes p ≡ w.stashes p

-- a world is as it is
pub still_refl : (w : World) → Still w w
still_refl w = record { changes = refl; logs = λ p. refl; queues = λ p. refl; stashes = λ p. refl }

-- one after the other
pub still_then : (w v u : World) → Still w v → Still v u → Still w u
still_then w v u a b = record {
  changes = b.changes ∙ a.changes;
  logs = λ p. b.logs p ∙ a.logs p;
  queues = λ p. b.queues p ∙ a.queues p;
  stashes = λ p. b.stashes p ∙ a.stashes p;
}

-- a step changed something, or it left all as it was for a reason
abbrev pub Outcome : World → World → Type 0 → Type 0
Outcome w v Why = (w.changes < v.changes) ⊎ (Still w v × Why)

-- the next instruction of a port would be no entry
abbrev pub NextQuiet : Job → ℕ → List Entry → Type 0
NextQuiet job port log =
    (instr : Instr) → instruction_left job port log ≡ Some instr
    → (is_entry (answer_of (own_scene job port (deeds_at job port log)) instr) && not (is_worn job log)) ≡ false

-- the port that something goes to
unfoldable pub going_to : Going → ℕ
going_to (GoesNote note) = note.to.0
going_to (Goes to item) = to.port.0

-- nothing goes out of a port, or its clock is at its end, or the queue of the other port is full
abbrev pub PushQuiet : Job → ℕ → List Entry → (ℕ → List Datagram) → Type 0
PushQuiet job port log queues =
    (g : Going) → going (own_scene job port (deeds_at job port log)) ≡ Some g → (is_worn job log || nat_le job.inbox (length (queues (going_to g)))) ≡ true

-- no completion is left, or the clock is at its end
abbrev pub PollQuiet : Job → ℕ → List Entry → Type 0
PollQuiet job port log = (c : Completion) → next_completion (own_scene job port (deeds_at job port log)) ≡ Some c → is_worn job log ≡ true

-- the datagram at a place can't be handled
abbrev pub PlaceQuiet : Job → ℕ → List Entry → List Datagram → ℕ → Type 0
PlaceQuiet job port log stash place =
    (d : Datagram) → slice_get stash place ≡ Some d → (is_again_early class_of (own_scene job port (deeds_at job port log)) d || is_worn_by job log d) ≡ true

-- none is not some
pub none_some : {A : Type 0} {o : Option A} {x : A} → o ≡ None → o ≡ Some x → ⊥
none_some a b = cc

-- one option has one value
pub some_same : {A : Type 0} {o : Option A} {x y : A} → o ≡ Some x → o ≡ Some y → x ≡ y
some_same a b = cc

-- an entry is a change
pub entry_grows : (job : Job) (w : World) (port : ℕ) (act : Act) → w.changes < (with_entry job w port act).changes
unfolding with_entry
entry_grows job w port act = omega arith

-- the next instruction, if there is one
next_by : (job : Job) (w : World) (port : ℕ) (o : Option Instr) → instruction_left job port (w.logs port) ≡ o → Outcome w (step_next job w port o) (NextQuiet job port (w.logs port))
unfolding step_next scene_in
next_by job w port None is = inr (still_refl w, λ instr h. absurd (none_some is h))
next_by job w port (Some instr) is =
    chosen (λ v. Outcome w v (NextQuiet job port (w.logs port))) (is_entry (answer_of (own_scene job port (deeds_at job port (w.logs port))) instr) && not (is_worn job (w.logs port))) _ w
    (λ yes. inl (entry_grows job w port _))
    (λ stays. inr (
      still_refl w,
      λ other h. (let same : instr ≡ other = some_same is h in
          subst (λ (x : Instr). (is_entry (answer_of (own_scene job port (deeds_at job port (w.logs port))) x) && not (is_worn job (w.logs port))) ≡ false) same stays),
    ))

-- an instruction
pub next_outcome : (job : Job) (w : World) (port : ℕ) → Outcome w (after_choice job w (Choice.Next port)) (NextQuiet job port (w.logs port))
unfolding after_choice
next_outcome job w port = next_by job w port (instruction_left job port (w.logs port)) refl

-- the next completion, if there is one
poll_by : (job : Job) (w : World) (port : ℕ) (o : Option Completion) → next_completion (own_scene job port (deeds_at job port (w.logs port))) ≡ o
    → Outcome w (with_poll job w port o) (PollQuiet job port (w.logs port))
unfolding with_poll
poll_by job w port None is = inr (still_refl w, λ c h. absurd (none_some is h))
poll_by job w port (Some c) is =
    chosen (λ v. Outcome w v (PollQuiet job port (w.logs port))) (is_worn job (w.logs port)) w _
    (λ worn. inr (still_refl w, λ x h. worn)) (λ runs. inl (entry_grows job w port _))

-- a poll
pub poll_outcome : (job : Job) (w : World) (port : ℕ) → Outcome w (after_choice job w (Choice.Poll port)) (PollQuiet job port (w.logs port))
unfolding after_choice scene_in
poll_outcome job w port = poll_by job w port (next_completion (own_scene job port (deeds_at job port (w.logs port)))) refl

-- a datagram goes to its port
goes_where : (job : Job) (w : World) (port : ℕ) (g : Going) → (datagram_of job w port g).dst.0 ≡ going_to g
unfolding datagram_of going_to
goes_where job w port (GoesNote note) = refl
goes_where job w port (Goes to item) = refl

-- the next datagram, if there is one
push_by : (job : Job) (w : World) (port : ℕ) (o : Option Going) → going (own_scene job port (deeds_at job port (w.logs port))) ≡ o
    → Outcome w (step_push job w port o) (PushQuiet job port (w.logs port) w.queues)
unfolding step_push with_push with_entry
push_by job w port None is = inr (still_refl w, λ g h. absurd (none_some is h))
push_by job w port (Some g) is =
    let d = datagram_of job w port g in
    chosen (λ v. Outcome w v (PushQuiet job port (w.logs port) w.queues)) (is_worn job (w.logs port) || nat_le job.inbox (length (w.queues d.dst.0))) w _
    (λ stays. inr (
      still_refl w,
      λ other h.
          let same : g ≡ other = some_same is h in
          let P : ℕ → Type 0 = λ n. (is_worn job (w.logs port) || nat_le job.inbox (length (w.queues n))) ≡ true in
          let Q : Going → Type 0 = λ x. (is_worn job (w.logs port) || nat_le job.inbox (length (w.queues (going_to x)))) ≡ true in
          subst Q same (subst P (goes_where job w port g) stays),
    ))
    (λ runs. inl (omega arith))

-- a push
pub push_outcome : (job : Job) (w : World) (port : ℕ) → Outcome w (after_choice job w (Choice.Push port)) (PushQuiet job port (w.logs port) w.queues)
unfolding after_choice scene_in
push_outcome job w port = push_by job w port (going (own_scene job port (deeds_at job port (w.logs port)))) refl
