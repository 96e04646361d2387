-- What choices keep: worlds stay built, and the count of changes does not fall.
use Rattle.std.proofs.Common.{◌≡◌, ℕ, ◌≤◌, Bool, true, false, cond, not, ◌||◌, lt-ltb, [], ◌∷◌, Option, Some, None, refl, arith, eq-eqb, sym, ◌∙◌, ap, inl, inr}
use Rattle.std.specs.Prelude.{◌==◌}
use Rattle.std.proofs.lemmas.Bool.{cases_eq, ne_eqb, and_from}
use Rattle.rdm_num.specs.declared.completion.Completion.{Completion}
use Rattle.rdm_wire.specs.declared.Datagram.{Datagram}
use Rattle.rdm_model.specs.Steps.{next_completion}
use Rattle.rdm_model.specs.declared.job.Job.{Job}
use Rattle.rdm_model.specs.declared.job.Instr.{Instr}
use Rattle.rdm_model.specs.declared.job.Choice.{Choice}
use Rattle.rdm_model.specs.declared.entry.Act.{Act}
use Rattle.rdm_model.specs.Beginnings.{port_count}
use Rattle.rdm_model.specs.Jobs.{choice_rank}
use Rattle.rdm_model.specs.Going.{Going, going}
use Rattle.rdm_model.specs.Settled.{instruction_left}
use Rattle.rdm_model.specs.Worlds.{World, scene_in, with_entry, step_next, with_push, step_push, after_fetch, with_handle, after_handle_at, after_pick, step_handle, with_poll, after_choice, after_choices}
use Rattle.rdm_law.proofs.Played.PlayedSteps.{Keeps}
use Rattle.rdm_world.specs.Shows.{IsBuiltWorld, StaysBuilt, has_changed}

-- a world that stays built is built
pub stays_now : (job : Job) (w : World) → StaysBuilt job w → IsBuiltWorld job w
unfolding after_choices
stays_now job w stays = stays [] refl

-- it stays built with each choice of a rank
pub stays_keeps : (job : Job) → Keeps job (StaysBuilt job)
unfolding after_choices
stays_keeps job w c rank stays = λ cs are. stays (c ∷ cs) (and_from _ _ (lt-ltb (choice_rank c) (port_count job) rank) are)

-- an entry is counted
grows_entry : (job : Job) (w : World) (r : ℕ) (act : Act) (n : ℕ) → n ≤ w.changes → n ≤ (with_entry job w r act).changes
unfolding with_entry
grows_entry job w r act n h = omega arith

-- where both ways grow, so does the one that is taken
grows_cond : (b : Bool) (x y : World) (n : ℕ) → n ≤ x.changes → n ≤ y.changes → n ≤ (cond b x y).changes
grows_cond true x y n h k = h
grows_cond false x y n h k = k

-- by an instruction
grows_next : (job : Job) (w : World) (r : ℕ) (o : Option Instr) (n : ℕ) → n ≤ w.changes → n ≤ (step_next job w r o).changes
unfolding step_next
grows_next job w r None n h = h
grows_next job w r (Some instr) n h = grows_cond _ _ w n (grows_entry job w r _ n h) h

-- by a push
grows_push : (job : Job) (w : World) (r : ℕ) (o : Option Going) (n : ℕ) → n ≤ w.changes → n ≤ (step_push job w r o).changes
unfolding step_push with_push
grows_push job w r None n h = h
grows_push job w r (Some g) n h = grows_cond _ w _ n h (grows_entry job w r _ n h)

-- by the handling of a datagram
grows_handle : (job : Job) (w : World) (r place : ℕ) (o : Option Datagram) (n : ℕ) → n ≤ w.changes → n ≤ (with_handle job w r place o).changes
unfolding with_handle
grows_handle job w r place None n h = h
grows_handle job w r place (Some d) n h = grows_cond _ w _ n h (grows_entry job w r _ n h)

-- by a fetch
grows_fetch : (job : Job) (w : World) (r n : ℕ) → n ≤ w.changes → n ≤ (after_fetch job w r).changes
unfolding after_fetch
grows_fetch job w r n h = omega arith

-- by a poll
grows_poll : (job : Job) (w : World) (r : ℕ) (o : Option Completion) (n : ℕ) → n ≤ w.changes → n ≤ (with_poll job w r o).changes
unfolding with_poll
grows_poll job w r None n h = h
grows_poll job w r (Some c) n h = grows_cond _ w _ n h (grows_entry job w r _ n h)

-- the count of changes does not fall
pub grows_keeps : (job : Job) (n : ℕ) → Keeps job (λ v. n ≤ v.changes)
unfolding after_choice step_handle after_pick after_handle_at
grows_keeps job n w (Choice.Next port) rank h = grows_next job w port (instruction_left job port (w.logs port)) n h
grows_keeps job n w (Choice.Push port) rank h = grows_push job w port (going (scene_in job w port)) n h
grows_keeps job n w (Choice.Handle port pick) rank h = grows_handle job (after_fetch job w port) port _ _ n (grows_fetch job w port n h)
grows_keeps job n w (Choice.Poll port) rank h = grows_poll job w port (next_completion (scene_in job w port)) n h

-- counts that rise twice changed where they did once
rises : (a b c : ℕ) → a ≤ b → b ≤ c → (not (b == a) || not (c == b)) ≡ not (c == a)
rises a b c first second = elim (cases_eq b a) [
  | inl same ↦
      ap (λ (x : Bool). not x || not (c == b)) (eq-eqb b a same) ∙ ap (λ (n : ℕ). not (c == n)) same
  | inr other ↦
      ap (λ (x : Bool). not x || not (c == b)) (ne_eqb b a other) ∙ ap not (sym (ne_eqb c a (λ h. other (omega arith))))
]

-- two steps after each other changed something where one of them did
pub changed_both : (w v u : World) → w.changes ≤ v.changes → v.changes ≤ u.changes → (has_changed w v || has_changed v u) ≡ has_changed w u
unfolding has_changed
changed_both w v u first second = rises w.changes v.changes u.changes first second
