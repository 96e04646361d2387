-- A port does its next instruction.
use Rattle.std.proofs.Common.{◌≡◌, ℕ, ◌<◌, Bool, true, false, cond, not, ◌&&◌, length, get_or, set, unwrap_or, Option, Some, None, refl, sym, ◌∙◌, subst, inl, inr}
use Rattle.rdm_model.specs.declared.job.Job.{Job}
use Rattle.rdm_model.specs.declared.job.Instr.{Instr}
use Rattle.rdm_model.specs.declared.job.Choice.{Choice}
use Rattle.rdm_model.specs.declared.answer.Next.{Next}
use Rattle.rdm_model.specs.declared.answer.Next.TheVariants.{Ended, Worn, Memory}
use Rattle.rdm_model.specs.Beginnings.{port_count}
use Rattle.rdm_model.specs.Answers.{answer_of, is_entry}
use Rattle.rdm_model.specs.Settled.{is_worn, instruction_left, left_at, left_answer, answer_or_worn}
use Rattle.rdm_model.specs.Worlds.{World, scene_in, with_entry, next_act, step_next, after_choice}
use Rattle.rdm_port.specs.Views.{PortView, scene_at, logged}
use Rattle.rdm_port.specs.Nexts.{next_answer, after_instruction, after_next, DoesNext}
use Rattle.rdm_world.specs.Views.{WorldView}
use Rattle.rdm_world.specs.Shows.{port_in}
use Rattle.rdm_world.specs.Steps.{Steps}
use Rattle.rdm_world.proofs.Putting.{IsAfter, own_port, same_after, entry_after, entry_queues, after_shows}

-- the port and the world after the answer to an instruction, by whether that would be an entry and whether the clock is at its end
next_cases : (job : Job) (w : World) (r : ℕ) (instr : Instr) (answer : Next) (entry worn : Bool) → is_entry answer ≡ entry
    → IsAfter job (w) (cond (entry && not worn) (with_entry job w r (next_act (w.logs r) instr answer)) w) r
    (after_instruction job (port_in job w r) (Some instr) (cond (entry && worn) Worn answer)) (is_entry (cond (entry && worn) Worn answer))
unfolding after_instruction is_entry
next_cases job w r instr answer true true is = same_after job w r
next_cases job w r instr answer true false is =
    let act = next_act (w.logs r) instr answer in
    subst (λ (b : Bool). IsAfter job w (with_entry job w r act) r (cond b (logged job (port_in job w r) act) (port_in job w r)) b) (sym is) (entry_after job w r act)
next_cases job w r instr answer false worn is =
    let act = next_act (w.logs r) instr answer in
    subst (λ (b : Bool). IsAfter job w w r (cond b (logged job (port_in job w r) act) (port_in job w r)) b) (sym is) (same_after job w r)

-- the same of the instruction that is left, if one is
next_after : (job : Job) (w : World) (r : ℕ) (o : Option Instr) → IsAfter job w (step_next job w r o) r
    (after_instruction job (port_in job w r) o (unwrap_or (left_answer job (scene_in job w r) (w.logs r) o) Ended))
    (is_entry (unwrap_or (left_answer job (scene_in job w r) (w.logs r) o) Ended))
unfolding step_next after_instruction left_answer answer_or_worn is_entry
next_after job w r None = same_after job w r
next_after job w r (Some instr) =
    next_cases job w r instr (answer_of (scene_in job w r) instr) (is_entry (answer_of (scene_in job w r) instr)) (is_worn job (w.logs r)) refl

-- no queue changes
next_queues : (job : Job) (w : World) (r : ℕ) (o : Option Instr) (i : ℕ) → (step_next job w r o).queues i ≡ w.queues i
unfolding step_next
next_queues job w r None i = refl
next_queues job w r (Some instr) i = entry_queues job w r _ _ i

-- the answer to a port's next instruction, by its scene in the world
answer_in : (job : Job) (w : World) (r : ℕ) → next_answer job (port_in job w r) ≡ unwrap_or (left_answer job (scene_in job w r) (w.logs r) (instruction_left job r (w.logs r))) Ended
unfolding next_answer left_at scene_at scene_in
answer_in job w r = refl

-- what a port's next instruction makes of the worlds
pub next_steps : (old : WorldView) (r : ℕ) (p q : PortView) (answer : Next) → r < length old.ports → p ≡ get_or old.ports r p → DoesNext p q answer
    → (answer ≡ Memory → ⊥) → Steps (Choice.Next r) old (record old { ports = set old.ports r q }) (is_entry answer)
unfolding after_choice after_next
next_steps old r p q answer within here does some job w is built =
    let inside : r < port_count job = subst (λ (n : ℕ). r < n) is.count within in
    let port : p ≡ port_in job w r = here ∙ is.ports r p inside in
    let does' : DoesNext (port_in job w r) q answer = subst (λ (x : PortView). DoesNext x q answer) port does in
    let own = own_port job w r inside in
    let right : answer ≡ next_answer job (port_in job w r) = elim (does'.exact job own) [ inl m ↦ absurd (some m) | inr e ↦ e ] in
    let o = instruction_left job r (w.logs r) in
    let left = unwrap_or (left_answer job (scene_in job w r) (w.logs r) o) Ended in
    let is_left : answer ≡ left = right ∙ answer_in job w r in
    let after : IsAfter job w (step_next job w r o) r (after_instruction job (port_in job w r) o answer) (is_entry answer) =
    subst (λ (x : Next). IsAfter job w (step_next job w r o) r (after_instruction job (port_in job w r) o x) (is_entry x)) (sym is_left) (next_after job w r o) in
    let after' : IsAfter job w (step_next job w r o) r q (is_entry answer) = subst (λ (x : PortView). IsAfter job w (step_next job w r o) r x (is_entry answer)) (sym (does'.after job own)) after in
    (after_shows job w (step_next job w r o) old old.wire r q (is_entry answer) is inside after' is.size (λ i. is.queues i ∙ sym (next_queues job w r o i)), after'.changed)
