-- What the next instruction of a port answers.
use Rattle.std.specs.Prelude.{◌≡◌, ◌⊎◌, IsTrue, if◌then◌else◌, Option, Some, None, is_some, unwrap_or, length, slice_get}
use Rattle.rdm_model.specs.declared.job.Job.{Job}
use Rattle.rdm_model.specs.declared.job.Instr.{Instr}
use Rattle.rdm_model.specs.declared.job.Instr.TheVariants.{Await, Cancel, Wait}
use Rattle.rdm_model.specs.declared.answer.Next.{Next}
use Rattle.rdm_model.specs.declared.answer.Next.TheVariants.{Ended, Memory}
use Rattle.rdm_model.specs.Answers.{is_entry}
use Rattle.rdm_model.specs.Deeds.{open_life}
use Rattle.rdm_model.specs.Steps.{count, nexts_by}
use Rattle.rdm_model.specs.Settled.{instruction_left, left_at}
use Rattle.rdm_model.specs.Worlds.{next_act}
use Rattle.rdm_model.specs.Reports.{end_of}
use Rattle.rdm_model.specs.declared.report.End.{End}
use Rattle.rdm_port.specs.Views.{PortView, IsPortOf, scene_at, logged}
use Rattle.rdm_port.specs.Kept.{deeds_of}

-- the answer of the next instruction, or Ended where none is left
unfoldable pub next_answer : Job → PortView → Next
next_answer job v = unwrap_or (left_at job v.number (scene_at job v) v.log) Ended

-- the port after the answer to an instruction, which is an entry where it did or was refused
unfoldable pub after_instruction : Job → PortView → Option Instr → Next → PortView
after_instruction job v None answer = v
after_instruction job v (Some instr) answer = if is_entry answer then logged job v (next_act v.log instr answer) else v

-- the port after the answer to its next instruction
unfoldable pub after_next : Job → PortView → Next → PortView
after_next job v answer = after_instruction job v (instruction_left job v.number v.log) answer

-- the answer is the next instruction's, or memory was wanted; the port is as the answer says
pub record DoesNext (old new : PortView) (answer : Next) : Type 0 where
  pub exact : (job : Job) → IsPortOf job old → (answer ≡ Memory) ⊎ (answer ≡ next_answer job old)
  pub after : (job : Job) → IsPortOf job old → new ≡ after_next job old answer

-- a life is open at the port
abbrev pub HasLife : PortView → Type 0
HasLife v = IsTrue (is_some (open_life (deeds_of v)))

-- the instruction takes no memory: an await, or a cancel or a wait of an open life
abbrev pub TakesNone : PortView → Option Instr → Type 0
TakesNone v (Some (Await from what)) = Unit {0}
TakesNone v (Some (Cancel recv)) = HasLife v
TakesNone v (Some (Wait count)) = HasLife v
TakesNone v _ = ⊥

-- the next instruction of the port takes no memory
abbrev pub NextTakesNone : PortView → Type 0
NextTakesNone v = TakesNone v (slice_get v.rank.ops (count nexts_by v.log))

-- the end is that of the port as it stands
abbrev pub EndsAs : PortView → End → Type 0
EndsAs v ending = (job : Job) → IsPortOf job v → ending ≡ end_of job v.number v.log (left_at job v.number (scene_at job v) v.log) (length v.stash)
