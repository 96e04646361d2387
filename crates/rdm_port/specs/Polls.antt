-- What a poll of a port does.
use Rattle.std.specs.Prelude.{◌≡◌, IsTrue, IsFalse, Option, Some, None}
use Rattle.rdm_num.specs.declared.completion.Completion.{Completion}
use Rattle.rdm_model.specs.Steps.{next_completion}
use Rattle.rdm_model.specs.declared.job.Job.{Job}
use Rattle.rdm_model.specs.declared.entry.Act.TheVariants as Act
use Rattle.rdm_model.specs.declared.answer.Polled.{Polled}
use Rattle.rdm_model.specs.declared.answer.Polled.TheVariants as P
use Rattle.rdm_model.specs.Settled.{is_worn}
use Rattle.rdm_port.specs.Views.{PortView, IsPortOf, scene_at, logged}

-- the port is as the answer to a poll of the next completion says
abbrev pub PolledAs : Job → PortView → PortView → Option Completion → Polled → Type 0
PolledAs job old new (Some c) (P.Some d) = IsFalse (is_worn job old.log) × (d ≡ c) × (new ≡ logged job old (Act.Poll c))
PolledAs job old new (Some c) P.Worn = IsTrue (is_worn job old.log) × (new ≡ old)
PolledAs job old new None P.None = new ≡ old
PolledAs job old new _ _ = ⊥

-- what a poll answers and does
abbrev pub DoesPoll : PortView → PortView → Polled → Type 0
DoesPoll old new answer = (job : Job) → IsPortOf job old → PolledAs job old new (next_completion (scene_at job old)) answer
