-- What a turn comes to, by the answer of its step.
use Rattle.rdm_model.specs.declared.answer.Next.{Next}
use Rattle.rdm_model.specs.declared.answer.Next.TheVariants as N
use Rattle.rdm_model.specs.declared.answer.Handled.{Handled}
use Rattle.rdm_model.specs.declared.answer.Handled.TheVariants as H
use Rattle.rdm_model.specs.declared.answer.Polled.{Polled}
use Rattle.rdm_model.specs.declared.answer.Polled.TheVariants as P
use Rattle.rdm_launch.specs.declared.turns.Outcome.{Outcome}
use Rattle.rdm_launch.specs.declared.turns.Outcome.TheVariants.{Entered, Idle, Ended, Memory}

-- an instruction
unfoldable pub outcome_of_next : Next → Outcome
outcome_of_next (N.Did what) = Entered
outcome_of_next (N.Refused why) = Entered
outcome_of_next N.Ended = Ended
outcome_of_next N.Memory = Memory
outcome_of_next _ = Idle

-- a handling
unfoldable pub outcome_of_handled : Handled → Outcome
outcome_of_handled (H.Took entered) = Entered
outcome_of_handled (H.Dropped class') = Entered
outcome_of_handled H.Memory = Memory
outcome_of_handled _ = Idle

-- a poll
unfoldable pub outcome_of_polled : Polled → Outcome
outcome_of_polled (P.Some c) = Entered
outcome_of_polled _ = Idle
