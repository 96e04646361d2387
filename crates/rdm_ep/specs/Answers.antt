-- What an endpoint answers, as the steps of its port tell it.
use Rattle.std.specs.Prelude.{◌≡◌, ℕ, Bool, true, false, List, Some}
use Rattle.rdm_num.specs.Lives.{life}
use Rattle.rdm_wire.specs.declared.Body.{Body}
use Rattle.rdm_wire.specs.declared.Body.TheVariants.{Note, Between}
use Rattle.rdm_wire.specs.declared.Datagram.{Datagram}
use Rattle.rdm_model.specs.declared.answer.SendWhy.{SendWhy}
use Rattle.rdm_model.specs.declared.answer.SendWhy.TheVariants as S
use Rattle.rdm_model.specs.declared.answer.RecvWhy.{RecvWhy}
use Rattle.rdm_model.specs.declared.answer.RecvWhy.TheVariants as R
use Rattle.rdm_model.specs.declared.answer.Why.{Why}
use Rattle.rdm_model.specs.declared.answer.Why.TheVariants as W
use Rattle.rdm_model.specs.declared.answer.Next.{Next}
use Rattle.rdm_model.specs.declared.answer.Next.TheVariants as N
use Rattle.rdm_model.specs.declared.answer.DidWhat.TheVariants.{Sent, Posted}
use Rattle.rdm_model.specs.declared.answer.Yet.TheVariants as Yet
use Rattle.rdm_model.specs.declared.answer.Handled.{Handled}
use Rattle.rdm_model.specs.declared.answer.Handled.TheVariants as H
use Rattle.rdm_model.specs.Deeds.{Deed, item_of}
use Rattle.rdm_model.specs.Beginnings.{Own}
use Rattle.rdm_model.specs.Scenes.{Scene}
use Rattle.rdm_model.specs.Classes.{class_of}
use Rattle.rdm_model.specs.Takes.{handled_answer, is_again_early}
use Rattle.rdm_model.specs.Local.{heard_by}
use Rattle.rdm_ep.specs.Eager.{IsEagerItem}
use Rattle.rdm_ep.specs.declared.answer.SendAnswer.{SendAnswer}
use Rattle.rdm_ep.specs.declared.answer.SendAnswer.TheVariants as SendA
use Rattle.rdm_ep.specs.declared.answer.RecvAnswer.{RecvAnswer}
use Rattle.rdm_ep.specs.declared.answer.RecvAnswer.TheVariants as RecvA
use Rattle.rdm_ep.specs.declared.answer.HandleAnswer.{HandleAnswer}
use Rattle.rdm_ep.specs.declared.answer.HandleAnswer.TheVariants as HandleA

-- why a send is refused, among all reasons
unfoldable pub why_of_send : SendWhy → Why
why_of_send S.NoRegion = W.NoRegion
why_of_send S.Range = W.Range
why_of_send S.NoEntry = W.NoEntry
why_of_send S.Busy = W.Busy
why_of_send S.Numbers = W.Numbers
why_of_send S.NoConfirm = W.NoConfirm

-- why a receive is refused, among all reasons
unfoldable pub why_of_recv : RecvWhy → Why
why_of_recv R.NoRegion = W.NoRegion
why_of_recv R.Range = W.Range
why_of_recv R.NoEntry = W.NoEntry
why_of_recv R.Busy = W.Busy

-- what a send answers, as the answer of an instruction
unfoldable pub next_of_send : SendAnswer → Next
next_of_send (SendA.Did send msg) = N.Did (Sent send msg)
next_of_send (SendA.Refused why) = N.Refused (why_of_send why)
next_of_send SendA.NotYet = N.NotYet Yet.Handshake
next_of_send (SendA.Again pool) = N.Again pool
next_of_send SendA.Memory = N.Memory

-- what a receive answers, as the answer of an instruction
unfoldable pub next_of_recv : RecvAnswer → Next
next_of_recv (RecvA.Did recv) = N.Did (Posted recv)
next_of_recv (RecvA.Refused why) = N.Refused (why_of_recv why)
next_of_recv (RecvA.Again pool) = N.Again pool
next_of_recv RecvA.Memory = N.Memory

-- what the handling of a datagram answers, as the answer of a port
unfoldable pub handled_of : HandleAnswer → Handled
handled_of (HandleA.Took entered) = H.Took entered
handled_of (HandleA.Dropped class') = H.Dropped class'
handled_of HandleA.AgainEarly = H.AgainEarly
handled_of HandleA.AgainCopy = H.AgainCopy
handled_of HandleA.Memory = H.Memory

-- the scene of a life that is open, by its deeds and those of its port
abbrev pub life_scene : (ports : ℕ) → Own → (port_log log : List Deed) → Scene
life_scene ports own port_log log =
    record { ports = ports; now = Some own.life.connid; own = own; port_log = port_log; log = log; ms = heard_by own.limits.first log }

-- the datagram stays where it is, for want of an early place
unfoldable pub is_early : HandleAnswer → Bool
is_early HandleA.AgainEarly = true
is_early _ = false

-- what is built of what a datagram has in it
abbrev pub IsEagerBody : Own → List Deed → Datagram → Body → Type 0
IsEagerBody own log d (Note note) = Unit {0}
IsEagerBody own log d (Between from to load) = IsEagerItem own log (life d.src from) (item_of load)

-- the handling of a datagram in that scene answers that, or lets it stay where it is
pub record IsAnswerTo (s : Scene) (d : Datagram) (answer : HandleAnswer) : Type 0 where
  pub early : is_again_early class_of s d ≡ is_early answer
  pub handled : is_early answer ≡ false → handled_answer class_of s d ≡ handled_of answer
