-- What holds of worlds that have not ended, and of ports that stopped without a replay.
use Rattle.std.specs.Prelude.{◌≡◌, ℕ, ◌<◌, Bool, IsTrue, List, [], ◌∷◌, slice_get, Some}
use Rattle.rdm_lists.specs.Lists.{Member}
use Rattle.rdm_wire.specs.declared.Datagram.{Datagram}
use Rattle.rdm_model.specs.declared.job.Job.{Job}
use Rattle.rdm_model.specs.declared.job.Choice.{Choice}
use Rattle.rdm_model.specs.declared.entry.Entry.{Entry}
use Rattle.rdm_model.specs.declared.entry.Act.{Act}
use Rattle.rdm_model.specs.declared.entry.Act.TheVariants.{Handle}
use Rattle.rdm_model.specs.declared.report.Report.{Report}
use Rattle.rdm_model.specs.Beginnings.{port_count}
use Rattle.rdm_model.specs.Classes.{class_of}
use Rattle.rdm_model.specs.Wire.{PushedIn, IsUnhandled}
use Rattle.rdm_model.specs.Local.{Local}
use Rattle.rdm_model.specs.Lawful.{Lawful}
use Rattle.rdm_model.specs.Joint.{IsJoint, IsDelivered}
use Rattle.rdm_model.specs.Settled.{is_quiet}
use Rattle.rdm_model.specs.Reports.{RightReport}
use Rattle.rdm_model.specs.Jobs.{is_fair, law_ops}
use Rattle.rdm_model.specs.Worlds.{World, new_world, after_choices, scene_in}
use Rattle.rdm_model.specs.Played.{rounds, IsReportOf}

-- Wherever choices lead from the first world, in whatever number and of whatever ports, the joint history of the logs is lawful.
abbrev pub LawfulAfterChoices : Type 0
LawfulAfterChoices =
    (job : Job) (choices : List Choice) (history : List Entry)
    → IsTrue (is_fair law_ops job)
    → IsJoint (after_choices job new_world choices).logs history
    → Lawful job history

-- So it is after rounds that follow the choices, however many.
abbrev pub LawfulAfterRounds : Type 0
LawfulAfterRounds =
    (job : Job) (choices : List Choice) (count : ℕ) (history : List Entry)
    → IsTrue (is_fair law_ops job)
    → IsJoint (rounds count job (after_choices job new_world choices)).logs history
    → Lawful job history

-- what the port handles was pushed to it by its source, at whatever time, and was not handled by it before
abbrev pub WasPushed : (ℕ → List Entry) → ℕ → List Entry → Act → Type 0
WasPushed logs port before (Handle d answer) = (d.dst.0 ≡ port) × PushedIn d (logs d.src.0) × IsUnhandled d before
WasPushed logs port before _ = Unit {0}

-- a log took what was pushed to its port, each datagram once, as from an inbox that all ports share
abbrev pub TookOnce : (ℕ → List Entry) → ℕ → List Entry → Type 0
TookOnce logs port [] = Unit {0}
TookOnce logs port (e ∷ before) = TookOnce logs port before × WasPushed logs port before e.act

-- Where each log is right by itself and took what was pushed to its port, each datagram once, the wire delivered in their
-- joint history, and in a fair job it is lawful. Nothing is said of which log came first, nor of any order between logs.
abbrev pub LogsAreDelivered : Type 0
LogsAreDelivered =
    (job : Job) (logs : ℕ → List Entry) (history : List Entry)
    → IsTrue (is_fair law_ops job)
    → IsJoint logs history
    → ((port : ℕ) → Local job port (logs port))
    → ((port : ℕ) → TookOnce logs port (logs port))
    → IsDelivered logs history × Lawful job history

-- the datagram was pushed to that port by its source, and the port did not handle it
abbrev pub IsWaiting : (ℕ → List Entry) → ℕ → Datagram → Type 0
IsWaiting logs port d = (d.dst.0 ≡ port) × PushedIn d (logs d.src.0) × IsUnhandled d (logs port)

-- the list has just the datagrams that wait for the port, each at one place, in any order
pub record HasWaiting (logs : ℕ → List Entry) (port : ℕ) (ds : List Datagram) : Type 0 where
  pub only : (d : Datagram) → Member d ds → IsWaiting logs port d
  pub all : (d : Datagram) → IsWaiting logs port d → Member d ds
  pub once : (k l : ℕ) (d : Datagram) → slice_get ds k ≡ Some d → slice_get ds l ≡ Some d → k ≡ l

-- no step of the port would be an entry, by its own log and what is in its stash
abbrev pub is_quiet_alone : Job → World → ℕ → Bool
is_quiet_alone job w port = is_quiet job port class_of (scene_in job w port) (w.logs port) (w.stashes port)

-- each rank is quiet by itself, and has all that waits for it in its stash, so that none of it is in a queue
pub record HasStopped (job : Job) (w : World) : Type 0 where
  pub quiet : (port : ℕ) → port < port_count job → IsTrue (is_quiet_alone job w port)
  pub stash : (port : ℕ) → port < port_count job → HasWaiting w.logs port (w.stashes port)

-- However a world came about: where each log is right by itself, each datagram was delivered once, and the world has stopped,
-- its report is right.
abbrev pub StoppedIsRight : Type 0
StoppedIsRight =
    (job : Job) (w : World) (report : Report)
    → IsTrue (is_fair law_ops job)
    → IsReportOf job w report
    → IsDelivered w.logs report.history
    → ((port : ℕ) → Local job port (w.logs port))
    → HasStopped job w
    → RightReport job report

-- So it is where each log took what was pushed to its port, each datagram once: what ranks on threads of their own leave.
abbrev pub StoppedLogsAreRight : Type 0
StoppedLogsAreRight =
    (job : Job) (w : World) (report : Report)
    → IsTrue (is_fair law_ops job)
    → IsReportOf job w report
    → ((port : ℕ) → Local job port (w.logs port))
    → ((port : ℕ) → TookOnce w.logs port (w.logs port))
    → HasStopped job w
    → RightReport job report
