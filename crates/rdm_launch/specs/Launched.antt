-- What a launch is begun with, and what it makes of it.
use Rattle.std.specs.Prelude.{◌≡◌, ℕ, ◌<◌, ◌≤◌, IsTrue, List, [], ◌++◌, length, Some, slice_get}
use Rattle.rdm_inbox.specs.Senders.{from_port, list_at, joined}
use Rattle.rdm_inbox.specs.Queues.{InboxesState, AreNew, flights_to}
use Rattle.rdm_model.specs.declared.job.Job.{Job}
use Rattle.rdm_model.specs.declared.entry.Entry.{Entry}
use Rattle.rdm_model.specs.Beginnings.{port_count}
use Rattle.rdm_model.specs.Jobs.{is_fair, law_ops}
use Rattle.rdm_model.specs.Local.{Local}
use Rattle.rdm_model.specs.Joint.{IsJoint, IsDelivered}
use Rattle.rdm_model.specs.Lawful.{Lawful}
use Rattle.rdm_law.specs.Worlds.{TookOnce, HasWaiting}
use Rattle.rdm_port.specs.Views.{PortView, IsPortOf, IsSamePort}
use Rattle.rdm_launch.specs.Logs.{pushed_to, handled_in, logs_of}
use Rattle.rdm_launch.specs.Reordered.{IsReordered}
use Rattle.rdm_launch.specs.Fitting.{HandledBuilt}

-- a port of so many at its place, before any step
pub record IsFresh (count i : ℕ) (p : PortView) : Type 0 where
  pub number : p.number ≡ i
  pub ports : p.ports ≡ count
  pub no_log : p.log ≡ []
  pub no_stash : p.stash ≡ []

-- fresh ports in order
abbrev pub AreFresh : List PortView → Type 0
AreFresh ports = (i : ℕ) (p : PortView) → slice_get ports i ≡ Some p → IsFresh (length ports) i p

-- fresh ports in order, at most sixteen, and new inboxes for them
pub record CanLaunch (starts : List PortView) (w : InboxesState) : Type 0 where
  pub some : 0 < length starts
  pub few : length starts ≤ 16
  pub fresh : AreFresh starts
  pub inboxes : AreNew (length starts) w.queues.size w

-- these are ports of that job
abbrev pub ArePortsOf : Job → List PortView → Type 0
ArePortsOf job ports = (length ports ≡ port_count job) × ((i : ℕ) (p : PortView) → slice_get ports i ≡ Some p → IsPortOf job p)

-- each datagram that a log handled was built for the life that was open then
abbrev pub AllBuilt : Job → (ℕ → List Entry) → Type 0
AllBuilt job logs = (port : ℕ) → HandledBuilt job port (logs port)

-- what the ports of a fair job left: each log is right by itself and took what was pushed to its port, each datagram once; in their joint history the wire delivered
-- what was pushed, and it is lawful
pub record AreLawful (job : Job) (logs : ℕ → List Entry) : Type 0 where
  pub local : (port : ℕ) → Local job port (logs port)
  pub once : (port : ℕ) → TookOnce logs port (logs port)
  pub joint : (history : List Entry) → IsJoint logs history → IsDelivered logs history × Lawful job history

-- the ports are those that were there, each in its place with a log and a stash. To each port from each, what was handled, what is in the stash and what is in flight
-- are the datagrams that were pushed, each as often. In each fair job whose ports they are, all logs are lawful, and a port's stash with what is in flight to it
-- has just what was pushed to it and not handled, each datagram once
pub record IsLaunched (starts ports : List PortView) (w : InboxesState) : Type 0 where
  pub count : length ports ≡ length starts
  pub inboxes : length w.flights ≡ length ports
  pub same : (i : ℕ) (p q : PortView) → slice_get starts i ≡ Some p → slice_get ports i ≡ Some q → IsSamePort p q
  pub moved : (to from : ℕ) (p q : PortView) → slice_get ports to ≡ Some p → slice_get ports from ≡ Some q
      → IsReordered (from_port from (handled_in p.log ++ p.stash) ++ list_at (flights_to w to) from) (pushed_to to q.log)
  pub lawful : (job : Job) → IsTrue (is_fair law_ops job) → ArePortsOf job starts → AllBuilt job (logs_of ports) → AreLawful job (logs_of ports)
  pub waiting : (job : Job) → IsTrue (is_fair law_ops job) → ArePortsOf job starts → AllBuilt job (logs_of ports)
      → (port : ℕ) (p : PortView) → slice_get ports port ≡ Some p → HasWaiting (logs_of ports) port (p.stash ++ joined (flights_to w port))
