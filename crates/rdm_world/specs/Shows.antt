-- Which worlds of the definitions a world shows.
use Rattle.std.specs.Prelude.{◌≡◌, ◌<◌, ◌≤◌, ◌++◌, ℕ, Bool, not, ◌==◌, IsTrue, nat_lt, List, [], length, get_or}
use Rattle.std.specs.List.{list_all}
use Rattle.rdm_lists.specs.Lists.{Member}
use Rattle.rdm_wire.specs.declared.Datagram.{Datagram}
use Rattle.rdm_model.specs.declared.job.Job.{Job}
use Rattle.rdm_model.specs.declared.job.Choice.{Choice}
use Rattle.rdm_model.specs.Beginnings.{rank_of, port_count, with_pools}
use Rattle.rdm_model.specs.Jobs.{choice_rank}
use Rattle.rdm_model.specs.Worlds.{World, scene_in, after_choices}
use Rattle.rdm_port.specs.Views.{PortView}
use Rattle.rdm_port.specs.Built.{IsBuiltBody}
use Rattle.rdm_world.specs.Views.{WorldView}

-- the port of that number in a world
abbrev pub port_in : Job → World → ℕ → PortView
port_in job w i =
    record { number = i; ports = port_count job; inbox = job.inbox; start = job.clock; limits = with_pools job.limits (rank_of job i).limits; rank = rank_of job i; log = w.logs i; stash = w.stashes i }

-- a world shows one of the definitions: it has its ports and its queues, and nothing is beyond the ports
pub record IsWorld (job : Job) (w : World) (v : WorldView) : Type 0 where
  pub count : length v.ports ≡ port_count job
  pub ports : (i : ℕ) (d : PortView) → i < port_count job → get_or v.ports i d ≡ port_in job w i
  pub size : v.wire.size ≡ job.inbox
  pub queues : (i : ℕ) → get_or v.wire.queues i [] ≡ w.queues i
  pub beyond : (i : ℕ) → port_count job ≤ i → (w.logs i ≡ []) × (w.stashes i ≡ [])

-- each datagram in a stash or a queue is built for the open life of its port, and no queue has more than an inbox holds
pub record IsBuiltWorld (job : Job) (w : World) : Type 0 where
  pub built : (port : ℕ) (d : Datagram) → Member d (w.stashes port ++ w.queues port) → IsBuiltBody (scene_in job w port).own (scene_in job w port).log d d.body
  pub short : (port : ℕ) → length (w.queues port) ≤ job.inbox

-- the choices are of so many ranks
abbrev pub AreOfRanks : (ports : ℕ) → List Choice → Type 0
AreOfRanks ports cs = IsTrue (list_all (λ c. nat_lt (choice_rank c) ports) cs)

-- each world that choices of ranks reach is built
abbrev pub StaysBuilt : Job → World → Type 0
StaysBuilt job w = (cs : List Choice) → AreOfRanks (port_count job) cs → IsBuiltWorld job (after_choices job w cs)

-- an entry was made, or datagrams moved into stashes
unfoldable pub has_changed : (before after : World) → Bool
has_changed w v = not (v.changes == w.changes)
