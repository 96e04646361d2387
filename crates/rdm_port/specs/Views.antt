-- A port as contracts see it.
use Rattle.std.specs.Prelude.{◌≡◌, ◌<◌, ℕ, List, [], ◌∷◌, ◌++◌}
use Rattle.rdm_num.specs.declared.limits.EpLimits.{EpLimits}
use Rattle.rdm_wire.specs.declared.Datagram.{Datagram}
use Rattle.rdm_model.specs.declared.job.Job.{Job}
use Rattle.rdm_model.specs.declared.job.Rank.{Rank}
use Rattle.rdm_model.specs.declared.entry.Entry.{Entry}
use Rattle.rdm_model.specs.declared.entry.Act.{Act}
use Rattle.rdm_model.specs.Beginnings.{rank_of, port_count, with_pools}
use Rattle.rdm_model.specs.Steps.{clock, stamp_after}
use Rattle.rdm_model.specs.Scenes.{Scene, deeds_at}
use Rattle.rdm_model.specs.Local.{own_scene}

-- the port's number, what it has of its job, with the limits of its own endpoints, its log from the newest entry on, and the datagrams that it fetched
pub record PortView : Type 0 where
  pub number : ℕ
  pub ports : ℕ
  pub inbox : ℕ
  pub start : ℕ
  pub limits : EpLimits
  pub rank : Rank
  pub log : List Entry
  pub stash : List Datagram

-- the port is one of that job
pub record IsPortOf (job : Job) (v : PortView) : Type 0 where
  pub within : v.number < port_count job
  pub ports_are : v.ports ≡ port_count job
  pub inbox_is : v.inbox ≡ job.inbox
  pub start_is : v.start ≡ job.clock
  pub limits_are : v.limits ≡ with_pools job.limits (rank_of job v.number).limits
  pub rank_is : v.rank ≡ rank_of job v.number

-- the scene of the port, by its own log
unfoldable pub scene_at : Job → PortView → Scene
scene_at job v = own_scene job v.number (deeds_at job v.number v.log)

-- the port after an entry of that act
unfoldable pub logged : Job → PortView → Act → PortView
logged job v act =
    record v { log = record { stamp = record { 0 = stamp_after (clock job v.log) act }; port = record { 0 = v.number }; act = act } ∷ v.log }

-- a port of a job before any step
abbrev pub new_port : Job → ℕ → PortView
new_port job n =
    record {
      number = n;
      ports = port_count job;
      inbox = job.inbox;
      start = job.clock;
      limits = with_pools job.limits (rank_of job n).limits;
      rank = rank_of job n;
      log = [];
      stash = [];
    }

-- the same port: all but its log and its stash is as it was
abbrev pub IsSamePort : PortView → PortView → Type 0
IsSamePort old new =
    (new.number ≡ old.number) × (new.ports ≡ old.ports) × (new.inbox ≡ old.inbox)
    × (new.start ≡ old.start) × (new.limits ≡ old.limits) × (new.rank ≡ old.rank)

-- the port with these datagrams in its stash too
abbrev pub stashed : PortView → List Datagram → PortView
stashed v got = record v { stash = v.stash ++ got }
