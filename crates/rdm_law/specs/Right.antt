-- What is right of the report of a job that was played, wherever its world stopped.
use Rattle.std.specs.Prelude.{◌≡◌, ℕ, ◌≤◌, IsTrue, List, map, length}
use Rattle.rdm_lists.specs.Lists.{below}
use Rattle.rdm_model.specs.declared.job.Job.{Job}
use Rattle.rdm_model.specs.declared.entry.Entry.{Entry}
use Rattle.rdm_model.specs.declared.report.End.{End}
use Rattle.rdm_model.specs.declared.report.Report.{Report}
use Rattle.rdm_model.specs.Beginnings.{port_count}
use Rattle.rdm_model.specs.Jobs.{is_fair, law_ops}
use Rattle.rdm_model.specs.Lawful.{Lawful}
use Rattle.rdm_model.specs.Settled.{waiting_datagrams}
use Rattle.rdm_model.specs.Reports.{end_in, is_stuck}
use Rattle.rdm_model.specs.Played.{IsPlayed}

-- how a port ended in a history, with so many datagrams in its stash
unfoldable pub stashed_end : Job → List Entry → (stashed : ℕ → ℕ) → ℕ → End
stashed_end job history stashed port = record (end_in job history port) { waiting = stashed port }

-- the history is lawful, and the report says of each rank what the history says; of the datagrams that wait for a port,
-- it counts those in the stash, which are all of them where none is in a queue
pub record IsLawfulReport (job : Job) (report : Report) : Type 0 where
  pub lawful : Lawful job report.history
  pub stuck : report.stuck ≡ is_stuck job report.history
  pub stashed : ℕ → ℕ
  pub stashed_wait : (port : ℕ) → stashed port ≤ length (waiting_datagrams port report.history)
  pub ends : report.ends ≡ map (stashed_end job report.history stashed) (below (port_count job))

-- What is played in a fair job is lawful.
abbrev pub PlaysLawfully : Type 0
PlaysLawfully = (job : Job) (report : Report) → IsTrue (is_fair law_ops job) → IsPlayed job report → IsLawfulReport job report
