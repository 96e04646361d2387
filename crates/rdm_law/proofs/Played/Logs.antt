-- Logs of which each took what was pushed to its port, each datagram once: the wire delivered in their joint history.
use Rattle.std.proofs.Common.{◌≡◌, ℕ, List, IsTrue, sym, subst}
use Rattle.rdm_model.specs.declared.job.Job.{Job}
use Rattle.rdm_model.specs.declared.entry.Entry.{Entry}
use Rattle.rdm_model.specs.Local.{Local}
use Rattle.rdm_model.specs.Joint.{IsJoint, IsDelivered}
use Rattle.rdm_law.specs.Worlds.{TookOnce, LogsAreDelivered, StoppedLogsAreRight}
use Rattle.rdm_law.proofs.Central.TheLaw.{the_joint_law}
use Rattle.rdm_law.proofs.Settled.Delivered.{numbered}
use Rattle.rdm_law.proofs.Played.JointDelivered.{delivered_from}
use Rattle.rdm_law.proofs.Played.Stopped.{stopped_is_right}

-- such logs are delivered
logs_deliver : (job : Job) (logs : ℕ → List Entry) (history : List Entry) → IsJoint logs history → ((p : ℕ) → Local job p (logs p)) → ((p : ℕ) → TookOnce logs p (logs p))
    → IsDelivered logs history
logs_deliver job logs history joint local took =
    delivered_from logs history (λ p. numbered job p (logs p) (local p))
    (λ p. (let P : List Entry → Type 0 = λ log. TookOnce logs p log in subst P (sym (joint.logs_are p)) (took p)))

-- and their joint history is lawful
pub logs_are_delivered : LogsAreDelivered
logs_are_delivered job logs history fair joint local took =
    let delivered = logs_deliver job logs history joint local took in
    (delivered, the_joint_law job logs history fair joint delivered local)

-- the report of a world whose ports stopped by themselves is right, by its logs alone
pub stopped_logs_are_right : StoppedLogsAreRight
stopped_logs_are_right job w report fair is local took s =
    stopped_is_right job w report fair is (logs_deliver job w.logs report.history is.history local took) local s
