-- The logs of a world that is sound are own logs.
use Rattle.std.proofs.Common.{◌≡◌, ℕ, zero, suc, ◌<◌, ◌≤◌, List, [], ◌∷◌, get_or, length, slice_get, Some, None, refl, arith, sym, ap, ◌∙◌, subst, inl, inr}
use Rattle.std.proofs.lemmas.Bool.{cases_lt}
use Rattle.std.specs.Prelude.{IsTrue}
use Rattle.rdm_model.specs.declared.job.Job.{Job}
use Rattle.rdm_model.specs.declared.entry.Entry.{Entry}
use Rattle.rdm_model.specs.Steps.{clock}
use Rattle.rdm_model.specs.Local.{Local}
use Rattle.rdm_model.specs.Joint.{IsJoint}
use Rattle.rdm_model.specs.Jobs.{is_fair, law_ops}
use Rattle.rdm_model.specs.Worlds.{World}
use Rattle.rdm_model.specs.Played.{played_world}
use Rattle.rdm_port.specs.Views.{PortView}
use Rattle.rdm_law.proofs.Lives.Stamps.{stamps_rise}
use Rattle.rdm_law.proofs.Played.Sound.{Sound}
use Rattle.rdm_law.proofs.Played.PlaysLawfully.{played_sound}
use Rattle.rdm_world.specs.Views.{WorldView}
use Rattle.rdm_world.specs.Shows.{IsWorld, port_in}
use Rattle.rdm_world.specs.Gathers.{log_or_none, logs_of, IsLater, IsOwnLog, AreOwnLogs}

-- a stamp above the clock is later
later_by_clock : (job : Job) (stamp : ℕ) (before : List Entry) → clock job before < stamp → IsLater stamp before
unfolding clock
later_by_clock job stamp [] h = tt
later_by_clock job stamp (f ∷ before) h = h

-- a log that is right by itself is the port's own
pub own_log : (job : Job) (port : ℕ) (log : List Entry) → Local job port log → IsOwnLog port log
own_log job port [] l = tt
own_log job port (e ∷ before) l =
    (own_log job port before l.0, l.1, later_by_clock job e.stamp.0 before (stamps_rise job port (e ∷ before) l).1)

-- what stands at a place of a list
at_place : (ports : List PortView) (i : ℕ) → i < length ports → (p : PortView) × (slice_get ports i ≡ Some p) × (get_or ports i p ≡ p)
at_place [] i lt = absurd (omega arith)
at_place (p ∷ ps) zero lt = (p, refl, refl)
at_place (p ∷ ps) (suc i) lt = at_place ps i (omega arith)

-- nothing stands past the end of a list
past_end : (ports : List PortView) (i : ℕ) → length ports ≤ i → slice_get ports i ≡ None
past_end [] i le = refl
past_end (p ∷ ps) zero le = absurd (omega arith)
past_end (p ∷ ps) (suc i) le = past_end ps i (omega arith)

-- the log of a port of a world that is shown is the world's
pub logs_shown : (job : Job) (w : World) (v : WorldView) → IsWorld job w v → (i : ℕ) → logs_of v.ports i ≡ w.logs i
unfolding log_or_none
logs_shown job w v shows i =
    let count = shows.count in
    elim (cases_lt i (length v.ports)) [
      | inl lt ↦ (let p = at_place v.ports i lt in
          let is : p.0 ≡ port_in job w i = sym p.2 ∙ shows.ports i p.0 (omega arith) in
          ap log_or_none p.1 ∙ ap (λ (x : PortView). x.log) is)
      | inr le ↦ ap log_or_none (past_end v.ports i le) ∙ sym (shows.beyond i (omega arith)).0
    ]

-- the logs of a world that is shown are own logs, if each is right by itself
pub own_logs_by : (job : Job) (w : World) (v : WorldView) → ((port : ℕ) → Local job port (w.logs port)) → IsWorld job w v → AreOwnLogs v.ports
own_logs_by job w v local shows i = subst (λ (log : List Entry). IsOwnLog i log) (sym (logs_shown job w v shows i)) (own_log job i (w.logs i) (local i))

-- so are those of a sound one
pub own_logs : (job : Job) (w : World) (v : WorldView) → Sound job w → IsWorld job w v → AreOwnLogs v.ports
own_logs job w v sound shows = own_logs_by job w v sound.local shows

-- the world that a fair job ends in has own logs
pub played_own_logs : (job : Job) (v : WorldView) → IsTrue (is_fair law_ops job) → IsWorld job (played_world job) v → AreOwnLogs v.ports
played_own_logs job v fair shows = own_logs job (played_world job) v (played_sound job fair) shows

-- the joint history of the ports is that of the world that is shown
pub joint_shown : (job : Job) (w : World) (v : WorldView) (history : List Entry) → IsWorld job w v → IsJoint (logs_of v.ports) history → IsJoint w.logs history
joint_shown job w v history shows joint =
    record { in_order = joint.in_order; logs_are = λ port. joint.logs_are port ∙ logs_shown job w v shows port }
