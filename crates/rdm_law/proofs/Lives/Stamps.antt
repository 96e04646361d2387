-- The stamps of a log that is right by itself rise, and none passes the last one.
use Rattle.std.proofs.Common.{ℕ, ◌<◌, ◌≤◌, List, [], ◌∷◌, arith}
use Rattle.rdm_model.specs.declared.job.Job.{Job}
use Rattle.rdm_model.specs.declared.entry.Entry.{Entry}
use Rattle.rdm_model.specs.declared.entry.Act.{Act}
use Rattle.rdm_model.specs.declared.entry.Act.TheVariants.{Next, Push, Handle, Poll}
use Rattle.rdm_model.specs.Steps.{clock, stamp_after, last_stamp}
use Rattle.rdm_model.specs.Local.{Local}

-- each stamp is above the clock before it, and no greater than the last one
abbrev pub StampsRise : Job → List Entry → Type 0
StampsRise job [] = Unit {0}
StampsRise job (e ∷ before) = StampsRise job before × (clock job before < e.stamp.0) × (e.stamp.0 ≤ last_stamp)

-- the clock goes on with each act
clock_rises : (now : ℕ) (act : Act) → now < stamp_after now act
unfolding stamp_after
clock_rises now (Next index op answer) = omega arith
clock_rises now (Push d) = omega arith
clock_rises now (Handle d answer) = omega arith
clock_rises now (Poll c) = omega arith

-- the stamps of such a log rise
pub stamps_rise : (job : Job) (port : ℕ) (log : List Entry) → Local job port log → StampsRise job log
stamps_rise job port [] l = tt
stamps_rise job port (e ∷ before) l =
    let more = clock_rises (clock job before) e.act in
    let is = l.2.0 in
    (stamps_rise job port before l.0, omega arith, l.2.1)
