-- A datagram of a life that has come to another one, and is handled now.
use Rattle.std.proofs.Common.{◌≡◌, ℕ, false, List}
use Rattle.rdm_num.specs.declared.numbers.Life.{Life}
use Rattle.rdm_wire.specs.declared.Datagram.{Datagram}
use Rattle.rdm_model.specs.declared.job.Job.{Job}
use Rattle.rdm_model.specs.declared.entry.Entry.{Entry}
use Rattle.rdm_model.specs.Deeds.{Deed, Item}
use Rattle.rdm_model.specs.Beginnings.{own_of}
use Rattle.rdm_model.specs.Currents.{current}
use Rattle.rdm_model.specs.Sources.{is_other}
use Rattle.rdm_model.specs.Scenes.{Scene}
use Rattle.rdm_model.specs.Lawful.{life_deeds}
use Rattle.rdm_model.specs.Wire.{IsUnhandled}
use Rattle.rdm_law.proofs.Lives.Lives.{life_scene}
use Rattle.rdm_law.proofs.Accounts.Wired.{Played, TakenDue}

-- a due item of a life to another one whose datagram was not handled, and which the other one takes for what its current life of that port sent
pub record Arrives (job : Job) (history : List Entry) (life' from : Life) (item : Item) (d : Datagram) : Type 0 where
  pub played : Played job history
  pub taken : TakenDue job history life' from item d
  pub fresh : IsUnhandled d history
  pub current : is_other (current (life_deeds job history life') from.port.0) from ≡ false

-- the scene in which it is handled
abbrev pub arriving_scene : Job → List Entry → Life → (ports : ℕ) → List Deed → Scene
arriving_scene job history life' ports port_log = life_scene ports (own_of job life') port_log (life_deeds job history life')
