-- What a report counts and leaves: drops, and instructions that are to be tried again.
use Rattle.std.specs.Prelude.{◌≡◌, ℕ, List, ◌∷◌, ◌++◌, length, Some, slice_get}
use Rattle.rdm_num.specs.Lives.{life}
use Rattle.rdm_num.specs.declared.numbers.PortNo.{PortNo}
use Rattle.rdm_num.specs.declared.numbers.Life.{Life}
use Rattle.rdm_wire.specs.declared.Datagram.{Datagram}
use Rattle.rdm_wire.specs.declared.Body.{Body}
use Rattle.rdm_wire.specs.declared.Body.TheVariants.{Between}
use Rattle.rdm_model.specs.declared.job.Job.{Job}
use Rattle.rdm_model.specs.declared.answer.Class.{Class}
use Rattle.rdm_model.specs.declared.answer.Class.TheVariants.{ToOther, FromOther}
use Rattle.rdm_model.specs.declared.answer.Handled.TheVariants.{Dropped}
use Rattle.rdm_model.specs.declared.answer.Next.TheVariants.{Again}
use Rattle.rdm_model.specs.declared.answer.OpName.{OpName}
use Rattle.rdm_model.specs.declared.answer.PoolName.{PoolName}
use Rattle.rdm_model.specs.declared.entry.Entry.{Entry}
use Rattle.rdm_model.specs.declared.entry.Act.TheVariants.{Next, Handle}
use Rattle.rdm_model.specs.declared.report.End.{End}
use Rattle.rdm_model.specs.declared.report.Report.{Report}
use Rattle.rdm_model.specs.Deeds.{log_of, open_life}
use Rattle.rdm_model.specs.Beginnings.{own_of, port_count}
use Rattle.rdm_model.specs.Currents.{current}
use Rattle.rdm_model.specs.Steps.{count}
use Rattle.rdm_model.specs.Lawful.{port_deeds, life_deeds, sent_to, sent_scene}
use Rattle.rdm_model.specs.Reports.{drops_to_other, drops_from_other}
use Rattle.rdm_law.specs.Clauses.{ChangesNothing, OwesAs, IsFull}

-- at that port the datagram is to another life than the one that is open; or it is to that life, which holds another life than the sender as current at the sender's port
abbrev pub IsOfOther : Job → List Entry → PortNo → Datagram → Body → Class → Type 0
IsOfOther job history port d (Between from to load) ToOther = open_life (port_deeds job port.0 history) ≡ Some to → ⊥
IsOfOther job history port d (Between from to load) FromOther =
    (other : Life) × (current (life_deeds job history (life port to)) d.src.0 ≡ Some other) × (other ≡ life d.src from → ⊥)
IsOfOther job history port d _ _ = ⊥

-- a drop is of another life; it changes nothing that a life has, and nothing that a life owes
pub record DropsOther (job : Job) (before : List Entry) (e : Entry) (d : Datagram) (class' : Class) : Type 0 where
  pub of_other : IsOfOther job before e.port d d.body class'
  pub nothing : ChangesNothing job (e ∷ before) before
  pub owes : (i : Life) → OwesAs (own_of job i) (sent_to job before i) (life_deeds job (e ∷ before) i) (life_deeds job before i)

-- each drop is such a one
abbrev pub DropsAreOther : Job → List Entry → Type 0
DropsAreOther job history =
    (newer : List Entry) (e : Entry) (before : List Entry) (d : Datagram) (class' : Class)
    → history ≡ newer ++ e ∷ before
    → e.act ≡ Handle d (Dropped class')
    → DropsOther job before e d class'

-- the report has an end for each port, which counts the port's drops of either kind
pub record CountsDrops (job : Job) (report : Report) : Type 0 where
  pub each_port : length report.ends ≡ port_count job
  pub to_other : (port : ℕ) (end' : End) → slice_get report.ends port ≡ Some end' → end'.to_other ≡ count drops_to_other (log_of port report.history)
  pub from_other : (port : ℕ) (end' : End) → slice_get report.ends port ≡ Some end' → end'.from_other ≡ count drops_from_other (log_of port report.history)

-- an instruction is to be tried again only where the pool that its answer names is full: what the report leaves of a port, and any entry
pub record AgainWhereFull (job : Job) (report : Report) : Type 0 where
  pub left : (port : ℕ) (end' : End) (pool : PoolName) → slice_get report.ends port ≡ Some end' → end'.left ≡ Some (Again pool)
      → IsFull (sent_scene job port report.history) pool
  pub answered : (newer : List Entry) (e : Entry) (before : List Entry) (index : ℕ) (op : OpName) (pool : PoolName) → report.history ≡ newer ++ e ∷ before
      → e.act ≡ Next index op (Again pool) → IsFull (sent_scene job e.port.0 before) pool
