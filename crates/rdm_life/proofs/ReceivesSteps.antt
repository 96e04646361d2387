-- What is kept of receives and regions after each deed that brings no bytes, accepts no receive and forgets nobody.
use Rattle.rdm_model.specs.declared.job.Instr.TheVariants.{Insert, Reg, Recv, Cancel}
use Rattle.std.proofs.Common.{List, ◌∷◌}
use Rattle.rdm_model.specs.Beginnings.{Own}
use Rattle.rdm_model.specs.Deeds.{Deed, Did, Took}
use Rattle.rdm_law.proofs.Lives.Lives.{LifeLocal}
use Rattle.rdm_life.specs.Kept.{Kept}
use Rattle.rdm_life.specs.Keeps.{Keeps, KeepsReceives}
use Rattle.rdm_life.specs.Handling.{after}
use Rattle.rdm_life.proofs.ReceivesQuiet.{receives_quiet}
use Rattle.rdm_life.proofs.ReceivesReg.{receives_reg}
use Rattle.rdm_life.proofs.ReceivesCancel.{receives_cancel}
use Rattle.rdm_life.proofs.Idle.{IsIdleItem}

-- such a deed
abbrev pub IsLight : Deed → Type 0
IsLight (Did (Insert life)) = ⊥
IsLight (Did (Recv req)) = ⊥
IsLight (Took from item) = IsIdleItem item
IsLight _ = Unit {0}

-- what is kept of receives and regions after it
pub receives_light : (own : Own) (d : Deed) (log : List Deed) (v : Kept) → LifeLocal own (d ∷ log) → IsLight d → Keeps own log v → KeepsReceives own (d ∷ log) (after d v)
receives_light own (Did (Insert life)) log v local h k = absurd h
receives_light own (Did (Recv req)) log v local h k = absurd h
receives_light own (Did (Reg content)) log v local h k = receives_reg own content log v local k.lives k.receives
receives_light own (Did (Cancel recv)) log v local h k = receives_cancel own recv log v local k.receives
receives_light own (Took from item) log v local h k = receives_quiet own (Took from item) log v local h k.receives
receives_light own d log v local h k = receives_quiet own d log v local tt k.receives
