-- What each change of the lives shows of the record.
use Rattle.std.specs.Prelude.{◌≡◌, Bool, false, List, [], ◌∷◌, Some, None, Result, Ok}
use Rattle.rdm_num.specs.declared.numbers.Life.{Life}
use Rattle.rdm_av.specs.declared.Inserted.{Inserted}
use Rattle.rdm_av.specs.declared.Inserted.TheVariants.{Supersedes}
use Rattle.rdm_av.specs.Lives as Av
use Rattle.rdm_av.specs.Lives.{no_lives, current_life, with_spent, with_room, with_current, reserved_answer, after_insert}
use Rattle.rdm_model.specs.Beginnings.{Own}
use Rattle.rdm_model.specs.Currents.{other_life}
use Rattle.rdm_life.specs.Kept.{Kept, nothing_kept}
use Rattle.rdm_life.specs.Lives as Record
use Rattle.rdm_shown.specs.Lives.{ShowsLives}

-- before any deed no life came
abbrev pub NoLivesShow : Type 0
NoLivesShow = (own : Own) → ShowsLives no_lives (nothing_kept own).current (nothing_kept own).superseded

-- the life whose place another one takes, if it takes one
unfoldable pub superseded_by : {E : Type 0} → Result Inserted E → List Life
superseded_by (Ok (Supersedes old)) = old ∷ []
superseded_by _ = []

-- a life that is inserted is current, and one whose place it takes is superseded; that is the other life that the record forgets. A
-- reservation that is made or spent shows nothing.
abbrev pub InsertShows : Type 0
InsertShows =
    (lives : Av.Lives) (life : Life) (v : Kept) → ShowsLives lives v.current v.superseded → Av.is_superseded lives life ≡ false
    → ShowsLives (with_room lives) v.current v.superseded
    × (superseded_by (reserved_answer lives life) ≡ other_life life (v.current life.port.0))
    × ShowsLives (with_spent (after_insert lives life (reserved_answer lives life))) (Record.after_insert life v).current (Record.after_insert life v).superseded

-- the first life of a port that something comes from is current
abbrev pub SourceShows : Type 0
SourceShows =
    (lives : Av.Lives) (life : Life) (v : Kept) → ShowsLives lives v.current v.superseded
    → (current_life lives life.port ≡ None → ShowsLives (with_spent (with_current lives life)) (Record.with_source life v).current v.superseded)
    × ((now : Life) → current_life lives life.port ≡ Some now → (Record.with_source life v).current ≡ v.current)

-- nothing of it is asked but the current life of a port and whether a life is superseded
abbrev pub OriginsShow : Type 0
OriginsShow =
    (lives : Av.Lives) (life : Life) (has_raw : Bool) (v : Kept) → ShowsLives lives v.current v.superseded
    → Av.origin (current_life lives life.port) life has_raw ≡ Av.origin (v.current life.port.0) life has_raw
