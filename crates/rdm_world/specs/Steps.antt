-- What steps make of the worlds that a world shows.
use Rattle.std.specs.Prelude.{◌≡◌, ◌==◌, ℕ, Bool, not, length}
use Rattle.rdm_model.specs.declared.job.Job.{Job}
use Rattle.rdm_model.specs.declared.job.Choice.{Choice}
use Rattle.rdm_model.specs.Jobs.{choice_rank}
use Rattle.rdm_model.specs.Worlds.{World, after_choice}
use Rattle.rdm_world.specs.declared.world.Handling.{Handling}
use Rattle.rdm_world.specs.Views.{WorldView}
use Rattle.rdm_world.specs.Shows.{IsWorld, IsBuiltWorld, StaysBuilt, has_changed}

-- of each built world that was shown the choice makes one that is shown now, and the answer is whether it changed
abbrev pub Steps : Choice → (old new : WorldView) → Bool → Type 0
Steps choice old new changed =
    (job : Job) (w : World) → IsWorld job w old → IsBuiltWorld job w
    → IsWorld job (after_choice job w choice) new × (changed ≡ has_changed w (after_choice job w choice))

-- whether the port made an entry
abbrev pub has_made : ℕ → (before after : World) → Bool
has_made port w v = not (length (v.logs port) == length (w.logs port))

-- of each built world that was shown the choice makes one that is shown now, and the answer is whether its port made an entry
abbrev pub Enters : Choice → (old new : WorldView) → Bool → Type 0
Enters choice old new made =
    (job : Job) (w : World) → IsWorld job w old → IsBuiltWorld job w
    → IsWorld job (after_choice job w choice) new × (made ≡ has_made (choice_rank choice) w (after_choice job w choice))

-- the same of a handling, which tells too whether it made an entry
abbrev pub Tries : (port pick : ℕ) → (old new : WorldView) → Handling → Type 0
Tries port pick old new handling =
    Steps (Choice.Handle port pick) old new handling.changed
    × ((job : Job) (w : World) → IsWorld job w old → IsBuiltWorld job w → handling.made ≡ has_made port w (after_choice job w (Choice.Handle port pick)))

-- of each world that was shown and stays built f makes one that is shown now, and the answer is whether it changed
abbrev pub Makes : (Job → World → World) → (old new : WorldView) → Bool → Type 0
Makes f old new changed =
    (job : Job) (w : World) → IsWorld job w old → StaysBuilt job w → IsWorld job (f job w) new × (changed ≡ has_changed w (f job w))

-- the same for one job, with no answer
abbrev pub Reaches : Job → (World → World) → (old new : WorldView) → Type 0
Reaches job f old new = (w : World) → IsWorld job w old → StaysBuilt job w → IsWorld job (f w) new
