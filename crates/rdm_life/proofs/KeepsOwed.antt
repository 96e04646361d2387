-- What goes out and what is polled is kept by deeds that make no pair, bring no bytes and push nothing.
use Rattle.std.proofs.Common.{List, [], ◌∷◌, refl}
use Rattle.rdm_model.specs.declared.job.Instr.TheVariants.{Insert}
use Rattle.rdm_model.specs.Deeds.{Deed, Did, Pushed, deed_count}
use Rattle.rdm_model.specs.Beginnings.{Own}
use Rattle.rdm_model.specs.Dues.{progress}
use Rattle.rdm_model.specs.Completions.{completions, poll_count}
use Rattle.rdm_law.proofs.Lives.Lives.{LifeLocal}
use Rattle.rdm_life.specs.Kept.{Kept, nothing_kept}
use Rattle.rdm_life.specs.Keeps.{Keeps, KeepsOwed}
use Rattle.rdm_life.specs.Handling.{after_instr, after}
use Rattle.rdm_life.proofs.Idle.{IsIdle}
use Rattle.rdm_life.proofs.OwedIdle.{owed_idle}
use Rattle.rdm_life.proofs.CompletedIdle.{KeepsDone, done_plain}
use Rattle.rdm_life.proofs.CompletedGone.{done_insert}
use Rattle.rdm_life.proofs.NoWindows.{no_windows}

-- before any deed
pub owed_start : (own : Own) → KeepsOwed own [] (nothing_kept own)
unfolding progress completions poll_count deed_count
owed_start own = record { owed_is = refl; completions_are = refl }

-- a deed that makes no pair, brings no bytes and pushes nothing
abbrev pub IsUnpushed : Deed → Type 0
IsUnpushed Pushed = ⊥
IsUnpushed d = IsIdle d

-- what is completed after it
done_idle : (own : Own) (d : Deed) (log : List Deed) (v : Kept) → IsUnpushed d → LifeLocal own (d ∷ log) → Keeps own log v → KeepsDone own d log (after d v).completions
unfolding after after_instr
done_idle own Pushed log v i local k = absurd i
done_idle own (Did (Insert life)) log v i local k = done_insert own log v life local k
done_idle own d log v i local k = done_plain own d log v i local k

-- it is idle
unpushed_idle : (d : Deed) → IsUnpushed d → IsIdle d
unpushed_idle Pushed i = absurd i
unpushed_idle d i = i

-- what goes out and what is polled after it
pub owed_unpushed : (own : Own) (d : Deed) (log : List Deed) (v : Kept) → IsUnpushed d → LifeLocal own (d ∷ log) → Keeps own log v → KeepsOwed own (d ∷ log) (after d v)
owed_unpushed own d log v i local k =
    record {
      owed_is = owed_idle own d log v (no_windows own log local.0) (unpushed_idle d i) local k;
      completions_are = done_idle own d log v i local k;
    }
