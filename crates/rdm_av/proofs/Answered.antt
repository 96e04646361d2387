-- What an insert answers in each case, and what it leaves.
use Rattle.std.proofs.Common.{◌≡◌, refl, sym, ap, true, false, true≢false, Some, None, Result, Ok, Err}
use Rattle.std.specs.Prelude.{IsErr}
use Rattle.rdm_num.specs.Lives.{same_life}
use Rattle.rdm_num.specs.declared.numbers.Life.{Life}
use Rattle.rdm_av.specs.declared.Inserted.{Inserted}
use Rattle.rdm_av.specs.declared.Inserted.TheVariants.{Inserted as New, Same, Supersedes}
use Rattle.rdm_av.specs.Lives.{Lives, current_life, is_superseded, inserted_beside, answer_or, after_insert, with_current, with_superseded, with_room, with_spent}
use Rattle.rdm_av.proofs.HeldLives.{spent_room}

module _ {E : Type 0} (why : E) (lives : Lives) (l : Life) where
  -- a life of a port that has no current one is new
  pub answers_new : is_superseded lives l ≡ false → current_life lives l.port ≡ None → answer_or why lives l ≡ Ok New
  unfolding inserted_beside
  answers_new fresh none = rw (fresh, none) refl

  -- the current life is the same
  pub answers_same : (old : Life) → is_superseded lives l ≡ false → current_life lives l.port ≡ Some old → same_life old l ≡ true → answer_or why lives l ≡ Ok Same
  unfolding inserted_beside
  answers_same old fresh is same = rw (fresh, is, same) refl

  -- another life than the current one supersedes it
  pub answers_supersedes : (old : Life) → is_superseded lives l ≡ false → current_life lives l.port ≡ Some old → same_life old l ≡ false → answer_or why lives l ≡ Ok (Supersedes old)
  unfolding inserted_beside
  answers_supersedes old fresh is other = rw (fresh, is, other) refl

  -- a superseded life is refused
  pub answers_refused : is_superseded lives l ≡ true → answer_or why lives l ≡ Err why
  answers_refused h = rw h refl

-- an error leaves the lives as they were
pub after_refusal : {E : Type 0} (lives : Lives) (l : Life) (r : Result Inserted E) → IsErr r → after_insert lives l r ≡ lives
unfolding after_insert
after_refusal lives l (Ok v) h = absurd (true≢false (sym h))
after_refusal lives l (Err why) h = refl

-- an insert with a reservation that was made for it
pub after_reserved : (E F : Type 0) (lives : Lives) (l : Life) (v : Inserted) → with_spent (after_insert {E = E} (with_room lives) l (Ok v)) ≡ after_insert {E = F} lives l (Ok v)
unfolding after_insert
after_reserved E F lives l New = ap (λ s. with_current s l) (spent_room lives)
after_reserved E F lives l Same = spent_room lives
after_reserved E F lives l (Supersedes old) = ap (λ s. with_current (with_superseded s old) l) (spent_room lives)
