-- A life meets no more lives than were opened.
use Rattle.std.proofs.Common.{◌≡◌, ℕ, suc, ◌≤◌, List, [], ◌∷◌, length, Some, refl, arith}
use Rattle.std.specs.Prelude.{slice_get}
use Rattle.rdm_num.specs.declared.numbers.Life.{Life}
use Rattle.rdm_model.specs.declared.job.Job.{Job}
use Rattle.rdm_model.specs.declared.entry.Entry.{Entry}
use Rattle.rdm_model.specs.Beginnings.{own_of}
use Rattle.rdm_model.specs.Lawful.{life_deeds}
use Rattle.rdm_law.proofs.Accounts.Wired.{Played}
use Rattle.rdm_law.proofs.Lives.Knows.{met_opened}
use Rattle.rdm_law.proofs.Bound.LifeCounts.{lives_of, lives_member}
use Rattle.rdm_law.proofs.Bound.Pigeons.{AreDistinct, distinct_fit}
use Rattle.rdm_law.proofs.Bound.SeenLives.{seen_lives, seen_met, seen_once}
use Rattle.rdm_lists.proofs.Places.{member_at}

-- a list of which no element stands at two places has distinct elements
distinct_from : {A : Type 0} (xs : List A) → ((i k : ℕ) (x : A) → slice_get xs i ≡ Some x → slice_get xs k ≡ Some x → i ≡ k) → AreDistinct xs
distinct_from [] h = tt
distinct_from (x ∷ xs) h = (
  λ m. let p = member_at x xs m in let e = h 0 (suc p.0) x refl p.1 in absurd (omega arith),
  distinct_from xs (λ i k y a b. let e = h (suc i) (suc k) y a b in omega arith),
)

-- a life meets no more lives than were opened
pub seen_few : (job : Job) (history : List Entry) → Played job history → (l : Life) → length (seen_lives (own_of job l) (life_deeds job history l)) ≤ length (lives_of job history)
seen_few job history played l =
    let log = life_deeds job history l in
    let own = own_of job l in
    distinct_fit (seen_lives own log) (lives_of job history) (distinct_from (seen_lives own log) (seen_once own log)) (λ x m.
    lives_member job history x (met_opened job history l x played (seen_met own log x m)))
