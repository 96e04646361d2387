-- Rounds, until one changes nothing.
use Rattle.std.proofs.Common.{◌≡◌, ℕ, suc, Bool, true, false, refl, sym, ◌∙◌, subst}
use Rattle.std.specs.Prelude.{◌==◌}
use Rattle.std.proofs.lemmas.Bool.{not-true, not-false}
use Rattle.rdm_model.specs.declared.job.Job.{Job}
use Rattle.rdm_model.specs.Worlds.{World}
use Rattle.rdm_model.specs.Played.{stop_if, unless_quiet, round_of, rounds}
use Rattle.rdm_law.proofs.Played.PlayedSteps.{round_keeps}
use Rattle.rdm_world.specs.Views.{WorldView}
use Rattle.rdm_world.specs.Shows.{IsWorld, StaysBuilt, has_changed}
use Rattle.rdm_world.specs.Steps.{Makes, Reaches}
use Rattle.rdm_world.proofs.Reached.{stays_keeps}

-- where the test holds it ends
stops : (b : Bool) (u : World) (go_on : World → World) → b ≡ true → stop_if b u go_on ≡ u
unfolding stop_if
stops true u go_on h = refl
stops false u go_on h = cc

-- where it does not, it goes on
goes_on : (b : Bool) (u : World) (go_on : World → World) → b ≡ false → stop_if b u go_on ≡ go_on u
unfolding stop_if
goes_on true u go_on h = cc
goes_on false u go_on h = refl

-- a round and what follows
rounds_then : (k : ℕ) (job : Job) (v : World) → rounds (suc k) job v ≡ stop_if ((round_of job v).changes == v.changes) (round_of job v) (rounds k job)
unfolding rounds unless_quiet
rounds_then k job v = refl

-- so many rounds go on from a world that is shown now as all did from the first one
pub record SettledTo (left all : ℕ) (now : WorldView) (job : Job) (w : World) : Type 0 where
  pub v : World
  pub shows : IsWorld job v now
  pub stays : StaysBuilt job v
  pub goes : rounds left job v ≡ rounds all job w

-- so it is of each world that was shown
abbrev pub Settling : Job → (left all : ℕ) → (old now : WorldView) → Type 0
Settling job left all old now = (w : World) → IsWorld job w old → StaysBuilt job w → SettledTo left all now job w

-- before the first round
pub settle_start : (job : Job) (n : ℕ) (a : WorldView) → Settling job n n a a
settle_start job n a w is stays = record { v = w; shows = is; stays = stays; goes = refl }

-- after a round that changed something
pub settle_next : (job : Job) (left all : ℕ) (old now next : WorldView) (changed : Bool) → Settling job (suc left) all old now → Makes round_of now next changed → changed ≡ true
    → Settling job left all old next
unfolding has_changed
settle_next job left all old now next changed settling makes is_changed w is stays =
    let s = settling w is stays in
    let u = round_of job s.v in
    let made = makes job s.v s.shows s.stays in
    let on : u.changes == s.v.changes ≡ false = not-true (u.changes == s.v.changes) (sym made.1 ∙ is_changed) in
    record {
      v = u;
      shows = made.0;
      stays = round_keeps job (StaysBuilt job) (stays_keeps job) s.v s.stays;
      goes = sym (goes_on (u.changes == s.v.changes) u (rounds left job) on) ∙ sym (rounds_then left job s.v) ∙ s.goes;
    }

-- after a round that changed nothing
pub settle_quiet : (job : Job) (left all : ℕ) (old now next : WorldView) (changed : Bool) → Settling job (suc left) all old now → Makes round_of now next changed → changed ≡ false
    → Reaches job (rounds all job) old next
unfolding has_changed
settle_quiet job left all old now next changed settling makes is_quiet w is stays =
    let s = settling w is stays in
    let u = round_of job s.v in
    let made = makes job s.v s.shows s.stays in
    let stop : u.changes == s.v.changes ≡ true = not-false (u.changes == s.v.changes) (sym made.1 ∙ is_quiet) in
    let end : rounds all job w ≡ u = sym s.goes ∙ rounds_then left job s.v ∙ stops (u.changes == s.v.changes) u (rounds left job) stop in
    subst (λ (v : World). IsWorld job v next) (sym end) made.0

-- after all rounds
pub settle_all : (job : Job) (all : ℕ) (old now : WorldView) → Settling job 0 all old now → Reaches job (rounds all job) old now
unfolding rounds
settle_all job all old now settling w is stays = let s = settling w is stays in subst (λ (v : World). IsWorld job v now) s.goes s.shows
