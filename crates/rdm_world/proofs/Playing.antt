-- The choices of a job in order, and what its report is made of.
use Rattle.std.proofs.Common.{◌≡◌, ℕ, zero, suc, ◌+◌, ◌<◌, ◌≤◌, Bool, true, false, ◌||◌, List, [], ◌∷◌, ◌++◌, map, length, get_or, Option, Some, None, IsTrue, refl, arith, sym, ◌∙◌, ap, subst, inl, inr}
use Rattle.std.specs.Prelude.{is_some, is_none, nat_lt, not, slice_get}
use Rattle.std.specs.List.{list_any, list_all}
use Rattle.std.proofs.lemmas.Bool.{and_parts, ltb-true, leb-true, cases_lt}
use Rattle.std.proofs.lemmas.List.{map-append}
use Rattle.std.proofs.lemmas.List.Folds.{list_any-append}
use Rattle.rdm_lists.specs.Lists.{below}
use Rattle.rdm_lists.proofs.Bools.{or_true}
use Rattle.rdm_model.specs.declared.job.Job.{Job}
use Rattle.rdm_model.specs.declared.job.Choice.{Choice}
use Rattle.rdm_model.specs.declared.report.End.{End}
use Rattle.rdm_model.specs.Beginnings.{port_count, rank_of}
use Rattle.rdm_model.specs.Jobs.{choice_rank, is_fair, law_ops, is_within}
use Rattle.rdm_model.specs.Settled.{instruction_left}
use Rattle.rdm_model.specs.Steps.{count, nexts_by}
use Rattle.rdm_model.specs.Worlds.{World, new_world, scene_in, after_choice, after_choices}
use Rattle.rdm_model.specs.Played.{end_at, rounds, round_bound, played_world}
use Rattle.rdm_law.proofs.Played.PlayedSteps.{choices_keep, fair_choices}
use Rattle.rdm_port.specs.Views.{PortView, scene_at}
use Rattle.rdm_port.specs.Nexts.{EndsAs}
use Rattle.rdm_world.specs.Views.{WorldView}
use Rattle.rdm_world.specs.Shows.{port_in, IsWorld, AreOfRanks, StaysBuilt}
use Rattle.rdm_world.specs.Steps.{Enters, Reaches}
use Rattle.rdm_world.proofs.Putting.{own_port}
use Rattle.rdm_world.proofs.Reached.{stays_now, stays_keeps}

-- these choices go on from a world that is shown now as all did from the first one
pub record ChosenTo (left all : List Choice) (now : WorldView) (job : Job) (w : World) : Type 0 where
  pub v : World
  pub shows : IsWorld job v now
  pub stays : StaysBuilt job v
  pub goes : after_choices job v left ≡ after_choices job w all

-- so it is of each world that was shown
abbrev pub Choosing : Job → (left all : List Choice) → (old now : WorldView) → Type 0
Choosing job left all old now = (w : World) → IsWorld job w old → StaysBuilt job w → ChosenTo left all now job w

-- before the first choice
pub choose_start : (job : Job) (cs : List Choice) (a : WorldView) → Choosing job cs cs a a
choose_start job cs a w is stays = record { v = w; shows = is; stays = stays; goes = refl }

-- after a choice of a rank
pub choose_next : (job : Job) (c : Choice) (left all : List Choice) (old now next : WorldView) (changed : Bool) → choice_rank c < length now.ports
    → Choosing job (c ∷ left) all old now → Enters c now next changed → Choosing job left all old next
unfolding after_choices
choose_next job c left all old now next changed rank choosing steps w is stays =
    let s = choosing w is stays in
    let count = s.shows.count in
    let within : choice_rank c < port_count job = omega arith in
    record {
      v = after_choice job s.v c;
      shows = (steps job s.v s.shows (stays_now job s.v s.stays)).0;
      stays = stays_keeps job s.v c within s.stays;
      goes = s.goes;
    }

-- after all choices
pub choose_all : (job : Job) (all : List Choice) (old now : WorldView) → Choosing job [] all old now → Reaches job (λ w. after_choices job w all) old now
unfolding after_choices
choose_all job all old now choosing w is stays = let s = choosing w is stays in subst (λ (v : World). IsWorld job v now) s.goes s.shows

-- a choice in its place is of a rank where all are
pub choice_at : (n : ℕ) (cs : List Choice) (i : ℕ) (d : Choice) → AreOfRanks n cs → i < length cs → choice_rank (get_or cs i d) < n
choice_at n [] i d h lt = absurd (omega arith)
choice_at n (c ∷ cs) zero d h lt = ltb-true (choice_rank c) n (and_parts (nat_lt (choice_rank c) n) (list_all (λ c. nat_lt (choice_rank c) n) cs) h).0
choice_at n (c ∷ cs) (suc i) d h lt =
    choice_at n cs i d (and_parts (nat_lt (choice_rank c) n) (list_all (λ c. nat_lt (choice_rank c) n) cs) h).1 (omega arith)

-- a fair job has few ranks
pub few_ranks : (job : Job) → IsTrue (is_fair law_ops job) → port_count job ≤ 16
unfolding is_fair is_within
few_ranks job fair =
    let a = and_parts _ _ fair in
    let b = and_parts _ _ a.0 in
    let c = and_parts _ _ b.0 in
    let d = and_parts _ _ c.1 in
    leb-true (length job.ranks) 16 d.1

-- the world that is played is shown after choices and rounds
pub played_shown : (job : Job) (a b v : WorldView) → IsTrue (is_fair law_ops job) → StaysBuilt job new_world → IsWorld job new_world a
    → Reaches job (λ w. after_choices job w job.choices) a b → Reaches job (rounds (round_bound job) job) b v → IsWorld job (played_world job) v
unfolding played_world
played_shown job a b v fair built begins chosen settled =
    settled (after_choices job new_world job.choices) (chosen new_world begins built)
    (choices_keep job (StaysBuilt job) (stays_keeps job) job.choices new_world (fair_choices job law_ops fair) built)

-- the end of a port in a world that is shown
pub end_shown : (job : Job) (w : World) (v : WorldView) (i : ℕ) (p : PortView) (e : End) → IsWorld job w v → i < length v.ports → p ≡ get_or v.ports i p → EndsAs p e
    → e ≡ end_at job w i
unfolding end_at scene_in scene_at
end_shown job w v i p e is within at ends =
    let count = is.count in
    let below_it : i < port_count job = omega arith in
    let here : p ≡ port_in job w i = at ∙ is.ports i p below_it in
    (subst (λ q. EndsAs q e) here ends) job (own_port job w i below_it)

-- the ports below a number, with one more
pub below_more : (n : ℕ) → below (suc n) ≡ below n ++ n ∷ []
unfolding below
below_more n = refl

-- the ends of no ports
pub ends_none : (job : Job) (w : World) → [] ≡ map (end_at job w) (below 0)
unfolding below
ends_none job w = refl

-- none is below 0
pub none_at_all : (f : ℕ → Bool) → list_any f (below 0) ≡ false
unfolding below
none_at_all f = refl

-- the ends of the ports below a number, with one more
pub ends_more : (job : Job) (w : World) (n : ℕ) (es : List End) (e : End) → es ≡ map (end_at job w) (below n) → e ≡ end_at job w n
    → es ++ e ∷ [] ≡ map (end_at job w) (below (n + 1))
ends_more job w n es e before at =
    let next : n + 1 ≡ suc n = omega arith in
    rw (next, below_more n, before, at) (sym (map-append (end_at job w) (below n) (n ∷ [])))

-- one of those below a number passes
pub any_below : (f : ℕ → Bool) (n i : ℕ) → i < n → f i ≡ true → list_any f (below n) ≡ true
any_below f zero i lt h = absurd (omega arith)
any_below f (suc n) i lt h =
    ap (list_any f) (below_more n) ∙ list_any-append f (below n) (n ∷ [])
    ∙ elim (cases_lt i n) [
      | inl less ↦ ap (λ b. b || list_any f (n ∷ [])) (any_below f n i less h)
      | inr more ↦ (let same : n ≡ i = omega arith in ap (λ k. list_any f (below n) || (f k || false)) same ∙ ap (λ b. list_any f (below n) || (b || false)) h ∙ or_true (list_any f (below n)))
    ]

-- none of those below a number passes, nor the next
pub none_below : (f : ℕ → Bool) (n : ℕ) → list_any f (below n) ≡ false → f n ≡ false → list_any f (below (n + 1)) ≡ false
none_below f n h k =
    let next : n + 1 ≡ suc n = omega arith in
    ap (λ m. list_any f (below m)) next ∙ ap (list_any f) (below_more n) ∙ list_any-append f (below n) (n ∷ []) ∙ ap (λ b. b || (f n || false)) h ∙ ap (λ b. b || false) k

-- something is there or nothing is
some_or_none : {A : Type 0} (o : Option A) → is_some o ≡ not (is_none o)
some_or_none None = refl
some_or_none (Some x) = refl

-- whether the program of a port in a world that is shown is over
pub over_shown : (job : Job) (w : World) (v : WorldView) (i : ℕ) (p : PortView) (over : Bool) → IsWorld job w v → i < length v.ports → p ≡ get_or v.ports i p
    → over ≡ is_none (slice_get p.rank.ops (count nexts_by p.log)) → is_some (instruction_left job i (w.logs i)) ≡ not over
unfolding instruction_left
over_shown job w v i p over is within at ends =
    let n = is.count in
    let below_it : i < port_count job = omega arith in
    let here : p ≡ port_in job w i = at ∙ is.ports i p below_it in
    some_or_none (slice_get (rank_of job i).ops (count nexts_by (w.logs i))) ∙ sym (ap not (ends ∙ ap (λ (q : PortView). is_none (slice_get q.rank.ops (count nexts_by q.log))) here))
