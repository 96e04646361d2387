-- What each choice of a rank keeps holds of the world that a job ends in.
use Rattle.std.proofs.Common.{◌≡◌, ℕ, zero, suc, ◌<◌, Bool, true, false, nat_lt, ltb-true, List, [], ◌∷◌, refl, inl, inr, IsTrue}
use Rattle.std.proofs.lemmas.Bool.{and_parts}
use Rattle.std.specs.List.{list_all}
use Rattle.rdm_lists.specs.Lists.{Member, below}
use Rattle.rdm_model.specs.declared.job.Job.{Job}
use Rattle.rdm_model.specs.declared.job.Choice.{Choice}
use Rattle.rdm_model.specs.Beginnings.{port_count}
use Rattle.rdm_model.specs.Jobs.{is_fair, choices_fit, choice_rank}
use Rattle.rdm_model.specs.Worlds.{World, new_world, after_choice, after_choices}
use Rattle.rdm_model.specs.Played.{stop_if, first_pick, handle_any, visit_of, visits_of, round_of, unless_quiet, rounds, round_bound, played_world}
use Rattle.rdm_lists.proofs.Below.{member_below}

-- each choice of a rank keeps it
abbrev pub Keeps : Job → (World → Type 0) → Type 0
Keeps job P = (w : World) (c : Choice) → choice_rank c < port_count job → P w → P (after_choice job w c)

-- where both ways hold, so does the one that is taken
stop_keeps : (P : World → Type 0) (b : Bool) (w : World) (go_on : World → World) → P w → P (go_on w) → P (stop_if b w go_on)
unfolding stop_if
stop_keeps P true w go_on here there = here
stop_keeps P false w go_on here there = there

-- a port's part of a round
pub visit_keeps : (job : Job) (P : World → Type 0) → Keeps job P → (port : ℕ) (w : World) → port < port_count job → P w → P (visit_of job w port)
unfolding visit_of handle_any choice_rank
visit_keeps job P keeps port w is h =
    let a = after_choice job w (Choice.Next port) in
    let b = after_choice job a (Choice.Push port) in
    let c = handle_any job b port in
    let pa : P a = keeps w (Choice.Next port) is h in
    let pb : P b = keeps a (Choice.Push port) is pa in
    let pc : P c = keeps b (Choice.Handle port (first_pick job b port)) is pb in
    keeps c (Choice.Poll port) is pc

-- the parts of some ports
pub visits_keep : (job : Job) (P : World → Type 0) → Keeps job P → (ports : List ℕ) (w : World) → ((port : ℕ) → Member port ports → port < port_count job) → P w
    → P (visits_of job w ports)
unfolding visits_of
visits_keep job P keeps [] w are h = h
visits_keep job P keeps (port ∷ ports) w are h =
    visits_keep job P keeps ports (visit_of job w port) (λ p m. are p (inr m)) (visit_keeps job P keeps port w (are port (inl refl)) h)

-- a round
pub round_keeps : (job : Job) (P : World → Type 0) → Keeps job P → (w : World) → P w → P (round_of job w)
unfolding round_of
round_keeps job P keeps w h = visits_keep job P keeps (below (port_count job)) w (member_below (port_count job)) h

-- rounds
pub rounds_keep : (job : Job) (P : World → Type 0) → Keeps job P → (fuel : ℕ) (w : World) → P w → P (rounds fuel job w)
unfolding rounds unless_quiet
rounds_keep job P keeps zero w h = h
rounds_keep job P keeps (suc fuel) w h =
    let v = round_of job w in
    let now : P v = round_keeps job P keeps w h in
    stop_keeps P _ v (rounds fuel job) now (rounds_keep job P keeps fuel v now)

-- choices of ranks
pub choices_keep : (job : Job) (P : World → Type 0) → Keeps job P → (cs : List Choice) (w : World)
    → list_all (λ c. nat_lt (choice_rank c) (port_count job)) cs ≡ true → P w → P (after_choices job w cs)
unfolding after_choices
choices_keep job P keeps [] w are h = h
choices_keep job P keeps (c ∷ cs) w are h =
    let both = and_parts (nat_lt (choice_rank c) (port_count job)) (list_all (λ c. nat_lt (choice_rank c) (port_count job)) cs) are in
    choices_keep job P keeps cs (after_choice job w c) both.1 (keeps w c (ltb-true _ _ both.0) h)

-- the choices of a fair job are of its ranks
pub fair_choices : (job : Job) (ops_max : ℕ) → IsTrue (is_fair ops_max job) → list_all (λ c. nat_lt (choice_rank c) (port_count job)) job.choices ≡ true
unfolding is_fair choices_fit
fair_choices job ops_max fair = (and_parts _ _ (and_parts _ _ fair).1).1

-- the world that a fair job ends in
pub played_keeps : (job : Job) (ops_max : ℕ) (P : World → Type 0) → IsTrue (is_fair ops_max job) → Keeps job P → P new_world → P (played_world job)
unfolding played_world
played_keeps job ops_max P fair keeps h =
    rounds_keep job P keeps (round_bound job) (after_choices job new_world job.choices)
    (choices_keep job P keeps job.choices new_world (fair_choices job ops_max fair) h)
