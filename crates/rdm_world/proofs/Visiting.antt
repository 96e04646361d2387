-- Steps after each other, as a visit and a round have them.
use Rattle.std.proofs.Common.{◌≡◌, ℕ, suc, zero, ◌+◌, ◌<◌, ◌≤◌, Bool, false, not, ◌||◌, List, [], ◌∷◌, ◌++◌, length, refl, arith, eq-eqb, sym, ◌∙◌, ap, subst}
use Rattle.rdm_lists.specs.Lists.{below}
use Rattle.rdm_model.specs.declared.job.Job.{Job}
use Rattle.rdm_model.specs.declared.job.Choice.{Choice}
use Rattle.rdm_model.specs.Beginnings.{port_count}
use Rattle.rdm_model.specs.Jobs.{choice_rank}
use Rattle.rdm_model.specs.Worlds.{World, after_choice}
use Rattle.rdm_model.specs.Played.{first_pick, handle_any, visit_of, visits_of, round_of}
use Rattle.rdm_law.proofs.Played.PlayedSteps.{Keeps, visit_keeps}
use Rattle.rdm_world.specs.Views.{WorldView}
use Rattle.rdm_world.specs.Shows.{IsWorld, StaysBuilt, has_changed}
use Rattle.rdm_world.specs.Steps.{Steps, Makes}
use Rattle.rdm_world.proofs.Reached.{stays_now, stays_keeps, grows_keeps, changed_both}

-- where there are so many ports, what each choice keeps is kept
abbrev pub Keeping : ℕ → (Job → World → World) → Type 1
Keeping n f = (job : Job) (P : World → Type 0) → Keeps job P → (w : World) → n ≤ port_count job → P w → P (f job w)

-- a choice of a rank
pub choice_keeping : (c : Choice) → Keeping (suc (choice_rank c)) (λ job w. after_choice job w c)
choice_keeping c job P keeps w few h = keeps w c few h

-- tries to handle
pub handle_keeping : (r : ℕ) → Keeping (suc r) (λ job w. handle_any job w r)
unfolding handle_any choice_rank
handle_keeping r job P keeps w few h = keeps w (Choice.Handle r (first_pick job w r)) few h

-- a visit
pub visit_keeping : (r : ℕ) → Keeping (suc r) (λ job w. visit_of job w r)
visit_keeping r job P keeps w few h = visit_keeps job P keeps r w few h

-- one after the other
pub then_keeping : (n : ℕ) (f g : Job → World → World) → Keeping n f → Keeping n g → Keeping n (λ job w. g job (f job w))
then_keeping n f g kf kg job P keeps w few h = kg job P keeps (f job w) few (kf job P keeps w few h)

-- where a world is made of each that was shown, and then another of that, the other is made of the first
pub makes_then : (n : ℕ) (f g : Job → World → World) → Keeping n f → Keeping n g → (a b c : WorldView) → n ≤ length a.ports → (x y : Bool)
    → Makes f a b x → Makes g b c y → Makes (λ job w. g job (f job w)) a c (x || y)
makes_then n f g kf kg a b c few x y first second job w is stays =
    let enough : n ≤ port_count job = subst (λ (k : ℕ). n ≤ k) is.count few in
    let v = f job w in
    let u = g job v in
    let one = first job w is stays in
    let built : StaysBuilt job v = kf job (StaysBuilt job) (stays_keeps job) w enough stays in
    let two = second job v one.0 built in
    let rose : w.changes ≤ v.changes = kf job (λ z. w.changes ≤ z.changes) (grows_keeps job w.changes) w enough (omega arith) in
    let more : v.changes ≤ u.changes = kg job (λ z. v.changes ≤ z.changes) (grows_keeps job v.changes) v enough (omega arith) in
    let both : (x || y) ≡ (has_changed w v || has_changed v u) = ap (λ (b : Bool). b || y) one.1 ∙ ap (λ (b : Bool). has_changed w v || b) two.1 in
    (two.0, both ∙ changed_both w v u rose more)

-- a choice
pub steps_make : (c : Choice) (a b : WorldView) (x : Bool) → Steps c a b x → Makes (λ job w. after_choice job w c) a b x
steps_make c a b x steps job w is stays = steps job w is (stays_now job w stays)

-- nothing is done
pub nothing_made : (a : WorldView) → Makes (λ job w. w) a a false
unfolding has_changed
nothing_made a job w is stays = (is, ap not (sym (eq-eqb w.changes w.changes refl)))

-- a visit is its four parts
visit_is : (r : ℕ) (job : Job) (w : World)
    → visit_of job w r ≡ after_choice job (handle_any job (after_choice job (after_choice job w (Choice.Next r)) (Choice.Push r)) r) (Choice.Poll r)
unfolding visit_of
visit_is r job w = refl

-- what the four parts of a visit make
pub visit_makes : (r : ℕ) (a b c d e : WorldView) (x y z t : Bool) → r < length a.ports → length b.ports ≡ length a.ports → length c.ports ≡ length a.ports → length d.ports ≡ length a.ports
    → Steps (Choice.Next r) a b x → Steps (Choice.Push r) b c y → Makes (λ job w. handle_any job w r) c d z → Steps (Choice.Poll r) d e t
    → Makes (λ job w. visit_of job w r) a e (((x || y) || z) || t)
unfolding choice_rank
visit_makes r a b c d e x y z t within eb ec ed next push handle poll job w is stays =
    let fn : Job → World → World = λ job w. after_choice job w (Choice.Next r) in
    let fp : Job → World → World = λ job w. after_choice job w (Choice.Push r) in
    let fh : Job → World → World = λ job w. handle_any job w r in
    let fl : Job → World → World = λ job w. after_choice job w (Choice.Poll r) in
    let kn : Keeping (suc r) fn = choice_keeping (Choice.Next r) in
    let kp : Keeping (suc r) fp = choice_keeping (Choice.Push r) in
    let kh : Keeping (suc r) fh = handle_keeping r in
    let kl : Keeping (suc r) fl = choice_keeping (Choice.Poll r) in
    let knp = then_keeping (suc r) fn fp kn kp in
    let knph = then_keeping (suc r) (λ job w. fp job (fn job w)) fh knp kh in
    let np = makes_then (suc r) fn fp kn kp a b c within x y (steps_make (Choice.Next r) a b x next) (steps_make (Choice.Push r) b c y push) in
    let nph = makes_then (suc r) (λ job w. fp job (fn job w)) fh knp kh a c d within (x || y) z np handle in
    let all = makes_then (suc r) (λ job w. fh job (fp job (fn job w))) fl knph kl a d e within ((x || y) || z) t nph (steps_make (Choice.Poll r) d e t poll) in
    subst (λ (v : World). IsWorld job v e × ((((x || y) || z) || t) ≡ has_changed w v)) (sym (visit_is r job w)) (all job w is stays)

-- visits of ports in a row are those of the first and then those of the others
visits_more : (job : Job) (w : World) (ports : List ℕ) (r : ℕ) → visits_of job w (ports ++ r ∷ []) ≡ visit_of job (visits_of job w ports) r
unfolding visits_of
visits_more job w [] r = refl
visits_more job w (p ∷ ports) r = visits_more job (visit_of job w p) ports r

-- the visits of the ports below a number are kept by what each choice keeps
pub below_keeping : (n : ℕ) → Keeping n (λ job w. visits_of job w (below n))
unfolding visits_of below
below_keeping zero job P keeps w few h = h
below_keeping (suc n) job P keeps w few h =
    subst P (sym (visits_more job w (below n) n)) (visit_keeping n job P keeps (visits_of job w (below n)) few (below_keeping n job P keeps w (omega arith) h))

-- more ports are enough
fewer : (n m : ℕ) (f : Job → World → World) → n ≤ m → Keeping n f → Keeping m f
fewer n m f le k job P keeps w few h = k job P keeps w (omega arith) h

-- no visit is made
pub no_visits : (a : WorldView) → Makes (λ job w. visits_of job w (below 0)) a a false
unfolding visits_of below
no_visits a = nothing_made a

-- the numbers below the next one
below_more : (n : ℕ) → below n ++ n ∷ [] ≡ below (n + 1)
unfolding below
below_more n = let next : suc n ≡ n + 1 = omega arith in ap below next

-- one visit more is made
pub visits_make : (n : ℕ) (a b c : WorldView) (x y : Bool) → n < length a.ports → Makes (λ job w. visits_of job w (below n)) a b x → Makes (λ job w. visit_of job w n) b c y
    → Makes (λ job w. visits_of job w (below (n + 1))) a c (x || y)
visits_make n a b c x y within first second job w is stays =
    let f : Job → World → World = λ job w. visits_of job w (below n) in
    let g : Job → World → World = λ job w. visit_of job w n in
    let all = makes_then (suc n) f g (fewer n (suc n) f (omega arith) (below_keeping n)) (visit_keeping n) a b c within x y first second in
    let is_more : visit_of job (visits_of job w (below n)) n ≡ visits_of job w (below (n + 1)) = sym (visits_more job w (below n) n) ∙ ap (visits_of job w) (below_more n) in
    subst (λ (v : World). IsWorld job v c × ((x || y) ≡ has_changed w v)) is_more (all job w is stays)

-- the visits of all ports are a round
pub round_makes : (n : ℕ) (a b : WorldView) (x : Bool) → length a.ports ≡ n → Makes (λ job w. visits_of job w (below n)) a b x → Makes round_of a b x
unfolding round_of
round_makes n a b x count makes job w is stays =
    let same : n ≡ port_count job = sym count ∙ is.count in
    subst (λ (k : ℕ). IsWorld job (visits_of job w (below k)) b × (x ≡ has_changed w (visits_of job w (below k)))) same (makes job w is stays)
