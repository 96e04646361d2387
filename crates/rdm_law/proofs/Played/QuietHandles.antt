-- A port that looks at its whole stash and changes nothing: why it could not.
use Rattle.std.proofs.Common.{◌≡◌, ℕ, zero, suc, ◌+◌, ◌<◌, ◌≤◌, ◌%◌, min, max, Bool, true, false, not, ◌||◌, eq-eqb, List, [], ◌∷◌, ◌++◌, length, take, drop, slice_get, Option, Some, None, refl, arith, inl, inr, sym, ◌∙◌, ap, subst, append-nil, mod-eq_of_lt}
use Rattle.std.specs.Prelude.{◌==◌, find, unwrap_or}
use Rattle.std.proofs.lemmas.Bool.{cases_lt, ne_eqb}
use Rattle.rdm_lists.specs.Lists.{below}
use Rattle.rdm_lists.proofs.Below.{none_below}
use Rattle.rdm_lists.proofs.Members.{find_member}
use Rattle.rdm_wire.specs.declared.Datagram.{Datagram}
use Rattle.rdm_model.specs.declared.job.Job.{Job}
use Rattle.rdm_model.specs.declared.job.Choice.{Choice}
use Rattle.rdm_model.specs.declared.entry.Entry.{Entry}
use Rattle.rdm_model.specs.Beginnings.{port_count}
use Rattle.rdm_model.specs.Scenes.{deeds_at}
use Rattle.rdm_model.specs.Classes.{class_of}
use Rattle.rdm_model.specs.Takes.{is_again_early}
use Rattle.rdm_model.specs.Settled.{is_worn_by}
use Rattle.rdm_model.specs.Local.{own_scene}
use Rattle.rdm_model.specs.Worlds.{World, scene_in, with_entry, after_fetch, with_handle, after_handle_at, after_pick, step_handle, after_choice}
use Rattle.rdm_model.specs.Played.{can_handle, first_pick, handle_any}
use Rattle.rdm_law.proofs.Played.Apart.{put_at_case, put_at_here}
use Rattle.rdm_law.proofs.Played.Sound.{chosen}
use Rattle.rdm_law.proofs.Played.Quiet.{Still, still_refl, still_then, Outcome, PlaceQuiet, none_some, some_same, next_outcome, push_outcome, poll_outcome}
use Rattle.rdm_law.proofs.Played.PlayedSteps.{Keeps}

-- no step makes fewer changes
pub at_most : (w v : World) (Why : Type 0) → Outcome w v Why → w.changes ≤ v.changes
at_most w v Why (inl less) = omega arith
at_most w v Why (inr a) = let e = a.0.changes in omega arith

-- a queue of which nothing is fetched is empty
no_more : (ds : List Datagram) (n : ℕ) → min n (length ds) ≡ 0 → 0 < n → ds ≡ []
no_more [] n h some = refl
no_more (d ∷ ds) n h some = absurd (omega arith)

-- of an empty queue nothing is fetched
empty_min : (n : ℕ) (ds : List Datagram) → ds ≡ [] → min n (length ds) ≡ 0
empty_min n ds is = (let e : length ds ≡ 0 = ap (λ (l : List Datagram). length l) is in omega arith)

-- nothing without its first elements
drop_none : (n : ℕ) → ◌≡◌ {A = List Datagram} (drop n []) []
drop_none zero = refl
drop_none (suc n) = refl

-- the first elements of nothing
take_none : (n : ℕ) → ◌≡◌ {A = List Datagram} (take n []) []
take_none zero = refl
take_none (suc n) = refl

-- a fetch of something is a change
fetch_moves : (job : Job) (w : World) (port : ℕ) → 0 < min job.inbox (length (w.queues port)) → w.changes < (after_fetch job w port).changes
unfolding after_fetch
fetch_moves job w port moved = omega arith

-- a fetch leaves the logs
fetched_log : (job : Job) (w : World) (port : ℕ) → (after_fetch job w port).logs port ≡ w.logs port
unfolding after_fetch
fetched_log job w port = refl

-- a fetch of an empty queue
fetch_still : (job : Job) (w : World) (port : ℕ) → w.queues port ≡ [] → Still w (after_fetch job w port)
unfolding after_fetch
fetch_still job w port none = record {
  changes = (let e : min job.inbox (length (w.queues port)) ≡ 0 = empty_min job.inbox (w.queues port) none in omega arith);
  logs = λ p. refl;
  queues = λ p. put_at_case (λ (ds : List Datagram). ds ≡ w.queues p) port (drop job.inbox (w.queues port)) w.queues p
      (λ is. ap (λ (ds : List Datagram). drop job.inbox ds) none ∙ drop_none job.inbox ∙ sym none ∙ ap (λ (x : ℕ). w.queues x) (sym is)) (λ other. refl);
  stashes = λ p. put_at_case (λ (ds : List Datagram). ds ≡ w.stashes p) port (w.stashes port ++ take job.inbox (w.queues port)) w.stashes p
      (λ is. ap (λ (ds : List Datagram). w.stashes port ++ take job.inbox ds) none ∙ ap (λ (ds : List Datagram). w.stashes port ++ ds) (take_none job.inbox) ∙ append-nil (w.stashes port)
      ∙ ap (λ (x : ℕ). w.stashes x) (sym is)) (λ other. refl);
}

-- a fetch
fetch_outcome : (job : Job) (w : World) (port : ℕ) → 0 < job.inbox → Outcome w (after_fetch job w port) (w.queues port ≡ [])
fetch_outcome job w port some =
    elim (cases_lt 0 (min job.inbox (length (w.queues port)))) [
      | inl moved ↦ inl (fetch_moves job w port moved)
      | inr none ↦ (let empty = no_more (w.queues port) job.inbox (omega arith) some in inr (fetch_still job w port empty, empty))
    ]

-- the datagram at a place, if there is one
place_by : (job : Job) (w : World) (port place : ℕ) (o : Option Datagram) → slice_get (w.stashes port) place ≡ o
    → Outcome w (with_handle job w port place o) (PlaceQuiet job port (w.logs port) (w.stashes port) place)
unfolding with_handle with_entry scene_in
place_by job w port place None is = inr (still_refl w, λ d h. absurd (none_some is h))
place_by job w port place (Some d) is =
    let scene = own_scene job port (deeds_at job port (w.logs port)) in
    chosen (λ v. Outcome w v (PlaceQuiet job port (w.logs port) (w.stashes port) place)) (is_again_early class_of scene d || is_worn_by job (w.logs port) d) w _
    (λ stays. inr (
      still_refl w,
      λ other h.
          let same : d ≡ other = some_same is h in
          let P : Datagram → Type 0 = λ x. (is_again_early class_of scene x || is_worn_by job (w.logs port) x) ≡ true in
          subst P same stays,
    ))
    (λ runs. inl (omega arith))

-- a try at a pick that lies in the stash: the queue is empty, and the datagram there can't be handled
abbrev pub TryQuiet : Job → ℕ → World → ℕ → Type 0
TryQuiet job port w pick = (w.queues port ≡ []) × (pick < length (w.stashes port) → PlaceQuiet job port (w.logs port) (w.stashes port) pick)

-- what was so of a world is so of one that is still
pub still_place : (job : Job) (port : ℕ) (w v : World) (place : ℕ) → Still w v → PlaceQuiet job port (v.logs port) (v.stashes port) place → PlaceQuiet job port (w.logs port) (w.stashes port) place
still_place job port w v place s q =
    let P : List Entry → Type 0 = λ log. PlaceQuiet job port log (v.stashes port) place in
    let Q : List Datagram → Type 0 = λ ds. PlaceQuiet job port (w.logs port) ds place in
    subst Q (s.stashes port) (subst P (s.logs port) q)

-- the datagram at a pick
pick_outcome : (job : Job) (w : World) (port pick : ℕ) → Outcome w (after_pick job w port pick) (pick < length (w.stashes port) → PlaceQuiet job port (w.logs port) (w.stashes port) pick)
unfolding after_pick after_handle_at
pick_outcome job w port pick =
    let place = pick % max 1 (length (w.stashes port)) in
    elim (place_by job w port place (slice_get (w.stashes port) place) refl) [
      | inl less ↦ inl less
      | inr a ↦ inr (
        a.0,
        λ within.
            let same : place ≡ pick = mod-eq_of_lt (omega arith) in
            subst (λ (n : ℕ). PlaceQuiet job port (w.logs port) (w.stashes port) n) same a.1,
      )
    ]

-- a try to handle
pub try_outcome : (job : Job) (w : World) (port pick : ℕ) → 0 < job.inbox → Outcome w (step_handle job w port pick) (TryQuiet job port w pick)
unfolding step_handle
try_outcome job w port pick some =
    let v = after_fetch job w port in
    let first = fetch_outcome job w port some in
    let second = pick_outcome job v port pick in
    elim first [
      | inl less ↦ (let more = at_most v (after_pick job v port pick) _ second in inl (omega arith))
      | inr a ↦ elim second [
        | inl less ↦ (let e = a.0.changes in inl (omega arith))
        | inr b ↦ inr (
          still_then w v (after_pick job v port pick) a.0 b.0,
          (
            a.1,
            λ within.
                let longer : pick < length (v.stashes port) = subst (λ (ds : List Datagram). pick < length ds) (sym (a.0.stashes port)) within in
                still_place job port w v pick a.0 (b.1 longer),
          ),
        )
      ]
    ]

-- the choice to handle
pub handle_outcome : (job : Job) (w : World) (port pick : ℕ) → 0 < job.inbox → Outcome w (after_choice job w (Choice.Handle port pick)) (TryQuiet job port w pick)
unfolding after_choice
handle_outcome job w port pick some = try_outcome job w port pick some

-- changes are only made
pub choice_grows : (job : Job) (w : World) (c : Choice) → 0 < job.inbox → w.changes ≤ (after_choice job w c).changes
choice_grows job w (Choice.Next port) some = at_most w _ _ (next_outcome job w port)
choice_grows job w (Choice.Push port) some = at_most w _ _ (push_outcome job w port)
choice_grows job w (Choice.Handle port pick) some = at_most w _ _ (handle_outcome job w port pick some)
choice_grows job w (Choice.Poll port) some = at_most w _ _ (poll_outcome job w port)

-- so the count of changes never falls
pub grows_keeps : (job : Job) (n : ℕ) → 0 < job.inbox → Keeps job (λ (w : World). n ≤ w.changes)
grows_keeps job n some w c rank h = let more = choice_grows job w c some in omega arith

-- an entry is seen by the length of the log
longer : (m n : ℕ) → m ≡ suc n → not (m == n) ≡ false → ⊥
longer m n is h =
    let more : m == n ≡ false = ne_eqb m n (λ e. absurd (omega arith)) in
    let wrong : true ≡ false = ap not (sym more) ∙ h in
    cc

-- where no entry is made, the datagram at the place can't be handled
idle_place : (job : Job) (u : World) (port place : ℕ) (o : Option Datagram) → slice_get (u.stashes port) place ≡ o
    → not (length ((with_handle job u port place o).logs port) == length (u.logs port)) ≡ false → PlaceQuiet job port (u.logs port) (u.stashes port) place
unfolding with_handle with_entry scene_in
idle_place job u port place None is none = λ d h. absurd (none_some is h)
idle_place job u port place (Some d) is none =
    let scene = own_scene job port (deeds_at job port (u.logs port)) in
    chosen (λ v. not (length (v.logs port) == length (u.logs port)) ≡ false → PlaceQuiet job port (u.logs port) (u.stashes port) place)
    (is_again_early class_of scene d || is_worn_by job (u.logs port) d) u _
    (λ stays same other h.
    let is_it : d ≡ other = some_same is h in
    let P : Datagram → Type 0 = λ x. (is_again_early class_of scene x || is_worn_by job (u.logs port) x) ≡ true in
    subst P is_it stays)
    (λ runs same. absurd (longer _ (length (u.logs port)) (ap (λ (l : List Entry). length l) (put_at_here port _ u.logs)) same))
    none

-- what a pick that makes no entry says of the place in the stash, once it has fetched
idle_pick : (job : Job) (w : World) (port pick : ℕ) → can_handle job w port pick ≡ false → pick < length ((after_fetch job w port).stashes port)
    → PlaceQuiet job port ((after_fetch job w port).logs port) ((after_fetch job w port).stashes port) pick
unfolding can_handle step_handle after_pick after_handle_at
idle_pick job w port pick none within =
    let u = after_fetch job w port in
    let place = pick % max 1 (length (u.stashes port)) in
    let logs : u.logs port ≡ w.logs port = fetched_log job w port in
    let made : not (length ((with_handle job u port place (slice_get (u.stashes port) place)).logs port) == length (u.logs port)) ≡ false =
    ap (λ (l : List Entry). not (length ((with_handle job u port place (slice_get (u.stashes port) place)).logs port) == length l)) logs ∙ none in
    let same : place ≡ pick = mod-eq_of_lt (omega arith) in
    subst (λ (n : ℕ). PlaceQuiet job port (u.logs port) (u.stashes port) n) same (idle_place job u port place (slice_get (u.stashes port) place) refl made)

-- a handling that makes an entry is a change
entry_changes : (job : Job) (w : World) (port pick : ℕ) → 0 < job.inbox → can_handle job w port pick ≡ true → w.changes < (step_handle job w port pick).changes
unfolding can_handle
entry_changes job w port pick some made =
    elim (try_outcome job w port pick some) [
      | inl less ↦ less
      | inr a ↦
          let same : (length ((step_handle job w port pick).logs port) == length (w.logs port)) ≡ true = eq-eqb _ _ (ap (λ (l : List Entry). length l) (a.0.logs port)) in
          let wrong : true ≡ false = sym made ∙ ap not same in
          cc
    ]

-- nothing in the stash of a port can be handled
abbrev pub PlacesQuiet : Job → ℕ → World → Type 0
PlacesQuiet job port w = (k : ℕ) → k < length (w.stashes port) → PlaceQuiet job port (w.logs port) (w.stashes port) k

-- and its queue is empty
abbrev pub HandleQuiet : Job → ℕ → World → Type 0
HandleQuiet job port w = (w.queues port ≡ []) × PlacesQuiet job port w

-- where no pick makes an entry and the queue is empty, nothing in the stash can be handled
none_handled : (job : Job) (w : World) (port : ℕ) → w.queues port ≡ [] → find (can_handle job w port) (below (length ((after_fetch job w port).stashes port))) ≡ None → HandleQuiet job port w
none_handled job w port empty none = (
  empty,
  λ k within.
      let u = after_fetch job w port in
      let still : Still w u = fetch_still job w port empty in
      let fits : k < length (u.stashes port) = subst (λ (ds : List Datagram). k < length ds) (sym (still.stashes port)) within in
      still_place job port w u k still (idle_pick job w port k (none_below (can_handle job w port) _ none k fits) fits),
)

-- a port that handles what it can
pub handle_any_outcome : (job : Job) (w : World) (port : ℕ) → 0 < job.inbox → Outcome w (handle_any job w port) (HandleQuiet job port w)
unfolding handle_any first_pick after_choice
handle_any_outcome job w port some =
    let found = find (can_handle job w port) (below (length ((after_fetch job w port).stashes port))) in
    (elim found as (λ o. found ≡ o → Outcome w (step_handle job w port (unwrap_or o 0)) (HandleQuiet job port w)) [
      | Some pick ↦ λ is. inl (entry_changes job w port pick some (find_member (can_handle job w port) pick _ is).1)
      | None ↦ λ is. elim (try_outcome job w port 0 some) [
        | inl less ↦ inl less
        | inr a ↦ inr (a.0, none_handled job w port a.1.0 is)
      ]
    ])
    refl
