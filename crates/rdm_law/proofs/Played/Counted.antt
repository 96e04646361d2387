-- The changes of a world are the entries, and the datagrams that were moved: those handled and those in the stashes.
use Rattle.std.proofs.Common.{◌≡◌, ℕ, zero, suc, ◌+◌, ◌<◌, ◌%◌, min, max, not, ◌&&◌, ◌||◌, nat_le, List, ◌∷◌, ◌++◌, length, take, remove, slice_get, Option, Some, None, refl, arith, inl, inr, sym, ◌∙◌, ap, subst, length-append, length-take}
use Rattle.std.proofs.lemmas.Bool.{cases_eq, cases_lt}
use Rattle.rdm_num.specs.declared.completion.Completion.{Completion}
use Rattle.rdm_wire.specs.declared.Datagram.{Datagram}
use Rattle.rdm_model.specs.declared.job.Job.{Job}
use Rattle.rdm_model.specs.declared.job.Instr.{Instr}
use Rattle.rdm_model.specs.declared.job.Choice.{Choice}
use Rattle.rdm_model.specs.declared.entry.Entry.{Entry}
use Rattle.rdm_model.specs.declared.entry.Act.{Act}
use Rattle.rdm_model.specs.declared.entry.Act.TheVariants.{Next, Push, Handle, Poll}
use Rattle.rdm_model.specs.Beginnings.{port_count}
use Rattle.rdm_model.specs.Jobs.{choice_rank}
use Rattle.rdm_model.specs.declared.answer.OpName.{OpName}
use Rattle.rdm_model.specs.declared.answer.Next.{Next as Answer}
use Rattle.rdm_model.specs.declared.answer.Handled.{Handled}
use Rattle.rdm_model.specs.Answers.{op_of, answer_of, is_entry}
use Rattle.rdm_model.specs.Classes.{class_of}
use Rattle.rdm_model.specs.Going.{Going}
use Rattle.rdm_model.specs.Steps.{count, nexts_by, handles_by}
use Rattle.rdm_model.specs.Takes.{handled_answer, is_again_early}
use Rattle.rdm_model.specs.Settled.{is_worn, is_worn_by}
use Rattle.rdm_model.specs.Worlds.{World, new_world, put_at, scene_in, with_entry, next_act, step_next, datagram_of, with_push, step_push, after_fetch, with_handle, after_handle_at, after_pick, step_handle, with_poll, after_choice}
use Rattle.rdm_law.proofs.Played.Apart.{put_at_here, put_at_there, Removed, removed}
use Rattle.rdm_law.proofs.Played.Sound.{chosen, entry_of}
use Rattle.rdm_law.proofs.Played.PlayedSteps.{Keeps}

-- what a port has of the changes
unfoldable pub measure : World → ℕ → ℕ
measure w p = length (w.logs p) + count handles_by (w.logs p) + length (w.stashes p)

-- the sum over the numbers below n
unfoldable pub sum_below : (ℕ → ℕ) → ℕ → ℕ
sum_below f zero = 0
sum_below f (suc n) = sum_below f n + f n

-- values that are the same have the same sum
pub sum_same : (f g : ℕ → ℕ) (n : ℕ) → ((p : ℕ) → p < n → g p ≡ f p) → sum_below g n ≡ sum_below f n
unfolding sum_below
sum_same f g zero h = refl
sum_same f g (suc n) h = let a = sum_same f g n (λ p l. h p (omega arith)) in let b = h n (omega arith) in omega arith

-- what is less than the next number and another is less
less_by : (n port : ℕ) → port < suc n → (n ≡ port → ⊥) → port < n
less_by n port h differ =
    elim (cases_lt port n) [
      | inl less ↦ less
      | inr past ↦ (let is : n ≡ port = omega arith in absurd (differ is))
    ]

-- the sum where one value grew
pub sum_change : (f g : ℕ → ℕ) (port n k : ℕ) → port < n → ((p : ℕ) → (p ≡ port → ⊥) → g p ≡ f p) → g port ≡ f port + k → sum_below g n ≡ sum_below f n + k
unfolding sum_below
sum_change f g port zero k rank other here = absurd (omega arith)
sum_change f g port (suc n) k rank other here =
    elim (cases_eq n port) [
      | inl is ↦
          let a = sum_same f g n (λ p l. other p (λ e. omega arith)) in
          let b : g n ≡ f n + k = subst (λ (x : ℕ). g x ≡ f x + k) (sym is) here in
          omega arith
      | inr differ ↦
          let a = sum_change f g port n k (less_by n port rank differ) other here in
          let b = other n differ in
          omega arith
    ]

-- a step of a port that made so many changes
pub record Moved (w v : World) (port k : ℕ) : Type 0 where
  pub changes : v.changes ≡ w.changes + k
  pub here : measure v port ≡ measure w port + k
  pub there : (p : ℕ) → (p ≡ port → ⊥) → measure v p ≡ measure w p

-- no change
moved_none : (w : World) (port : ℕ) → Moved w w port 0
moved_none w port = record { changes = omega arith; here = omega arith; there = λ p other. refl }

-- one after the other
moved_then : (w v u : World) (port a b : ℕ) → Moved w v port a → Moved v u port b → Moved w u port (a + b)
moved_then w v u port a b x y =
    let c = x.changes in
    let d = y.changes in
    let e = x.here in
    let f = y.here in
    record { changes = omega arith; here = omega arith; there = λ p other. y.there p other ∙ x.there p other }

-- some number of changes
abbrev pub SomeMoved : World → World → ℕ → Type 0
SomeMoved w v port = (k : ℕ) × Moved w v port k

-- one more entry that handles nothing
one_longer : (e : Entry) (log : List Entry) (stash : ℕ) → handles_by e.act ≡ 0 → length (e ∷ log) + count handles_by (e ∷ log) + stash ≡ length log + count handles_by log + stash + 1
unfolding count
one_longer e log stash none = omega arith

-- an instruction handles nothing
next_handles_none : (index : ℕ) (op : OpName) (answer : Answer) → handles_by (Next index op answer) ≡ 0
unfolding handles_by
next_handles_none index op answer = refl

-- a push handles nothing
push_handles_none : (d : Datagram) → handles_by (Push d) ≡ 0
unfolding handles_by
push_handles_none d = refl

-- a poll handles nothing
poll_handles_none : (c : Completion) → handles_by (Poll c) ≡ 0
unfolding handles_by
poll_handles_none c = refl

-- a handling handles one
handle_handles_one : (d : Datagram) (answer : Handled) → handles_by (Handle d answer) ≡ 1
unfolding handles_by
handle_handles_one d answer = refl

-- one more entry and handling, and one datagram fewer
handled_here : (w : World) (port place : ℕ) (e : Entry) (d : Datagram) → Removed (w.stashes port) place d → (logs : List Entry) (stash : List Datagram) → logs ≡ e ∷ w.logs port
    → stash ≡ remove (w.stashes port) place → handles_by e.act ≡ 1
    → length logs + count handles_by logs + length stash ≡ length (w.logs port) + count handles_by (w.logs port) + length (w.stashes port) + 1
unfolding count
handled_here w port place e d r logs stash is less one =
    let a : length logs ≡ length (w.logs port) + 1 = ap (λ (l : List Entry). length l) is ∙ (let x : suc (length (w.logs port)) ≡ length (w.logs port) + 1 = omega arith in x) in
    let b : count handles_by logs ≡ count handles_by (w.logs port) + handles_by e.act = ap (λ (l : List Entry). count handles_by l) is in
    let c : length stash ≡ length (r.front ++ r.back) = ap (λ (ds : List Datagram). length ds) (less ∙ r.is) in
    let f : length (w.stashes port) ≡ length (r.front ++ d ∷ r.back) = ap (λ (ds : List Datagram). length ds) r.was in
    let g = length-append r.front r.back in
    let h = length-append r.front (d ∷ r.back) in
    omega arith

-- an entry
entry_moved : (job : Job) (w : World) (port : ℕ) (act : Act) → handles_by act ≡ 0 → Moved w (with_entry job w port act) port 1
unfolding with_entry measure count
entry_moved job w port act none =
    let e = entry_of job port (w.logs port) act in
    let log : put_at port (e ∷ w.logs port) w.logs port ≡ e ∷ w.logs port = put_at_here port (e ∷ w.logs port) w.logs in
    record {
      changes = refl;
      here = (let M : List Entry → Type 0 = λ l. length l + count handles_by l + length (w.stashes port) ≡ length (w.logs port) + count handles_by (w.logs port) + length (w.stashes port) + 1 in
          subst M (sym log) (one_longer e (w.logs port) (length (w.stashes port)) none));
      there = λ p other. ap (λ (l : List Entry). length l + count handles_by l + length (w.stashes p)) (put_at_there port (e ∷ w.logs port) w.logs p other);
    }

-- an instruction
next_moved : (job : Job) (w : World) (port : ℕ) (o : Option Instr) → SomeMoved w (step_next job w port o) port
unfolding step_next next_act
next_moved job w port None = (0, moved_none w port)
next_moved job w port (Some instr) =
    chosen (λ (v : World). SomeMoved w v port) (is_entry (answer_of (scene_in job w port) instr) && not (is_worn job (w.logs port))) _ w
    (λ yes. (1, entry_moved job w port (next_act (w.logs port) instr (answer_of (scene_in job w port) instr)) (next_handles_none (count nexts_by (w.logs port)) (op_of instr) (answer_of (scene_in job w port) instr)))) (λ no. (0, moved_none w port))

-- a poll
poll_moved : (job : Job) (w : World) (port : ℕ) (o : Option Completion) → SomeMoved w (with_poll job w port o) port
unfolding with_poll
poll_moved job w port None = (0, moved_none w port)
poll_moved job w port (Some c) =
    chosen (λ (v : World). SomeMoved w v port) (is_worn job (w.logs port)) w _ (λ yes. (0, moved_none w port)) (λ no. (1, entry_moved job w port (Poll c) (poll_handles_none c)))

-- queues are not counted
queues_moved : (w v u : World) (port k : ℕ) → Moved w v port k → u.logs ≡ v.logs → u.stashes ≡ v.stashes → u.changes ≡ v.changes → Moved w u port k
unfolding measure
queues_moved w v u port k m l s c =
    let M : (ℕ → List Entry) → (ℕ → List Datagram) → ℕ → ℕ = λ logs stashes p. length (logs p) + count handles_by (logs p) + length (stashes p) in
    let same : (p : ℕ) → M u.logs u.stashes p ≡ M v.logs v.stashes p = λ p. ap (λ (x : ℕ → List Entry). M x u.stashes p) l ∙ ap (λ (x : ℕ → List Datagram). M v.logs x p) s in
    record { changes = c ∙ m.changes; here = same port ∙ m.here; there = λ p other. same p ∙ m.there p other }

-- a push
push_moved : (job : Job) (w : World) (port : ℕ) (o : Option Going) → SomeMoved w (step_push job w port o) port
unfolding step_push with_push
push_moved job w port None = (0, moved_none w port)
push_moved job w port (Some g) =
    let d = datagram_of job w port g in
    chosen (λ (v : World). SomeMoved w v port) (is_worn job (w.logs port) || nat_le job.inbox (length (w.queues d.dst.0))) w _
    (λ yes. (0, moved_none w port))
    (λ no. (1, queues_moved w (with_entry job w port (Push d)) _ port 1 (entry_moved job w port (Push d) (push_handles_none d)) refl refl refl))

-- a fetch
fetch_moved : (job : Job) (w : World) (port : ℕ) → Moved w (after_fetch job w port) port (min job.inbox (length (w.queues port)))
unfolding after_fetch measure
fetch_moved job w port =
    let stash = w.stashes port ++ take job.inbox (w.queues port) in
    let here : put_at port stash w.stashes port ≡ stash = put_at_here port stash w.stashes in
    let n : length (put_at port stash w.stashes port) ≡ length stash = ap (λ (ds : List Datagram). length ds) here in
    let a = length-append (w.stashes port) (take job.inbox (w.queues port)) in
    let b = length-take job.inbox (w.queues port) in
    record {
      changes = refl;
      here = omega arith;
      there = λ p other. ap (λ (ds : List Datagram). length (w.logs p) + count handles_by (w.logs p) + length ds) (put_at_there port stash w.stashes p other);
    }

-- a handling
handle_moved : (job : Job) (w : World) (port place : ℕ) (o : Option Datagram) → slice_get (w.stashes port) place ≡ o → SomeMoved w (with_handle job w port place o) port
unfolding with_handle with_entry measure
handle_moved job w port place None is = (0, moved_none w port)
handle_moved job w port place (Some d) is =
    chosen (λ (v : World). SomeMoved w v port) (is_again_early class_of (scene_in job w port) d || is_worn_by job (w.logs port) d) w _
    (λ yes. (0, moved_none w port))
    (λ no.
    let r = removed (w.stashes port) place d is in
    let answer : Handled = handled_answer class_of (scene_in job w port) d in
    let e = entry_of job port (w.logs port) (Handle d answer) in
    let logs : put_at port (e ∷ w.logs port) w.logs port ≡ e ∷ w.logs port = put_at_here port (e ∷ w.logs port) w.logs in
    let stash : put_at port (remove (w.stashes port) place) w.stashes port ≡ remove (w.stashes port) place = put_at_here port (remove (w.stashes port) place) w.stashes in (
      1,
      record {
        changes = refl;
        here = handled_here w port place e d r (put_at port (e ∷ w.logs port) w.logs port) (put_at port (remove (w.stashes port) place) w.stashes port) logs stash (handle_handles_one d answer);
        there = λ p other.
            ap (λ (l : List Entry). length l + count handles_by l + length (put_at port (remove (w.stashes port) place) w.stashes p)) (put_at_there port (e ∷ w.logs port) w.logs p other)
            ∙ ap (λ (ds : List Datagram). length (w.logs p) + count handles_by (w.logs p) + length ds) (put_at_there port (remove (w.stashes port) place) w.stashes p other);
      },
    ))

-- each choice
choice_moved : (job : Job) (w : World) (c : Choice) → SomeMoved w (after_choice job w c) (choice_rank c)
unfolding after_choice choice_rank step_handle after_pick after_handle_at
choice_moved job w (Choice.Next port) = next_moved job w port _
choice_moved job w (Choice.Push port) = push_moved job w port _
choice_moved job w (Choice.Handle port pick) =
    let v = after_fetch job w port in
    let place = pick % max 1 (length (v.stashes port)) in
    let m = handle_moved job v port place (slice_get (v.stashes port) place) refl in
    (min job.inbox (length (w.queues port)) + m.0, moved_then w v _ port (min job.inbox (length (w.queues port))) m.0 (fetch_moved job w port) m.1)
choice_moved job w (Choice.Poll port) = poll_moved job w port _

-- the changes of a world are what its ranks have of them
abbrev pub IsCounted : Job → World → Type 0
IsCounted job w = w.changes ≡ sum_below (measure w) (port_count job)

-- each choice of a rank keeps it
pub counted_keeps : (job : Job) → Keeps job (IsCounted job)
counted_keeps job w c rank h =
    let v = after_choice job w c in
    let m = choice_moved job w c in
    let sum = sum_change (measure w) (measure v) (choice_rank c) (port_count job) m.0 rank m.1.there m.1.here in
    let changes = m.1.changes in
    omega arith

-- before any step there is nothing
measure_new : (n : ℕ) → sum_below (measure new_world) n ≡ 0
unfolding sum_below measure count
measure_new zero = refl
measure_new (suc n) = let a = measure_new n in omega arith

-- before any step
pub counted_new : (job : Job) → IsCounted job new_world
counted_new job = sym (measure_new (port_count job))
