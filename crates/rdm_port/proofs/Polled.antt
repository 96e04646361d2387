-- The next completion of a port is the first that its endpoint keeps; what a poll leaves; and each way in which a poll ends.
use Rattle.std.proofs.Common.{◌≡◌, ◌<◌, ◌≤◌, ℕ, ◌+◌, List, [], ◌∷◌, Option, Some, None, refl, ap, ◌∙◌, sym, subst, arith}
use Rattle.std.specs.Prelude.{slice_get, option_map}
use Rattle.rdm_num.specs.declared.completion.Completion.{Completion}
use Rattle.rdm_model.specs.declared.job.Job.{Job}
use Rattle.rdm_model.specs.declared.job.Instr.{Instr}
use Rattle.rdm_model.specs.declared.entry.Act.{Act}
use Rattle.rdm_model.specs.declared.answer.Polled.TheVariants as P
use Rattle.rdm_model.specs.Deeds.{Polled, deed_of, of_open_life, of_life, deed_count}
use Rattle.rdm_model.specs.Notes.{note_pushes_by}
use Rattle.rdm_model.specs.Beginnings.{Own}
use Rattle.rdm_model.specs.Scenes.{scene}
use Rattle.rdm_model.specs.Local.{own_scene}
use Rattle.rdm_model.specs.Completions.{completions}
use Rattle.rdm_model.specs.Steps.{stamp_after, pushes_by, next_completion}
use Rattle.rdm_ep.specs.View.{EndpointView}
use Rattle.rdm_ep.specs.Answers.{life_scene}
use Rattle.rdm_ep.specs.Going.{polled_by, after_poll}
use Rattle.rdm_ep.proofs.KeepsQuiet.{keeps_polled}
use Rattle.rdm_ep.proofs.Counts.{completion_agrees}
use Rattle.rdm_port.specs.Views.{PortView, IsPortOf, scene_at}
use Rattle.rdm_port.specs.Kept.{Kept, IsKept, deeds_of, entry_of, with_log}
use Rattle.rdm_port.specs.Machine.{completion_in, after_polled, poll_counted}
use Rattle.rdm_port.specs.Polls.{PolledAs, DoesPoll}
use Rattle.rdm_port.proofs.Counted.{deeds_are, scene_is, open_facts, none_open}
use Rattle.rdm_port.proofs.SilentDeeds.{StepsBy}
use Rattle.rdm_port.proofs.SilentSteps.{NotesLeft, kept_silent}
use Rattle.rdm_port.proofs.PushDoes.{is_worn_now, not_worn_now, next_logged}

-- no completion comes where no life is open
closed_completes : (job : Job) (v : PortView) (k : Kept) → IsPortOf job v → IsKept v k → k.endpoint ≡ None → next_completion (scene_at job v) ≡ None
unfolding completions scene_at own_scene scene of_open_life
closed_completes job v k p h q = let d = deeds_are job v p in let o = none_open v k h q in rw (d, o) refl

-- the next completion is the first that the endpoint keeps
open_completes : (job : Job) (v : PortView) (k : Kept) (e : EndpointView) → IsPortOf job v → IsKept v k → k.endpoint ≡ Some e
    → next_completion (scene_at job v) ≡ slice_get e.completions 0
open_completes job v k e p h q =
    let f = open_facts v k e h q in
    let log = of_life f.0 (deeds_of v) in
    ap next_completion (scene_is job v f.0 p f.1.open_is)
    ∙ ap (λ (o : Own). next_completion (life_scene v.ports o (deeds_of v) log)) (sym f.1.own_is)
    ∙ completion_agrees log e f.1.keeps

-- the same, by the endpoint that is kept
completes_by : (job : Job) (v : PortView) (k : Kept) (o : Option EndpointView) → IsPortOf job v → IsKept v k → k.endpoint ≡ o
    → next_completion (scene_at job v) ≡ completion_in o
unfolding completion_in
completes_by job v k None p h q = closed_completes job v k p h q
completes_by job v k (Some e) p h q = open_completes job v k e p h q

-- the next completion of the port is the first that it keeps
pub poll_agrees : (job : Job) (v : PortView) (k : Kept) → IsPortOf job v → IsKept v k → next_completion (scene_at job v) ≡ completion_in k.endpoint
poll_agrees job v k p h = completes_by job v k k.endpoint p h refl

-- a poll leaves what the endpoint began with
polled_own : (e : EndpointView) (cs : List Completion) → (polled_by e cs).own ≡ e.own
unfolding polled_by
polled_own e [] = refl
polled_own e (c ∷ cs) = refl

-- the first of a list
first_is : (cs : List Completion) (c : Completion) → slice_get cs 0 ≡ Some c → (rest : List Completion) × (cs ≡ c ∷ rest)
first_is [] c e = cc
first_is (x ∷ xs) c e = let f : Some x ≡ Some c = e in (xs, cc)

-- the endpoint after its first completion was polled
poll_steps : (o : Option EndpointView) (c : Completion) → completion_in o ≡ Some c → StepsBy Polled o (option_map after_poll o)
unfolding completion_in after_poll
poll_steps None c q = tt
poll_steps (Some e) c q =
    let f = first_is e.completions c q in (polled_own e e.completions, λ log p keeps. keeps_polled log e c f.0 p f.1 keeps)

-- a poll does as a poll
deed_of_poll : (ops : List Instr) (c : Completion) → deed_of ops (Act.Poll c) ≡ Polled
unfolding deed_of
deed_of_poll ops c = refl

-- a poll is no push
poll_no_push : (c : Completion) → pushes_by (Act.Poll c) ≡ 0
unfolding pushes_by
poll_no_push c = refl

-- the port with the poll in its log
abbrev pub polled_port : PortView → Kept → Completion → PortView
polled_port v k c = with_log v (entry_of v (k.clock + 1) (Act.Poll c) ∷ v.log)

-- a poll leaves the notes
poll_left : (v : PortView) (k : Kept) → IsKept v k → NotesLeft v (poll_counted (after_polled k)) Polled
unfolding note_pushes_by
poll_left v k h =
    let n = deed_count note_pushes_by (deeds_of v) in
    let i : n + 0 ≡ n = omega arith in
    record { within = rw i h.notes_within; are = rw i h.notes_are }

-- what a port keeps after a poll
pub poll_kept : (v : PortView) (k : Kept) (c : Completion) → IsKept v k → completion_in k.endpoint ≡ Some c → IsKept (polled_port v k c) (poll_counted (after_polled k))
poll_kept v k c h q =
    let none = poll_no_push c in
    kept_silent v k (poll_counted (after_polled k)) (Act.Poll c) Polled h tt tt (deed_of_poll v.rank.ops c)
    (record { done = refl; clock = refl; pushed = rw none (omega arith); opened = refl; told = refl; to_other = refl; from_other = refl })
    (poll_left v k h)
    (poll_steps k.endpoint c q)

-- no completion waits
pub poll_none : (v : PortView) (k : Kept) → IsKept v k → completion_in k.endpoint ≡ None → DoesPoll v v P.None
poll_none v k h e job p = subst (λ (o : Option Completion). PolledAs job v v o P.None) (sym (poll_agrees job v k p h ∙ e)) refl

-- the clock is at its end
pub poll_worn : (v : PortView) (k : Kept) (c : Completion) → IsKept v k → completion_in k.endpoint ≡ Some c → 9223372036854775807 ≤ k.clock → DoesPoll v v P.Worn
poll_worn v k c h e l job p = subst (λ (o : Option Completion). PolledAs job v v o P.Worn) (sym (poll_agrees job v k p h ∙ e)) (is_worn_now job v k p h l, refl)

-- a poll goes on by one
stamp_of_poll : (now : ℕ) (c : Completion) → stamp_after now (Act.Poll c) ≡ now + 1
unfolding stamp_after
stamp_of_poll now c = refl

-- the completion was polled
pub poll_polled : (v : PortView) (k : Kept) (c : Completion) → IsKept v k → completion_in k.endpoint ≡ Some c → k.clock < 9223372036854775807
    → DoesPoll v (polled_port v k c) (P.Some c)
poll_polled v k c h e l job p =
    subst (λ (o : Option Completion). PolledAs job v (polled_port v k c) o (P.Some c)) (sym (poll_agrees job v k p h ∙ e))
    (not_worn_now job v k p h l, refl, next_logged job v k (Act.Poll c) p h (stamp_of_poll k.clock c))
