-- A port polls its next completion.
use Rattle.std.proofs.Common.{◌≡◌, ℕ, ◌<◌, Bool, true, false, cond, length, get_or, set, Option, Some, None, refl, sym, ◌∙◌, subst}
use Rattle.rdm_num.specs.declared.completion.Completion.{Completion}
use Rattle.rdm_model.specs.Steps.{next_completion}
use Rattle.rdm_model.specs.declared.job.Job.{Job}
use Rattle.rdm_model.specs.declared.job.Choice.{Choice}
use Rattle.rdm_model.specs.declared.entry.Act.TheVariants as Act
use Rattle.rdm_model.specs.declared.answer.Polled.{Polled}
use Rattle.rdm_model.specs.declared.answer.Polled.TheVariants as P
use Rattle.rdm_model.specs.Beginnings.{port_count}
use Rattle.rdm_model.specs.Scenes.{Scene}
use Rattle.rdm_model.specs.Settled.{is_worn}
use Rattle.rdm_model.specs.Worlds.{World, scene_in, with_entry, with_poll, after_choice}
use Rattle.rdm_port.specs.Views.{PortView, scene_at}
use Rattle.rdm_port.specs.Polls.{PolledAs, DoesPoll}
use Rattle.rdm_world.specs.Views.{WorldView}
use Rattle.rdm_world.specs.Shows.{port_in}
use Rattle.rdm_world.specs.Answers.{is_polled}
use Rattle.rdm_world.specs.Steps.{Steps}
use Rattle.rdm_world.proofs.Putting.{IsAfter, own_port, same_after, entry_after, unless_queues, after_shows}

-- the port and the world after the answer to a poll
poll_cases : (job : Job) (w : World) (r : ℕ) (q : PortView) (o : Option Completion) (answer : Polled) → PolledAs job (port_in job w r) q o answer
    → IsAfter job w (with_poll job w r o) r q (is_polled answer)
unfolding with_poll is_polled
poll_cases job w r q None P.None h = subst (λ (x : PortView). IsAfter job w w r x false) (sym h) (same_after job w r)
poll_cases job w r q None P.Worn h = elim h [ ]
poll_cases job w r q None (P.Some d) h = elim h [ ]
poll_cases job w r q (Some c) P.None h = elim h [ ]
poll_cases job w r q (Some c) P.Worn h =
    let v : World = with_entry job w r (Act.Poll c) in
    subst (λ (b : Bool). IsAfter job w (cond b w v) r q false) (sym h.0) (subst (λ (x : PortView). IsAfter job w w r x false) (sym h.1) (same_after job w r))
poll_cases job w r q (Some c) (P.Some d) h =
    let v : World = with_entry job w r (Act.Poll c) in
    subst (λ (b : Bool). IsAfter job w (cond b w v) r q true) (sym h.0) (subst (λ (x : PortView). IsAfter job w v r x true) (sym h.2) (entry_after job w r (Act.Poll c)))

-- no queue changes
poll_queues : (job : Job) (w : World) (r : ℕ) (o : Option Completion) (i : ℕ) → (with_poll job w r o).queues i ≡ w.queues i
unfolding with_poll
poll_queues job w r None i = refl
poll_queues job w r (Some c) i = unless_queues job w r (Act.Poll c) (is_worn job (w.logs r)) i

-- the scene of a port is that in the world
completion_in : (job : Job) (w : World) (r : ℕ) → scene_at job (port_in job w r) ≡ scene_in job w r
unfolding scene_at scene_in
completion_in job w r = refl

-- what a poll makes of the worlds
pub poll_steps : (old : WorldView) (r : ℕ) (p q : PortView) (answer : Polled) → r < length old.ports → p ≡ get_or old.ports r p → DoesPoll p q answer
    → Steps (Choice.Poll r) old (record old { ports = set old.ports r q }) (is_polled answer)
unfolding after_choice
poll_steps old r p q answer within here does job w is built =
    let inside : r < port_count job = subst (λ (n : ℕ). r < n) is.count within in
    let port : p ≡ port_in job w r = here ∙ is.ports r p inside in
    let does' : DoesPoll (port_in job w r) q answer = subst (λ (x : PortView). DoesPoll x q answer) port does in
    let o = next_completion (scene_in job w r) in
    let polled : PolledAs job (port_in job w r) q o answer =
    subst (λ (s : Scene). PolledAs job (port_in job w r) q (next_completion s) answer) (completion_in job w r) (does' job (own_port job w r inside)) in
    let after : IsAfter job w (with_poll job w r o) r q (is_polled answer) = poll_cases job w r q o answer polled in
    (after_shows job w (with_poll job w r o) old old.wire r q (is_polled answer) is inside after is.size (λ i. is.queues i ∙ sym (poll_queues job w r o i)), after.changed)
