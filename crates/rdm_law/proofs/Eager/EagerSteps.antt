-- Each choice keeps a world of eager ports eager.
use Rattle.std.proofs.Common.{◌≡◌, ℕ, ◌%◌, max, nat_le, not, ◌&&◌, ◌||◌, List, ◌∷◌, ◌++◌, length, slice_get, Option, Some, None, IsTrue, refl, inl, inr, sym, subst}
use Rattle.rdm_lists.specs.Lists.{Member}
use Rattle.rdm_num.specs.declared.numbers.Connid.{Connid}
use Rattle.rdm_num.specs.declared.completion.Completion.{Completion}
use Rattle.rdm_wire.specs.declared.Datagram.{Datagram}
use Rattle.rdm_model.specs.Steps.{next_completion}
use Rattle.rdm_model.specs.declared.job.Job.{Job}
use Rattle.rdm_model.specs.declared.job.Instr.{Instr}
use Rattle.rdm_model.specs.declared.job.Choice.{Choice}
use Rattle.rdm_model.specs.declared.answer.Handled.{Handled}
use Rattle.rdm_model.specs.declared.entry.Entry.{Entry}
use Rattle.rdm_model.specs.declared.entry.Act.{Act}
use Rattle.rdm_model.specs.declared.entry.Act.TheVariants.{Next, Push, Handle, Poll}
use Rattle.rdm_model.specs.Jobs.{is_fair, law_ops}
use Rattle.rdm_model.specs.Scenes.{deeds_at}
use Rattle.rdm_model.specs.Answers.{answer_of, is_entry}
use Rattle.rdm_model.specs.Classes.{class_of}
use Rattle.rdm_model.specs.Going.{Going, GoesNote, Goes, going}
use Rattle.rdm_model.specs.Takes.{handled_answer, is_again_early}
use Rattle.rdm_model.specs.Settled.{is_worn, is_worn_by, instruction_left}
use Rattle.rdm_model.specs.Local.{own_scene}
use Rattle.rdm_model.specs.Worlds.{World, new_world, put_at, scene_in, with_entry, next_act, step_next, datagram_of, with_push, step_push, after_fetch, with_handle, after_handle_at, after_pick, step_handle, with_poll, after_choice}
use Rattle.rdm_law.proofs.Played.Apart.{put_at_case, removed, member_seam}
use Rattle.rdm_law.proofs.Played.DeliverSteps.{IsQuiet, one_more, one_more_cases, one_less_was}
use Rattle.rdm_law.proofs.Played.Sound.{Sound, waiting_in, chosen, entry_of}
use Rattle.rdm_law.proofs.Played.SoundSteps.{queue_more}
use Rattle.rdm_law.proofs.Played.SoundHandles.{fetch_waits, stash_less, stash_was}
use Rattle.rdm_law.proofs.Eager.EagerPorts.{EagerJob, IsEagerBody, IsEagerHandle, AreEagerHandles}
use Rattle.rdm_law.proofs.Eager.EagerWorlds.{any_goes}

-- what was handled and what waits is eager
pub record HasEager (lives : ℕ → Connid) (first : ℕ) (w : World) : Type 0 where
  pub handled : (port : ℕ) → AreEagerHandles lives first (w.logs port)
  pub waiting : (port : ℕ) (d : Datagram) → Member d (waiting_in w port) → IsEagerBody lives first d d.body

-- before any step
pub new_eager : (lives : ℕ → Connid) (first : ℕ) → HasEager lives first new_world
new_eager lives first = record { handled = λ port. tt; waiting = λ port d m. elim m [ ] }

-- handled datagrams are eager with one more that is
handled_eager : (lives : ℕ → Connid) (first : ℕ) (logs : ℕ → List Entry) (port : ℕ) (e : Entry) → ((p : ℕ) → AreEagerHandles lives first (logs p)) → IsEagerHandle lives first e.act
    → (p : ℕ) → AreEagerHandles lives first (put_at port (e ∷ logs port) logs p)
handled_eager lives first logs port e h new p =
    put_at_case (λ (log : List Entry). AreEagerHandles lives first log) port (e ∷ logs port) logs p
    (λ is. (h port, new)) (λ other. h p)

-- such an act handles nothing
quiet_handle : (lives : ℕ → Connid) (first : ℕ) (act : Act) → IsQuiet act → IsEagerHandle lives first act
quiet_handle lives first (Next index op answer) q = tt
quiet_handle lives first (Push d) q = tt
quiet_handle lives first (Handle d answer) q = elim q [ ]
quiet_handle lives first (Poll c) q = tt

-- an entry that neither pushes nor handles
quiet_eager : (job : Job) (lives : ℕ → Connid) (first : ℕ) (w : World) (port : ℕ) (act : Act) → IsQuiet act → HasEager lives first w → HasEager lives first (with_entry job w port act)
unfolding with_entry
quiet_eager job lives first w port act q h = record {
  handled = handled_eager lives first w.logs port (entry_of job port (w.logs port) act) h.handled (quiet_handle lives first act q);
  waiting = h.waiting;
}

-- an instruction
next_eager : (job : Job) (lives : ℕ → Connid) (first : ℕ) (w : World) (port : ℕ) (o : Option Instr) → HasEager lives first w → HasEager lives first (step_next job w port o)
unfolding step_next next_act
next_eager job lives first w port None h = h
next_eager job lives first w port (Some instr) h =
    chosen (HasEager lives first) (is_entry (answer_of (scene_in job w port) instr) && not (is_worn job (w.logs port))) _ w
    (λ yes. quiet_eager job lives first w port (next_act (w.logs port) instr (answer_of (scene_in job w port) instr)) tt h) (λ no. h)

-- a poll
poll_eager : (job : Job) (lives : ℕ → Connid) (first : ℕ) (w : World) (port : ℕ) (o : Option Completion) → HasEager lives first w → HasEager lives first (with_poll job w port o)
unfolding with_poll
poll_eager job lives first w port None h = h
poll_eager job lives first w port (Some c) h =
    chosen (HasEager lives first) (is_worn job (w.logs port)) w _ (λ yes. h) (λ no. quiet_eager job lives first w port (Poll c) tt h)

-- what waits is eager with one more that is
more_eager : (lives : ℕ → Connid) (first : ℕ) (w : World) (d : Datagram) → HasEager lives first w → IsEagerBody lives first d d.body
    → (port : ℕ) (q : Datagram) → Member q (one_more (waiting_in w) d port) → IsEagerBody lives first q q.body
more_eager lives first w d h new port q m =
    elim (one_more_cases (waiting_in w) d q port m) [
      | inl a ↦ (let P : Datagram → Type 0 = λ x. IsEagerBody lives first x x.body in subst P a.1 new)
      | inr k ↦ h.waiting port q k
    ]

-- a push
push_eager : (job : Job) (lives : ℕ → Connid) (first : ℕ) (w : World) (port : ℕ) (d : Datagram) → IsEagerBody lives first d d.body → HasEager lives first w
    → HasEager lives first (with_push job w port d)
unfolding with_push with_entry
push_eager job lives first w port d new h =
    chosen (HasEager lives first) (is_worn job (w.logs port) || nat_le job.inbox (length (w.queues d.dst.0))) w _ (λ yes. h)
    (λ no. record {
      handled = handled_eager lives first w.logs port (entry_of job port (w.logs port) (Push d)) h.handled tt;
      waiting = λ p q m. more_eager lives first w d h new p q (subst (λ (ds : List Datagram). Member q ds) (queue_more w d p) m);
    })

-- the next datagram
goes_eager : (job : Job) (lives : ℕ → Connid) (w : World) (port : ℕ) (o : Option Going) → IsTrue (is_fair law_ops job) → EagerJob job lives → Sound job w
    → going (own_scene job port (deeds_at job port (w.logs port))) ≡ o → HasEager lives job.limits.first w → HasEager lives job.limits.first (step_push job w port o)
unfolding step_push datagram_of scene_in
goes_eager job lives w port None fair plain s is h = h
goes_eager job lives w port (Some (GoesNote note)) fair plain s is h = push_eager job lives job.limits.first w port (datagram_of job w port (GoesNote note)) tt h
goes_eager job lives w port (Some (Goes to item)) fair plain s is h =
    push_eager job lives job.limits.first w port (datagram_of job w port (Goes to item))
    (any_goes job lives w.logs port (w.logs port) to item (datagram_of job w port (Goes to item)) fair plain s.local (s.delivers.handled port) (s.local port) (s.handled port) (h.handled port) is refl refl) h

-- a fetch
fetch_eager : (job : Job) (lives : ℕ → Connid) (first : ℕ) (w : World) (port : ℕ) → HasEager lives first w → HasEager lives first (after_fetch job w port)
unfolding after_fetch
fetch_eager job lives first w port h = record {
  handled = h.handled;
  waiting = λ p d m. h.waiting p d (subst (λ (ds : List Datagram). Member d ds) (fetch_waits job w port p) m);
}

-- a handling
handle_eager : (job : Job) (lives : ℕ → Connid) (first : ℕ) (w : World) (port place : ℕ) (o : Option Datagram) → slice_get (w.stashes port) place ≡ o → HasEager lives first w
    → HasEager lives first (with_handle job w port place o)
unfolding with_handle with_entry
handle_eager job lives first w port place None is h = h
handle_eager job lives first w port place (Some d) is h =
    chosen (HasEager lives first) (is_again_early class_of (scene_in job w port) d || is_worn_by job (w.logs port) d) w _ (λ yes. h)
    (λ no.
    let answer : Handled = handled_answer class_of (scene_in job w port) d in
    let r = removed (w.stashes port) place d is in
    let was = stash_was w port place d r in
    record {
      handled = handled_eager lives first w.logs port (entry_of job port (w.logs port) (Handle d answer)) h.handled
          (h.waiting port d (subst (λ (ds : List Datagram). Member d ds) (sym was) (member_seam d r.front (r.back ++ w.queues port))));
      waiting = λ p q m.
          h.waiting p q (one_less_was (waiting_in w) port r.front d (r.back ++ w.queues port) q p was (subst (λ (ds : List Datagram). Member q ds) (stash_less w port place d r p) m)).0;
    })

-- each choice
pub choice_eager : (job : Job) (lives : ℕ → Connid) (w : World) (c : Choice) → IsTrue (is_fair law_ops job) → EagerJob job lives → Sound job w → HasEager lives job.limits.first w
    → HasEager lives job.limits.first (after_choice job w c)
unfolding after_choice scene_in step_handle after_pick after_handle_at
choice_eager job lives w (Choice.Next port) fair plain s h = next_eager job lives job.limits.first w port (instruction_left job port (w.logs port)) h
choice_eager job lives w (Choice.Push port) fair plain s h = goes_eager job lives w port (going (own_scene job port (deeds_at job port (w.logs port)))) fair plain s refl h
choice_eager job lives w (Choice.Handle port pick) fair plain s h =
    let v = after_fetch job w port in
    let place = pick % max 1 (length (v.stashes port)) in
    handle_eager job lives job.limits.first v port place (slice_get (v.stashes port) place) refl (fetch_eager job lives job.limits.first w port h)
choice_eager job lives w (Choice.Poll port) fair plain s h = poll_eager job lives job.limits.first w port (next_completion (own_scene job port (deeds_at job port (w.logs port)))) h
