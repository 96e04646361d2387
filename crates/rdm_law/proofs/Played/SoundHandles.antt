-- Fetching and handling keep a world sound, and so does each choice.
use Rattle.std.proofs.Common.{◌≡◌, ℕ, ◌+◌, ◌≤◌, ◌<◌, ◌%◌, max, true, false, cond, ◌||◌, leb-false, nat_le, List, ◌∷◌, ◌++◌, length, take, drop, remove, slice_get, Option, Some, None, refl, arith, sym, ◌∙◌, ap, subst, append_assoc, take-append-drop, eqb-true}
use Rattle.std.specs.Prelude.{◌==◌}
use Rattle.rdm_lists.specs.Lists.{Member}
use Rattle.rdm_wire.specs.declared.Datagram.{Datagram}
use Rattle.rdm_model.specs.declared.job.Job.{Job}
use Rattle.rdm_model.specs.declared.job.Choice.{Choice}
use Rattle.rdm_model.specs.declared.answer.Handled.{Handled}
use Rattle.rdm_model.specs.declared.entry.Entry.{Entry}
use Rattle.rdm_model.specs.declared.entry.Act.TheVariants.{Handle}
use Rattle.rdm_model.specs.Scenes.{deeds_at}
use Rattle.rdm_model.specs.Classes.{class_of}
use Rattle.rdm_model.specs.Going.{going}
use Rattle.rdm_model.specs.Takes.{handled_answer, is_again_early}
use Rattle.rdm_model.specs.Steps.{clock, stamp_after, last_stamp, next_completion}
use Rattle.rdm_model.specs.Settled.{is_worn, is_worn_by, instruction_left}
use Rattle.rdm_model.specs.Local.{own_scene}
use Rattle.rdm_model.specs.Worlds.{World, put_at, scene_in, with_entry, after_fetch, with_handle, after_handle_at, after_pick, step_handle, after_choice}
use Rattle.rdm_law.proofs.Played.Apart.{Removed, removed, member_seam}
use Rattle.rdm_law.proofs.Played.DeliverSteps.{same_delivers, one_less, one_less_was, handle_delivers}
use Rattle.rdm_law.proofs.Played.Sound.{Sound, GoesWell, waiting_in, entry_of, local_more, handled_more, chosen}
use Rattle.rdm_law.proofs.Played.SoundSteps.{next_sound, poll_sound, goes_sound}
use Rattle.std.proofs.lemmas.Bool.{or_parts}

-- a fetch leaves what waits for each port as it was
pub fetch_waits : (job : Job) (w : World) (port p : ℕ) → waiting_in (after_fetch job w port) p ≡ waiting_in w p
unfolding after_fetch put_at
fetch_waits job w port p =
    (elim (p == port) as (λ b. (p == port) ≡ b →
    cond b (w.stashes port ++ take job.inbox (w.queues port)) (w.stashes p) ++ cond b (drop job.inbox (w.queues port)) (w.queues p) ≡ w.stashes p ++ w.queues p) [
      | true ↦ λ is.
          append_assoc (w.stashes port) (take job.inbox (w.queues port)) (drop job.inbox (w.queues port))
          ∙ ap (λ (ds : List Datagram). w.stashes port ++ ds) (take-append-drop job.inbox (w.queues port))
          ∙ ap (λ (x : ℕ). w.stashes x ++ w.queues x) (sym (eqb-true p port is))
      | false ↦ λ is. refl
    ]) refl

-- a fetch
fetch_sound : (job : Job) (w : World) (port : ℕ) → Sound job w → Sound job (after_fetch job w port)
unfolding after_fetch
fetch_sound job w port s = record {
  local = s.local;
  handled = s.handled;
  waiting = λ p d m. s.waiting p d (subst (λ (ds : List Datagram). Member d ds) (fetch_waits job w port p) m);
  delivers = same_delivers w.logs (waiting_in w) (waiting_in (after_fetch job w port)) (fetch_waits job w port) s.delivers;
}

-- a clock and a stamp that aren't at the end can be passed
not_worn_by : (job : Job) (log : List Entry) (d : Datagram) → is_worn_by job log d ≡ false → max (clock job log) d.stamp.0 + 1 ≤ last_stamp
unfolding is_worn_by is_worn
not_worn_by job log d h =
    let a = or_parts (nat_le last_stamp (clock job log)) (nat_le last_stamp d.stamp.0) h in
    let b : clock job log < last_stamp = leb-false _ _ a.0 in
    let c : d.stamp.0 < last_stamp = leb-false _ _ a.1 in
    omega arith

-- the stamp of a handling passes no end
handle_stamp : (job : Job) (log : List Entry) (d : Datagram) (answer : Handled) → is_worn_by job log d ≡ false
    → stamp_after (clock job log) (Handle d answer) ≤ last_stamp
unfolding stamp_after
handle_stamp job log d answer h = not_worn_by job log d h

-- what waits, where one goes out of a stash
pub stash_less : (w : World) (port place : ℕ) (d : Datagram) (r : Removed (w.stashes port) place d) (p : ℕ)
    → put_at port (remove (w.stashes port) place) w.stashes p ++ w.queues p ≡ one_less (waiting_in w) port r.front (r.back ++ w.queues port) p
unfolding put_at
stash_less w port place d r p =
    (elim (p == port) as (λ b. (p == port) ≡ b →
    cond b (remove (w.stashes port) place) (w.stashes p) ++ w.queues p ≡ cond b (r.front ++ (r.back ++ w.queues port)) (w.stashes p ++ w.queues p)) [
      | true ↦ λ is.
          ap (λ (x : ℕ). remove (w.stashes port) place ++ w.queues x) (eqb-true p port is)
          ∙ ap (λ (ds : List Datagram). ds ++ w.queues port) r.is
          ∙ append_assoc r.front r.back (w.queues port)
      | false ↦ λ is. refl
    ]) refl

-- what waited, where one of the stash stood between two parts
pub stash_was : (w : World) (port place : ℕ) (d : Datagram) (r : Removed (w.stashes port) place d) → waiting_in w port ≡ r.front ++ d ∷ (r.back ++ w.queues port)
stash_was w port place d r = ap (λ (ds : List Datagram). ds ++ w.queues port) r.was ∙ append_assoc r.front (d ∷ r.back) (w.queues port)

-- a handling
handle_sound : (job : Job) (w : World) (port place : ℕ) (o : Option Datagram) → slice_get (w.stashes port) place ≡ o → Sound job w → Sound job (with_handle job w port place o)
unfolding with_handle with_entry scene_in
handle_sound job w port place None is s = s
handle_sound job w port place (Some d) is s =
    let scene = own_scene job port (deeds_at job port (w.logs port)) in
    chosen (Sound job) (is_again_early class_of scene d || is_worn_by job (w.logs port) d) w _ (λ yes. s)
    (λ no.
    let neither = or_parts _ _ no in
    let answer : Handled = handled_answer class_of scene d in
    let r = removed (w.stashes port) place d is in
    let was = stash_was w port place d r in
    record {
      local = local_more job w.logs port (Handle d answer) s.local (handle_stamp job (w.logs port) d answer neither.1) (refl, neither.0);
      handled = handled_more w.logs port (entry_of job port (w.logs port) (Handle d answer)) s.handled
          (s.waiting port d (subst (λ (ds : List Datagram). Member d ds) (sym was) (member_seam d r.front (r.back ++ w.queues port))));
      waiting = λ p q m.
          s.waiting p q (one_less_was (waiting_in w) port r.front d (r.back ++ w.queues port) q p was (subst (λ (ds : List Datagram). Member q ds) (stash_less w port place d r p) m)).0;
      delivers =
          same_delivers _ (one_less (waiting_in w) port r.front (r.back ++ w.queues port)) _ (stash_less w port place d r)
          (handle_delivers w.logs (waiting_in w) port (entry_of job port (w.logs port) (Handle d answer)) d answer r.front (r.back ++ w.queues port) refl was s.delivers);
    })

-- each choice
pub choice_sound : (job : Job) (w : World) (c : Choice) → GoesWell job → Sound job w → Sound job (after_choice job w c)
unfolding after_choice scene_in step_handle after_pick after_handle_at
choice_sound job w (Choice.Next port) well s = next_sound job w port (instruction_left job port (w.logs port)) refl s
choice_sound job w (Choice.Push port) well s = goes_sound job w port (going (own_scene job port (deeds_at job port (w.logs port)))) well refl s
choice_sound job w (Choice.Handle port pick) well s =
    let v = after_fetch job w port in
    let place = pick % max 1 (length (v.stashes port)) in
    handle_sound job v port place (slice_get (v.stashes port) place) refl (fetch_sound job w port s)
choice_sound job w (Choice.Poll port) well s = poll_sound job w port (next_completion (own_scene job port (deeds_at job port (w.logs port)))) refl s
