-- Each choice keeps a world sound.
use Rattle.std.proofs.Common.{◌≡◌, ℕ, ◌+◌, ◌≤◌, true, false, cond, not, ◌&&◌, ◌||◌, nat_le, List, [], ◌∷◌, ◌++◌, length, Option, Some, None, refl, inl, inr, sym, ◌∙◌, ap, subst, append_assoc}
use Rattle.std.proofs.lemmas.Bool.{and_parts, not-true, eqb-true, or_parts}
use Rattle.std.specs.Prelude.{◌==◌}
use Rattle.rdm_lists.specs.Lists.{Member}
use Rattle.rdm_num.specs.declared.completion.Completion.{Completion}
use Rattle.rdm_wire.specs.declared.Datagram.{Datagram}
use Rattle.rdm_model.specs.declared.job.Job.{Job}
use Rattle.rdm_model.specs.declared.job.Instr.{Instr}
use Rattle.rdm_model.specs.declared.entry.Act.{Act}
use Rattle.rdm_model.specs.declared.entry.Act.TheVariants.{Next, Push, Handle, Poll}
use Rattle.rdm_model.specs.Scenes.{deeds_at}
use Rattle.rdm_model.specs.Answers.{op_of, answer_of, is_entry}
use Rattle.rdm_model.specs.Classes.{class_of}
use Rattle.rdm_model.specs.Going.{Going, GoesNote, Goes, going}
use Rattle.rdm_model.specs.Steps.{clock, stamp_after, last_stamp, count, nexts_by, Does, DoesPush, next_completion}
use Rattle.rdm_model.specs.Settled.{is_worn, instruction_left}
use Rattle.rdm_model.specs.Local.{own_scene}
use Rattle.rdm_model.specs.Worlds.{World, new_world, put_at, scene_in, with_entry, next_act, step_next, datagram_of, load_of, with_push, step_push, with_poll}
use Rattle.rdm_law.proofs.Played.DeliverSteps.{IsQuiet, quiet_delivers, same_delivers, one_more, one_more_cases, push_delivers}
use Rattle.rdm_law.proofs.Fits.Fitting.{BodyFits, HandledFits, CanGo, load_fits, load_bears}
use Rattle.rdm_law.proofs.Played.Sound.{Sound, GoesWell, waiting_in, not_worn, entry_of, local_more, handled_more, chosen}

-- before any step
pub new_sound : (job : Job) → Sound job new_world
new_sound job = record {
  local = λ port. tt;
  handled = λ port. tt;
  waiting = λ port d m. elim m [ ];
  delivers = record {
    numbered = λ port. tt;
    handled = λ port. tt;
    waits = λ port d m. elim m [ ];
    apart = λ port. tt;
    arrives = λ d h k. elim h [ ];
  };
}

-- such an act handles nothing
quiet_handled : (act : Act) → IsQuiet act → HandledFits act
quiet_handled (Next index op answer) q = tt
quiet_handled (Push d) q = tt
quiet_handled (Handle d answer) q = elim q [ ]
quiet_handled (Poll c) q = tt

-- such an act moves the clock by one
quiet_stamp : (now : ℕ) (act : Act) → IsQuiet act → stamp_after now act ≡ now + 1
unfolding stamp_after
quiet_stamp now (Next index op answer) q = refl
quiet_stamp now (Push d) q = refl
quiet_stamp now (Handle d answer) q = elim q [ ]
quiet_stamp now (Poll c) q = refl

-- an instruction or a poll
quiet_sound : (job : Job) (w : World) (port : ℕ) (act : Act) → IsQuiet act → is_worn job (w.logs port) ≡ false
    → Does job class_of (own_scene job port (deeds_at job port (w.logs port))) (w.logs port) (entry_of job port (w.logs port) act) act
    → Sound job w → Sound job (with_entry job w port act)
unfolding with_entry
quiet_sound job w port act q worn does s =
    let last : stamp_after (clock job (w.logs port)) act ≤ last_stamp = rw (quiet_stamp (clock job (w.logs port)) act q) (not_worn job (w.logs port) worn) in
    record {
      local = local_more job w.logs port act s.local last does;
      handled = handled_more w.logs port (entry_of job port (w.logs port) act) s.handled (quiet_handled act q);
      waiting = s.waiting;
      delivers = quiet_delivers w.logs (waiting_in w) port (entry_of job port (w.logs port) act) q s.delivers;
    }

-- an instruction
pub next_sound : (job : Job) (w : World) (port : ℕ) (o : Option Instr) → instruction_left job port (w.logs port) ≡ o → Sound job w → Sound job (step_next job w port o)
unfolding step_next next_act scene_in instruction_left
next_sound job w port None is s = s
next_sound job w port (Some instr) is s =
    let answer = answer_of (own_scene job port (deeds_at job port (w.logs port))) instr in
    chosen (Sound job) (is_entry answer && not (is_worn job (w.logs port))) _ w
    (λ yes.
    let both = and_parts (is_entry answer) (not (is_worn job (w.logs port))) yes in
    quiet_sound job w port (Next (count nexts_by (w.logs port)) (op_of instr) answer) tt (not-true _ both.1) (refl, (instr, is, refl, refl), both.0) s)
    (λ no. s)

-- a poll
pub poll_sound : (job : Job) (w : World) (port : ℕ) (o : Option Completion) → next_completion (own_scene job port (deeds_at job port (w.logs port))) ≡ o → Sound job w
    → Sound job (with_poll job w port o)
unfolding with_poll
poll_sound job w port None is s = s
poll_sound job w port (Some c) is s =
    chosen (Sound job) (is_worn job (w.logs port)) w _ (λ yes. s) (λ no. quiet_sound job w port (Poll c) tt no is s)

-- one more in a queue is one more that waits
pub queue_more : (w : World) (d : Datagram) (p : ℕ) → w.stashes p ++ put_at d.dst.0 (w.queues d.dst.0 ++ d ∷ []) w.queues p ≡ one_more (waiting_in w) d p
unfolding put_at
queue_more w d p =
    (elim (p == d.dst.0) as (λ b. (p == d.dst.0) ≡ b →
    w.stashes p ++ cond b (w.queues d.dst.0 ++ d ∷ []) (w.queues p) ≡ cond b ((w.stashes d.dst.0 ++ w.queues d.dst.0) ++ d ∷ []) (w.stashes p ++ w.queues p)) [
      | true ↦ λ is.
          let same : p ≡ d.dst.0 = eqb-true p d.dst.0 is in
          ap (λ (x : ℕ). w.stashes x ++ (w.queues d.dst.0 ++ d ∷ [])) same ∙ sym (append_assoc (w.stashes d.dst.0) (w.queues d.dst.0) (d ∷ []))
      | false ↦ λ is. refl
    ]) refl

-- what waits fits with one more that does
more_fit : (w : World) (d : Datagram) → ((port : ℕ) (q : Datagram) → Member q (waiting_in w port) → BodyFits q.body) → BodyFits d.body
    → (port : ℕ) (q : Datagram) → Member q (one_more (waiting_in w) d port) → BodyFits q.body
more_fit w d was new port q m =
    elim (one_more_cases (waiting_in w) d q port m) [
      | inl a ↦ subst (λ (x : Datagram). BodyFits x.body) a.1 new
      | inr k ↦ was port q k
    ]

-- a push
push_sound : (job : Job) (w : World) (port : ℕ) (d : Datagram) → BodyFits d.body
    → ((stamp_after (clock job (w.logs port)) (Push d) ≡ clock job (w.logs port) + 1)
    → DoesPush (own_scene job port (deeds_at job port (w.logs port))) (w.logs port) (entry_of job port (w.logs port) (Push d)) d)
    → Sound job w → Sound job (with_push job w port d)
unfolding with_push with_entry stamp_after
push_sound job w port d fit does s =
    chosen (Sound job) (is_worn job (w.logs port) || nat_le job.inbox (length (w.queues d.dst.0))) w _ (λ yes. s)
    (λ no.
    let last = not_worn job (w.logs port) (or_parts _ _ no).0 in
    let push = does refl in
    record {
      local = local_more job w.logs port (Push d) s.local last push;
      handled = handled_more w.logs port (entry_of job port (w.logs port) (Push d)) s.handled tt;
      waiting = λ p q m. more_fit w d s.waiting fit p q (subst (λ (ds : List Datagram). Member q ds) (queue_more w d p) m);
      delivers =
          same_delivers _ (one_more (waiting_in w) d) _ (queue_more w d)
          (push_delivers w.logs (waiting_in w) port (entry_of job port (w.logs port) (Push d)) d refl (ap (λ x. x.0) push.0) push.1 s.delivers);
    })

-- the next datagram
pub goes_sound : (job : Job) (w : World) (port : ℕ) (o : Option Going) → GoesWell job → going (own_scene job port (deeds_at job port (w.logs port))) ≡ o → Sound job w
    → Sound job (step_push job w port o)
unfolding step_push datagram_of scene_in
goes_sound job w port None well is s = s
goes_sound job w port (Some (GoesNote note)) well is s =
    push_sound job w port (datagram_of job w port (GoesNote note)) tt (λ e. (refl, refl, ap (λ (n : ℕ). record { 0 = n }) (sym e), (GoesNote note, is, (refl, refl)))) s
goes_sound job w port (Some (Goes to item)) well is s =
    let can : CanGo item = well port (w.logs port) to item (s.local port) (s.handled port) is in
    push_sound job w port (datagram_of job w port (Goes to item)) (load_fits item can)
    (λ e. (refl, refl, ap (λ (n : ℕ). record { 0 = n }) (sym e), (Goes to item, is, (refl, (load_of item, refl, load_bears item can))))) s
