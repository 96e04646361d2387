-- Ports that are no ranks do nothing, so all that goes out of a fair job's ports goes to ranks.
use Rattle.std.proofs.Common.{◌≡◌, ℕ, ◌<◌, ◌≤◌, true, not, ◌&&◌, ◌||◌, nat_le, ltb-true, List, [], ◌∷◌, length, slice_get, Option, Some, None, IsTrue, refl, arith, inl, inr, ◌∙◌, subst}
use Rattle.std.proofs.lemmas.Bool.{and_parts, cases_lt}
use Rattle.rdm_num.specs.Lives.{life}
use Rattle.rdm_num.specs.declared.numbers.PortNo.{PortNo}
use Rattle.rdm_num.specs.declared.numbers.Connid.{Connid}
use Rattle.rdm_num.specs.declared.numbers.Life.{Life}
use Rattle.rdm_num.specs.declared.completion.Completion.{Completion}
use Rattle.rdm_wire.specs.declared.Datagram.{Datagram}
use Rattle.rdm_wire.specs.declared.Body.{Body}
use Rattle.rdm_wire.specs.declared.Body.TheVariants.{Note, Between}
use Rattle.rdm_model.specs.declared.job.Job.{Job}
use Rattle.rdm_model.specs.declared.job.Instr.{Instr}
use Rattle.rdm_model.specs.declared.job.Instr.TheVariants.{Insert}
use Rattle.rdm_model.specs.declared.job.Choice.{Choice}
use Rattle.rdm_model.specs.declared.answer.Next.{Next as Answer}
use Rattle.rdm_model.specs.declared.answer.Next.TheVariants.{Did as DidAnswer}
use Rattle.rdm_model.specs.declared.answer.Handled.{Handled}
use Rattle.rdm_model.specs.declared.answer.Handled.TheVariants.{Took as TookAnswer}
use Rattle.rdm_model.specs.declared.entry.Entry.{Entry}
use Rattle.rdm_model.specs.declared.entry.Act.{Act}
use Rattle.rdm_model.specs.declared.entry.Act.TheVariants.{Next, Push, Handle, Poll}
use Rattle.rdm_model.specs.Deeds.{Deed, Did, Item, deed_by_next, deed_by_push, deed_by_handle, deed_of, deeds, open_life, of_life}
use Rattle.rdm_model.specs.Beginnings.{rank_of, own_of, port_count}
use Rattle.rdm_model.specs.Jobs.{is_fair, law_ops, instr_fits, is_rank, choice_rank}
use Rattle.rdm_model.specs.Scenes.{Scene, scene, deeds_at}
use Rattle.rdm_model.specs.Answers.{answer_of, is_entry}
use Rattle.rdm_model.specs.Classes.{class_of}
use Rattle.rdm_model.specs.Dues.{Due, Replies, Sends, due}
use Rattle.rdm_model.specs.Going.{Going, GoesNote, Goes, due_going, life_going, note_going, going}
use Rattle.rdm_model.specs.Notes.{OwedNote, next_note}
use Rattle.rdm_model.specs.Takes.{is_again_early}
use Rattle.rdm_model.specs.Settled.{is_worn, is_worn_by}
use Rattle.rdm_model.specs.Local.{heard_by, own_scene}
use Rattle.rdm_model.specs.Wire.{PushedIn}
use Rattle.rdm_model.specs.Worlds.{World, new_world, scene_in, with_entry, step_next, datagram_of, with_push, step_push, after_fetch, with_handle, after_handle_at, after_pick, step_handle, with_poll, after_choice}
use Rattle.rdm_law.specs.Worlds.{WasPushed, TookOnce}
use Rattle.rdm_law.proofs.Lives.Lives.{life_of, opened_scene, at_of_life}
use Rattle.rdm_law.proofs.Fits.RegionsFit.{DidFits, AllDidFit}
use Rattle.rdm_law.proofs.Fits.FairJobs.{fair_job, all_did_fit}
use Rattle.rdm_law.proofs.Played.GoesWell.{life_goes, closed_goes}
use Rattle.rdm_law.proofs.Played.Apart.{put_at_there}
use Rattle.rdm_law.proofs.Played.Sound.{Sound, chosen}
use Rattle.rdm_law.proofs.Played.PlayedSteps.{Keeps}
use Rattle.rdm_law.proofs.Played.Quiet.{going_to}
use Rattle.rdm_law.proofs.Played.QuietSettled.{GoesToRanks}
use Rattle.rdm_law.proofs.Played.Ranks.{LifeIs, LivesAre, due_is_to, next_note_to}

-- an entry is in the log of its port alone
entry_elsewhere : (job : Job) (w : World) (port p : ℕ) (act : Act) → (p ≡ port → ⊥) → (with_entry job w port act).logs p ≡ w.logs p
unfolding with_entry
entry_elsewhere job w port p act other = put_at_there port _ w.logs p other

-- an instruction
next_elsewhere : (job : Job) (w : World) (port p : ℕ) (o : Option Instr) → (p ≡ port → ⊥) → (step_next job w port o).logs p ≡ w.logs p
unfolding step_next
next_elsewhere job w port p None other = refl
next_elsewhere job w port p (Some instr) other =
    chosen (λ (v : World). v.logs p ≡ w.logs p) (is_entry (answer_of (scene_in job w port) instr) && not (is_worn job (w.logs port))) _ w
    (λ yes. entry_elsewhere job w port p _ other) (λ no. refl)

-- a push
push_elsewhere : (job : Job) (w : World) (port p : ℕ) (o : Option Going) → (p ≡ port → ⊥) → (step_push job w port o).logs p ≡ w.logs p
unfolding step_push with_push
push_elsewhere job w port p None other = refl
push_elsewhere job w port p (Some g) other =
    chosen (λ (v : World). v.logs p ≡ w.logs p) (is_worn job (w.logs port) || nat_le job.inbox (length (w.queues (datagram_of job w port g).dst.0))) w _
    (λ yes. refl) (λ no. entry_elsewhere job w port p (Push (datagram_of job w port g)) other)

-- a handling
handle_elsewhere : (job : Job) (w : World) (port p place : ℕ) (o : Option Datagram) → (p ≡ port → ⊥) → (with_handle job w port place o).logs p ≡ w.logs p
unfolding with_handle
handle_elsewhere job w port p place None other = refl
handle_elsewhere job w port p place (Some d) other =
    chosen (λ (v : World). v.logs p ≡ w.logs p) (is_again_early class_of (scene_in job w port) d || is_worn_by job (w.logs port) d) w _
    (λ yes. refl) (λ no. entry_elsewhere job w port p _ other)

-- a poll
poll_elsewhere : (job : Job) (w : World) (port p : ℕ) (o : Option Completion) → (p ≡ port → ⊥) → (with_poll job w port o).logs p ≡ w.logs p
unfolding with_poll
poll_elsewhere job w port p None other = refl
poll_elsewhere job w port p (Some c) other =
    chosen (λ (v : World). v.logs p ≡ w.logs p) (is_worn job (w.logs port)) w _ (λ yes. refl) (λ no. entry_elsewhere job w port p (Poll c) other)

-- a choice leaves the logs of all ports but its own
pub choice_elsewhere : (job : Job) (w : World) (c : Choice) (p : ℕ) → (p ≡ choice_rank c → ⊥) → (after_choice job w c).logs p ≡ w.logs p
unfolding after_choice choice_rank step_handle after_pick after_handle_at after_fetch
choice_elsewhere job w (Choice.Next port) p other = next_elsewhere job w port p _ other
choice_elsewhere job w (Choice.Push port) p other = push_elsewhere job w port p _ other
choice_elsewhere job w (Choice.Handle port pick) p other = handle_elsewhere job (after_fetch job w port) port p _ _ other
choice_elsewhere job w (Choice.Poll port) p other = poll_elsewhere job w port p _ other

-- the logs of ports that are no ranks are empty
abbrev pub OutsideEmpty : Job → World → Type 0
OutsideEmpty job w = (port : ℕ) → port_count job ≤ port → w.logs port ≡ []

-- each choice of a rank keeps it
pub outside_keeps : (job : Job) → Keeps job (OutsideEmpty job)
outside_keeps job w c rank empty port past = choice_elsewhere job w c port (λ is. absurd (omega arith)) ∙ empty port past

-- before any step
pub outside_new : (job : Job) → OutsideEmpty job new_world
outside_new job port past = refl

-- what was pushed was pushed by a rank
pushed_by_rank : (job : Job) (w : World) (d : Datagram) → OutsideEmpty job w → PushedIn d (w.logs d.src.0) → d.src.0 < port_count job
pushed_by_rank job w d empty h =
    elim (cases_lt d.src.0 (port_count job)) [
      | inl rank ↦ rank
      | inr past ↦ (let none : PushedIn d [] = subst (λ (log : List Entry). PushedIn d log) (empty d.src.0 past) h in elim none [ ])
    ]

-- a life of a rank
abbrev pub OfRank : ℕ → Life → Type 0
OfRank ports l = l.port.0 < ports

-- a handled datagram of a rank
handled_of : (ports : ℕ) (src : PortNo) (body : Body) (answer : Handled) → src.0 < ports → LifeIs (OfRank ports) (deed_by_handle src body answer)
unfolding deed_by_handle
handled_of ports src (Between from to load) (TookAnswer entered) h = h
handled_of ports src (Note note) (TookAnswer entered) h = tt
handled_of ports src _ _ h = tt

-- an inserted life of a rank
instr_of : (ports : ℕ) (instr : Instr) → instr_fits ports instr ≡ true → LifeIs (OfRank ports) (Did instr)
unfolding instr_fits is_rank
instr_of ports (Insert life) h = ltb-true _ _ (and_parts _ _ h).0
instr_of ports _ h = tt

-- the deed of an instruction
next_of : (ports : ℕ) (o : Option Instr) (answer : Answer) → DidFits ports (deed_by_next o answer) → LifeIs (OfRank ports) (deed_by_next o answer)
unfolding deed_by_next
next_of ports (Some instr) (DidAnswer what) h = instr_of ports instr h
next_of ports _ _ h = tt

-- a push is of no life
push_of : (ports : ℕ) (body : Body) → LifeIs (OfRank ports) (deed_by_push body)
unfolding deed_by_push
push_of ports (Note note) = tt
push_of ports (Between from to load) = tt

-- each act
act_of : (job : Job) (w : World) (port : ℕ) (before : List Entry) (ops : List Instr) (act : Act) → OutsideEmpty job w → WasPushed w.logs port before act
    → DidFits (port_count job) (deed_of ops act) → LifeIs (OfRank (port_count job)) (deed_of ops act)
unfolding deed_of
act_of job w port before ops (Next index op answer) empty h fit = next_of (port_count job) (slice_get ops index) answer fit
act_of job w port before ops (Push d) empty h fit = push_of (port_count job) d.body
act_of job w port before ops (Handle d answer) empty h fit = handled_of (port_count job) d.src d.body answer (pushed_by_rank job w d empty h.1)
act_of job w port before ops (Poll c) empty h fit = tt

-- each life that a port inserted or took from is of a rank
log_of_ranks : (job : Job) (w : World) (port : ℕ) (ops : List Instr) (log : List Entry) → OutsideEmpty job w → TookOnce w.logs port log → AllDidFit (port_count job) (deeds ops log)
    → LivesAre (OfRank (port_count job)) (deeds ops log)
unfolding deeds
log_of_ranks job w port ops [] empty h fit = tt
log_of_ranks job w port ops (e ∷ before) empty h fit =
    (log_of_ranks job w port ops before empty h.0 fit.0, act_of job w port before ops e.act empty h.1 fit.1)

-- the deeds of a life are some of the port's
life_of_ranks : (P : Life → Type 0) (c : Connid) (log : List Deed) → LivesAre P log → LivesAre P (of_life c log)
unfolding of_life
life_of_ranks P c [] h = tt
life_of_ranks P c (d ∷ before) h = at_of_life (LivesAre P) c d before (λ s. (life_of_ranks P c before h.0, h.1)) (λ s. life_of_ranks P c before h.0)

-- a due item is no note
due_no_note : (o : Option Due) (n : OwedNote) → due_going o ≡ Some (GoesNote n) → ⊥
unfolding due_going
due_no_note None n h = cc
due_no_note (Some (Replies r)) n h = cc
due_no_note (Some (Sends s p)) n h = cc

-- what goes out of a life is no note
no_note : (s : Scene) (now : Option Connid) (n : OwedNote) → life_going now s ≡ Some (GoesNote n) → ⊥
unfolding life_going
no_note s None n h = cc
no_note s (Some c) n h = due_no_note (due s.own s.ms s.log) n h

-- the next note of a port goes to a rank
scene_note : (job : Job) (port : ℕ) (log : List Deed) (n : OwedNote) → AllDidFit (port_count job) log
    → next_note (own_scene job port log).ports (own_scene job port log).own.life.port.0 (own_scene job port log).port_log ≡ Some n → n.to.0 < port_count job
unfolding own_scene scene
scene_note job port log n did is = next_note_to (port_count job) _ log n did is

-- what goes out of the open life is no note
life_no_note : (s : Scene) (n : OwedNote) → life_going s.now s ≡ Some (GoesNote n) → ⊥
life_no_note s n h = no_note s s.now n h

-- a note that goes out is the next one
note_of : (o : Option OwedNote) (others : Option Going) (n : OwedNote) → note_going o others ≡ Some (GoesNote n) → ((m : OwedNote) → others ≡ Some (GoesNote m) → ⊥) → o ≡ Some n
unfolding note_going
note_of None others n h never = absurd (never n h)
note_of (Some m) others n h never = cc

-- a note goes to a rank
note_rank : (job : Job) (w : World) (port : ℕ) (n : OwedNote) → IsTrue (is_fair law_ops job) → going (own_scene job port (deeds_at job port (w.logs port))) ≡ Some (GoesNote n) → n.to.0 < port_count job
unfolding going deeds_at
note_rank job w port n fair is =
    let s = own_scene job port (deeds (rank_of job port).ops (w.logs port)) in
    let next = note_of (next_note s.ports s.own.life.port.0 s.port_log) (life_going s.now s) n is (λ m. life_no_note s m) in
    let did = all_did_fit (port_count job) (rank_of job port).ops (w.logs port) ((fair_job job fair).ranks port).ops in
    scene_note job port (deeds (rank_of job port).ops (w.logs port)) n did next

-- what goes to a life goes to a rank
life_rank : (job : Job) (w : World) (port : ℕ) (to : Life) (item : Item) → IsTrue (is_fair law_ops job) → Sound job w → OutsideEmpty job w
    → going (own_scene job port (deeds_at job port (w.logs port))) ≡ Some (Goes to item) → to.port.0 < port_count job
unfolding own_scene scene deeds_at
life_rank job w port to item fair s empty is =
    let port_log = deeds (rank_of job port).ops (w.logs port) in
    let did = all_did_fit (port_count job) (rank_of job port).ops (w.logs port) ((fair_job job fair).ranks port).ops in
    let ranks = log_of_ranks job w port (rank_of job port).ops (w.logs port) empty (s.delivers.handled port) did in
    (elim (open_life port_log) as (λ o. open_life port_log ≡ o → to.port.0 < port_count job) [
      | None ↦ λ none. absurd (closed_goes (own_scene job port port_log) to item none is)
      | Some c ↦ λ now.
          let own = own_of job (life_of port c) in
          let mine = of_life c port_log in
          let t = life_goes (port_count job) own port_log mine to item (subst (λ (x : Scene). going x ≡ Some (Goes to item)) (opened_scene job port c port_log now) is) in
          due_is_to (OfRank (port_count job)) own (heard_by own.limits.first mine) mine t.0 to item (life_of_ranks (OfRank (port_count job)) c port_log ranks) t.1 t.2
    ]) refl

-- all that goes out of a fair job's ports goes to ranks
pub goes_to_ranks : (job : Job) (w : World) → IsTrue (is_fair law_ops job) → Sound job w → OutsideEmpty job w → GoesToRanks job w
unfolding going_to
goes_to_ranks job w fair s empty port (GoesNote n) is = note_rank job w port n fair is
goes_to_ranks job w fair s empty port (Goes to item) is = life_rank job w port to item fair s empty is
