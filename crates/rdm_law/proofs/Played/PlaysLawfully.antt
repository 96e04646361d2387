-- What is played in a fair job is lawful, by the law of joint histories.
use Rattle.std.proofs.Common.{◌≡◌, ℕ, ◌≤◌, ◌||◌, List, [], ◌∷◌, map, length, is_some, Option, IsTrue, refl, arith, sym, ◌∙◌, ap, subst, length-append}
use Rattle.std.specs.List.{list_any}
use Rattle.rdm_lists.specs.Lists.{below}
use Rattle.rdm_model.specs.declared.job.Job.{Job}
use Rattle.rdm_model.specs.declared.answer.Next.{Next as Answer}
use Rattle.rdm_model.specs.declared.entry.Entry.{Entry}
use Rattle.rdm_model.specs.declared.report.End.{End}
use Rattle.rdm_model.specs.declared.report.Report.{Report}
use Rattle.rdm_model.specs.Deeds.{log_of}
use Rattle.rdm_model.specs.Beginnings.{port_count}
use Rattle.rdm_model.specs.Scenes.{deeds_at}
use Rattle.rdm_model.specs.Jobs.{is_fair, law_ops}
use Rattle.rdm_model.specs.Local.{own_scene}
use Rattle.rdm_model.specs.Lawful.{port_deeds, sent_scene}
use Rattle.rdm_model.specs.Joint.{IsJoint}
use Rattle.rdm_model.specs.Settled.{instruction_left, left_at, waiting_datagrams}
use Rattle.rdm_model.specs.Reports.{end_of, end_in, is_stuck}
use Rattle.rdm_model.specs.Worlds.{World, scene_in}
use Rattle.rdm_model.specs.Played.{played_world, end_at, IsReportOf}
use Rattle.rdm_law.specs.Law.{JointLaw}
use Rattle.rdm_law.specs.Right.{stashed_end, IsLawfulReport, PlaysLawfully}
use Rattle.rdm_law.proofs.Central.Agreed.{left_agreed}
use Rattle.rdm_law.proofs.Accounts.Wired.{Played}
use Rattle.rdm_law.proofs.Central.Joint.{joint_parts}
use Rattle.rdm_law.proofs.Played.Sound.{Sound, waiting_in}
use Rattle.rdm_law.proofs.Played.SoundSteps.{new_sound}
use Rattle.rdm_law.proofs.Played.SoundHandles.{choice_sound}
use Rattle.rdm_law.proofs.Played.GoesWell.{goes_well}
use Rattle.rdm_law.proofs.Played.PlayedSteps.{Keeps, played_keeps}
use Rattle.rdm_law.proofs.Played.JointDelivered.{joint_delivered}
use Rattle.rdm_law.proofs.Played.Waiting.{waiting_bound}
use Rattle.rdm_lists.proofs.Same.{list_any_same}

-- in a fair job each choice keeps a world sound
pub sound_keeps : (job : Job) → IsTrue (is_fair law_ops job) → Keeps job (Sound job)
sound_keeps job fair w c rank s = choice_sound job w c (goes_well job fair) s

-- the world that a fair job ends in is sound
pub played_sound : (job : Job) → IsTrue (is_fair law_ops job) → Sound job (played_world job)
played_sound job fair = played_keeps job law_ops (Sound job) fair (sound_keeps job fair) (new_sound job)

-- the joint history of a sound world is played
pub joint_played : (job : Job) (w : World) (history : List Entry) → IsTrue (is_fair law_ops job) → Sound job w → IsJoint w.logs history → Played job history
joint_played job w history fair s joint =
    let parts = joint_parts job w.logs history joint (joint_delivered w.logs (waiting_in w) history s.delivers joint) s.local in
    record { fair = fair; locals = parts.locals; wire = parts.wire }

-- what the next instruction of a port answers is the same in the world and in the history
pub left_agrees : (job : Job) (port : ℕ) (w : World) (history : List Entry) → Played job history → log_of port history ≡ w.logs port
    → left_at job port (scene_in job w port) (w.logs port) ≡ left_at job port (sent_scene job port history) (log_of port history)
unfolding scene_in port_deeds
left_agrees job port w history played is =
    let P : List Entry → Type 0 = λ log. left_at job port (own_scene job port (deeds_at job port log)) log ≡ left_at job port (sent_scene job port history) (log_of port history) in
    subst P is (left_agreed job port history (log_of port history) played)

-- the end of a port in a world is that in the history, with what is in its stash
pub end_agrees : (job : Job) (w : World) (history : List Entry) (port : ℕ) → Played job history → log_of port history ≡ w.logs port
    → end_at job w port ≡ stashed_end job history (λ p. length (w.stashes p)) port
unfolding end_at stashed_end end_in end_of
end_agrees job w history port played is =
    let Q : List Entry → Option Answer → End = λ log left. end_of job port log left (length (w.stashes port)) in
    ap (λ (log : List Entry). Q log (left_at job port (scene_in job w port) (w.logs port))) (sym is)
    ∙ ap (λ (left : Option Answer). Q (log_of port history) left) (left_agrees job port w history played is)

-- functions that are the same make the same list
map_alike : {A B : Type 0} (f g : A → B) (xs : List A) → ((x : A) → f x ≡ g x) → map f xs ≡ map g xs
map_alike f g [] h = refl
map_alike {A} {B} f g (x ∷ xs) h = ap (λ (y : B). y ∷ map f xs) (h x) ∙ ap (λ (ys : List B). g x ∷ ys) (map_alike f g xs h)

-- some program has an instruction left in the world where one has in the history
pub stuck_agrees : (job : Job) (w : World) (history : List Entry) → IsJoint w.logs history
    → list_any (λ port. is_some (instruction_left job port (w.logs port))) (below (port_count job)) ≡ is_stuck job history
unfolding is_stuck
stuck_agrees job w history joint =
    list_any_same (λ port. is_some (instruction_left job port (w.logs port))) (λ port. is_some (instruction_left job port (log_of port history))) (below (port_count job))
    (λ port. ap (λ (log : List Entry). is_some (instruction_left job port log)) (sym (joint.logs_are port)))

-- no more datagrams are in a stash than wait in the history
stash_bound : (job : Job) (w : World) (history : List Entry) (port : ℕ) → Sound job w → IsJoint w.logs history
    → length (w.stashes port) ≤ length (waiting_datagrams port history)
stash_bound job w history port s joint =
    let a = waiting_bound w.logs (waiting_in w) history port s.delivers joint in
    let b = length-append (w.stashes port) (w.queues port) in
    omega arith

-- the report of a sound world is lawful
pub report_lawful : JointLaw → (job : Job) (w : World) (report : Report) → IsTrue (is_fair law_ops job) → Sound job w → IsReportOf job w report → IsLawfulReport job report
report_lawful law job w report fair s is =
    let history = report.history in
    let played = joint_played job w history fair s is.history in
    record {
      lawful = law job w.logs history fair is.history (joint_delivered w.logs (waiting_in w) history s.delivers is.history) s.local;
      stuck = is.stuck ∙ stuck_agrees job w history is.history;
      stashed = λ port. length (w.stashes port);
      stashed_wait = λ port. stash_bound job w history port s is.history;
      ends = is.ends ∙ map_alike (end_at job w) (stashed_end job history (λ p. length (w.stashes p))) (below (port_count job))
          (λ port. end_agrees job w history port played (is.history.logs_are port));
    }

-- what is played in a fair job is lawful
pub plays_lawfully : JointLaw → PlaysLawfully
plays_lawfully law job report fair played = report_lawful law job (played_world job) report fair (played_sound job fair) played
