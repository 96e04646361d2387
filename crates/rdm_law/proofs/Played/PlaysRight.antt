-- A report of a world where nothing would change anything is right.
use Rattle.std.proofs.Common.{◌≡◌, ℕ, ◌<◌, ◌≤◌, leb-true, List, [], ◌∷◌, length, IsTrue, arith, inl, inr, ◌∙◌, ap}
use Rattle.std.proofs.lemmas.Bool.{and_parts}
use Rattle.rdm_lists.specs.Lists.{below}
use Rattle.rdm_model.specs.declared.job.Job.{Job}
use Rattle.rdm_model.specs.declared.entry.Entry.{Entry}
use Rattle.rdm_model.specs.declared.report.End.{End}
use Rattle.rdm_model.specs.declared.report.Report.{Report}
use Rattle.rdm_model.specs.Beginnings.{port_count}
use Rattle.rdm_model.specs.Jobs.{is_fair, law_ops, is_within, bound}
use Rattle.rdm_model.specs.Settled.{waiting_datagrams}
use Rattle.rdm_model.specs.Reports.{end_of, end_in, RightReport}
use Rattle.rdm_model.specs.Worlds.{World, new_world, after_choices}
use Rattle.rdm_model.specs.Played.{round_bound, played_world, end_at, IsReportOf, IsPlayed}
use Rattle.rdm_law.specs.Right.{stashed_end}
use Rattle.rdm_law.proofs.Central.TheLaw.{the_joint_law}
use Rattle.rdm_law.proofs.Played.Sound.{Sound}
use Rattle.rdm_law.proofs.Played.PlayedSteps.{played_keeps}
use Rattle.rdm_law.specs.Law.{IsBounded, PlaysRight}
use Rattle.rdm_law.proofs.Played.PlaysLawfully.{played_sound, joint_played, report_lawful, end_agrees, plays_lawfully}
use Rattle.rdm_law.proofs.Played.Counted.{IsCounted, counted_keeps, counted_new}
use Rattle.rdm_law.proofs.Played.MovedOnce.{changes_bound}
use Rattle.rdm_law.proofs.Played.QuietRounds.{AllQuiet, rounds_end}
use Rattle.rdm_law.proofs.Played.QuietSettled.{quiet_settled, quiet_stash}
use Rattle.rdm_law.proofs.Played.Outside.{OutsideEmpty, outside_new, outside_keeps, goes_to_ranks}
use Rattle.rdm_lists.proofs.Same.{map_same}

-- the inbox of a fair job holds something
pub some_inbox : (job : Job) → IsTrue (is_fair law_ops job) → 0 < job.inbox
unfolding is_fair is_within
some_inbox job fair =
    let a = and_parts _ _ fair in
    let b = and_parts _ _ a.0 in
    let c = and_parts _ _ b.0 in
    let d = and_parts _ _ c.0 in
    let e = and_parts _ _ d.0 in
    let f = and_parts _ _ e.1 in
    let low : 1 ≤ job.inbox = leb-true _ _ f.0 in
    omega arith

-- where the stash has all that waits, the end is that of the history
pub exact_end : (job : Job) (history : List Entry) (stashed : ℕ → ℕ) (port : ℕ) → stashed port ≡ length (waiting_datagrams port history) → stashed_end job history stashed port ≡ end_in job history port
unfolding stashed_end end_in end_of
exact_end job history stashed port is =
    ap (λ (n : ℕ). let x : End = record (end_in job history port) { waiting = n } in x) is

-- the report of a world where nothing would change anything is right
pub quiet_right : (job : Job) (w : World) (report : Report) → IsTrue (is_fair law_ops job) → Sound job w → OutsideEmpty job w → AllQuiet job (below (port_count job)) w
    → IsReportOf job w report → RightReport job report
quiet_right job w report fair s empty quiet is =
    let history = report.history in
    let played = joint_played job w history fair s is.history in
    let right = report_lawful the_joint_law job w report fair s is in
    record {
      lawful = right.lawful;
      settled = quiet_settled job w history (some_inbox job fair) s is.history played quiet (goes_to_ranks job w fair s empty);
      stuck = right.stuck;
      ends = is.ends ∙ map_same (end_at job w) (end_in job history) (below (port_count job)) (λ port m.
          end_agrees job w history port played (is.history.logs_are port)
          ∙ exact_end job history (λ p. length (w.stashes p)) port (quiet_stash job w history port s is.history played (quiet port m)));
    }

-- the world that a fair job ends in has none but ranks act
pub played_outside : (job : Job) → IsTrue (is_fair law_ops job) → OutsideEmpty job (played_world job)
played_outside job fair = played_keeps job law_ops (OutsideEmpty job) fair (outside_keeps job) (outside_new job)

-- where the rounds of a fair job made fewer changes than there are rounds, nothing more would change anything
pub played_quiet : (job : Job) → IsTrue (is_fair law_ops job) → (played_world job).changes < round_bound job → AllQuiet job (below (port_count job)) (played_world job)
unfolding played_world
played_quiet job fair fewer =
    elim (rounds_end job (round_bound job) (after_choices job new_world job.choices) (some_inbox job fair)) [
      | inl more ↦ absurd (omega arith)
      | inr quiet ↦ quiet
    ]

-- what is played in a fair job is right, where it made fewer changes than it has rounds
pub plays_right_where : (job : Job) (report : Report) → IsTrue (is_fair law_ops job) → (played_world job).changes < round_bound job → IsPlayed job report → RightReport job report
plays_right_where job report fair fewer is =
    quiet_right job (played_world job) report fair (played_sound job fair) (played_outside job fair) (played_quiet job fair fewer) is

-- the changes of the world that a fair job ends in are counted
pub played_counted : (job : Job) → IsTrue (is_fair law_ops job) → IsCounted job (played_world job)
played_counted job fair = played_keeps job law_ops (IsCounted job) fair (counted_keeps job) (counted_new job)

-- so it is where the history is bounded
pub plays_right_bounded : (job : Job) (report : Report) → IsTrue (is_fair law_ops job) → length report.history ≤ bound job → IsPlayed job report → RightReport job report
unfolding round_bound
plays_right_bounded job report fair few is =
    let changes = changes_bound job (played_world job) report.history (played_sound job fair) (played_outside job fair) (played_counted job fair) is.history in
    plays_right_where job report fair (omega arith) is

-- where lawful histories are bounded, what is played is right
pub plays_right : IsBounded → PlaysRight
plays_right bounded job report fair is = plays_right_bounded job report fair (bounded job report.history fair (plays_lawfully the_joint_law job report fair is).lawful) is
