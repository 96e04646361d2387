-- The report of a world whose ports stopped by themselves is right, however the world came about.
use Rattle.std.proofs.Common.{◌≡◌, ℕ, ◌<◌, Bool, true, ◌||◌, List, [], ◌∷◌, length, is_none, Option, IsTrue, inl, inr, sym, ◌∙◌, ap, subst}
use Rattle.std.specs.List.{list_all}
use Rattle.std.proofs.lemmas.Bool.{and_from, and_parts}
use Rattle.rdm_lists.specs.Lists.{Member, below}
use Rattle.rdm_wire.specs.declared.Datagram.{Datagram}
use Rattle.rdm_model.specs.declared.job.Job.{Job}
use Rattle.rdm_model.specs.declared.entry.Entry.{Entry}
use Rattle.rdm_model.specs.Deeds.{log_of}
use Rattle.rdm_model.specs.Beginnings.{port_count}
use Rattle.rdm_model.specs.Scenes.{deeds_at}
use Rattle.rdm_model.specs.Classes.{class_of, lives_class}
use Rattle.rdm_model.specs.Going.{Going, going}
use Rattle.rdm_model.specs.Takes.{is_again_early}
use Rattle.rdm_model.specs.Local.{own_scene}
use Rattle.rdm_model.specs.Lawful.{port_deeds, sent_scene}
use Rattle.rdm_model.specs.Settled.{is_worn, is_worn_by, left_at, is_no_entry, nothing_to_poll, waiting_datagrams, is_quiet, is_quiet_in, is_settled}
use Rattle.rdm_model.specs.Reports.{end_in}
use Rattle.rdm_model.specs.Worlds.{World, scene_in}
use Rattle.rdm_model.specs.Played.{end_at}
use Rattle.rdm_law.specs.Worlds.{HasWaiting, HasStopped, StoppedIsRight}
use Rattle.rdm_law.proofs.Central.Agreed.{going_agreed, left_agreed, none_agreed, early_agreed}
use Rattle.rdm_law.proofs.Central.TheLaw.{the_joint_law}
use Rattle.rdm_law.proofs.Classes.ClassFree.{all_free}
use Rattle.rdm_law.proofs.Played.PlaysLawfully.{end_agrees, stuck_agrees}
use Rattle.rdm_law.proofs.Played.PlaysRight.{exact_end}
use Rattle.rdm_law.proofs.Played.QuietSettled.{all_from_members}
use Rattle.rdm_law.proofs.Played.Came.{Joined, joined, waits_there, waits_in_stash, stash_count}
use Rattle.rdm_lists.proofs.Below.{member_below}
use Rattle.rdm_lists.proofs.Same.{map_same}

-- an element of a list passes a test that all pass
all_member : {A : Type 0} (p : A → Bool) (xs : List A) (x : A) → list_all p xs ≡ true → Member x xs → p x ≡ true
all_member p [] x h m = elim m [ ]
all_member p (y ∷ xs) x h (inl is) = ap p (sym is) ∙ (and_parts (p y) (list_all p xs) h).0
all_member p (y ∷ xs) x h (inr m) = all_member p xs x (and_parts (p y) (list_all p xs) h).1 m

-- what waits for a port can't be handled in the history where nothing in its stash can by itself
waits_still : (job : Job) (logs : ℕ → List Entry) (history : List Entry) (port : ℕ) (ds : List Datagram) → Joined job logs history → HasWaiting logs port ds
    → list_all (λ d. is_again_early class_of (own_scene job port (port_deeds job port history)) d || is_worn_by job (log_of port history) d) ds ≡ true
    → list_all (λ d. is_again_early lives_class (sent_scene job port history) d || is_worn_by job (log_of port history) d) (waiting_datagrams port history) ≡ true
waits_still job logs history port ds j has still =
    let own : Datagram → Bool = λ d. is_again_early class_of (own_scene job port (port_deeds job port history)) d || is_worn_by job (log_of port history) d in
    let sent : Datagram → Bool = λ d. is_again_early lives_class (sent_scene job port history) d || is_worn_by job (log_of port history) d in
    all_from_members sent (waiting_datagrams port history)
    (λ d m.
    let there = (waits_there job logs history port j).each d m in
    let mine : own d ≡ true = all_member own ds d still (waits_in_stash logs history port ds d j.joint has there) in
    subst (λ (b : Bool). (b || is_worn_by job (log_of port history) d) ≡ true) (early_agreed job port history d (all_free job) j.played there.for_it there.pushed there.fresh) mine)

-- a port that is quiet by its own log is quiet in the history
own_quiet : (job : Job) (logs : ℕ → List Entry) (history : List Entry) (port : ℕ) (ds : List Datagram) → Joined job logs history → HasWaiting logs port ds
    → is_quiet job port class_of (own_scene job port (port_deeds job port history)) (log_of port history) ds ≡ true → is_quiet_in job history port ≡ true
unfolding is_quiet_in is_quiet
own_quiet job logs history port ds j has quiet =
    let log = log_of port history in
    let own = own_scene job port (port_deeds job port history) in
    let sent = sent_scene job port history in
    let three = and_parts _ _ quiet in
    let two = and_parts _ _ three.0 in
    let one = and_parts _ _ two.0 in
    let left : is_no_entry (left_at job port sent log) ≡ true = sym (ap is_no_entry (left_agreed job port history log j.played)) ∙ one.0 in
    let goes : (is_none (going sent) || is_worn job log) ≡ true = subst (λ (o : Option Going). (is_none o || is_worn job log) ≡ true) (going_agreed job port history j.played) one.1 in
    let polls : (nothing_to_poll sent || is_worn job log) ≡ true = subst (λ (b : Bool). (b || is_worn job log) ≡ true) (none_agreed job port history j.played) two.1 in
    and_from _ _ (and_from _ _ (and_from _ _ left goes) polls) (waits_still job logs history port ds j has three.1)

-- a rank of a world that has stopped is quiet in the history
stopped_quiet : (job : Job) (w : World) (history : List Entry) (port : ℕ) → Joined job w.logs history → HasStopped job w → port < port_count job
    → is_quiet_in job history port ≡ true
unfolding scene_in port_deeds
stopped_quiet job w history port j s rank =
    let P : List Entry → Type 0 = λ log. is_quiet job port class_of (own_scene job port (deeds_at job port log)) log (w.stashes port) ≡ true in
    own_quiet job w.logs history port (w.stashes port) j (s.stash port rank) (subst P (sym (j.joint.logs_are port)) (s.quiet port rank))

-- the history of a world that has stopped is settled
stopped_settled : (job : Job) (w : World) (history : List Entry) → Joined job w.logs history → HasStopped job w → IsTrue (is_settled job history)
unfolding is_settled
stopped_settled job w history j s =
    all_from_members (is_quiet_in job history) (below (port_count job)) (λ port m. stopped_quiet job w history port j s (member_below (port_count job) port m))

-- the end of a rank of a world that has stopped is that in the history
stopped_end : (job : Job) (w : World) (history : List Entry) (port : ℕ) → Joined job w.logs history → HasStopped job w → port < port_count job
    → end_at job w port ≡ end_in job history port
stopped_end job w history port j s rank =
    end_agrees job w history port j.played (j.joint.logs_are port)
    ∙ exact_end job history (λ p. length (w.stashes p)) port (stash_count job w.logs history port (w.stashes port) j (s.stash port rank))

-- the report of a world that has stopped is right
pub stopped_is_right : StoppedIsRight
stopped_is_right job w report fair is delivered local s =
    let history = report.history in
    let j = joined job w.logs history fair is.history delivered local in
    record {
      lawful = the_joint_law job w.logs history fair is.history delivered local;
      settled = stopped_settled job w history j s;
      stuck = is.stuck ∙ stuck_agrees job w history is.history;
      ends = is.ends ∙ map_same (end_at job w) (end_in job history) (below (port_count job))
          (λ port m. stopped_end job w history port j s (member_below (port_count job) port m));
    }
