-- A world where nothing would change anything has a settled history.
use Rattle.std.proofs.Common.{◌≡◌, ℕ, ◌<◌, ◌≤◌, Bool, true, false, cond, not, ◌&&◌, ◌||◌, nat_le, leb-true, List, [], ◌∷◌, ◌++◌, length, is_none, Option, Some, None, IsTrue, refl, arith, inl, inr, sym, ◌∙◌, ap, subst, append-nil, length-append}
use Rattle.std.specs.List.{list_all}
use Rattle.std.proofs.lemmas.Bool.{and_from, or_cases}
use Rattle.std.proofs.lemmas.Option.{slice_get_within}
use Rattle.rdm_lists.specs.Lists.{Member, below}
use Rattle.rdm_num.specs.declared.completion.Completion.{Completion}
use Rattle.rdm_wire.specs.declared.Datagram.{Datagram}
use Rattle.rdm_model.specs.Steps.{next_completion}
use Rattle.rdm_model.specs.declared.job.Job.{Job}
use Rattle.rdm_model.specs.declared.job.Instr.{Instr}
use Rattle.rdm_model.specs.declared.answer.Next.{Next as Answer}
use Rattle.rdm_model.specs.declared.answer.Next.TheVariants.{Worn}
use Rattle.rdm_model.specs.declared.entry.Entry.{Entry}
use Rattle.rdm_model.specs.Deeds.{log_of}
use Rattle.rdm_model.specs.Beginnings.{port_count}
use Rattle.rdm_model.specs.Scenes.{Scene, deeds_at}
use Rattle.rdm_model.specs.Answers.{answer_of, is_entry}
use Rattle.rdm_model.specs.Classes.{class_of, lives_class}
use Rattle.rdm_model.specs.Going.{Going, going}
use Rattle.rdm_model.specs.Takes.{is_again_early}
use Rattle.rdm_model.specs.Settled.{is_worn, is_worn_by, instruction_left, answer_or_worn, left_answer, left_at, is_no_entry, nothing_to_poll, waiting_datagrams, is_quiet, is_quiet_in, is_settled}
use Rattle.rdm_model.specs.Local.{own_scene}
use Rattle.rdm_model.specs.Lawful.{port_deeds, sent_scene}
use Rattle.rdm_model.specs.Joint.{IsJoint}
use Rattle.rdm_model.specs.Worlds.{World}
use Rattle.rdm_law.proofs.Accounts.Wired.{Played}
use Rattle.rdm_law.proofs.Central.Agreed.{going_agreed, left_agreed, none_agreed, early_agreed}
use Rattle.rdm_law.proofs.Classes.ClassFree.{all_free}
use Rattle.rdm_law.proofs.Played.Sound.{Sound, waiting_in}
use Rattle.rdm_law.proofs.Played.Delivers.{AreNumbered}
use Rattle.rdm_law.proofs.Played.WaitingAll.{waits_once, waits_by_logs, waiting_count}
use Rattle.rdm_law.proofs.Played.Quiet.{NextQuiet, going_to, PushQuiet, PollQuiet}
use Rattle.rdm_law.proofs.Played.QuietRounds.{VisitQuiet, AllQuiet}
use Rattle.rdm_lists.proofs.Below.{below_member}
use Rattle.rdm_lists.proofs.Places.{member_at}

-- what goes out of each port goes to a rank
abbrev pub GoesToRanks : Job → World → Type 0
GoesToRanks job w = (port : ℕ) (g : Going) → going (own_scene job port (deeds_at job port (w.logs port))) ≡ Some g → going_to g < port_count job

-- an answer that makes no entry, or yields to the end of the clock
no_entry_left : (entry worn : Bool) (a : Answer) → is_entry a ≡ entry → (entry && not worn) ≡ false → is_entry (cond (entry && worn) Worn a) ≡ false
unfolding is_entry
no_entry_left true true a is h = refl
no_entry_left true false a is h = cc
no_entry_left false worn a is h = is

-- the next instruction would be no entry
quiet_left : (job : Job) (port : ℕ) (log : List Entry) (o : Option Instr) → instruction_left job port log ≡ o → NextQuiet job port log
    → is_no_entry (left_answer job (own_scene job port (deeds_at job port log)) log o) ≡ true
unfolding left_answer is_no_entry answer_or_worn
quiet_left job port log None is q = refl
quiet_left job port log (Some instr) is q =
    let a = answer_of (own_scene job port (deeds_at job port log)) instr in
    ap (λ (b : Bool). not b) (no_entry_left (is_entry a) (is_worn job log) a refl (q instr is))

-- nothing goes out
quiet_push : (job : Job) (port : ℕ) (log : List Entry) (queues : ℕ → List Datagram) (o : Option Going) → 0 < job.inbox → going (own_scene job port (deeds_at job port log)) ≡ o
    → ((g : Going) → o ≡ Some g → queues (going_to g) ≡ []) → PushQuiet job port log queues → (is_none o || is_worn job log) ≡ true
quiet_push job port log queues None some is empty q = refl
quiet_push job port log queues (Some g) some is empty q =
    elim (or_cases (is_worn job log) (nat_le job.inbox (length (queues (going_to g)))) (q g is)) [
      | inl worn ↦ worn
      | inr full ↦
          let top : job.inbox ≤ length (queues (going_to g)) = leb-true _ _ full in
          let none : length (queues (going_to g)) ≡ 0 = ap (λ (ds : List Datagram). length ds) (empty g refl) in
          absurd (omega arith)
    ]

-- no completion is left
quiet_poll : (job : Job) (port : ℕ) (log : List Entry) (o : Option Completion) → next_completion (own_scene job port (deeds_at job port log)) ≡ o → PollQuiet job port log
    → (is_none o || is_worn job log) ≡ true
quiet_poll job port log None is q = refl
quiet_poll job port log (Some c) is q = q c is

-- there is no next completion
next_is_none : (s : Scene) → nothing_to_poll s ≡ is_none (next_completion s)
unfolding nothing_to_poll
next_is_none s = refl

-- a test that each element passes
pub all_from_members : {A : Type 0} (p : A → Bool) (xs : List A) → ((x : A) → Member x xs → p x ≡ true) → list_all p xs ≡ true
all_from_members p [] h = refl
all_from_members p (x ∷ xs) h = and_from (p x) (list_all p xs) (h x (inl refl)) (all_from_members p xs (λ y m. h y (inr m)))

-- a datagram that waits for a quiet port can't be handled
waits_quiet : (job : Job) (w : World) (history : List Entry) (port : ℕ) (d : Datagram) → Sound job w → IsJoint w.logs history → Played job history → VisitQuiet job port w
    → Member d (waiting_datagrams port history)
    → (is_again_early lives_class (sent_scene job port history) d || is_worn_by job (log_of port history) d) ≡ true
unfolding port_deeds
waits_quiet job w history port d s joint played q m =
    let numbered : (p : ℕ) → AreNumbered p (log_of p history) = λ p. (let P : List Entry → Type 0 = λ log. AreNumbered p log in subst P (sym (joint.logs_are p)) (s.delivers.numbered p)) in
    let there = (waits_once port history played.wire numbered).each d m in
    let here : Member d (w.stashes port ++ w.queues port) = waits_by_logs w.logs (waiting_in w) history port d s.delivers joint played.wire m in
    let stash : Member d (w.stashes port) = subst (λ (ds : List Datagram). Member d ds) (ap (λ (ds : List Datagram). w.stashes port ++ ds) q.queue ∙ append-nil (w.stashes port)) here in
    let at = member_at d (w.stashes port) stash in
    let place = q.places at.0 (slice_get_within (w.stashes port) at.0 d at.1) d at.1 in
    let P : List Entry → Type 0 = λ log. (is_again_early class_of (own_scene job port (deeds_at job port log)) d || is_worn_by job log d) ≡ true in
    let own : (is_again_early class_of (own_scene job port (deeds_at job port (log_of port history))) d || is_worn_by job (log_of port history) d) ≡ true =
    subst P (sym (joint.logs_are port)) place in
    subst (λ (b : Bool). (b || is_worn_by job (log_of port history) d) ≡ true) (early_agreed job port history d (all_free job) played there.for_it there.pushed there.fresh) own

-- the next instruction answers the same by both accounts
left_is : (job : Job) (port : ℕ) (history log : List Entry) → Played job history
    → left_answer job (own_scene job port (deeds_at job port (log_of port history))) log (instruction_left job port log)
    ≡ left_answer job (sent_scene job port history) log (instruction_left job port log)
unfolding left_at port_deeds
left_is job port history log played = left_agreed job port history log played

-- a quiet port of a world is quiet in the history
port_quiet : (job : Job) (w : World) (history : List Entry) (port : ℕ) → 0 < job.inbox → Sound job w → IsJoint w.logs history → Played job history
    → AllQuiet job (below (port_count job)) w → GoesToRanks job w → Member port (below (port_count job)) → is_quiet_in job history port ≡ true
unfolding is_quiet_in is_quiet left_at port_deeds
port_quiet job w history port some s joint played quiet ranks m =
    let log = log_of port history in
    let q = quiet port m in
    let is = joint.logs_are port in
    let own = own_scene job port (deeds_at job port log) in
    let next : NextQuiet job port log = subst (NextQuiet job port) (sym is) q.next in
    let push : PushQuiet job port log w.queues = (let P : List Entry → Type 0 = λ l. PushQuiet job port l w.queues in subst P (sym is) q.push) in
    let poll : PollQuiet job port log = subst (PollQuiet job port) (sym is) q.poll in
    let left : is_no_entry (left_answer job (sent_scene job port history) log (instruction_left job port log)) ≡ true =
    sym (ap is_no_entry (left_is job port history log played)) ∙ quiet_left job port log (instruction_left job port log) refl next in
    let empty : (g : Going) → going own ≡ Some g → w.queues (going_to g) ≡ [] =
    λ g goes. (let G : List Entry → Type 0 = λ l. going (own_scene job port (deeds_at job port l)) ≡ Some g in
    (quiet (going_to g) (below_member (port_count job) (going_to g) (ranks port g (subst G is goes)))).queue) in
    let goes : (is_none (going (sent_scene job port history)) || is_worn job log) ≡ true =
    subst (λ (o : Option Going). (is_none o || is_worn job log) ≡ true) (going_agreed job port history played) (quiet_push job port log w.queues (going own) some refl empty push) in
    let polls : (nothing_to_poll (sent_scene job port history) || is_worn job log) ≡ true =
    subst (λ (b : Bool). (b || is_worn job log) ≡ true) (sym (next_is_none own) ∙ none_agreed job port history played) (quiet_poll job port log (next_completion own) refl poll) in
    let waits = all_from_members (λ d. is_again_early lives_class (sent_scene job port history) d || is_worn_by job log d) (waiting_datagrams port history)
    (λ d k. waits_quiet job w history port d s joint played q k) in
    and_from _ _ (and_from _ _ (and_from _ _ left goes) polls) waits

-- the history of a world where nothing would change anything is settled
pub quiet_settled : (job : Job) (w : World) (history : List Entry) → 0 < job.inbox → Sound job w → IsJoint w.logs history → Played job history
    → AllQuiet job (below (port_count job)) w → GoesToRanks job w → IsTrue (is_settled job history)
unfolding is_settled
quiet_settled job w history some s joint played quiet ranks =
    all_from_members (is_quiet_in job history) (below (port_count job)) (λ port m. port_quiet job w history port some s joint played quiet ranks m)

-- as many datagrams are in a quiet port's stash as wait for it in the history
pub quiet_stash : (job : Job) (w : World) (history : List Entry) (port : ℕ) → Sound job w → IsJoint w.logs history → Played job history → VisitQuiet job port w
    → length (w.stashes port) ≡ length (waiting_datagrams port history)
quiet_stash job w history port s joint played q =
    let all = waiting_count w.logs (waiting_in w) history port s.delivers joint played.wire in
    let a = length-append (w.stashes port) (w.queues port) in
    let b : length (w.queues port) ≡ 0 = ap (λ (ds : List Datagram). length ds) q.queue in
    omega arith
