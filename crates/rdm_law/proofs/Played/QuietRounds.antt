-- Rounds end in one that changes nothing, or make a change each.
use Rattle.std.proofs.Common.{◌≡◌, ℕ, zero, suc, ◌+◌, ◌<◌, ◌≤◌, Bool, true, false, ◌||◌, nat_le, eqb-true, List, [], ◌∷◌, length, Some, refl, arith, ◌⊎◌, inl, inr, sym, ◌∙◌, subst}
use Rattle.std.specs.Prelude.{◌==◌}
use Rattle.std.proofs.lemmas.Bool.{eqb-false}
use Rattle.rdm_lists.specs.Lists.{Member, below}
use Rattle.rdm_wire.specs.declared.Datagram.{Datagram}
use Rattle.rdm_model.specs.declared.job.Job.{Job}
use Rattle.rdm_model.specs.declared.job.Choice.{Choice}
use Rattle.rdm_model.specs.declared.entry.Entry.{Entry}
use Rattle.rdm_model.specs.Beginnings.{port_count}
use Rattle.rdm_model.specs.Scenes.{deeds_at}
use Rattle.rdm_model.specs.Going.{going}
use Rattle.rdm_model.specs.Settled.{is_worn}
use Rattle.rdm_model.specs.Local.{own_scene}
use Rattle.rdm_model.specs.Worlds.{World, after_choice}
use Rattle.rdm_model.specs.Played.{stop_if, handle_any, visit_of, visits_of, round_of, unless_quiet, rounds}
use Rattle.rdm_law.proofs.Played.Quiet.{Still, still_refl, still_then, Outcome, NextQuiet, going_to, PushQuiet, PollQuiet, next_outcome, push_outcome, poll_outcome}
use Rattle.rdm_law.proofs.Played.QuietHandles.{at_most, PlacesQuiet, HandleQuiet, handle_any_outcome, still_place}
use Rattle.rdm_lists.proofs.Below.{member_below}

-- nothing that a port could do would change anything
pub record VisitQuiet (job : Job) (port : ℕ) (w : World) : Type 0 where
  pub next : NextQuiet job port (w.logs port)
  pub push : PushQuiet job port (w.logs port) w.queues
  pub poll : PollQuiet job port (w.logs port)
  pub queue : w.queues port ≡ []
  pub places : PlacesQuiet job port w

-- what is so of a world is so of one that it left as it was
still_push : (job : Job) (port : ℕ) (w v : World) → Still w v → PushQuiet job port (v.logs port) v.queues → PushQuiet job port (w.logs port) w.queues
still_push job port w v s q g goes =
    let P : List Entry → Type 0 = λ log. going (own_scene job port (deeds_at job port log)) ≡ Some g in
    let Q : List Datagram → Type 0 = λ ds. (is_worn job (v.logs port) || nat_le job.inbox (length ds)) ≡ true in
    let R : List Entry → Type 0 = λ log. (is_worn job log || nat_le job.inbox (length (w.queues (going_to g)))) ≡ true in
    subst R (s.logs port) (subst Q (s.queues (going_to g)) (q g (subst P (sym (s.logs port)) goes)))

-- so of all that a port could do
pub still_visit : (job : Job) (port : ℕ) (w v : World) → Still w v → VisitQuiet job port v → VisitQuiet job port w
still_visit job port w v s q = record {
  next = subst (NextQuiet job port) (s.logs port) q.next;
  push = still_push job port w v s q.push;
  poll = subst (PollQuiet job port) (s.logs port) q.poll;
  queue = sym (s.queues port) ∙ q.queue;
  places = λ k high.
      still_place job port w v k s (q.places k (subst (λ (ds : List Datagram). k < length ds) (sym (s.stashes port)) high));
}

-- and back
pub still_back : (w v : World) → Still w v → Still v w
still_back w v s = record { changes = sym s.changes; logs = λ p. sym (s.logs p); queues = λ p. sym (s.queues p); stashes = λ p. sym (s.stashes p) }

-- so of what it could handle
still_handle : (job : Job) (port : ℕ) (w v : World) → Still w v → HandleQuiet job port v → HandleQuiet job port w
still_handle job port w v s h =
    (sym (s.queues port) ∙ h.0, λ k high. still_place job port w v k s (h.1 k (subst (λ (ds : List Datagram). k < length ds) (sym (s.stashes port)) high)))

-- one step after another
one_then : (w v u : World) (A B C : Type 0) → Outcome w v A → Outcome v u B → (Still w v → A → B → C) → Outcome w u C
one_then w v u A B C (inl less) second both = (let more = at_most v u B second in inl (omega arith))
one_then w v u A B C (inr a) (inl less) both = (let e = a.0.changes in inl (omega arith))
one_then w v u A B C (inr a) (inr b) both = inr (still_then w v u a.0 b.0, both a.0 a.1 b.1)

-- a port's part of a round
pub visit_outcome : (job : Job) (w : World) (port : ℕ) → 0 < job.inbox → port < port_count job → Outcome w (visit_of job w port) (VisitQuiet job port w)
unfolding visit_of
visit_outcome job w port some rank =
    let a = after_choice job w (Choice.Next port) in
    let b = after_choice job a (Choice.Push port) in
    let c = handle_any job b port in
    let d = after_choice job c (Choice.Poll port) in
    let N = NextQuiet job port (w.logs port) in
    let U = PushQuiet job port (w.logs port) w.queues in
    let H = HandleQuiet job port w in
    let two : Outcome w b (N × U) = one_then w a b N (PushQuiet job port (a.logs port) a.queues) (N × U) (next_outcome job w port) (push_outcome job a port)
    (λ s n u. (n, still_push job port w a s u)) in
    let three : Outcome w c (N × U × H) = one_then w b c (N × U) (HandleQuiet job port b) (N × U × H) two (handle_any_outcome job b port some)
    (λ s nu h. (nu.0, nu.1, still_handle job port w b s h)) in
    one_then w c d (N × U × H) (PollQuiet job port (c.logs port)) (VisitQuiet job port w) three (poll_outcome job c port)
    (λ s nuh p. record {
      next = nuh.0;
      push = nuh.1;
      poll = subst (PollQuiet job port) (s.logs port) p;
      queue = nuh.2.0;
      places = nuh.2.1;
    })

-- nothing that these ports could do would change anything
abbrev pub AllQuiet : Job → List ℕ → World → Type 0
AllQuiet job ports w = (port : ℕ) → Member port ports → VisitQuiet job port w

-- the parts of some ports
visits_outcome : (job : Job) (ports : List ℕ) (w : World) → 0 < job.inbox → ((port : ℕ) → Member port ports → port < port_count job) → Outcome w (visits_of job w ports) (AllQuiet job ports w)
unfolding visits_of
visits_outcome job [] w some ranks = inr (still_refl w, λ port m. elim m [ ])
visits_outcome job (port ∷ ports) w some ranks =
    let v = visit_of job w port in
    one_then w v (visits_of job v ports) (VisitQuiet job port w) (AllQuiet job ports v) (AllQuiet job (port ∷ ports) w)
    (visit_outcome job w port some (ranks port (inl refl))) (visits_outcome job ports v some (λ p m. ranks p (inr m)))
    (λ s first rest p m. elim m [
      | inl is ↦ subst (λ (x : ℕ). VisitQuiet job x w) is first
      | inr k ↦ still_visit job p w v s (rest p k)
    ])

-- a round
pub round_outcome : (job : Job) (w : World) → 0 < job.inbox → Outcome w (round_of job w) (AllQuiet job (below (port_count job)) w)
unfolding round_of
round_outcome job w some = visits_outcome job (below (port_count job)) w some (member_below (port_count job))

-- where a test holds the world is the first one, and else the other
ended : (P : World → Type 0) (b : Bool) (v : World) (go_on : World → World) → (b ≡ true → P v) → (b ≡ false → P (go_on v)) → P (stop_if b v go_on)
unfolding stop_if
ended P true v go_on h k = h refl
ended P false v go_on h k = k refl

-- rounds make a change each, or end where nothing would change anything
pub rounds_end : (job : Job) (fuel : ℕ) (w : World) → 0 < job.inbox
    → (w.changes + fuel ≤ (rounds fuel job w).changes) ⊎ AllQuiet job (below (port_count job)) (rounds fuel job w)
unfolding rounds unless_quiet
rounds_end job zero w some = inl (omega arith)
rounds_end job (suc fuel) w some =
    let v = round_of job w in
    let Goal : World → Type 0 = λ u. (w.changes + suc fuel ≤ u.changes) ⊎ AllQuiet job (below (port_count job)) u in
    ended Goal (v.changes == w.changes) v (rounds fuel job)
    (λ is. elim (round_outcome job w some) [
      | inl less ↦ (let same : v.changes ≡ w.changes = eqb-true _ _ is in absurd (omega arith))
      | inr a ↦ inr (λ port m. still_visit job port v w (still_back w v a.0) (a.1 port m))
    ])
    (λ is. elim (round_outcome job w some) [
      | inl less ↦ elim (rounds_end job fuel v some) [
        | inl more ↦ inl (omega arith)
        | inr quiet ↦ inr quiet
      ]
      | inr a ↦ absurd (eqb-false v.changes w.changes is a.0.changes)
    ])
