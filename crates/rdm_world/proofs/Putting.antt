-- A world in which one port changed.
use Rattle.std.proofs.Common.{◌≡◌, ℕ, ◌<◌, Bool, true, false, cond, not, List, [], get_or, set, refl, arith, eq-eqb, sym, ◌∙◌, ap, subst, inl, inr}
use Rattle.std.proofs.lemmas.Bool.{cases_eq, ne_eqb}
use Rattle.std.proofs.lemmas.List.{length-set, get_or-set_same, get_or-set_other}
use Rattle.rdm_model.specs.declared.job.Job.{Job}
use Rattle.rdm_model.specs.declared.entry.Entry.{Entry}
use Rattle.rdm_model.specs.declared.entry.Act.{Act}
use Rattle.rdm_model.specs.Beginnings.{rank_of, port_count, with_pools}
use Rattle.rdm_model.specs.Worlds.{World, with_entry}
use Rattle.rdm_wire.specs.declared.Datagram.{Datagram}
use Rattle.rdm_wire.specs.Queues.{MemWireState}
use Rattle.rdm_port.specs.Views.{PortView, IsPortOf, logged}
use Rattle.rdm_law.proofs.Played.Apart.{put_at_here, put_at_there}
use Rattle.rdm_world.specs.Views.{WorldView}
use Rattle.rdm_world.specs.Shows.{port_in, IsWorld, has_changed}

-- the second world is the first one with another port, and the answer is whether it changed
pub record IsAfter (job : Job) (w v : World) (r : ℕ) (p : PortView) (answer : Bool) : Type 0 where
  pub port : p ≡ port_in job v r
  pub logs : (i : ℕ) → (i ≡ r → ⊥) → v.logs i ≡ w.logs i
  pub stashes : (i : ℕ) → (i ≡ r → ⊥) → v.stashes i ≡ w.stashes i
  pub changed : answer ≡ has_changed w v

-- a port in a world is one of the job
pub own_port : (job : Job) (w : World) (r : ℕ) → r < port_count job → IsPortOf job (port_in job w r)
own_port job w r within = record { within = within; ports_are = refl; inbox_is = refl; start_is = refl; limits_are = refl; rank_is = refl }

-- a count that stays is no change
pub unchanged : (w v : World) → v.changes ≡ w.changes → false ≡ has_changed w v
unfolding has_changed
unchanged w v same = ap not (sym (eq-eqb v.changes w.changes same))

-- a count that rises is a change
pub changed_more : (w v : World) → w.changes < v.changes → true ≡ has_changed w v
unfolding has_changed
changed_more w v more = ap not (sym (ne_eqb v.changes w.changes (λ same. absurd (omega arith))))

-- nothing is done
pub same_after : (job : Job) (w : World) (r : ℕ) → IsAfter job w w r (port_in job w r) false
same_after job w r = record { port = refl; logs = λ i other. refl; stashes = λ i other. refl; changed = unchanged w w refl }

-- an entry is made
pub entry_after : (job : Job) (w : World) (r : ℕ) (act : Act) → IsAfter job w (with_entry job w r act) r (logged job (port_in job w r) act) true
unfolding with_entry logged
entry_after job w r act =
    let put : List Entry → PortView = λ log. record (port_in job w r) { log = log } in
    record {
      port = ap put (sym (put_at_here r _ w.logs));
      logs = λ i other. put_at_there r _ w.logs i other;
      stashes = λ i other. refl;
      changed = changed_more w (with_entry job w r act) (omega arith);
    }

-- no queue changes by an entry
pub entry_queues : (job : Job) (w : World) (r : ℕ) (act : Act) (b : Bool) (i : ℕ) → (cond b (with_entry job w r act) w).queues i ≡ w.queues i
unfolding with_entry
entry_queues job w r act true i = refl
entry_queues job w r act false i = refl

-- so it is the other way round
pub unless_queues : (job : Job) (w : World) (r : ℕ) (act : Act) (b : Bool) (i : ℕ) → (cond b w (with_entry job w r act)).queues i ≡ w.queues i
unfolding with_entry
unless_queues job w r act true i = refl
unless_queues job w r act false i = refl

-- the port of that number with that log and that stash
abbrev pub port_of : Job → ℕ → List Entry → List Datagram → PortView
port_of job i log stash =
    record { number = i; ports = port_count job; inbox = job.inbox; start = job.clock; limits = with_pools job.limits (rank_of job i).limits; rank = rank_of job i; log = log; stash = stash }

-- it is the port in a world where these are its log and its stash
pub port_from : (job : Job) (v : World) (i : ℕ) (log : List Entry) (stash : List Datagram) → log ≡ v.logs i → stash ≡ v.stashes i → port_of job i log stash ≡ port_in job v i
port_from job v i log stash logs stashes =
    ap (λ (l : List Entry). port_of job i l stash) logs ∙ ap (λ (s : List Datagram). port_of job i (v.logs i) s) stashes

-- a world shows the one in which a port changed, if it has that port in its place
pub after_shows : (job : Job) (w v : World) (old : WorldView) (wire : MemWireState) (r : ℕ) (p : PortView) (changed : Bool) → IsWorld job w old → r < port_count job
    → IsAfter job w v r p changed → wire.size ≡ job.inbox → ((i : ℕ) → get_or wire.queues i [] ≡ v.queues i)
    → IsWorld job v (record { ports = set old.ports r p; wire = wire })
after_shows job w v old wire r p changed is within after size queues =
    record {
      count = length-set old.ports r p ∙ is.count;
      ports = λ i d inside. elim (cases_eq i r) [
        | inl here ↦ (let same : get_or (set old.ports r p) r d ≡ p = get_or-set_same old.ports r p d (omega arith) in
            subst (λ (k : ℕ). get_or (set old.ports r p) k d ≡ port_in job v k) (sym here) (same ∙ after.port))
        | inr other ↦ (let there : get_or (set old.ports r p) i d ≡ get_or old.ports i d = get_or-set_other old.ports r i p d other in
            there ∙ is.ports i d inside ∙ port_from job v i (w.logs i) (w.stashes i) (sym (after.logs i other)) (sym (after.stashes i other)))
      ];
      size = size;
      queues = queues;
      beyond = λ i past. (
        after.logs i (λ e. absurd (omega arith)) ∙ (is.beyond i past).0,
        after.stashes i (λ e. absurd (omega arith)) ∙ (is.beyond i past).1,
      );
    }
