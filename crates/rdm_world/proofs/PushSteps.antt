-- A port pushes its next datagram.
use Rattle.std.proofs.Common.{◌≡◌, ℕ, ◌<◌, Bool, true, false, cond, ◌||◌, nat_le, le-leb, List, [], ◌∷◌, ◌++◌, length, get_or, set, Option, Some, None, option_map, refl, arith, sym, ◌∙◌, ap, subst, inl, inr}
use Rattle.std.proofs.lemmas.Bool.{cases_eq, lt-leb, or_from, or_left, or_right}
use Rattle.rdm_num.specs.declared.numbers.PortNo.{PortNo}
use Rattle.rdm_wire.specs.declared.Datagram.{Datagram}
use Rattle.rdm_wire.specs.Flights.{InFlight, Pushes, Moves, IsFullAt, HasRoomAt}
use Rattle.rdm_wire.specs.Queues.{MemWireState, flight_of}
use Rattle.rdm_model.specs.declared.job.Job.{Job}
use Rattle.rdm_model.specs.declared.job.Choice.{Choice}
use Rattle.rdm_model.specs.declared.entry.Entry.{Entry}
use Rattle.rdm_model.specs.declared.entry.Act.{Act}
use Rattle.rdm_model.specs.declared.answer.Push.{Push}
use Rattle.rdm_model.specs.declared.answer.Push.TheVariants.{Pushed, Idle, Full, Worn, Memory}
use Rattle.rdm_model.specs.Beginnings.{port_count}
use Rattle.rdm_model.specs.Going.{Going, GoesNote, Goes, going}
use Rattle.rdm_model.specs.Settled.{is_worn}
use Rattle.rdm_model.specs.Worlds.{World, scene_in, put_at, with_entry, with_push, step_push, datagram_of, after_choice}
use Rattle.rdm_port.specs.Views.{PortView, scene_at, logged}
use Rattle.rdm_port.specs.Pushes.{lone_world, out_of, IsPushOf, PushedAs, DoesPush, PushesOn}
use Rattle.rdm_law.proofs.Played.Apart.{put_at_here, put_at_there}
use Rattle.rdm_world.specs.Views.{WorldView}
use Rattle.rdm_world.specs.Shows.{port_in, has_changed}
use Rattle.rdm_world.specs.Answers.{is_pushed}
use Rattle.rdm_world.specs.Steps.{Steps}
use Rattle.rdm_world.proofs.Putting.{IsAfter, own_port, same_after, entry_after, after_shows}

-- the datagram that goes, by the port alone and by the world
same_datagram_out : (job : Job) (w : World) (r : ℕ) (g : Going) → datagram_of job (lone_world (port_in job w r)) r g ≡ datagram_of job w r g
unfolding datagram_of scene_in
same_datagram_out job w r (GoesNote note) = refl
same_datagram_out job w r (Goes to item) = refl

-- what a port sends next by itself is what it sends in the world
out_in : (job : Job) (w : World) (r : ℕ) (o : Option Going) → option_map (datagram_of job (lone_world (port_in job w r)) r) o ≡ option_map (datagram_of job w r) o
out_in job w r None = refl
out_in job w r (Some g) = ap (λ (d : Datagram). Some d) (same_datagram_out job w r g)

-- what a port sends next
out_is : (job : Job) (w : World) (r : ℕ) → out_of job (port_in job w r) ≡ option_map (datagram_of job w r) (going (scene_in job w r))
unfolding out_of scene_at scene_in
out_is job w r = out_in job w r (going (scene_in job w r))

-- the world after a push of a datagram, if there is one
abbrev push_world : Job → World → ℕ → Option Datagram → World
push_world job w r None = w
push_world job w r (Some d) = with_push job w r d

-- the step of the world is that push
step_is : (job : Job) (w : World) (r : ℕ) (o : Option Going) → step_push job w r o ≡ push_world job w r (option_map (datagram_of job w r) o)
unfolding step_push
step_is job w r None = refl
step_is job w r (Some g) = refl

-- what is known after a push: the port and the world, and the queues
record PushIs (job : Job) (w v : World) (r : ℕ) (q : PortView) (wire : MemWireState) (answer : Bool) : Type 0 where
  pub after : IsAfter job w v r q answer
  pub size : wire.size ≡ job.inbox
  pub queues : (i : ℕ) → get_or wire.queues i [] ≡ v.queues i

-- nothing was done
stays : (job : Job) (w : World) (r : ℕ) (wire wire' : MemWireState) (q : PortView) → wire.size ≡ job.inbox → ((i : ℕ) → get_or wire.queues i [] ≡ w.queues i)
    → q ≡ port_in job w r → Some (flight_of wire') ≡ Some (flight_of wire) → PushIs job w w r q wire' false
stays job w r wire wire' q size queues is same =
    let flight : flight_of wire' ≡ flight_of wire = cc in
    record {
      after = subst (λ (x : PortView). IsAfter job w w r x false) (sym is) (same_after job w r);
      size = ap (λ (f : InFlight). f.size) flight ∙ size;
      queues = λ i. ap (λ (f : InFlight). f.queues i) flight ∙ queues i;
    }

-- the newest entry's push is known
push_of : (log before : List Entry) (e : Entry) (d x : Datagram) → log ≡ e ∷ before → e.act ≡ Act.Push d → IsPushOf log x → x ≡ d
push_of log before e d x is act h =
    let newest : e.act ≡ Act.Push x = subst (λ (l : List Entry). IsPushOf l x) is h in
    cc

-- the datagram was pushed
pushed_is : (job : Job) (w : World) (r : ℕ) (d : Datagram) (wire wire' : MemWireState) (q : PortView) → wire.size ≡ job.inbox → ((i : ℕ) → get_or wire.queues i [] ≡ w.queues i)
    → is_worn job (w.logs r) ≡ false → q ≡ logged job (port_in job w r) (Act.Push d)
    → ((x : Datagram) × IsPushOf q.log x × HasRoomAt x.dst.0 (Some (flight_of wire)) × Moves (Pushes true x) (Some (flight_of wire)) (Some (flight_of wire')))
    → PushIs job w (with_push job w r d) r q wire' true
unfolding with_push logged has_changed
pushed_is job w r d wire wire' q size queues worn is went =
    let v : World = record (with_entry job w r (Act.Push d)) { queues = put_at d.dst.0 (w.queues d.dst.0 ++ d ∷ []) w.queues } in
    let same : went.0 ≡ d = push_of q.log (w.logs r) _ d went.0 (ap (λ (x : PortView). x.log) is) refl went.1 in
    let room : length (get_or wire.queues d.dst.0 []) < wire.size = subst (λ (x : Datagram). HasRoomAt x.dst.0 (Some (flight_of wire))) same went.2 in
    let moved : Pushes true d (flight_of wire) (flight_of wire') = subst (λ (x : Datagram). Pushes true x (flight_of wire) (flight_of wire')) same went.3 in
    let not_full : nat_le job.inbox (length (w.queues d.dst.0)) ≡ false =
    lt-leb job.inbox (length (w.queues d.dst.0)) (subst (λ (n : ℕ). length (w.queues d.dst.0) < n) size (subst (λ (ds : List Datagram). length ds < wire.size) (queues d.dst.0) room)) in
    let go : is_worn job (w.logs r) || nat_le job.inbox (length (w.queues d.dst.0)) ≡ false = or_from _ _ worn not_full in
    let entry = entry_after job w r (Act.Push d) in
    let after : IsAfter job w v r q true = subst (λ (x : PortView). IsAfter job w v r x true) (sym is) (record { port = entry.port; logs = entry.logs; stashes = entry.stashes; changed = entry.changed }) in
    let now : (i : ℕ) → get_or wire'.queues i [] ≡ put_at d.dst.0 (w.queues d.dst.0 ++ d ∷ []) w.queues i =
    λ i. elim (cases_eq i d.dst.0) [
      | inl here ↦
          let added : get_or wire'.queues d.dst.0 [] ≡ w.queues d.dst.0 ++ d ∷ [] = moved.added ∙ ap (λ (ds : List Datagram). ds ++ d ∷ []) (queues d.dst.0) in
          subst (λ (k : ℕ). get_or wire'.queues k [] ≡ put_at d.dst.0 (w.queues d.dst.0 ++ d ∷ []) w.queues k) (sym here) (added ∙ sym (put_at_here d.dst.0 (w.queues d.dst.0 ++ d ∷ []) w.queues))
      | inr other ↦ moved.others i other ∙ queues i ∙ sym (put_at_there d.dst.0 (w.queues d.dst.0 ++ d ∷ []) w.queues i other)
    ] in
    subst (λ (b : Bool). PushIs job w (cond b w v) r q wire' true) (sym go) (record { after = after; size = moved.size ∙ size; queues = now })

-- the queue of its port is full
full_is : (job : Job) (w : World) (r : ℕ) (d : Datagram) (port : PortNo) (wire wire' : MemWireState) (q : PortView) → wire.size ≡ job.inbox
    → ((i : ℕ) → get_or wire.queues i [] ≡ w.queues i) → port ≡ d.dst → q ≡ port_in job w r → IsFullAt port.0 (Some (flight_of wire))
    → Some (flight_of wire') ≡ Some (flight_of wire) → PushIs job w (with_push job w r d) r q wire' false
unfolding with_push
full_is job w r d port wire wire' q size queues target is full same =
    let at : length (get_or wire.queues d.dst.0 []) ≡ wire.size = subst (λ (x : PortNo). IsFullAt x.0 (Some (flight_of wire))) target full in
    let most : length (w.queues d.dst.0) ≡ job.inbox = subst (λ (ds : List Datagram). length ds ≡ wire.size) (queues d.dst.0) at ∙ size in
    let stop : is_worn job (w.logs r) || nat_le job.inbox (length (w.queues d.dst.0)) ≡ true = or_right _ _ (le-leb job.inbox (length (w.queues d.dst.0)) (omega arith)) in
    let v : World = record (with_entry job w r (Act.Push d)) { queues = put_at d.dst.0 (w.queues d.dst.0 ++ d ∷ []) w.queues } in
    subst (λ (b : Bool). PushIs job w (cond b w v) r q wire' false) (sym stop) (stays job w r wire wire' q size queues is same)

-- the clock is at its end
worn_is : (job : Job) (w : World) (r : ℕ) (d : Datagram) (wire wire' : MemWireState) (q : PortView) → wire.size ≡ job.inbox
    → ((i : ℕ) → get_or wire.queues i [] ≡ w.queues i) → is_worn job (w.logs r) ≡ true → q ≡ port_in job w r
    → Some (flight_of wire') ≡ Some (flight_of wire) → PushIs job w (with_push job w r d) r q wire' false
unfolding with_push
worn_is job w r d wire wire' q size queues worn is same =
    let stop : is_worn job (w.logs r) || nat_le job.inbox (length (w.queues d.dst.0)) ≡ true = or_left _ _ worn in
    let v : World = record (with_entry job w r (Act.Push d)) { queues = put_at d.dst.0 (w.queues d.dst.0 ++ d ∷ []) w.queues } in
    subst (λ (b : Bool). PushIs job w (cond b w v) r q wire' false) (sym stop) (stays job w r wire wire' q size queues is same)

-- the port and the world after the answer to a push
push_cases : (job : Job) (w : World) (r : ℕ) (o : Option Datagram) (wire wire' : MemWireState) (q : PortView) (answer : Push) → wire.size ≡ job.inbox
    → ((i : ℕ) → get_or wire.queues i [] ≡ w.queues i) → PushedAs job (port_in job w r) q o answer
    → PushesOn true q.log answer (Some (flight_of wire)) (Some (flight_of wire')) → (answer ≡ Memory → ⊥) → PushIs job w (push_world job w r o) r q wire' (is_pushed answer)
unfolding is_pushed
push_cases job w r None wire wire' q Idle size queues h on some = stays job w r wire wire' q size queues h on
push_cases job w r None wire wire' q Memory size queues h on some = absurd (some refl)
push_cases job w r None wire wire' q (Pushed number) size queues h on some = elim h [ ]
push_cases job w r None wire wire' q (Full port) size queues h on some = elim h [ ]
push_cases job w r None wire wire' q Worn size queues h on some = elim h [ ]
push_cases job w r (Some d) wire wire' q Idle size queues h on some = elim h [ ]
push_cases job w r (Some d) wire wire' q Memory size queues h on some = absurd (some refl)
push_cases job w r (Some d) wire wire' q (Pushed number) size queues h on some = pushed_is job w r d wire wire' q size queues h.0 h.2 on
push_cases job w r (Some d) wire wire' q (Full port) size queues h on some = full_is job w r d port wire wire' q size queues h.1 h.2 on.0 on.1
push_cases job w r (Some d) wire wire' q Worn size queues h on some = worn_is job w r d wire wire' q size queues h.0 h.1 on

-- what a push makes of the worlds
pub push_steps : (old : WorldView) (wire : MemWireState) (r : ℕ) (p q : PortView) (answer : Push) → r < length old.ports → p ≡ get_or old.ports r p → DoesPush p q answer
    → PushesOn true q.log answer (Some (flight_of old.wire)) (Some (flight_of wire)) → (answer ≡ Memory → ⊥)
    → Steps (Choice.Push r) old (record { ports = set old.ports r q; wire = wire }) (is_pushed answer)
unfolding after_choice
push_steps old wire r p q answer within here does on some job w is built =
    let inside : r < port_count job = subst (λ (n : ℕ). r < n) is.count within in
    let port : p ≡ port_in job w r = here ∙ is.ports r p inside in
    let does' : DoesPush (port_in job w r) q answer = subst (λ (x : PortView). DoesPush x q answer) port does in
    let o = option_map (datagram_of job w r) (going (scene_in job w r)) in
    let pushed : PushedAs job (port_in job w r) q o answer =
    subst (λ (x : Option Datagram). PushedAs job (port_in job w r) q x answer) (out_is job w r) (does' job (own_port job w r inside)) in
    let all : PushIs job w (push_world job w r o) r q wire (is_pushed answer) = push_cases job w r o old.wire wire q answer is.size is.queues pushed on some in
    let all' : PushIs job w (step_push job w r (going (scene_in job w r))) r q wire (is_pushed answer) =
    subst (λ (v : World). PushIs job w v r q wire (is_pushed answer)) (sym (step_is job w r (going (scene_in job w r)))) all in
    (after_shows job w (step_push job w r (going (scene_in job w r))) old wire r q (is_pushed answer) is inside all'.after all'.size all'.queues, all'.after.changed)
