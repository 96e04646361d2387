-- A port fetches, and handles the datagram that is picked.
use Rattle.std.proofs.Common.{◌≡◌, ℕ, suc, ◌+◌, ◌<◌, min, Bool, true, false, cond, not, ◌||◌, List, [], ◌++◌, length, get_or, set, take, drop, remove, Option, Some, None, refl, arith, eq-eqb, sym, ◌∙◌, ap, subst, inl, inr, length-append, length-take}
use Rattle.std.specs.Prelude.{◌==◌}
use Rattle.std.proofs.lemmas.Bool.{cases_eq, ne_eqb}
use Rattle.rdm_lists.specs.Lists.{Member}
use Rattle.rdm_wire.specs.declared.Datagram.{Datagram}
use Rattle.rdm_wire.specs.declared.Body.{Body}
use Rattle.rdm_wire.specs.declared.Body.TheVariants.{Note, Between}
use Rattle.rdm_wire.specs.Flights.{Fetches}
use Rattle.rdm_wire.specs.Queues.{MemWireState, flight_of}
use Rattle.rdm_model.specs.declared.job.Job.{Job}
use Rattle.rdm_model.specs.declared.entry.Entry.{Entry}
use Rattle.rdm_model.specs.declared.entry.Act.TheVariants as Act
use Rattle.rdm_model.specs.declared.answer.Class.{Class}
use Rattle.rdm_model.specs.declared.answer.Handled.{Handled}
use Rattle.rdm_model.specs.declared.answer.Handled.TheVariants.{AgainEarly, Worn, Memory}
use Rattle.rdm_model.specs.Beginnings.{port_count}
use Rattle.rdm_model.specs.Scenes.{Scene}
use Rattle.rdm_model.specs.Classes.{class_of}
use Rattle.rdm_model.specs.Takes.{handled_answer, class_answer, taken_answer, is_again_early}
use Rattle.rdm_model.specs.Settled.{is_worn_by}
use Rattle.rdm_model.specs.Worlds.{World, scene_in, put_at, with_entry, after_fetch, with_handle, after_handle_at, after_pick, step_handle, after_choice}
use Rattle.rdm_port.specs.Views.{PortView, scene_at, logged, stashed}
use Rattle.rdm_port.specs.Built.{IsBuiltDatagram}
use Rattle.rdm_port.specs.Handles.{answer_to, is_handling, place_of, picked, after_answer, Answers, Fetched, DoesHandle}
use Rattle.rdm_law.proofs.Played.Apart.{put_at_here, put_at_there}
use Rattle.rdm_world.specs.Views.{WorldView}
use Rattle.rdm_world.specs.Shows.{port_in, IsWorld, IsBuiltWorld, has_changed}
use Rattle.rdm_world.specs.Steps.{Tries}
use Rattle.rdm_world.proofs.Lists.{first_part, last_part}
use Rattle.rdm_world.proofs.Putting.{IsAfter, own_port, same_after, entry_after, port_from, after_shows}
use Rattle.rdm_lists.proofs.Members.{member-append_left, member-append_right, member-append_cases, member_take}
use Rattle.rdm_lists.proofs.Places.{slice_get-member}

-- what is known after the answer to a datagram of a stash: the port and the world, the entries, and what did not change
pub record HandleIs (job : Job) (u v : World) (r : ℕ) (q : PortView) (made : Bool) : Type 0 where
  pub after : IsAfter job u v r q made
  pub changes : v.changes ≡ cond made (u.changes + 1) u.changes
  pub entries : length (v.logs r) ≡ cond made (suc (length (u.logs r))) (length (u.logs r))
  pub queues : (i : ℕ) → v.queues i ≡ u.queues i
  pub stash : made ≡ false → q.stash ≡ u.stashes r

-- nothing is done
stays : (job : Job) (u : World) (r : ℕ) → HandleIs job u u r (port_in job u r) false
stays job u r = record { after = same_after job u r; changes = refl; entries = refl; queues = λ i. refl; stash = λ none. refl }

-- an answer that is given to a datagram is an entry
is_entry_handled : (s : Scene) (d : Datagram) → is_handling (handled_answer class_of s d) ≡ true
unfolding handled_answer taken_answer class_answer is_handling
is_entry_handled s d = go (class_of s d)
  where
    body : (b : Body) → is_handling (taken_answer s d b) ≡ true
    body (Note note) = refl
    body (Between from to load) = refl

    go : (o : Option Class) → is_handling (class_answer s d o) ≡ true
    go None = body d.body
    go (Some class') = refl

-- the datagram is handled
taken_is : (job : Job) (u : World) (r place : ℕ) (d : Datagram) (answer : Handled)
    → HandleIs job u (record (with_entry job u r (Act.Handle d answer)) { stashes = put_at r (remove (u.stashes r) place) u.stashes }) r
    (record (logged job (port_in job u r) (Act.Handle d answer)) { stash = remove (u.stashes r) place }) true
unfolding has_changed with_entry logged
taken_is job u r place d answer =
    let entry = entry_after job u r (Act.Handle d answer) in
    let v : World = record (with_entry job u r (Act.Handle d answer)) { stashes = put_at r (remove (u.stashes r) place) u.stashes } in
    record {
      after = record {
        port = port_from job v r _ (remove (u.stashes r) place) (sym (put_at_here r _ u.logs)) (sym (put_at_here r (remove (u.stashes r) place) u.stashes));
        logs = entry.logs;
        stashes = λ i other. put_at_there r (remove (u.stashes r) place) u.stashes i other;
        changed = entry.changed;
      };
      changes = refl;
      entries = ap length (put_at_here r _ u.logs);
      queues = λ i. refl;
      stash = λ none. cc;
    }

-- the port and the world after the answer to a datagram
handle_cases : (job : Job) (u : World) (r place : ℕ) (d : Datagram) (again worn : Bool)
    → HandleIs job u
    (cond (again || worn) u (record (with_entry job u r (Act.Handle d (handled_answer class_of (scene_in job u r) d))) { stashes = put_at r (remove (u.stashes r) place) u.stashes }))
    r
    (after_answer job (port_in job u r) place (Some d) (cond again AgainEarly (cond worn Worn (handled_answer class_of (scene_in job u r) d))))
    (is_handling (cond again AgainEarly (cond worn Worn (handled_answer class_of (scene_in job u r) d))))
unfolding after_answer is_handling
handle_cases job u r place d true worn = stays job u r
handle_cases job u r place d false true = stays job u r
handle_cases job u r place d false false =
    let answer = handled_answer class_of (scene_in job u r) d in
    let v : World = record (with_entry job u r (Act.Handle d answer)) { stashes = put_at r (remove (u.stashes r) place) u.stashes } in
    let q : PortView = record (logged job (port_in job u r) (Act.Handle d answer)) { stash = remove (u.stashes r) place } in
    subst (λ (b : Bool). HandleIs job u v r (cond b q (port_in job u r)) b) (sym (is_entry_handled (scene_in job u r) d)) (taken_is job u r place d answer)

-- the same of the datagram that is picked, if one is
handle_after : (job : Job) (u : World) (r place : ℕ) (o : Option Datagram)
    → HandleIs job u (with_handle job u r place o) r (after_answer job (port_in job u r) place o (answer_to job (port_in job u r) o)) (is_handling (answer_to job (port_in job u r) o))
unfolding with_handle after_answer answer_to is_handling scene_in scene_at
handle_after job u r place None = stays job u r
handle_after job u r place (Some d) = handle_cases job u r place d (is_again_early class_of (scene_in job u r) d) (is_worn_by job (u.logs r) d)

-- the queue and the stash after a fetch
pub record FetchIs (job : Job) (w : World) (r : ℕ) (wire : MemWireState) (got : List Datagram) : Type 0 where
  pub got_is : got ≡ take job.inbox (w.queues r)
  pub port : stashed (port_in job w r) got ≡ port_in job (after_fetch job w r) r
  pub size : wire.size ≡ job.inbox
  pub queues : (i : ℕ) → get_or wire.queues i [] ≡ (after_fetch job w r).queues i

-- what is fetched is the first part of the queue
fetch_is : (job : Job) (w : World) (r : ℕ) (old wire : MemWireState) (got : List Datagram) → old.size ≡ job.inbox → ((i : ℕ) → get_or old.queues i [] ≡ w.queues i)
    → Fetched true r job.inbox got (Some (flight_of old)) (Some (flight_of wire)) → FetchIs job w r wire got
unfolding after_fetch
fetch_is job w r old wire got size queues f =
    let moved : Fetches true r got (flight_of old) (flight_of wire) = f.fetches in
    let taken : w.queues r ≡ got ++ get_or wire.queues r [] = sym (queues r) ∙ moved.taken in
    let first = first_part job.inbox (w.queues r) got (get_or wire.queues r []) taken f.at_most f.all in
    let left = last_part job.inbox (w.queues r) got (get_or wire.queues r []) taken f.at_most f.all in
    record {
      got_is = first;
      port = port_from job (after_fetch job w r) r (w.logs r) (w.stashes r ++ got) refl (ap (λ (ds : List Datagram). w.stashes r ++ ds) first ∙ sym (put_at_here r (w.stashes r ++ take job.inbox (w.queues r)) w.stashes));
      size = moved.size ∙ size;
      queues = λ i. elim (cases_eq i r) [
        | inl here ↦
            subst (λ (k : ℕ). get_or wire.queues k [] ≡ put_at r (drop job.inbox (w.queues r)) w.queues k) (sym here) (left ∙ sym (put_at_here r (drop job.inbox (w.queues r)) w.queues))
        | inr other ↦ moved.others i other ∙ queues i ∙ sym (put_at_there r (drop job.inbox (w.queues r)) w.queues i other)
      ];
    }

-- a datagram that was fetched, or stood in the stash, waited for the port
waits : (job : Job) (w : World) (r : ℕ) (d : Datagram) → Member d ((after_fetch job w r).stashes r) → Member d (w.stashes r ++ w.queues r)
unfolding after_fetch
waits job w r d m =
    let m' : Member d (w.stashes r ++ take job.inbox (w.queues r)) = subst (λ (ds : List Datagram). Member d ds) (put_at_here r (w.stashes r ++ take job.inbox (w.queues r)) w.stashes) m in
    elim (member-append_cases d (w.stashes r) (take job.inbox (w.queues r)) m') [
      | inl a ↦ member-append_left d (w.stashes r) (w.queues r) a
      | inr b ↦ member-append_right d (w.stashes r) (w.queues r) (member_take job.inbox (w.queues r) d b)
    ]

-- what is picked after a fetch is built in a built world
picked_built : (job : Job) (w : World) (r pick : ℕ) (d : Datagram) → IsBuiltWorld job w → picked (port_in job (after_fetch job w r) r) pick ≡ Some d
    → IsBuiltDatagram job (port_in job (after_fetch job w r) r) d
unfolding after_fetch scene_at scene_in
picked_built job w r pick d built is =
    built.built r d (waits job w r d (slice_get-member ((after_fetch job w r).stashes r) (place_of (port_in job (after_fetch job w r) r) pick) d is))

-- how many datagrams are in the stash after a fetch
fetched_length : (job : Job) (w : World) (r : ℕ) → length ((after_fetch job w r).stashes r) ≡ length (w.stashes r) + min job.inbox (length (w.queues r))
unfolding after_fetch
fetched_length job w r =
    ap length (put_at_here r (w.stashes r ++ take job.inbox (w.queues r)) w.stashes) ∙ length-append (w.stashes r) (take job.inbox (w.queues r))
    ∙ ap (λ (n : ℕ). length (w.stashes r) + n) (length-take job.inbox (w.queues r))

-- a sum is more than its part where the other part is not zero
both_more : (a b m n k : ℕ) → m ≡ a + k → n ≡ b + k → not (a == m) ≡ not (n == b)
both_more a b m n k em en = elim (cases_eq k 0) [
  | inl none ↦ ap not (eq-eqb a m (omega arith) ∙ sym (eq-eqb n b (omega arith)))
  | inr some ↦ ap not (ne_eqb a m (λ h. absurd (omega arith)) ∙ sym (ne_eqb n b (λ h. absurd (omega arith))))
]

-- the count of changes after a fetch
fetched_changes : (job : Job) (w : World) (r : ℕ) → (after_fetch job w r).changes ≡ w.changes + min job.inbox (length (w.queues r))
unfolding after_fetch
fetched_changes job w r = refl

-- a count and a length rise together, unless an entry was made
changed_cases : (made : Bool) (stash now before after k : ℕ) → after ≡ cond made (before + k + 1) (before + k) → (made ≡ false → now ≡ stash + k)
    → (made || not (stash == now)) ≡ not (after == before)
changed_cases true stash now before after k e h = ap not (sym (ne_eqb after before (λ same. absurd (omega arith))))
changed_cases false stash now before after k e h = both_more stash before now after k (h refl) e

-- whether a handling changed anything: it made an entry, or the stash grew
changed_is : (job : Job) (w v : World) (r : ℕ) (q : PortView) (made : Bool) → HandleIs job (after_fetch job w r) v r q made
    → (made || not (length (w.stashes r) == length q.stash)) ≡ has_changed w v
unfolding has_changed
changed_is job w v r q made h =
    let k = min job.inbox (length (w.queues r)) in
    let count : v.changes ≡ cond made (w.changes + k + 1) (w.changes + k) = subst (λ (n : ℕ). v.changes ≡ cond made (n + 1) n) (fetched_changes job w r) h.changes in
    changed_cases made (length (w.stashes r)) (length q.stash) w.changes v.changes k count (λ none. ap length (h.stash none) ∙ fetched_length job w r)

-- whether a handling made an entry, by the lengths of the logs
made_cases : (made : Bool) (before after : ℕ) → after ≡ cond made (suc before) before → made ≡ not (after == before)
made_cases true before after e = ap not (sym (ne_eqb after before (λ same. absurd (omega arith))))
made_cases false before after e = ap not (sym (eq-eqb after before e))

-- a fetch makes no entry
fetched_logs : (job : Job) (w : World) (r i : ℕ) → (after_fetch job w r).logs i ≡ w.logs i
unfolding after_fetch
fetched_logs job w r i = refl

-- a fetch leaves the other stashes
fetched_stashes : (job : Job) (w : World) (r i : ℕ) → (i ≡ r → ⊥) → (after_fetch job w r).stashes i ≡ w.stashes i
unfolding after_fetch
fetched_stashes job w r i other = put_at_there r (w.stashes r ++ take job.inbox (w.queues r)) w.stashes i other

-- the world after a handling, by the datagram that is picked
handled_is : (job : Job) (w : World) (r pick : ℕ)
    → step_handle job w r pick ≡ with_handle job (after_fetch job w r) r (place_of (port_in job (after_fetch job w r) r) pick) (picked (port_in job (after_fetch job w r) r) pick)
unfolding step_handle after_pick after_handle_at
handled_is job w r pick = refl

-- all that is known after a handling
handle_is : (job : Job) (w : World) (old : WorldView) (wire : MemWireState) (r pick : ℕ) (p q : PortView) (answer : Handled) → r < length old.ports → p ≡ get_or old.ports r p
    → DoesHandle true p q pick answer (Some (flight_of old.wire)) (Some (flight_of wire)) → (answer ≡ Memory → ⊥) → IsWorld job w old → IsBuiltWorld job w
    → (got : List Datagram) × FetchIs job w r wire got × HandleIs job (after_fetch job w r) (step_handle job w r pick) r q (is_handling answer)
handle_is job w old wire r pick p q answer within here does some is built =
    let inside : r < port_count job = subst (λ (n : ℕ). r < n) is.count within in
    let port : p ≡ port_in job w r = here ∙ is.ports r p inside in
    let does' : DoesHandle true (port_in job w r) q pick answer (Some (flight_of old.wire)) (Some (flight_of wire)) =
    subst (λ (x : PortView). DoesHandle true x q pick answer (Some (flight_of old.wire)) (Some (flight_of wire))) port does in
    let got = does'.got in
    let fetched : Fetched true r job.inbox got (Some (flight_of old.wire)) (Some (flight_of wire)) = elim does'.fetched [ inl f ↦ f | inr m ↦ absurd (some m.0) ] in
    let fetch = fetch_is job w r old.wire wire got is.size is.queues fetched in
    let u = after_fetch job w r in
    let own = own_port job u r inside in
    let answers : Answers (port_in job u r) q pick answer = subst (λ (x : PortView). Answers x q pick answer) fetch.port does'.answers in
    let o = picked (port_in job u r) pick in
    let place = place_of (port_in job u r) pick in
    let right : answer ≡ answer_to job (port_in job u r) o =
    elim (answers.exact job own (λ d at. picked_built job w r pick d built at)) [ inl m ↦ absurd (some m) | inr e ↦ e ] in
    let all = handle_after job u r place o in
    let all' : HandleIs job u (with_handle job u r place o) r (after_answer job (port_in job u r) place o answer) (is_handling answer) =
    subst (λ (x : Handled). HandleIs job u (with_handle job u r place o) r (after_answer job (port_in job u r) place o x) (is_handling x)) (sym right) all in
    let all'' : HandleIs job u (with_handle job u r place o) r q (is_handling answer) =
    subst (λ (x : PortView). HandleIs job u (with_handle job u r place o) r x (is_handling answer)) (sym (answers.after job own)) all' in
    (got, fetch, subst (λ (v : World). HandleIs job u v r q (is_handling answer)) (sym (handled_is job w r pick)) all'')

-- what a handling makes of the worlds
pub handle_steps : (old : WorldView) (wire : MemWireState) (r pick : ℕ) (p q : PortView) (answer : Handled) → r < length old.ports → p ≡ get_or old.ports r p
    → DoesHandle true p q pick answer (Some (flight_of old.wire)) (Some (flight_of wire)) → (answer ≡ Memory → ⊥)
    → Tries r pick old (record { ports = set old.ports r q; wire = wire }) (record { made = is_handling answer; changed = is_handling answer || not (length p.stash == length q.stash) })
unfolding after_choice
handle_steps old wire r pick p q answer within here does some =
    let made = is_handling answer in
    let inside : (job : Job) (w : World) → IsWorld job w old → r < port_count job = λ job w is. subst (λ (n : ℕ). r < n) is.count within in
    let changed : (job : Job) (w : World) → IsWorld job w old → IsBuiltWorld job w → (made || not (length p.stash == length q.stash)) ≡ has_changed w (step_handle job w r pick) =
    λ job w is built.
    let all = handle_is job w old wire r pick p q answer within here does some is built in
    let port : p ≡ port_in job w r = here ∙ is.ports r p (inside job w is) in
    subst (λ (x : PortView). (made || not (length x.stash == length q.stash)) ≡ has_changed w (step_handle job w r pick)) (sym port) (changed_is job w (step_handle job w r pick) r q made all.2) in (
      λ job w is built.
          let all = handle_is job w old wire r pick p q answer within here does some is built in
          let v = step_handle job w r pick in
          let fetch = all.1 in
          let handled = all.2 in
          let after : IsAfter job w v r q (made || not (length p.stash == length q.stash)) =
          record {
            port = handled.after.port;
            logs = λ i other. handled.after.logs i other ∙ fetched_logs job w r i;
            stashes = λ i other. handled.after.stashes i other ∙ fetched_stashes job w r i other;
            changed = changed job w is built;
          } in
          (after_shows job w v old wire r q (made || not (length p.stash == length q.stash)) is (inside job w is) after fetch.size (λ i. fetch.queues i ∙ sym (handled.queues i)), after.changed),
      λ job w is built.
          let all = handle_is job w old wire r pick p q answer within here does some is built in
          let entries : length ((step_handle job w r pick).logs r) ≡ cond made (suc (length (w.logs r))) (length (w.logs r)) =
          subst (λ (es : List Entry). length ((step_handle job w r pick).logs r) ≡ cond made (suc (length es)) (length es)) (fetched_logs job w r r) all.2.entries in
          made_cases made (length (w.logs r)) (length ((step_handle job w r pick).logs r)) entries,
    )

-- the same, by the answer and the lengths of the stash before and after
pub handle_tries : (old : WorldView) (wire : MemWireState) (r pick : ℕ) (p q : PortView) (answer : Handled) (made : Bool) (before after : ℕ) → r < length old.ports → p ≡ get_or old.ports r p
    → DoesHandle true p q pick answer (Some (flight_of old.wire)) (Some (flight_of wire)) → (answer ≡ Memory → ⊥) → made ≡ is_handling answer → before ≡ length p.stash → after ≡ length q.stash
    → Tries r pick old (record { ports = set old.ports r q; wire = wire }) (record { made = made; changed = made || not (before == after) })
handle_tries old wire r pick p q answer made before after within here does some is_made is_before is_after =
    let new : WorldView = record { ports = set old.ports r q; wire = wire } in
    let T : Bool → ℕ → ℕ → Type 0 = λ m a b. Tries r pick old new (record { made = m; changed = m || not (a == b) }) in
    let h = handle_steps old wire r pick p q answer within here does some in
    let h1 : T made (length p.stash) (length q.stash) = subst (λ (m : Bool). T m (length p.stash) (length q.stash)) (sym is_made) h in
    let h2 : T made before (length q.stash) = subst (λ (n : ℕ). T made n (length q.stash)) (sym is_before) h1 in
    subst (λ (n : ℕ). T made before n) (sym is_after) h2
