-- Tries to handle, until one makes an entry or none is left.
use Rattle.std.proofs.Common.{◌≡◌, ℕ, suc, ◌+◌, ◌<◌, ◌≤◌, ◌%◌, min, max, Bool, true, false, cond, not, ◌||◌, List, [], ◌++◌, length, get_or, take, drop, remove, slice_get, ◌⊎◌, Option, Some, None, refl, arith, eq-eqb, sym, ◌∙◌, ap, subst, inl, inr, append-nil, take_all}
use Rattle.std.specs.Prelude.{◌==◌, unwrap_or}
use Rattle.std.proofs.Math.Path.{fun_ext}
use Rattle.std.proofs.lemmas.List.{drop_all, nil_from_length}
use Rattle.std.proofs.lemmas.Bool.{ne_eqb, cases_lt}
use Rattle.rdm_lists.proofs.Below.{least_below, nothing_below}
use Rattle.rdm_wire.specs.declared.Datagram.{Datagram}
use Rattle.rdm_model.specs.declared.job.Job.{Job}
use Rattle.rdm_model.specs.declared.job.Choice.{Choice}
use Rattle.rdm_model.specs.declared.entry.Act.{Act}
use Rattle.rdm_model.specs.Beginnings.{port_count}
use Rattle.rdm_model.specs.Jobs.{choice_rank}
use Rattle.rdm_model.specs.Worlds.{World, put_at, with_entry, after_fetch, with_handle, after_handle_at, after_pick, step_handle, after_choice}
use Rattle.rdm_model.specs.Played.{can_handle, first_pick, handle_any}
use Rattle.rdm_port.specs.Views.{PortView}
use Rattle.rdm_law.proofs.Played.Apart.{put_at_case, put_at_here}
use Rattle.rdm_world.specs.declared.world.Handling.{Handling}
use Rattle.rdm_world.specs.Views.{WorldView}
use Rattle.rdm_world.specs.Shows.{port_in, IsWorld, StaysBuilt, has_changed}
use Rattle.rdm_world.specs.Steps.{Tries, Makes, has_made}
use Rattle.rdm_model.specs.declared.entry.Entry.{Entry}
use Rattle.rdm_world.proofs.Reached.{stays_now, stays_keeps, grows_keeps, changed_both}

-- a list at a number of a function that has it there
put_same : (r : ℕ) (x : List Datagram) (f : ℕ → List Datagram) → x ≡ f r → put_at r x f ≡ f
put_same r x f is = fun_ext (λ p. put_at_case (λ (ds : List Datagram). ds ≡ f p) r x f p (λ at. is ∙ ap f (sym at)) (λ other. refl))

-- a world is its parts
same_world : (u : World) (queues stashes : ℕ → List Datagram) (n : ℕ) → queues ≡ u.queues → stashes ≡ u.stashes → n ≡ u.changes
    → ◌≡◌ {A = World} (record u { queues = queues; stashes = stashes; changes = n }) u
same_world u queues stashes n eq es en = rw (eq, es, en)

-- a fetch of an empty queue
fetch_none : (job : Job) (u : World) (r : ℕ) → u.queues r ≡ [] → after_fetch job u r ≡ u
unfolding after_fetch
fetch_none job u r none =
    let queue : drop job.inbox (u.queues r) ≡ u.queues r = ap (λ (ds : List Datagram). drop job.inbox ds) none ∙ drop_all job.inbox [] (omega arith) ∙ sym none in
    let taken : take job.inbox (u.queues r) ≡ [] = ap (λ (ds : List Datagram). take job.inbox ds) none ∙ take_all job.inbox [] (omega arith) in
    let stash : u.stashes r ++ take job.inbox (u.queues r) ≡ u.stashes r = ap (λ (ds : List Datagram). u.stashes r ++ ds) taken ∙ append-nil (u.stashes r) in
    let length_is : length (u.queues r) ≡ 0 = ap (λ (ds : List Datagram). length ds) none in
    same_world u (put_at r (drop job.inbox (u.queues r)) u.queues) (put_at r (u.stashes r ++ take job.inbox (u.queues r)) u.stashes) (u.changes + min job.inbox (length (u.queues r)))
    (put_same r (drop job.inbox (u.queues r)) u.queues queue) (put_same r (u.stashes r ++ take job.inbox (u.queues r)) u.stashes stash) (omega arith)

-- what an inbox holds is fetched at once
fetched_queue : (job : Job) (w : World) (r : ℕ) → length (w.queues r) ≤ job.inbox → (after_fetch job w r).queues r ≡ []
unfolding after_fetch
fetched_queue job w r short = put_at_here r (drop job.inbox (w.queues r)) w.queues ∙ drop_all job.inbox (w.queues r) short

-- so a handling after a fetch is one before it
handled_after : (job : Job) (w : World) (r k : ℕ) → length (w.queues r) ≤ job.inbox → step_handle job (after_fetch job w r) r k ≡ step_handle job w r k
unfolding step_handle
handled_after job w r k short = ap (λ (u : World). after_pick job u r k) (fetch_none job (after_fetch job w r) r (fetched_queue job w r short))

-- a longer log tells of an entry
longer : (m n : ℕ) → m ≡ suc n → not (m == n) ≡ false → ⊥
longer m n is h =
    let more : m == n ≡ false = ne_eqb m n (λ e. absurd (omega arith)) in
    let wrong : true ≡ false = ap not (sym more) ∙ h in
    cc

-- where an entry would have been made, none was
cond_idle : (job : Job) (u : World) (r : ℕ) (act : Act) (stash : List Datagram) (b : Bool)
    → has_made r u (cond b u (record (with_entry job u r act) { stashes = put_at r stash u.stashes })) ≡ false
    → cond b u (record (with_entry job u r act) { stashes = put_at r stash u.stashes }) ≡ u
unfolding with_entry
cond_idle job u r act stash true none = refl
cond_idle job u r act stash false none = absurd (longer _ (length (u.logs r)) (ap length (put_at_here r _ u.logs)) none)

-- without an entry the world is as it was
handle_idle : (job : Job) (u : World) (r place : ℕ) (o : Option Datagram) → has_made r u (with_handle job u r place o) ≡ false → with_handle job u r place o ≡ u
unfolding with_handle
handle_idle job u r place None none = refl
handle_idle job u r place (Some d) none = cond_idle job u r (Act.Handle d _) (remove (u.stashes r) place) _ none

-- a fetch makes no entry
fetched_made : (job : Job) (w v : World) (r : ℕ) → has_made r (after_fetch job w r) v ≡ has_made r w v
unfolding after_fetch
fetched_made job w v r = refl

-- a pick that makes no entry only fetches
idle_fetches : (job : Job) (w : World) (r pick : ℕ) → can_handle job w r pick ≡ false → step_handle job w r pick ≡ after_fetch job w r
unfolding can_handle step_handle after_pick after_handle_at
idle_fetches job w r pick none = handle_idle job (after_fetch job w r) r _ _ (fetched_made job w (step_handle job w r pick) r ∙ none)

-- nothing is handled out of an empty stash
empty_idle : (job : Job) (u : World) (r place : ℕ) → u.stashes r ≡ [] → with_handle job u r place (slice_get (u.stashes r) place) ≡ u
unfolding with_handle
empty_idle job u r place none = rw none

-- what makes an entry was in the stash
some_waits : (job : Job) (w : World) (r pick : ℕ) → can_handle job w r pick ≡ true → 0 < length ((after_fetch job w r).stashes r)
unfolding can_handle step_handle after_pick after_handle_at after_fetch
some_waits job w r pick made =
    let u = after_fetch job w r in
    elim (cases_lt 0 (length (u.stashes r))) [
      | inl some ↦ some
      | inr none ↦
          let stays : step_handle job w r pick ≡ u = empty_idle job u r (pick % max 1 (length (u.stashes r))) (nil_from_length (u.stashes r) (omega arith)) in
          let same : has_made r w u ≡ true = ap (has_made r w) (sym stays) ∙ made in
          let equal : has_made r w u ≡ false = ap not (eq-eqb (length (w.logs r)) (length (w.logs r)) refl) in
          let wrong : true ≡ false = sym same ∙ equal in
          cc
    ]

-- the world that is reached before the try of a pick: handlings do there what they did at first, and no pick before makes an entry
pub record TriedTo (r pick : ℕ) (now : WorldView) (changed : Bool) (job : Job) (w : World) : Type 0 where
  pub v : World
  pub shows : IsWorld job v now
  pub stays : StaysBuilt job v
  pub changed_is : changed ≡ has_changed w v
  pub grew : w.changes ≤ v.changes
  pub does : (k : ℕ) → step_handle job v r k ≡ step_handle job w r k
  pub logs : v.logs r ≡ w.logs r
  pub idle : (k : ℕ) → k < pick → can_handle job w r k ≡ false
  pub within : 0 < pick → pick < length ((after_fetch job w r).stashes r)

-- so it is of each world that was shown
abbrev pub Trying : (r pick : ℕ) → (old now : WorldView) → Bool → Type 0
Trying r pick old now changed = (job : Job) (w : World) → IsWorld job w old → StaysBuilt job w → TriedTo r pick now changed job w

-- before the first try
pub tries_start : (r : ℕ) (a : WorldView) → Trying r 0 a a false
unfolding has_changed
tries_start r a job w is stays = record {
  v = w;
  shows = is;
  stays = stays;
  changed_is = ap not (sym (eq-eqb w.changes w.changes refl));
  grew = omega arith;
  does = λ k. refl;
  logs = refl;
  idle = λ k less. absurd (omega arith);
  within = λ some. absurd (omega arith);
}

-- what is known after a try: the world, and whether it is the last one
record Tried (r pick : ℕ) (next : WorldView) (changed made : Bool) (job : Job) (w v : World) : Type 0 where
  pub shows : IsWorld job (step_handle job v r pick) next
  pub stays : StaysBuilt job (step_handle job v r pick)
  pub changed_is : changed ≡ has_changed w (step_handle job v r pick)
  pub grew : w.changes ≤ (step_handle job v r pick).changes
  pub made_is : made ≡ has_made r v (step_handle job v r pick)

-- a try is made
tried : (r pick : ℕ) (old now next : WorldView) (changed : Bool) (handling : Handling) → r < length old.ports → (job : Job) (w : World) → IsWorld job w old
    → (t : TriedTo r pick now changed job w) → Tries r pick now next handling → Tried r pick next (changed || handling.changed) handling.made job w t.v
unfolding after_choice choice_rank
tried r pick old now next changed handling within job w is t tries =
    let inside : r < port_count job = subst (λ (k : ℕ). r < k) is.count within in
    let u = step_handle job t.v r pick in
    let built = stays_now job t.v t.stays in
    let step = tries.0 job t.v t.shows built in
    let more : t.v.changes ≤ u.changes = grows_keeps job t.v.changes t.v (Choice.Handle r pick) inside (omega arith) in
    let both : (changed || handling.changed) ≡ (has_changed w t.v || has_changed t.v u) =
    ap (λ (b : Bool). b || handling.changed) t.changed_is ∙ ap (λ (b : Bool). has_changed w t.v || b) step.1 in
    let grew = t.grew in
    record {
      shows = step.0;
      stays = stays_keeps job t.v (Choice.Handle r pick) inside t.stays;
      changed_is = both ∙ changed_both w t.v u t.grew more;
      grew = omega arith;
      made_is = tries.1 job t.v t.shows built;
    }

-- what a try made of the world that was reached, it makes of the first one
tried_first : (r pick : ℕ) (now : WorldView) (changed : Bool) (job : Job) (w : World) → (t : TriedTo r pick now changed job w)
    → can_handle job w r pick ≡ has_made r t.v (step_handle job t.v r pick)
unfolding can_handle
tried_first r pick now changed job w t =
    ap (λ (u : World). not (length (u.logs r) == length (w.logs r))) (sym (t.does pick))
    ∙ ap (λ (l : List Entry). not (length ((step_handle job t.v r pick).logs r) == length l)) (sym t.logs)

-- the picks up to one that makes no entry make none
idle_up_to : (r pick : ℕ) (now : WorldView) (changed : Bool) (job : Job) (w : World) → (t : TriedTo r pick now changed job w) → can_handle job w r pick ≡ false
    → (k : ℕ) → k < pick + 1 → can_handle job w r k ≡ false
idle_up_to r pick now changed job w t none k less =
    elim (cases_lt k pick) [
      | inl before ↦ t.idle k before
      | inr last ↦ (let is : k ≡ pick = omega arith in ap (can_handle job w r) is ∙ none)
    ]

-- a fetch leaves the logs
fetch_logs : (job : Job) (w : World) (r : ℕ) → (after_fetch job w r).logs r ≡ w.logs r
unfolding after_fetch
fetch_logs job w r = refl

-- a try that is not the last one
pub tries_next : (r pick : ℕ) (old now next : WorldView) (changed : Bool) (handling : Handling) (left : ℕ) → r < length old.ports → Trying r pick old now changed → Tries r pick now next handling
    → ((job : Job) (v : World) → IsWorld job v next → left ≡ length (v.stashes r)) → handling.made ≡ false → pick + 1 < left → Trying r (pick + 1) old next (changed || handling.changed)
tries_next r pick old now next changed handling left within trying tries waits none more job w is stays =
    let t = trying job w is stays in
    let d = tried r pick old now next changed handling within job w is t tries in
    let u = step_handle job t.v r pick in
    let short : length (w.queues r) ≤ job.inbox = (stays_now job w stays).short r in
    let idle : can_handle job w r pick ≡ false = tried_first r pick now changed job w t ∙ sym d.made_is ∙ none in
    let fetched : u ≡ after_fetch job w r = t.does pick ∙ idle_fetches job w r pick idle in
    let stash : left ≡ length (u.stashes r) = waits job u d.shows in
    let same : length (u.stashes r) ≡ length ((after_fetch job w r).stashes r) = ap (λ (x : World). length (x.stashes r)) fetched in
    record {
      v = u;
      shows = d.shows;
      stays = d.stays;
      changed_is = d.changed_is;
      grew = d.grew;
      does = λ k. ap (λ (x : World). step_handle job x r k) fetched ∙ handled_after job w r k short;
      logs = ap (λ (x : World). x.logs r) fetched ∙ fetch_logs job w r;
      idle = idle_up_to r pick now changed job w t idle;
      within = λ some. omega arith;
    }

-- the first pick by which a port handles is the one that makes the first entry
first_is : (r pick : ℕ) (now : WorldView) (changed : Bool) (job : Job) (w : World) → (t : TriedTo r pick now changed job w) → can_handle job w r pick ≡ true
    → handle_any job w r ≡ step_handle job w r pick
unfolding handle_any first_pick after_choice
first_is r pick now changed job w t made =
    let n = length ((after_fetch job w r).stashes r) in
    let fits : pick < n = elim (cases_lt 0 pick) [ inl some ↦ t.within some | inr first ↦ (let waits = some_waits job w r pick made in omega arith) ] in
    ap (λ (o : Option ℕ). step_handle job w r (unwrap_or o 0)) (least_below (can_handle job w r) n pick fits made t.idle)

-- where no pick makes an entry, a port only fetches
none_is : (r pick : ℕ) (now : WorldView) (changed : Bool) (job : Job) (w : World) → (t : TriedTo r pick now changed job w) → can_handle job w r pick ≡ false
    → length ((after_fetch job w r).stashes r) ≤ pick + 1 → handle_any job w r ≡ after_fetch job w r
unfolding handle_any first_pick after_choice
none_is r pick now changed job w t none few =
    let n = length ((after_fetch job w r).stashes r) in
    let idle = idle_up_to r pick now changed job w t none in
    ap (λ (o : Option ℕ). step_handle job w r (unwrap_or o 0)) (nothing_below (can_handle job w r) n (λ k less. idle k (omega arith)))
    ∙ idle_fetches job w r 0 (idle 0 (omega arith))

-- the last try
pub tries_end : (r pick : ℕ) (old now next : WorldView) (changed : Bool) (handling : Handling) (left : ℕ) → r < length old.ports → Trying r pick old now changed → Tries r pick now next handling
    → ((job : Job) (v : World) → IsWorld job v next → left ≡ length (v.stashes r)) → (handling.made ≡ true) ⊎ (left ≤ pick + 1)
    → Makes (λ job w. handle_any job w r) old next (changed || handling.changed)
tries_end r pick old now next changed handling left within trying tries waits last job w is stays =
    let t = trying job w is stays in
    let d = tried r pick old now next changed handling within job w is t tries in
    let u = step_handle job t.v r pick in
    let made : can_handle job w r pick ≡ handling.made = tried_first r pick now changed job w t ∙ sym d.made_is in
    let stash : left ≡ length (u.stashes r) = waits job u d.shows in
    let end : handle_any job w r ≡ u =
    (elim (can_handle job w r pick) as (λ b. can_handle job w r pick ≡ b → handle_any job w r ≡ u) [
      | true ↦ λ is_made. first_is r pick now changed job w t is_made ∙ sym (t.does pick)
      | false ↦ λ none.
          let fetched : u ≡ after_fetch job w r = t.does pick ∙ idle_fetches job w r pick none in
          let few : left ≤ pick + 1 = elim last [ inl m ↦ (let wrong : true ≡ false = sym m ∙ sym made ∙ none in cc) | inr l ↦ l ] in
          let same : length (u.stashes r) ≡ length ((after_fetch job w r).stashes r) = ap (λ (x : World). length (x.stashes r)) fetched in
          none_is r pick now changed job w t none (omega arith) ∙ sym fetched
    ])
    refl in
    subst (λ (v : World). IsWorld job v next × ((changed || handling.changed) ≡ has_changed w v)) (sym end) (d.shows, d.changed_is)

-- how many datagrams are in the stash of a port that was looked at
pub waits_in : (next : WorldView) (r : ℕ) (p : PortView) (n : ℕ) → r < length next.ports → p ≡ get_or next.ports r p → n ≡ length p.stash
    → (job : Job) (v : World) → IsWorld job v next → n ≡ length (v.stashes r)
waits_in next r p n within here is_n job v is =
    let inside : r < port_count job = subst (λ (k : ℕ). r < k) is.count within in
    let port : p ≡ port_in job v r = here ∙ is.ports r p inside in
    is_n ∙ ap (λ (x : PortView). length x.stash) port
