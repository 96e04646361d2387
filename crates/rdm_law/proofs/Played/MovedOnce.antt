-- No more datagrams are handled or in stashes than were pushed, so the changes of a world are at most twice its entries.
use Rattle.std.proofs.Common.{◌≡◌, ℕ, zero, suc, ◌+◌, ◌*◌, ◌<◌, ◌≤◌, List, [], ◌∷◌, ◌++◌, length, refl, arith, inl, inr, sym, ◌∙◌, ap, subst, length-append}
use Rattle.std.proofs.lemmas.Bool.{cases_lt}
use Rattle.rdm_lists.specs.Lists.{Member}
use Rattle.rdm_num.specs.declared.numbers.PortNo.{PortNo}
use Rattle.rdm_wire.specs.declared.Datagram.{Datagram}
use Rattle.rdm_model.specs.declared.job.Job.{Job}
use Rattle.rdm_model.specs.declared.entry.Entry.{Entry}
use Rattle.rdm_model.specs.declared.entry.Act.{Act}
use Rattle.rdm_model.specs.declared.entry.Act.TheVariants.{Next, Push, Handle, Poll}
use Rattle.rdm_model.specs.Deeds.{log_of}
use Rattle.rdm_model.specs.Beginnings.{port_count}
use Rattle.rdm_model.specs.Steps.{count, handles_by}
use Rattle.rdm_model.specs.Wire.{PushedIn}
use Rattle.rdm_model.specs.Joint.{IsJoint}
use Rattle.rdm_model.specs.Worlds.{World}
use Rattle.rdm_law.proofs.Played.Apart.{Differ, AreApart}
use Rattle.rdm_law.proofs.Played.Delivers.{Waits, Delivers, pushed_once}
use Rattle.rdm_law.proofs.Played.Sound.{Sound, waiting_in}
use Rattle.rdm_law.proofs.Played.Waiting.{apart_length}
use Rattle.rdm_law.proofs.Lives.Logs.{at_log_of}
use Rattle.rdm_law.proofs.Played.Outside.{OutsideEmpty}
use Rattle.rdm_law.proofs.Played.Counted.{measure, sum_below, sum_same, sum_change, IsCounted}
use Rattle.rdm_law.proofs.Played.HandledApart.{handled_in, unhandled_differs, handled_count, Came, handled_came, apart_append, handled_apart}
use Rattle.rdm_lists.proofs.Members.{member-append_left, member-append_right, member-append_cases}

-- what came to a port: handled, or in its stash
abbrev pub came_to : World → ℕ → List Datagram
came_to w port = handled_in (w.logs port) ++ w.stashes port

-- what is in a stash waits
stash_waits : (w : World) (port : ℕ) (d : Datagram) → Delivers w.logs (waiting_in w) → Member d (w.stashes port) → Waits w.logs port d
stash_waits w port d i m = i.waits port d (member-append_left d (w.stashes port) (w.queues port) m)

-- all that came to a port came
all_came : (w : World) (port : ℕ) (d : Datagram) → Delivers w.logs (waiting_in w) → Member d (came_to w port) → Came w.logs port d
all_came w port d i m =
    elim (member-append_cases d (handled_in (w.logs port)) (w.stashes port) m) [
      | inl k ↦ handled_came w.logs port (w.logs port) d (i.handled port) k
      | inr k ↦ (let v = stash_waits w port d i k in record { for_it = v.for_it; pushed = v.pushed })
    ]

-- the front of a list apart is apart
front_apart : (xs ys : List Datagram) → AreApart (xs ++ ys) → AreApart xs
front_apart [] ys a = tt
front_apart (x ∷ xs) ys a = ((λ q m. a.0 q (member-append_left q xs ys m)), front_apart xs ys a.1)

-- what came to a port is apart
came_apart : (w : World) (port : ℕ) → Delivers w.logs (waiting_in w) → AreApart (came_to w port)
came_apart w port i =
    apart_append (handled_in (w.logs port)) (w.stashes port) (handled_apart w.logs port (w.logs port) (i.handled port)) (front_apart (w.stashes port) (w.queues port) (i.apart port))
    (λ x y m k s n. unhandled_differs y (w.logs port) x (stash_waits w port y i k).fresh m (sym s) (sym n))

-- what came to the ports below n
unfoldable pub came_below : World → ℕ → List Datagram
came_below w zero = []
came_below w (suc n) = came_below w n ++ came_to w n

-- it was pushed, for one of those ports
came_in : (w : World) (n : ℕ) (d : Datagram) → Delivers w.logs (waiting_in w) → Member d (came_below w n) → (d.dst.0 < n) × PushedIn d (w.logs d.src.0)
unfolding came_below
came_in w zero d i m = elim m [ ]
came_in w (suc n) d i m =
    elim (member-append_cases d (came_below w n) (came_to w n) m) [
      | inl k ↦ (let r = came_in w n d i k in let l = r.0 in (omega arith, r.1))
      | inr k ↦ (let r = all_came w n d i k in let l = r.for_it in (omega arith, r.pushed))
    ]

-- datagrams that came to different ports differ
ports_differ : (w : World) (x y : Datagram) → Delivers w.logs (waiting_in w) → PushedIn x (w.logs x.src.0) → PushedIn y (w.logs y.src.0) → (x.dst.0 ≡ y.dst.0 → ⊥) → Differ x y
ports_differ w x y i hx hy apart s n =
    let src : y.src.0 ≡ x.src.0 = ap (λ (p : PortNo). p.0) s in
    let there : PushedIn y (w.logs x.src.0) = subst (λ (p : ℕ). PushedIn y (w.logs p)) src hy in
    let one : x ≡ y = pushed_once x.src.0 (w.logs x.src.0) x y (i.numbered x.src.0) hx there (sym n) in
    apart (ap (λ (d : Datagram). d.dst.0) one)

-- what came to some ports is apart
came_below_apart : (w : World) (n : ℕ) → Delivers w.logs (waiting_in w) → AreApart (came_below w n)
unfolding came_below
came_below_apart w zero i = tt
came_below_apart w (suc n) i =
    apart_append (came_below w n) (came_to w n) (came_below_apart w n i) (came_apart w n i)
    (λ x y m k.
    let a = came_in w n x i m in
    let b = all_came w n y i k in
    let less = a.0 in
    let here = b.for_it in
    ports_differ w x y i a.1 b.pushed (λ same. absurd (omega arith)))

-- how much came to some ports
came_length : (w : World) (n : ℕ) → length (came_below w n) ≡ sum_below (λ p. count handles_by (w.logs p) + length (w.stashes p)) n
unfolding came_below sum_below
came_length w zero = refl
came_length w (suc n) =
    let a = came_length w n in
    let b = length-append (came_below w n) (came_to w n) in
    let c = length-append (handled_in (w.logs n)) (w.stashes n) in
    let d = handled_count (w.logs n) in
    omega arith

-- the datagrams that a history pushed
unfoldable pub pushed_by : Act → List Datagram
pushed_by (Push d) = d ∷ []
pushed_by _ = []

-- so of a whole history
unfoldable pub pushed_in : List Entry → List Datagram
pushed_in [] = []
pushed_in (e ∷ before) = pushed_by e.act ++ pushed_in before

-- an act pushes one at most
one_pushed : (act : Act) → length (pushed_by act) ≤ 1
unfolding pushed_by
one_pushed (Push d) = omega arith
one_pushed (Next index op answer) = omega arith
one_pushed (Handle d answer) = omega arith
one_pushed (Poll c) = omega arith

-- no more was pushed than there are entries
pushed_fewer : (history : List Entry) → length (pushed_in history) ≤ length history
unfolding pushed_in
pushed_fewer [] = omega arith
pushed_fewer (e ∷ before) =
    let a = pushed_fewer before in
    let b = one_pushed e.act in
    let c = length-append (pushed_by e.act) (pushed_in before) in
    omega arith

-- what an act pushed is among what it pushed
pushed_member : (d : Datagram) (act : Act) → act ≡ Push d → Member d (pushed_by act)
unfolding pushed_by
pushed_member d act is = (let P : Act → Type 0 = λ x. Member d (pushed_by x) in subst P (sym is) (inl refl))

-- what a port of a history pushed is among them
pushed_among : (d : Datagram) (port : ℕ) (history : List Entry) → PushedIn d (log_of port history) → Member d (pushed_in history)
unfolding pushed_in log_of
pushed_among d port [] h = elim h [ ]
pushed_among d port (e ∷ before) m =
    at_log_of (λ (log : List Entry). PushedIn d log → Member d (pushed_by e.act ++ pushed_in before)) port e before
    (λ is h. elim h [
      | inl now ↦ member-append_left d (pushed_by e.act) (pushed_in before) (pushed_member d e.act now)
      | inr was ↦ member-append_right d (pushed_by e.act) (pushed_in before) (pushed_among d port before was)
    ])
    (λ other h. member-append_right d (pushed_by e.act) (pushed_in before) (pushed_among d port before h)) m

-- no more came than there are entries
moved_fewer : (job : Job) (w : World) (history : List Entry) (n : ℕ) → Sound job w → IsJoint w.logs history → length (came_below w n) ≤ length history
moved_fewer job w history n s joint =
    let a = apart_length (came_below w n) (pushed_in history) (came_below_apart w n s.delivers) (λ d m.
    (let P : List Entry → Type 0 = λ log. PushedIn d log in
    pushed_among d d.src.0 history (subst P (sym (joint.logs_are d.src.0)) (came_in w n d s.delivers m).1))) in
    let b = pushed_fewer history in
    omega arith

-- the log of the newest entry's port is one longer
log_longer : (e : Entry) (before : List Entry) → length (log_of e.port.0 (e ∷ before)) ≡ length (log_of e.port.0 before) + 1
log_longer e before = at_log_of (λ (log : List Entry). length log ≡ length (log_of e.port.0 before) + 1) e.port.0 e before (λ is. omega arith) (λ other. absurd (other refl))

-- other logs are as long as before
log_same : (e : Entry) (before : List Entry) (p : ℕ) → (p ≡ e.port.0 → ⊥) → length (log_of p (e ∷ before)) ≡ length (log_of p before)
log_same e before p other = at_log_of (λ (log : List Entry). length log ≡ length (log_of p before)) p e before (λ is. absurd (other (sym is))) (λ no. refl)

-- the log of an entry's port is not empty
never_empty : (e : Entry) (before : List Entry) → log_of e.port.0 (e ∷ before) ≡ [] → ⊥
never_empty e before none =
    let a = log_longer e before in
    let b = ap (λ (log : List Entry). length log) none in
    absurd (omega arith)

-- zeros have the sum zero
none_sum : (n : ℕ) → sum_below (λ p. 0) n ≡ 0
unfolding sum_below
none_sum zero = refl
none_sum (suc n) = let a = none_sum n in omega arith

-- the ports of a history that has no entries of ports from n on
outside_before : (n : ℕ) (e : Entry) (before : List Entry) → ((p : ℕ) → n ≤ p → log_of p (e ∷ before) ≡ []) → (p : ℕ) → n ≤ p → log_of p before ≡ []
outside_before n e before h p past =
    at_log_of (λ (log : List Entry). log ≡ [] → log_of p before ≡ []) p e before (λ is none. cc) (λ other none. none) (h p past)

-- the newest entry's port is below n
inside : (n : ℕ) (e : Entry) (before : List Entry) → ((p : ℕ) → n ≤ p → log_of p (e ∷ before) ≡ []) → e.port.0 < n
inside n e before h =
    elim (cases_lt e.port.0 n) [
      | inl less ↦ less
      | inr past ↦ (let none = h e.port.0 past in absurd (never_empty e before none))
    ]

-- the entries of all ports are those of the history
entries_sum : (n : ℕ) (history : List Entry) → ((p : ℕ) → n ≤ p → log_of p history ≡ []) → sum_below (λ p. length (log_of p history)) n ≡ length history
unfolding log_of
entries_sum n [] h = none_sum n
entries_sum n (e ∷ before) h =
    let was = entries_sum n before (outside_before n e before h) in
    let more = sum_change (λ p. length (log_of p before)) (λ p. length (log_of p (e ∷ before))) e.port.0 n 1 (inside n e before h) (log_same e before) (log_longer e before) in
    omega arith

-- what ports have of the changes: entries, and datagrams that came
sum_parts : (w : World) (n : ℕ) → sum_below (measure w) n ≡ sum_below (λ p. length (w.logs p)) n + sum_below (λ p. count handles_by (w.logs p) + length (w.stashes p)) n
unfolding sum_below measure
sum_parts w zero = refl
sum_parts w (suc n) = let a = sum_parts w n in omega arith

-- the changes of a world are at most twice its entries
pub changes_bound : (job : Job) (w : World) (history : List Entry) → Sound job w → OutsideEmpty job w → IsCounted job w → IsJoint w.logs history → w.changes ≤ 2 * length history
changes_bound job w history s empty counted joint =
    let n = port_count job in
    let parts = sum_parts w n in
    let came = came_length w n in
    let fewer = moved_fewer job w history n s joint in
    let outside : (p : ℕ) → n ≤ p → log_of p history ≡ [] = λ p past. joint.logs_are p ∙ empty p past in
    let entries = entries_sum n history outside in
    let same = sum_same (λ p. length (log_of p history)) (λ p. length (w.logs p)) n (λ p less. ap (λ (log : List Entry). length log) (sym (joint.logs_are p))) in
    omega arith
