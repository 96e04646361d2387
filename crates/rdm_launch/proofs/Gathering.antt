-- What ports in their places left, with the inboxes that were closed.
use Rattle.std.proofs.Common.{◌≡◌, ℕ, ◌+◌, ◌<◌, List, ◌++◌, length, Option, Some, None, refl, ap, sym, ◌∙◌, subst, eq-eqb, arith, inl, inr, append_assoc}
use Rattle.std.specs.Prelude.{◌==◌, IsTrue, slice_get}
use Rattle.std.proofs.lemmas.List.Elements.{filter-append}
use Rattle.std.proofs.lemmas.Option.{slice_get_within}
use Rattle.rdm_lists.specs.Lists.{Member}
use Rattle.rdm_lists.proofs.Members.{member-append_left, member-append_right, member-append_cases, filter-member, member-filter}
use Rattle.rdm_num.specs.declared.numbers.PortNo.{PortNo}
use Rattle.rdm_wire.specs.declared.Datagram.{Datagram}
use Rattle.rdm_wire.specs.Queues.{IsFor}
use Rattle.rdm_inbox.specs.Passes.{InboxState}
use Rattle.rdm_inbox.specs.Queues.{PassesState, InboxesState, sent_to, taken_by, flights_to}
use Rattle.rdm_inbox.specs.Senders.{from_port, list_at, joined}
use Rattle.rdm_model.specs.declared.job.Job.{Job}
use Rattle.rdm_model.specs.Jobs.{is_fair, law_ops}
use Rattle.rdm_model.specs.Local.{Local}
use Rattle.rdm_model.specs.Wire.{PushedIn, IsUnhandled}
use Rattle.rdm_law.specs.Worlds.{TookOnce, IsWaiting, HasWaiting}
use Rattle.rdm_law.proofs.Played.Apart.{AreApart}
use Rattle.rdm_law.proofs.Played.Delivers.{pushed_below}
use Rattle.rdm_law.proofs.Played.Logs.{logs_are_delivered}
use Rattle.rdm_law.proofs.Settled.Delivered.{numbered}
use Rattle.rdm_port.specs.Views.{PortView, IsPortOf, IsSamePort}
use Rattle.rdm_launch.specs.Logs.{pushed_to, handled_in, log_or_none, logs_of}
use Rattle.rdm_launch.specs.Reordered.{IsReordered}
use Rattle.rdm_launch.specs.Fitting.{HandledBuilt, IsAtPlace}
use Rattle.rdm_launch.specs.Packing.{AllFit}
use Rattle.rdm_launch.specs.Launched.{ArePortsOf, AllBuilt, AreLawful, IsLaunched}
use Rattle.rdm_launch.proofs.Reorders.{reordered_more, reordered_filter, reordered_member, reordered_back, reordered_apart, apart_first}
use Rattle.rdm_launch.proofs.Placing.{still_of}
use Rattle.rdm_launch.proofs.Wholes.{element_at, pushed_in, pushed_apart, apart_by_source, unhandled, WerePushed, took_once}
use Rattle.rdm_launch.proofs.Waiting.{joined_in, in_joined, list_low, own_list, apart_across, apart_second, apart_once, pushed_member, not_handled}

one_port : (p q : PortView) → Some p ≡ Some q → p ≡ q
one_port p q e = cc

-- the same port, the other way round
same_back : (p q : PortView) → IsSamePort p q → IsSamePort q p
same_back p q h = (sym h.0, sym h.1, sym h.2, sym h.3, sym h.4, sym h.5)

-- what inboxes that were closed have left of what was sent
abbrev pub HaveLeft : InboxesState → List PassesState → Type 0
HaveLeft w all =
    (port from : ℕ) (v u : PassesState) → slice_get all port ≡ Some v → slice_get all from ≡ Some u → from_port from (taken_by v) ++ list_at (flights_to w port) from ≡ sent_to u port

-- the ports in their places with their passes, and the inboxes that were closed
pub record AreDone (tables : List InboxState) (starts ports : List PortView) (all : List PassesState) (w : InboxesState) : Type 0 where
  pub fits : AllFit tables starts ports all
  pub count : length ports ≡ length tables
  pub passes : length all ≡ length tables
  pub left : HaveLeft w all
  pub senders : (port : ℕ) → port < length tables → length (flights_to w port) ≡ length tables

module _ (tables : List InboxState) (starts ports : List PortView) (all : List PassesState) (w : InboxesState) (done : AreDone tables starts ports all w) where
  -- the passes of a port
  abbrev At : ℕ → PortView → Type 0
  At i p = (v : PassesState) × (slice_get all i ≡ Some v) × IsAtPlace tables starts p v i

  at : (i : ℕ) (p : PortView) → slice_get ports i ≡ Some p → At i p
  at i p is =
      let within : i < length ports = slice_get_within ports i p is in
      let low : i < length all = subst (λ (n : ℕ). i < n) (done.count ∙ sym done.passes) within in
      let found = element_at all i low in
      (found.0, found.1, (done.fits i p found.0 is found.1).0)

  -- the datagrams from one port to another
  all_moved : (to from : ℕ) (p q : PortView) → slice_get ports to ≡ Some p → slice_get ports from ≡ Some q
      → IsReordered (from_port from (handled_in p.log ++ p.stash) ++ list_at (flights_to w to) from) (pushed_to to q.log)
  all_moved to from p q is are =
      let a = at to p is in
      let b = at from q are in
      let mine : IsReordered (from_port from (handled_in p.log ++ p.stash)) (from_port from (taken_by a.0)) =
      reordered_filter (λ (d : Datagram). d.src.0 == from) (handled_in p.log ++ p.stash) (taken_by a.0) a.2.taken in
      subst (λ (l : List Datagram). IsReordered (from_port from (handled_in p.log ++ p.stash) ++ list_at (flights_to w to) from) l) (done.left to from a.0 b.0 a.1 b.1 ∙ sym (b.2.pushed to))
      (reordered_more (from_port from (handled_in p.log ++ p.stash)) (from_port from (taken_by a.0)) (list_at (flights_to w to) from) mine)

  -- what a port took comes from one of the ports
  source_low : (port : ℕ) (p : PortView) → slice_get ports port ≡ Some p → (d : Datagram) → Member d (handled_in p.log ++ p.stash) → d.src.0 < length ports
  source_low port p is d m =
      let a = at port p is in
      let taken : Member d (taken_by a.0) = reordered_member (handled_in p.log ++ p.stash) (taken_by a.0) d a.2.taken m in
      let for_it : IsFor port (length tables) d = a.2.came d taken in
      subst (λ (n : ℕ). d.src.0 < n) (sym done.count) for_it.1

  -- what it handled was pushed to it
  were_pushed : (port : ℕ) (p : PortView) → slice_get ports port ≡ Some p → WerePushed (logs_of ports) port (handled_in p.log)
  unfolding log_or_none
  were_pushed port p is d m =
      let found = element_at ports d.src.0 (source_low port p is d (member-append_left d (handled_in p.log) p.stash m)) in
      let mine : Member d (from_port d.src.0 (handled_in p.log ++ p.stash)) =
      filter-member (λ (x : Datagram). x.src.0 == d.src.0) d (handled_in p.log ++ p.stash) (member-append_left d (handled_in p.log) p.stash m) (eq-eqb d.src.0 d.src.0 refl) in
      let there : Member d (pushed_to port found.0.log) =
      reordered_member (from_port d.src.0 (handled_in p.log ++ p.stash) ++ list_at (flights_to w port) d.src.0) (pushed_to port found.0.log) d (all_moved port d.src.0 p found.0 is found.1)
      (member-append_left d (from_port d.src.0 (handled_in p.log ++ p.stash)) (list_at (flights_to w port) d.src.0) mine) in
      let r = pushed_in port found.0.log d there in
      (r.1, subst (λ (o : Option PortView). PushedIn d (log_or_none o)) (sym found.1) r.0)

  -- the log of a port of a fair job is right by itself
  own_local : (job : Job) → IsTrue (is_fair law_ops job) → ArePortsOf job starts → AllBuilt job (logs_of ports) → (port : ℕ) (p : PortView) → slice_get ports port ≡ Some p → Local job port p.log
  unfolding log_or_none
  own_local job fair are built port p is =
      let a = (at port p is).2 in
      let of_it : IsPortOf job p = still_of job p a.start (same_back a.start p a.same) (are.1 port a.start a.started) in
      let mine : HandledBuilt job port p.log = subst (λ (o : Option PortView). HandledBuilt job port (log_or_none o)) is (built port) in
      subst (λ (n : ℕ). Local job n p.log) a.number (a.right job fair of_it (subst (λ (n : ℕ). HandledBuilt job n p.log) (sym a.number) mine))

  each_local : (job : Job) → IsTrue (is_fair law_ops job) → ArePortsOf job starts → AllBuilt job (logs_of ports) → (port : ℕ) → Local job port (logs_of ports port)
  unfolding log_or_none
  each_local job fair are built port =
      (elim (slice_get ports port) as (λ o. slice_get ports port ≡ o → Local job port (log_or_none o)) [
        | None ↦ λ e. tt
        | Some p ↦ λ e. own_local job fair are built port p e
      ]) refl

  -- the logs of all ports are right by themselves
  abbrev Locals : Job → Type 0
  Locals job = (port : ℕ) (p : PortView) → slice_get ports port ≡ Some p → Local job port p.log

  -- what a port handled from another one, what is in its stash, and what is in flight
  line_is : (port from : ℕ) (p : PortView) → from_port from (handled_in p.log ++ p.stash) ++ list_at (flights_to w port) from
      ≡ from_port from (handled_in p.log) ++ (from_port from p.stash ++ list_at (flights_to w port) from)
  line_is port from p =
      ap (λ (l : List Datagram). l ++ list_at (flights_to w port) from) (filter-append (λ (d : Datagram). d.src.0 == from) (handled_in p.log) p.stash)
      ∙ append_assoc (from_port from (handled_in p.log)) (from_port from p.stash) (list_at (flights_to w port) from)

  -- no two of these datagrams have the same source and number
  line_apart : (job : Job) → Locals job → (port from : ℕ) (p q : PortView) → slice_get ports port ≡ Some p → slice_get ports from ≡ Some q
      → AreApart (from_port from (handled_in p.log) ++ (from_port from p.stash ++ list_at (flights_to w port) from))
  line_apart job local port from p q is are =
      subst AreApart (line_is port from p)
      (reordered_apart (from_port from (handled_in p.log ++ p.stash) ++ list_at (flights_to w port) from) (pushed_to port q.log) (all_moved port from p q is are)
      (pushed_apart from port q.log (numbered job from q.log (local from q are))))

  handled_apart : (job : Job) → Locals job → (port : ℕ) (p : PortView) → slice_get ports port ≡ Some p → AreApart (handled_in p.log)
  handled_apart job local port p is =
      apart_by_source (length ports) (handled_in p.log) (λ d m. source_low port p is d (member-append_left d (handled_in p.log) p.stash m))
      (λ from lt.
      let found = element_at ports from lt in
      apart_first (from_port from (handled_in p.log)) (from_port from p.stash ++ list_at (flights_to w port) from) (line_apart job local port from p found.0 is found.1))

  -- the datagrams in flight to a port, by sender
  flights_own : (job : Job) → Locals job → (port : ℕ) (p : PortView) → slice_get ports port ≡ Some p
      → (j : ℕ) (d : Datagram) → Member d (list_at (flights_to w port) j) → (j < length ports) × (d.src.0 ≡ 0 + j)
  flights_own job local port p is j d m =
      let here : port < length ports = slice_get_within ports port p is in
      let within : port < length tables = subst (λ (n : ℕ). port < n) done.count here in
      let low : j < length ports = subst (λ (n : ℕ). j < n) (done.senders port within ∙ sym done.count) (list_low (flights_to w port) d j m) in
      let found = element_at ports j low in
      let there : Member d (pushed_to port found.0.log) =
      reordered_member (from_port j (handled_in p.log ++ p.stash) ++ list_at (flights_to w port) j) (pushed_to port found.0.log) d (all_moved port j p found.0 is found.1)
      (member-append_right d (from_port j (handled_in p.log ++ p.stash)) (list_at (flights_to w port) j) m) in
      let source = (pushed_below j found.0.log d (numbered job j found.0.log (local j found.0 found.1)) (pushed_in port found.0.log d there).0).0 in
      (low, omega arith)

  -- one of them waits for the port
  waits : (job : Job) → Locals job → (port from : ℕ) (p q : PortView) → slice_get ports port ≡ Some p → slice_get ports from ≡ Some q
      → (d : Datagram) → d.src.0 ≡ from → Member d (from_port from p.stash ++ list_at (flights_to w port) from) → IsWaiting (logs_of ports) port d
  unfolding log_or_none
  waits job local port from p q is are d source m =
      let all : Member d (from_port from (handled_in p.log ++ p.stash) ++ list_at (flights_to w port) from) =
      subst (λ (l : List Datagram). Member d l) (sym (line_is port from p))
      (member-append_right d (from_port from (handled_in p.log)) (from_port from p.stash ++ list_at (flights_to w port) from) m) in
      let r = pushed_in port q.log d
      (reordered_member (from_port from (handled_in p.log ++ p.stash) ++ list_at (flights_to w port) from) (pushed_to port q.log) d (all_moved port from p q is are) all) in
      let pushed : PushedIn d (logs_of ports from) = subst (λ (o : Option PortView). PushedIn d (log_or_none o)) (sym are) r.0 in
      let fresh : IsUnhandled d p.log =
      unhandled d p.log
      (λ x k s e.
      let here : Member x (from_port from (handled_in p.log)) =
      filter-member (λ (y : Datagram). y.src.0 == from) x (handled_in p.log) k (eq-eqb x.src.0 from (ap (λ (n : PortNo). n.0) s ∙ source)) in
      apart_across (from_port from (handled_in p.log)) (from_port from p.stash ++ list_at (flights_to w port) from) x d (line_apart job local port from p q is are) here m (sym s) (sym e)) in
      (r.1, subst (λ (n : ℕ). PushedIn d (logs_of ports n)) (sym source) pushed, subst (λ (o : Option PortView). IsUnhandled d (log_or_none o)) (sym is) fresh)

  -- the stash of a port and what is in flight to it are what waits for it
  all_wait : (job : Job) → Locals job → (port : ℕ) (p : PortView) → slice_get ports port ≡ Some p → (d : Datagram) → Member d (p.stash ++ joined (flights_to w port))
      → IsWaiting (logs_of ports) port d
  all_wait job local port p is d m =
      elim (member-append_cases d p.stash (joined (flights_to w port)) m) [
        | inl k ↦
            let found = element_at ports d.src.0 (source_low port p is d (member-append_right d (handled_in p.log) p.stash k)) in
            waits job local port d.src.0 p found.0 is found.1 d refl
            (member-append_left d (from_port d.src.0 p.stash) (list_at (flights_to w port) d.src.0) (filter-member (λ (y : Datagram). y.src.0 == d.src.0) d p.stash k (eq-eqb d.src.0 d.src.0 refl)))
        | inr k ↦
            let r = joined_in (flights_to w port) d k in
            let own = flights_own job local port p is r.0 d r.1 in
            let found = element_at ports r.0 own.0 in
            let source : d.src.0 ≡ r.0 = (let e = own.1 in omega arith) in
            waits job local port r.0 p found.0 is found.1 d source (member-append_right d (from_port r.0 p.stash) (list_at (flights_to w port) r.0) r.1)
      ]

  -- what waits for a port is there
  wait_all : (port : ℕ) (p : PortView) → slice_get ports port ≡ Some p → (d : Datagram) → IsWaiting (logs_of ports) port d → Member d (p.stash ++ joined (flights_to w port))
  unfolding log_or_none
  wait_all port p is d h =
      (elim (slice_get ports d.src.0) as (λ o. slice_get ports d.src.0 ≡ o → PushedIn d (log_or_none o) → Member d (p.stash ++ joined (flights_to w port))) [
        | None ↦ λ e k. elim k [ ]
        | Some q ↦ λ e k.
            let from = d.src.0 in
            let back : Member d (from_port from (handled_in p.log) ++ (from_port from p.stash ++ list_at (flights_to w port) from)) =
            subst (λ (l : List Datagram). Member d l) (line_is port from p)
            (reordered_back (from_port from (handled_in p.log ++ p.stash) ++ list_at (flights_to w port) from) (pushed_to port q.log) d (all_moved port from p q is e) (pushed_member port q.log d k h.0)) in
            let fresh : IsUnhandled d p.log = subst (λ (o : Option PortView). IsUnhandled d (log_or_none o)) is h.2 in
            elim (member-append_cases d (from_port from (handled_in p.log)) (from_port from p.stash ++ list_at (flights_to w port) from) back) [
              | inl x ↦ absurd (not_handled d p.log fresh (member-filter (λ (y : Datagram). y.src.0 == from) d (handled_in p.log) x).0)
              | inr x ↦ elim (member-append_cases d (from_port from p.stash) (list_at (flights_to w port) from) x) [
                | inl y ↦ member-append_left d p.stash (joined (flights_to w port)) (member-filter (λ (z : Datagram). z.src.0 == from) d p.stash y).0
                | inr y ↦ member-append_right d p.stash (joined (flights_to w port)) (in_joined (flights_to w port) d from y)
              ]
            ]
      ]) refl h.1

  -- no two of them have the same source and number
  wait_apart : (job : Job) → Locals job → (port : ℕ) (p : PortView) → slice_get ports port ≡ Some p → AreApart (p.stash ++ joined (flights_to w port))
  wait_apart job local port p is =
      apart_by_source (length ports) (p.stash ++ joined (flights_to w port))
      (λ d m. elim (member-append_cases d p.stash (joined (flights_to w port)) m) [
        | inl k ↦ source_low port p is d (member-append_right d (handled_in p.log) p.stash k)
        | inr k ↦ let r = joined_in (flights_to w port) d k in let own = flights_own job local port p is r.0 d r.1 in let low = own.0 in let e = own.1 in omega arith
      ])
      (λ from lt.
      let found = element_at ports from lt in
      let zero_on : 0 + from ≡ from = omega arith in
      let list : from_port from (joined (flights_to w port)) ≡ list_at (flights_to w port) from =
      ap (λ (n : ℕ). from_port n (joined (flights_to w port))) (sym zero_on) ∙ own_list 0 (flights_to w port) from (λ j d m. (flights_own job local port p is j d m).1) in
      let rest = apart_second (from_port from (handled_in p.log)) (from_port from p.stash ++ list_at (flights_to w port) from) (line_apart job local port from p found.0 is found.1) in
      subst AreApart (sym (filter-append (λ (d : Datagram). d.src.0 == from) p.stash (joined (flights_to w port)) ∙ ap (λ (l : List Datagram). from_port from p.stash ++ l) list)) rest)

  all_waiting : (job : Job) → Locals job → (port : ℕ) (p : PortView) → slice_get ports port ≡ Some p → HasWaiting (logs_of ports) port (p.stash ++ joined (flights_to w port))
  all_waiting job local port p is = record {
    only = all_wait job local port p is;
    all = wait_all port p is;
    once = apart_once (p.stash ++ joined (flights_to w port)) (wait_apart job local port p is);
  }

  each_once : (job : Job) → Locals job → (port : ℕ) → TookOnce (logs_of ports) port (logs_of ports port)
  unfolding log_or_none
  each_once job local port =
      (elim (slice_get ports port) as (λ o. slice_get ports port ≡ o → TookOnce (logs_of ports) port (log_or_none o)) [
        | None ↦ λ e. tt
        | Some p ↦ λ e. took_once (logs_of ports) port p.log (were_pushed port p e) (handled_apart job local port p e)
      ]) refl

  all_lawful : (job : Job) → IsTrue (is_fair law_ops job) → ArePortsOf job starts → AllBuilt job (logs_of ports) → AreLawful job (logs_of ports)
  all_lawful job fair are built =
      let local = each_local job fair are built in
      let once = each_once job (own_local job fair are built) in
      record { local = local; once = once; joint = λ history joint. logs_are_delivered job (logs_of ports) history fair joint local once }

  -- the launch
  pub launched : length ports ≡ length starts → length w.flights ≡ length tables → IsLaunched starts ports w
  launched same flights = record {
    count = same;
    inboxes = flights ∙ sym done.count;
    same = λ i p q is are.
        let a = (at i q are).2 in
        subst (λ (x : PortView). IsSamePort x q) (one_port a.start p (sym a.started ∙ is)) a.same;
    moved = all_moved;
    lawful = all_lawful;
    waiting = λ job fair are built. all_waiting job (own_local job fair are built);
  }
