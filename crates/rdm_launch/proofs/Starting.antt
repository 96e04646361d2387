-- Fresh ports with the passes of new inboxes fit their places.
use Rattle.std.proofs.Common.{◌≡◌, ℕ, zero, suc, ◌<◌, ◌≤◌, List, [], ◌++◌, length, replicate, Some, refl, ap, sym, ◌∙◌, subst, inl, inr, arith, ◌∷◌}
use Rattle.std.specs.Prelude.{slice_get, slice_index_or}
use Rattle.std.proofs.lemmas.Option.{slice_get_within}
use Rattle.rdm_lists.specs.Lists.{Member}
use Rattle.rdm_wire.specs.declared.Datagram.{Datagram}
use Rattle.rdm_inbox.specs.Senders.{list_at}
use Rattle.rdm_inbox.specs.Passes.{InboxState}
use Rattle.rdm_inbox.specs.Queues.{PassesState, QueuesState, InboxesState, AreAllPasses, AreNew, taken_by, flights_to}
use Rattle.rdm_inbox.specs.Sharing.{AreOpened}
use Rattle.rdm_model.specs.declared.entry.Entry.{Entry}
use Rattle.rdm_model.specs.Local.{Local}
use Rattle.rdm_model.specs.declared.job.Job.{Job}
use Rattle.rdm_model.specs.Beginnings.{port_count}
use Rattle.rdm_port.specs.Views.{PortView, IsPortOf, new_port}
use Rattle.rdm_launch.specs.Logs.{pushed_to, handled_in}
use Rattle.rdm_launch.specs.Reordered.{IsReordered}
use Rattle.rdm_launch.specs.Packing.{AllFit}
use Rattle.rdm_launch.specs.Launched.{CanLaunch, ArePortsOf, IsFresh, AreFresh}
use Rattle.rdm_launch.proofs.Packings.{snoc_at}
use Rattle.rdm_launch.proofs.Wholes.{element_at}

-- lists that are all empty have nothing at any place
nothing_at : (n i : ℕ) → list_at (replicate n []) i ≡ []
nothing_at zero i = refl
nothing_at (suc n) zero = refl
nothing_at (suc n) (suc i) = nothing_at n i

nothing_in : (n m to i : ℕ) → list_at (slice_index_or (replicate n (replicate m [])) to []) i ≡ []
nothing_in zero m to i = refl
nothing_in (suc n) m zero i = nothing_at m i
nothing_in (suc n) m (suc to) i = nothing_in n m to i

-- as many tables as ports
pub tables_count : (starts : List PortView) (w : InboxesState) (queues : QueuesState) (all : List PassesState) → CanLaunch starts w → AreOpened w queues all
    → length queues.tables ≡ length starts
tables_count starts w queues all can opened = ap (λ (q : QueuesState). length q.tables) opened.same ∙ can.inboxes.count

-- a port that did nothing has pushed and handled nothing
none_pushed : (to : ℕ) (log : List Entry) → log ≡ [] → pushed_to to log ≡ []
unfolding pushed_to
none_pushed to log e = ap (pushed_to to) e

none_handled : (log : List Entry) → log ≡ [] → handled_in log ≡ []
unfolding handled_in
none_handled log e = ap handled_in e

pub fresh_fits : (starts : List PortView) (w : InboxesState) (queues : QueuesState) (all : List PassesState) → CanLaunch starts w → AreOpened w queues all
    → AllFit queues.tables starts starts all
fresh_fits starts w queues all can opened i p v is are =
    let f = can.fresh i p is in
    let mine = opened.passes.each i v are in
    let flights : (to : ℕ) → list_at (flights_to w to) i ≡ [] =
    λ to. ap (λ (ls : List (List (List Datagram))). list_at (slice_index_or ls to []) i) can.inboxes.nothing ∙ nothing_in (length starts) (length starts) to i in
    let empty : handled_in p.log ++ p.stash ≡ [] = ap (λ (l : List Datagram). l ++ p.stash) (none_handled p.log f.no_log) ∙ f.no_stash in (
      record {
        start = p;
        started = is;
        same = (refl, refl, refl, refl, refl, refl);
        number = f.number;
        ports = f.ports ∙ sym (tables_count starts w queues all can opened);
        own = mine.1;
        pushed = λ to. none_pushed to p.log f.no_log ∙ sym (opened.sent i to v are ∙ flights to);
        taken = subst (λ (l : List Datagram). IsReordered l (taken_by v)) (sym empty) (opened.taken i v are);
        came = λ d m. elim (subst (λ (l : List Datagram). Member d l) (opened.taken i v are) m) [ ];
        right = λ job fair of' built. subst (λ (log : List Entry). Local job p.number log) (sym f.no_log) tt;
      },
      mine.0,
    )

-- the passes of ports in their places are all passes
pub all_passes : (tables : List InboxState) (starts ports : List PortView) (all : List PassesState) → AllFit tables starts ports all → length all ≡ length ports → length ports ≡ length tables
    → AreAllPasses tables all
all_passes tables starts ports all fits same count = record {
  each = λ i v is.
      let within : i < length all = slice_get_within all i v is in
      let p = element_at ports i (subst (λ (n : ℕ). i < n) same within) in
      let f = fits i p.0 v p.1 is in
      (f.1, f.0.own);
  count = same ∙ count;
}

-- each is the new port of its place
abbrev pub AreNewPorts : Job → List PortView → Type 0
AreNewPorts job ports = (i : ℕ) (p : PortView) → slice_get ports i ≡ Some p → p ≡ new_port job i

pub none_new : (job : Job) (ports : List PortView) → length ports ≡ 0 → AreNewPorts job ports
none_new job [] none i p is = absurd (cc)
none_new job (q ∷ ports) none i p is = absurd (omega arith)

pub one_more_new : (job : Job) (ports longer : List PortView) (q : PortView) (n : ℕ) → longer ≡ ports ++ q ∷ [] → n ≡ length ports → q ≡ new_port job n → AreNewPorts job ports
    → AreNewPorts job longer
one_more_new job ports longer q n long count new all i p is =
    elim (snoc_at ports q i p (sym (ap (λ (l : List PortView). slice_get l i) long) ∙ is)) [
      | inl a ↦ all i p a
      | inr a ↦ sym a.1 ∙ new ∙ ap (new_port job) (count ∙ sym a.0)
    ]

-- so they are the job's, and fresh
pub are_fresh : (job : Job) (ports : List PortView) → length ports ≡ port_count job → AreNewPorts job ports → ArePortsOf job ports × AreFresh ports
are_fresh job ports count new = (
  (
    count,
    λ i p is.
        let within : i < port_count job = subst (λ (n : ℕ). i < n) count (slice_get_within ports i p is) in
        subst (IsPortOf job) (sym (new i p is)) (record { within = within; ports_are = refl; inbox_is = refl; start_is = refl; limits_are = refl; rank_is = refl }),
  ),
  λ i p is. subst (IsFresh (length ports) i) (sym (new i p is)) (record { number = refl; ports = sym count; no_log = refl; no_stash = refl }),
)

-- fresh ports of a job and new inboxes for so many can be launched
pub can_launch : (job : Job) (ports : List PortView) (w : InboxesState) (n size : ℕ) → port_count job ≡ n → 0 < n → n ≤ 16 → ArePortsOf job ports × AreFresh ports → AreNew n size w → CanLaunch ports w
can_launch job ports w n size count some few fresh new =
    let long : length ports ≡ n = fresh.0.0 ∙ count in
    record {
      some = omega arith;
      few = omega arith;
      fresh = fresh.1;
      inboxes = subst (λ (k : ℕ). AreNew k w.queues.size w) (sym long) (subst (λ (k : ℕ). AreNew n k w) (sym new.places) new);
    }
