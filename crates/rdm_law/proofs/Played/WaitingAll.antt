-- What waits in a history waits by the logs.
use Rattle.std.proofs.Common.{◌≡◌, ℕ, Bool, true, false, cond, not, eqb-true, eq-eqb, List, [], ◌∷◌, ◌++◌, length, refl, arith, true≢false, inl, inr, sym, ◌∙◌, ap, subst}
use Rattle.std.specs.Prelude.{◌==◌, filter}
use Rattle.std.proofs.lemmas.Bool.{and_from}
use Rattle.rdm_lists.specs.Lists.{Member}
use Rattle.rdm_num.specs.declared.numbers.PortNo.{PortNo}
use Rattle.rdm_num.specs.declared.numbers.DatagramNo.{DatagramNo}
use Rattle.rdm_wire.specs.declared.Datagram.{Datagram}
use Rattle.rdm_model.specs.declared.entry.Entry.{Entry}
use Rattle.rdm_model.specs.declared.entry.Act.{Act}
use Rattle.rdm_model.specs.declared.entry.Act.TheVariants.{Next, Push, Handle, Poll}
use Rattle.rdm_model.specs.Deeds.{log_of}
use Rattle.rdm_model.specs.Steps.{count, pushes_by}
use Rattle.rdm_model.specs.Wire.{PushedIn, IsOther, IsUnhandled, Comes, Wire}
use Rattle.rdm_model.specs.Joint.{IsJoint}
use Rattle.rdm_model.specs.Settled.{same_datagram, waiting_after, waiting_datagrams}
use Rattle.rdm_law.proofs.Played.Apart.{Differ, AreApart, apart_push}
use Rattle.rdm_law.proofs.Played.Delivers.{IsNumbered, AreNumbered, Delivers}
use Rattle.rdm_law.proofs.Played.DeliverSteps.{next_is_new}
use Rattle.rdm_law.proofs.Lives.Logs.{log_of-same, at_log_of}
use Rattle.rdm_law.proofs.Played.Waiting.{apart_length, waiting_bound}
use Rattle.rdm_lists.proofs.Members.{member-append_cases, member-filter}

-- the pushes of each port of a history are numbered
abbrev pub PushesNumbered : List Entry → Type 0
PushesNumbered history = (port : ℕ) → AreNumbered port (log_of port history)

-- and so they were before the newest entry
numbered_before : (e : Entry) (before : List Entry) → PushesNumbered (e ∷ before) → PushesNumbered before
numbered_before e before n port =
    at_log_of (λ (log : List Entry). AreNumbered port log → AreNumbered port (log_of port before)) port e before (λ is h. h.0) (λ other h. h) (n port)

-- the push of the newest entry is numbered
numbered_newest : (e : Entry) (before : List Entry) → PushesNumbered (e ∷ before) → IsNumbered e.port.0 (log_of e.port.0 before) e.act
numbered_newest e before n =
    let P : List Entry → Type 0 = λ log. AreNumbered e.port.0 log in
    let mine : AreNumbered e.port.0 (e ∷ log_of e.port.0 before) = subst P (log_of-same e.port.0 e before refl) (n e.port.0) in
    mine.1

-- the newest entry pushes with the next number of its port
pushes_next : (e : Entry) (before : List Entry) (d : Datagram) → PushesNumbered (e ∷ before) → e.act ≡ Push d → (d.src.0 ≡ e.port.0) × (d.number.0 ≡ count pushes_by (log_of d.src.0 before))
pushes_next e before d n is =
    let P : Act → Type 0 = λ act. IsNumbered e.port.0 (log_of e.port.0 before) act in
    let mine : IsNumbered e.port.0 (log_of e.port.0 before) (Push d) = subst P is (numbered_newest e before n) in
    (mine.0, subst (λ (x : ℕ). d.number.0 ≡ count pushes_by (log_of x before)) (sym mine.0) mine.1)

-- what was pushed stays pushed in a longer history
pushed_longer : (e : Entry) (before : List Entry) (d : Datagram) (port : ℕ) → PushedIn d (log_of port before) → PushedIn d (log_of port (e ∷ before))
pushed_longer e before d port h = at_log_of (λ (log : List Entry). PushedIn d log) port e before (λ is. inr h) (λ other. h)

-- a new datagram is none that came over the wire
new_other : (before : List Entry) (e : Entry) (d : Datagram) (act : Act) → Comes before e act → ((q : Datagram) → PushedIn q (log_of q.src.0 before) → Differ d q) → IsOther d act
new_other before e d (Handle q answer) c new = new q c.1
new_other before e d (Next index op answer) c new = tt
new_other before e d (Push q) c new = tt
new_other before e d (Poll x) c new = tt

-- a datagram that is new was handled by none
new_handled : (history : List Entry) (d : Datagram) → Wire history → ((q : Datagram) → PushedIn q (log_of q.src.0 history) → Differ d q) → IsUnhandled d history
new_handled [] d w new = tt
new_handled (e ∷ before) d w new =
    let earlier : (q : Datagram) → PushedIn q (log_of q.src.0 before) → Differ d q = λ q h. new q (pushed_longer e before q q.src.0 h) in
    (new_handled before d w.0 earlier, new_other before e d e.act w.1 earlier)

-- a datagram that waits in a history is for the port, was pushed by its source, and was not handled
pub record WaitsThere (port : ℕ) (history : List Entry) (d : Datagram) : Type 0 where
  pub for_it : d.dst.0 ≡ port
  pub pushed : PushedIn d (log_of d.src.0 history)
  pub fresh : IsUnhandled d history

-- what waits in a history does so once
pub record WaitsOnce (port : ℕ) (history : List Entry) : Type 0 where
  pub each : (d : Datagram) → Member d (waiting_datagrams port history) → WaitsThere port history d
  pub apart : AreApart (waiting_datagrams port history)

-- what waited waits after an entry that doesn't handle it
waits_longer : (port : ℕ) (e : Entry) (before : List Entry) (d : Datagram) → WaitsThere port before d → IsOther d e.act → WaitsThere port (e ∷ before) d
waits_longer port e before d w other = record { for_it = w.for_it; pushed = pushed_longer e before d d.src.0 w.pushed; fresh = (w.fresh, other) }

-- datagrams that don't pass as the same differ
differs : (q d : Datagram) → not (same_datagram q d) ≡ true → q.src ≡ d.src → q.number ≡ d.number → ⊥
unfolding same_datagram
differs q d h s n =
    let a : (q.src.0 == d.src.0) ≡ true = eq-eqb q.src.0 d.src.0 (ap (λ (x : PortNo). x.0) s) in
    let b : (q.number.0 == d.number.0) ≡ true = eq-eqb q.number.0 d.number.0 (ap (λ (x : DatagramNo). x.0) n) in
    let both = and_from (q.src.0 == d.src.0) (q.number.0 == d.number.0) a b in
    true≢false (sym h ∙ ap (λ (c : Bool). not c) both)

-- the newest entry's datagram was pushed
newest_pushed : (e : Entry) (before : List Entry) (d : Datagram) → d.src.0 ≡ e.port.0 → e.act ≡ Push d → PushedIn d (log_of d.src.0 (e ∷ before))
newest_pushed e before d src is = at_log_of (λ (log : List Entry). PushedIn d log) d.src.0 e before (λ here. inl is) (λ other. absurd (other (sym src)))

-- datagrams that pass a test stay apart
filter_apart : (p : Datagram → Bool) (ds : List Datagram) → AreApart ds → AreApart (filter p ds)
filter_apart p [] a = tt
filter_apart p (d ∷ ds) a =
    (elim (p d) as (λ b. AreApart (cond b (d ∷ filter p ds) (filter p ds))) [
      | true ↦ ((λ q m. a.0 q (member-filter p q ds m).0), filter_apart p ds a.1)
      | false ↦ filter_apart p ds a.1
    ])

-- after each act
waits_after : (port : ℕ) (e : Entry) (before : List Entry) (act : Act) → e.act ≡ act → Wire before → PushesNumbered (e ∷ before) → WaitsOnce port before
    → ((d : Datagram) → Member d (waiting_after port act (waiting_datagrams port before)) → WaitsThere port (e ∷ before) d) × AreApart (waiting_after port act (waiting_datagrams port before))
unfolding waiting_after
waits_after port e before (Next index op answer) is w n o =
    ((λ d m. waits_longer port e before d (o.each d m) (let P : Act → Type 0 = λ x. IsOther d x in subst P (sym is) tt)), o.apart)
waits_after port e before (Poll c) is w n o =
    ((λ d m. waits_longer port e before d (o.each d m) (let P : Act → Type 0 = λ x. IsOther d x in subst P (sym is) tt)), o.apart)
waits_after port e before (Handle q answer) is w n o =
    let ds = waiting_datagrams port before in (
      (λ d m.
          let k = member-filter (λ x. not (same_datagram q x)) d ds m in
          waits_longer port e before d (o.each d k.0) (let P : Act → Type 0 = λ x. IsOther d x in subst P (sym is) (differs q d k.1))),
      filter_apart (λ x. not (same_datagram q x)) ds o.apart,
    )
waits_after port e before (Push q) is w n o =
    let ds = waiting_datagrams port before in
    let next = pushes_next e before q n is in
    let earlier : PushesNumbered before = numbered_before e before n in
    let new : (x : Datagram) → PushedIn x (log_of x.src.0 before) → Differ q x = next_is_new (λ (p : ℕ). log_of p before) q earlier next.1 in
    let other : (d : Datagram) → IsOther d e.act = λ d. (let P : Act → Type 0 = λ x. IsOther d x in subst P (sym is) tt) in
    let old : (d : Datagram) → Member d ds → WaitsThere port (e ∷ before) d = λ d m. waits_longer port e before d (o.each d m) (other d) in
    let now : q.dst.0 ≡ port → WaitsThere port (e ∷ before) q = λ here. record {
      for_it = here;
      pushed = newest_pushed e before q next.0 is;
      fresh = (new_handled before q w new, other q);
    } in
    (elim (q.dst.0 == port) as (λ b. (q.dst.0 == port) ≡ b
    → ((d : Datagram) → Member d (cond b (ds ++ q ∷ []) ds) → WaitsThere port (e ∷ before) d) × AreApart (cond b (ds ++ q ∷ []) ds)) [
      | true ↦ λ here. (
        (λ d m. elim (member-append_cases d ds (q ∷ []) m) [
          | inl k ↦ old d k
          | inr k ↦ elim k [ inl same ↦ subst (λ (x : Datagram). WaitsThere port (e ∷ before) x) same (now (eqb-true _ _ here)) | inr never ↦ elim never [ ] ]
        ]),
        apart_push ds q o.apart (λ x m. new x (o.each x m).pushed),
      )
      | false ↦ λ there. (old, o.apart)
    ]) refl

-- what waits in a history waits once
pub waits_once : (port : ℕ) (history : List Entry) → Wire history → PushesNumbered history → WaitsOnce port history
unfolding waiting_datagrams
waits_once port [] w n = record { each = λ d m. elim m [ ]; apart = tt }
waits_once port (e ∷ before) w n =
    let was = waits_once port before w.0 (numbered_before e before n) in
    let r = waits_after port e before e.act refl w.0 n was in
    record { each = r.0; apart = r.1 }

-- what no entry handled, no entry of a port handled
pub unhandled_in_log : (d : Datagram) (port : ℕ) (history : List Entry) → IsUnhandled d history → IsUnhandled d (log_of port history)
unfolding log_of
unhandled_in_log d port [] u = tt
unhandled_in_log d port (e ∷ before) u =
    at_log_of (λ (log : List Entry). IsUnhandled d log) port e before (λ is. (unhandled_in_log d port before u.0, u.1)) (λ other. unhandled_in_log d port before u.0)

-- what waits in the joint history waits by the logs
pub waits_by_logs : (logs : ℕ → List Entry) (waiting : ℕ → List Datagram) (history : List Entry) (port : ℕ) (d : Datagram) → Delivers logs waiting → IsJoint logs history → Wire history
    → Member d (waiting_datagrams port history) → Member d (waiting port)
waits_by_logs logs waiting history port d i joint w m =
    let numbered : PushesNumbered history = λ p. (let P : List Entry → Type 0 = λ log. AreNumbered p log in subst P (sym (joint.logs_are p)) (i.numbered p)) in
    let there = (waits_once port history w numbered).each d m in
    let P : List Entry → Type 0 = λ log. PushedIn d log in
    let U : List Entry → Type 0 = λ log. IsUnhandled d log in
    let pushed : PushedIn d (logs d.src.0) = subst P (joint.logs_are d.src.0) there.pushed in
    let fresh : IsUnhandled d (logs d.dst.0) = subst U (joint.logs_are d.dst.0) (unhandled_in_log d d.dst.0 history there.fresh) in
    subst (λ (p : ℕ). Member d (waiting p)) there.for_it (i.arrives d pushed fresh)

-- as many wait by the logs as in the joint history
pub waiting_count : (logs : ℕ → List Entry) (waiting : ℕ → List Datagram) (history : List Entry) (port : ℕ) → Delivers logs waiting → IsJoint logs history → Wire history
    → length (waiting port) ≡ length (waiting_datagrams port history)
waiting_count logs waiting history port i joint w =
    let numbered : PushesNumbered history = λ p. (let P : List Entry → Type 0 = λ log. AreNumbered p log in subst P (sym (joint.logs_are p)) (i.numbered p)) in
    let a = waiting_bound logs waiting history port i joint in
    let b = apart_length (waiting_datagrams port history) (waiting port) (waits_once port history w numbered).apart (λ d m. waits_by_logs logs waiting history port d i joint w m) in
    omega arith
