-- How pushes and polls end, by what the code makes of the log and of what the port keeps.
use Rattle.std.proofs.Common.{◌≡◌, ◌<◌, ◌≤◌, ℕ, ◌+◌, min, true, false, List, ◌∷◌, Option, Some, None, refl, ap, ◌∙◌, sym, subst, arith}
use Rattle.std.specs.Prelude.{is_some}
use Rattle.rdm_num.specs.declared.numbers.PortNo.{PortNo}
use Rattle.rdm_num.specs.declared.completion.Completion.{Completion}
use Rattle.rdm_wire.specs.declared.Body.{Body}
use Rattle.rdm_wire.specs.declared.Body.TheVariants.{Note, Between}
use Rattle.rdm_wire.specs.declared.Datagram.{Datagram}
use Rattle.rdm_model.specs.declared.entry.Entry.{Entry}
use Rattle.rdm_model.specs.declared.entry.Act.{Act}
use Rattle.rdm_model.specs.declared.answer.Push.{Push}
use Rattle.rdm_model.specs.declared.answer.Push.TheVariants.{Pushed}
use Rattle.rdm_model.specs.declared.answer.Polled.{Polled as Answer}
use Rattle.rdm_model.specs.declared.answer.Polled.TheVariants as P
use Rattle.rdm_port.specs.declared.going.Departure.{Departure}
use Rattle.rdm_port.specs.Views.{PortView}
use Rattle.rdm_port.specs.Kept.{Kept, IsKept, entry_of, with_log}
use Rattle.rdm_port.specs.Machine.{departing, datagram_by, after_went, push_counted, completion_in, after_polled, poll_counted}
use Rattle.rdm_port.specs.Pushes.{DoesPush}
use Rattle.rdm_port.specs.Polls.{DoesPoll}
use Rattle.rdm_port.proofs.PushKept.{push_kept}
use Rattle.rdm_port.proofs.PushDoes.{pushed_port, push_pushed}
use Rattle.rdm_port.proofs.Polled.{polled_port, poll_kept, poll_polled}

-- the next stamp fits
pub next_stamp : (stamp clock now : ℕ) → stamp ≡ min (clock + 1) 18446744073709551615 → clock ≡ now → now < 9223372036854775807 → stamp ≡ now + 1
next_stamp stamp clock now e f l = omega arith

-- an entry by that number is one of the port
entry_is : (v : PortView) (number : PortNo) (stamp at : ℕ) (act : Act) → v.number ≡ number.0 → stamp ≡ at
    → ◌≡◌ {A = Entry} (record { stamp = record { 0 = stamp }; port = number; act = act }) (entry_of v at act)
entry_is v number stamp at act e f =
    ap (λ (n : ℕ). entry_of (record v { number = n }) stamp act) (sym e) ∙ ap (λ (n : ℕ). entry_of v n act) f

-- a push that leaves the port
pub push_stays : (v : PortView) (k : Kept) (log : List Entry) (answer : Push) → v.log ≡ log → IsKept v k → DoesPush v v answer
    → IsKept (with_log v log) k × DoesPush v (with_log v log) answer
push_stays v k log answer e h d = subst (λ (l : List Entry). IsKept (with_log v l) k × DoesPush v (with_log v l) answer) e (h, d)

-- a poll that leaves the port
pub poll_stays : (v : PortView) (k : Kept) (log : List Entry) (answer : Answer) → v.log ≡ log → IsKept v k → DoesPoll v v answer
    → IsKept (with_log v log) k × DoesPoll v (with_log v log) answer
poll_stays v k log answer e h d = subst (λ (l : List Entry). IsKept (with_log v l) k × DoesPoll v (with_log v l) answer) e (h, d)

-- where none waits, there is no first completion
pub none_waits : (o : Option Completion) → is_some o ≡ false → o ≡ None
none_waits None e = refl
none_waits (Some c) e = cc

-- where one waits, there is a first completion
pub one_waits : (o : Option Completion) → is_some o ≡ true → (c : Completion) × (o ≡ Some c)
one_waits None e = cc
one_waits (Some c) e = (c, refl)

-- what is kept after a poll, by what the code writes
pub polled_view : (x k : Kept) (stamp : ℕ) → x ≡ after_polled k → stamp ≡ k.clock + 1 → record x { clock = stamp } ≡ poll_counted (after_polled k)
polled_view x k stamp e f = ap (λ (y : Kept). record y { clock = stamp }) e ∙ ap (λ (n : ℕ). record (after_polled k) { clock = n }) f

-- a poll of a completion
pub poll_ends : (v : PortView) (k n : Kept) (c given copy : Completion) (number : PortNo) (stamp : ℕ) (was log : List Entry)
    → v.number ≡ number.0 → v.log ≡ was → IsKept v k → completion_in k.endpoint ≡ Some c → given ≡ c → copy ≡ c → k.clock < 9223372036854775807
    → stamp ≡ k.clock + 1 → log ≡ record { stamp = record { 0 = stamp }; port = number; act = Act.Poll copy } ∷ was → n ≡ poll_counted (after_polled k)
    → IsKept (with_log v log) n × DoesPoll v (with_log v log) (P.Some given)
poll_ends v k n c given copy number stamp was log vn vl h q g y l s e m =
    let act : Act.Poll copy ≡ Act.Poll c = ap Act.Poll y in
    let is : entry_of v (k.clock + 1) (Act.Poll c) ∷ v.log ≡ log =
    sym (e ∙ ap (λ (x : Entry). x ∷ was) (entry_is v number stamp (k.clock + 1) (Act.Poll copy) vn s ∙ ap (entry_of v (k.clock + 1)) act) ∙ ap (λ (x : List Entry). entry_of v (k.clock + 1) (Act.Poll c) ∷ x) (sym vl)) in (
      subst (λ (x : List Entry). IsKept (with_log v x) n) is (subst (IsKept (polled_port v k c)) (sym m) (poll_kept v k c h q)),
      subst (λ (x : List Entry). DoesPoll v (with_log v x) (P.Some given)) is (subst (λ (x : Completion). DoesPoll v (polled_port v k c) (P.Some x)) (sym g) (poll_polled v k c h q l)),
    )

-- what goes out leaves the clock
went_clock : (body : Body) (k : Kept) → (after_went body k).clock ≡ k.clock
unfolding after_went
went_clock (Note note) k = refl
went_clock (Between from to load) k = refl

-- what goes out leaves the count of pushes
went_pushed : (body : Body) (k : Kept) → (after_went body k).pushed ≡ k.pushed
unfolding after_went
went_pushed (Note note) k = refl
went_pushed (Between from to load) k = refl

-- what is kept after a push, by what the code writes
pub pushed_view : (x k : Kept) (body : Body) (stamp pushes : ℕ) → x ≡ after_went body k → stamp ≡ k.clock + 1 → pushes ≡ min (x.pushed + 1) 18446744073709551615
    → k.pushed ≤ k.clock → k.clock < 9223372036854775807 → record x { pushed = pushes; clock = stamp } ≡ push_counted (after_went body k)
pushed_view x k body stamp pushes e f g few l =
    let w = after_went body k in
    let c = went_clock body k in
    let p = went_pushed body k in
    let xp : x.pushed ≡ k.pushed = ap (λ (y : Kept). y.pushed) e ∙ p in
    let s : stamp ≡ w.clock + 1 = omega arith in
    let n : pushes ≡ w.pushed + 1 = omega arith in
    ap (λ (y : Kept). record y { pushed = pushes; clock = stamp }) e
    ∙ ap (λ (a : ℕ). record w { pushed = a; clock = stamp }) n
    ∙ ap (λ (a : ℕ). record w { pushed = w.pushed + 1; clock = a }) s

-- a push of a datagram
pub push_ends : (v : PortView) (k n : Kept) (o : Departure) (number : PortNo) (stamp : ℕ) (copy : Datagram) (was log : List Entry)
    → v.number ≡ number.0 → v.log ≡ was → IsKept v k → departing k ≡ Some o → k.clock < 9223372036854775807 → stamp ≡ k.clock + 1
    → copy ≡ record { src = number; number = record { 0 = k.pushed }; stamp = record { 0 = stamp }; dst = o.dst; body = o.body }
    → log ≡ record { stamp = record { 0 = stamp }; port = number; act = Act.Push copy } ∷ was → n ≡ push_counted (after_went o.body k)
    → IsKept (with_log v log) n × DoesPush v (with_log v log) (Pushed (record { 0 = k.pushed }))
push_ends v k n o number stamp copy was log vn vl h q l s y e m =
    let d = datagram_by v k o in
    let same : copy ≡ d =
    y
    ∙ ap (λ (a : ℕ). record { src = number; number = record { 0 = k.pushed }; stamp = record { 0 = a }; dst = o.dst; body = o.body }) s
    ∙ ap (λ (a : ℕ). datagram_by (record v { number = a }) k o) (sym vn) in
    let act : Act.Push copy ≡ Act.Push d = ap Act.Push same in
    let is : entry_of v (k.clock + 1) (Act.Push d) ∷ v.log ≡ log =
    sym (e ∙ ap (λ (x : Entry). x ∷ was) (entry_is v number stamp (k.clock + 1) (Act.Push copy) vn s ∙ ap (entry_of v (k.clock + 1)) act) ∙ ap (λ (x : List Entry). entry_of v (k.clock + 1) (Act.Push d) ∷ x) (sym vl)) in (
      subst (λ (x : List Entry). IsKept (with_log v x) n) is (subst (IsKept (pushed_port v k o)) (sym m) (push_kept v k o h q)),
      subst (λ (x : List Entry). DoesPush v (with_log v x) (Pushed (record { 0 = k.pushed }))) is (push_pushed v k o h q l),
    )
