-- Each way in which a push ends is as the definitions say.
use Rattle.std.proofs.Common.{◌≡◌, ◌<◌, ◌≤◌, ℕ, ◌+◌, ◌∷◌, Option, Some, None, refl, ap, ◌∙◌, sym, subst}
use Rattle.std.specs.Prelude.{IsTrue, IsFalse, option_map}
use Rattle.std.proofs.lemmas.Bool.{le-leb, lt-leb}
use Rattle.rdm_wire.specs.declared.Datagram.{Datagram}
use Rattle.rdm_model.specs.declared.job.Job.{Job}
use Rattle.rdm_model.specs.declared.entry.Act.{Act}
use Rattle.rdm_model.specs.declared.answer.Push.TheVariants.{Pushed, Idle, Full, Worn}
use Rattle.rdm_model.specs.Steps.{stamp_after}
use Rattle.rdm_model.specs.Settled.{is_worn}
use Rattle.rdm_port.specs.declared.going.Departure.{Departure}
use Rattle.rdm_port.specs.Views.{PortView, IsPortOf, logged}
use Rattle.rdm_port.specs.Kept.{Kept, IsKept, entry_of, with_log}
use Rattle.rdm_port.specs.Machine.{departing, datagram_by}
use Rattle.rdm_port.specs.Pushes.{out_of, PushedAs, DoesPush}
use Rattle.rdm_port.proofs.Counted.{worn_is, logged_is}
use Rattle.rdm_port.proofs.PushAgrees.{push_agrees}

-- the clock is at its end
pub is_worn_now : (job : Job) (v : PortView) (k : Kept) → IsPortOf job v → IsKept v k → 9223372036854775807 ≤ k.clock → IsTrue (is_worn job v.log)
is_worn_now job v k p h l = worn_is job v k p h ∙ le-leb 9223372036854775807 k.clock l

-- the clock is not at its end
pub not_worn_now : (job : Job) (v : PortView) (k : Kept) → IsPortOf job v → IsKept v k → k.clock < 9223372036854775807 → IsFalse (is_worn job v.log)
not_worn_now job v k p h l = worn_is job v k p h ∙ lt-leb 9223372036854775807 k.clock l

-- an entry at the next stamp is the one of the definitions
pub next_logged : (job : Job) (v : PortView) (k : Kept) (act : Act) → IsPortOf job v → IsKept v k → stamp_after k.clock act ≡ k.clock + 1
    → with_log v (entry_of v (k.clock + 1) act ∷ v.log) ≡ logged job v act
next_logged job v k act p h e = sym (logged_is job v k act p h ∙ ap (λ (n : ℕ). with_log v (entry_of v n act ∷ v.log)) e)

-- the next datagram is the one that departs
next_departs : (job : Job) (v : PortView) (k : Kept) (o : Option Departure) → IsPortOf job v → IsKept v k → departing k ≡ o → out_of job v ≡ option_map (datagram_by v k) o
next_departs job v k o p h e = push_agrees job v k p h ∙ ap (option_map (datagram_by v k)) e

-- where nothing departs, there is no next datagram
pub push_idle : (v : PortView) (k : Kept) → IsKept v k → departing k ≡ None → DoesPush v v Idle
push_idle v k h e job p = subst (λ (d : Option Datagram). PushedAs job v v d Idle) (sym (next_departs job v k None p h e)) refl

-- the clock is at its end
pub push_worn : (v : PortView) (k : Kept) (o : Departure) → IsKept v k → departing k ≡ Some o → 9223372036854775807 ≤ k.clock → DoesPush v v Worn
push_worn v k o h e l job p =
    subst (λ (d : Option Datagram). PushedAs job v v d Worn) (sym (next_departs job v k (Some o) p h e)) (is_worn_now job v k p h l, refl)

-- the queue of the port is full
pub push_full : (v : PortView) (k : Kept) (o : Departure) → IsKept v k → departing k ≡ Some o → k.clock < 9223372036854775807 → DoesPush v v (Full o.dst)
push_full v k o h e l job p =
    subst (λ (d : Option Datagram). PushedAs job v v d (Full o.dst)) (sym (next_departs job v k (Some o) p h e)) (not_worn_now job v k p h l, refl, refl)

-- the port with the push in its log
abbrev pub pushed_port : PortView → Kept → Departure → PortView
pushed_port v k o = with_log v (entry_of v (k.clock + 1) (Act.Push (datagram_by v k o)) ∷ v.log)

-- a push counts one
stamp_of_push : (now : ℕ) (d : Datagram) → stamp_after now (Act.Push d) ≡ now + 1
unfolding stamp_after
stamp_of_push now d = refl

-- the datagram was pushed
pub push_pushed : (v : PortView) (k : Kept) (o : Departure) → IsKept v k → departing k ≡ Some o → k.clock < 9223372036854775807
    → DoesPush v (pushed_port v k o) (Pushed (record { 0 = k.pushed }))
push_pushed v k o h e l job p =
    let d = datagram_by v k o in
    subst (λ (x : Option Datagram). PushedAs job v (pushed_port v k o) x (Pushed (record { 0 = k.pushed }))) (sym (next_departs job v k (Some o) p h e))
    (not_worn_now job v k p h l, refl, next_logged job v k (Act.Push d) p h (stamp_of_push k.clock d))
