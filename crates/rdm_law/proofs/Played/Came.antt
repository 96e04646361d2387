-- What came to a port: a stash that has what waits by the logs has what waits in their joint history.
use Rattle.std.proofs.Common.{◌≡◌, ℕ, zero, suc, List, [], ◌∷◌, length, slice_get, Some, IsTrue, refl, arith, inl, inr, sym, ◌∙◌, ap, subst}
use Rattle.rdm_lists.specs.Lists.{Member}
use Rattle.rdm_num.specs.declared.numbers.PortNo.{PortNo}
use Rattle.rdm_wire.specs.declared.Datagram.{Datagram}
use Rattle.rdm_model.specs.declared.job.Job.{Job}
use Rattle.rdm_model.specs.declared.entry.Entry.{Entry}
use Rattle.rdm_model.specs.declared.entry.Act.{Act}
use Rattle.rdm_model.specs.declared.entry.Act.TheVariants.{Next, Push, Handle, Poll}
use Rattle.rdm_model.specs.Deeds.{log_of}
use Rattle.rdm_model.specs.Wire.{PushedIn, IsUnhandled}
use Rattle.rdm_model.specs.Local.{Local}
use Rattle.rdm_model.specs.Joint.{IsJoint, IsDelivered, ComesFrom}
use Rattle.rdm_model.specs.Settled.{waiting_datagrams}
use Rattle.rdm_model.specs.Jobs.{is_fair, law_ops}
use Rattle.rdm_law.specs.Worlds.{WasPushed, TookOnce}
use Rattle.rdm_law.specs.Worlds.{IsWaiting, HasWaiting}
use Rattle.rdm_law.proofs.Accounts.Wired.{Played}
use Rattle.rdm_law.proofs.Central.Joint.{joint_parts}
use Rattle.rdm_law.proofs.Lives.Logs.{at_log_of}
use Rattle.rdm_law.proofs.Settled.Delivered.{numbered}
use Rattle.rdm_law.proofs.Played.Apart.{DiffersFrom, AreApart}
use Rattle.rdm_law.proofs.Played.Delivers.{AreNumbered, pushed_once}
use Rattle.rdm_law.proofs.Played.JointDelivered.{unhandled_by_all}
use Rattle.rdm_law.proofs.Played.Waiting.{apart_length, waits_in_history}
use Rattle.rdm_law.proofs.Played.WaitingAll.{WaitsThere, WaitsOnce, waits_once, unhandled_in_log}
use Rattle.rdm_lists.proofs.Places.{member_at}

-- what an entry handled had waited for its port
had_waited : (logs : ℕ → List Entry) (e : Entry) (before : List Entry) (port : ℕ) (act : Act) → ComesFrom logs before e act → e.port.0 ≡ port
    → WasPushed logs port (log_of port before) act
had_waited logs e before port (Handle d answer) c is = (ap (λ (p : PortNo). p.0) c.0 ∙ is, c.1, unhandled_in_log d port before c.2)
had_waited logs e before port (Next index op answer) c is = tt
had_waited logs e before port (Push d) c is = tt
had_waited logs e before port (Poll p) c is = tt

-- so of all that a port handled in a history that is delivered
all_had_waited : (logs : ℕ → List Entry) (history : List Entry) (port : ℕ) → IsDelivered logs history → TookOnce logs port (log_of port history)
unfolding log_of
all_had_waited logs [] port d = tt
all_had_waited logs (e ∷ before) port d =
    let earlier = all_had_waited logs before port d.0 in
    at_log_of (λ (log : List Entry). TookOnce logs port log) port e before (λ is. (earlier, had_waited logs e before port e.act d.1 is)) (λ other. earlier)

-- datagrams that wait, each at one place, are apart
apart_at_places : (logs : ℕ → List Entry) (port : ℕ) (ds : List Datagram) → ((p : ℕ) → AreNumbered p (logs p))
    → ((d : Datagram) → Member d ds → IsWaiting logs port d)
    → ((k l : ℕ) (d : Datagram) → slice_get ds k ≡ Some d → slice_get ds l ≡ Some d → k ≡ l) → AreApart ds
apart_at_places logs port [] n only once = tt
apart_at_places logs port (x ∷ ds) n only once =
    let first : DiffersFrom x ds =
    λ q m s number.
    let here : PushedIn x (logs x.src.0) = (only x (inl refl)).1 in
    let there : PushedIn q (logs x.src.0) = subst (λ (p : ℕ). PushedIn q (logs p)) (ap (λ (p : PortNo). p.0) s) (only q (inr m)).1 in
    let one : q ≡ x = pushed_once x.src.0 (logs x.src.0) q x (n x.src.0) there here number in
    let at = member_at q ds m in
    let twice : zero ≡ suc at.0 = once zero (suc at.0) x refl (at.1 ∙ ap (λ (d : Datagram). Some d) one) in
    absurd (omega arith) in
    let rest : AreApart ds =
    apart_at_places logs port ds n (λ d m. only d (inr m)) (λ k l d a b. (let e = once (suc k) (suc l) d a b in omega arith)) in
    (first, rest)

-- what waits in the joint history is in the stash
pub waits_in_stash : (logs : ℕ → List Entry) (history : List Entry) (port : ℕ) (ds : List Datagram) (d : Datagram) → IsJoint logs history → HasWaiting logs port ds
    → WaitsThere port history d → Member d ds
waits_in_stash logs history port ds d joint has there =
    let P : List Entry → Type 0 = λ log. PushedIn d log in
    let U : List Entry → Type 0 = λ log. IsUnhandled d log in
    has.all d (there.for_it, subst P (joint.logs_are d.src.0) there.pushed, subst U (joint.logs_are port) (unhandled_in_log d port history there.fresh))

-- what is in the stash waits in the joint history
stash_waits : (logs : ℕ → List Entry) (history : List Entry) (port : ℕ) (d : Datagram) → ((p : ℕ) → AreNumbered p (logs p)) → IsJoint logs history → IsDelivered logs history
    → IsWaiting logs port d → Member d (waiting_datagrams port history)
stash_waits logs history port d n joint delivered w =
    let P : List Entry → Type 0 = λ log. PushedIn d log in
    let U : List Entry → Type 0 = λ log. IsUnhandled d log in
    let pushed : PushedIn d (log_of d.src.0 history) = subst P (sym (joint.logs_are d.src.0)) w.1 in
    let here : IsUnhandled d (log_of port history) = subst U (sym (joint.logs_are port)) w.2 in
    let mine : IsUnhandled d (log_of d.dst.0 history) = subst (λ (p : ℕ). IsUnhandled d (log_of p history)) (sym w.0) here in
    let fresh : IsUnhandled d history = unhandled_by_all logs d history n w.1 (λ p. all_had_waited logs history p delivered) mine in
    subst (λ (p : ℕ). Member d (waiting_datagrams p history)) w.0 (waits_in_history history d pushed fresh)

-- the history of local logs over inboxes that deliver
pub record Joined (job : Job) (logs : ℕ → List Entry) (history : List Entry) : Type 0 where
  pub joint : IsJoint logs history
  pub delivered : IsDelivered logs history
  pub local : (port : ℕ) → Local job port (logs port)
  pub played : Played job history

-- such logs have one
pub joined : (job : Job) (logs : ℕ → List Entry) (history : List Entry) → IsTrue (is_fair law_ops job) → IsJoint logs history → IsDelivered logs history
    → ((port : ℕ) → Local job port (logs port)) → Joined job logs history
joined job logs history fair joint delivered local =
    let parts = joint_parts job logs history joint delivered local in
    record { joint = joint; delivered = delivered; local = local; played = record { fair = fair; locals = parts.locals; wire = parts.wire } }

-- what waits in such a history waits once
pub waits_there : (job : Job) (logs : ℕ → List Entry) (history : List Entry) (port : ℕ) → Joined job logs history → WaitsOnce port history
waits_there job logs history port j = waits_once port history j.played.wire (λ p. numbered job p (log_of p history) (j.played.locals p))

-- a stash that has what waits has as many datagrams as wait in the history
pub stash_count : (job : Job) (logs : ℕ → List Entry) (history : List Entry) (port : ℕ) (ds : List Datagram) → Joined job logs history → HasWaiting logs port ds
    → length ds ≡ length (waiting_datagrams port history)
stash_count job logs history port ds j has =
    let n : (p : ℕ) → AreNumbered p (logs p) = λ p. numbered job p (logs p) (j.local p) in
    let there = waits_there job logs history port j in
    let a = apart_length ds (waiting_datagrams port history) (apart_at_places logs port ds n has.only has.once)
    (λ d m. stash_waits logs history port d n j.joint j.delivered (has.only d m)) in
    let b = apart_length (waiting_datagrams port history) ds there.apart (λ d m. waits_in_stash logs history port ds d j.joint has (there.each d m)) in
    omega arith
