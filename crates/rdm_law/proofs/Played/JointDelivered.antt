-- Over inboxes that deliver, the joint history of the logs is delivered.
use Rattle.std.proofs.Common.{◌≡◌, ℕ, List, [], ◌∷◌, refl, sym, ◌∙◌, ap, subst}
use Rattle.rdm_num.specs.declared.numbers.PortNo.{PortNo}
use Rattle.rdm_wire.specs.declared.Datagram.{Datagram}
use Rattle.rdm_model.specs.declared.entry.Entry.{Entry}
use Rattle.rdm_model.specs.declared.entry.Act.{Act}
use Rattle.rdm_model.specs.declared.entry.Act.TheVariants.{Next, Push, Handle, Poll}
use Rattle.rdm_model.specs.Deeds.{log_of}
use Rattle.rdm_model.specs.Wire.{PushedIn, IsOther, IsUnhandled}
use Rattle.rdm_model.specs.Joint.{IsJoint, ComesFrom, IsDelivered}
use Rattle.rdm_law.specs.Worlds.{WasPushed, TookOnce}
use Rattle.rdm_law.proofs.Lives.Logs.{log_of-same, at_log_of}
use Rattle.rdm_law.proofs.Played.Delivers.{AreNumbered, Delivers, pushed_once}

-- what each log of a history handled had waited, and so without the newest entry
waited_before : (logs : ℕ → List Entry) (e : Entry) (before : List Entry) (p : ℕ) → TookOnce logs p (log_of p (e ∷ before)) → TookOnce logs p (log_of p before)
waited_before logs e before p =
    at_log_of (λ (log : List Entry). TookOnce logs p log → TookOnce logs p (log_of p before)) p e before (λ is h. h.0) (λ other h. h)

-- what the newest entry handled had waited
waited_newest : (logs : ℕ → List Entry) (e : Entry) (before : List Entry) → ((p : ℕ) → TookOnce logs p (log_of p (e ∷ before)))
    → WasPushed logs e.port.0 (log_of e.port.0 before) e.act
waited_newest logs e before h =
    let P : List Entry → Type 0 = λ log. TookOnce logs e.port.0 log in
    let mine : TookOnce logs e.port.0 (e ∷ log_of e.port.0 before) = subst P (log_of-same e.port.0 e before refl) (h e.port.0) in
    mine.1

-- a datagram that its own port did not handle was handled by none
other_entry : (logs : ℕ → List Entry) (d : Datagram) (e : Entry) (before : List Entry) (act : Act) → ((p : ℕ) → AreNumbered p (logs p)) → PushedIn d (logs d.src.0)
    → WasPushed logs e.port.0 (log_of e.port.0 before) act → (e.port.0 ≡ d.dst.0 → IsOther d act) → IsOther d act
other_entry logs d e before (Handle q answer) n pushed waited mine =
    λ s k.
    let src : q.src.0 ≡ d.src.0 = ap (λ (x : PortNo). x.0) s in
    let same : PushedIn q (logs d.src.0) = subst (λ (x : ℕ). PushedIn q (logs x)) src waited.1 in
    let one : q ≡ d = pushed_once d.src.0 (logs d.src.0) q d (n d.src.0) same pushed k in
    mine (sym waited.0 ∙ ap (λ (x : Datagram). x.dst.0) one) s k
other_entry logs d e before (Next index op answer) n pushed waited mine = tt
other_entry logs d e before (Push q) n pushed waited mine = tt
other_entry logs d e before (Poll c) n pushed waited mine = tt

-- a datagram that its port did not handle was not handled before, nor by the newest entry
unhandled_newest : (d : Datagram) (e : Entry) (before : List Entry) → IsUnhandled d (log_of d.dst.0 (e ∷ before))
    → IsUnhandled d (log_of d.dst.0 before) × (e.port.0 ≡ d.dst.0 → IsOther d e.act)
unhandled_newest d e before =
    at_log_of (λ (log : List Entry). IsUnhandled d log → IsUnhandled d (log_of d.dst.0 before) × (e.port.0 ≡ d.dst.0 → IsOther d e.act)) d.dst.0 e before
    (λ is h. (h.0, λ here. h.1)) (λ other h. (h, λ here. absurd (other here)))

-- a datagram that its port did not handle was handled by no port
pub unhandled_by_all : (logs : ℕ → List Entry) (d : Datagram) (history : List Entry) → ((p : ℕ) → AreNumbered p (logs p)) → PushedIn d (logs d.src.0)
    → ((p : ℕ) → TookOnce logs p (log_of p history)) → IsUnhandled d (log_of d.dst.0 history) → IsUnhandled d history
unhandled_by_all logs d [] n pushed waited h = tt
unhandled_by_all logs d (e ∷ before) n pushed waited h =
    let k = unhandled_newest d e before h in (
      unhandled_by_all logs d before n pushed (λ p. waited_before logs e before p (waited p)) k.0,
      other_entry logs d e before e.act n pushed (waited_newest logs e before waited) k.1,
    )

-- what an entry handled comes from a push, once
comes_from : (logs : ℕ → List Entry) (e : Entry) (before : List Entry) (act : Act) → ((p : ℕ) → AreNumbered p (logs p))
    → ((p : ℕ) → TookOnce logs p (log_of p before)) → WasPushed logs e.port.0 (log_of e.port.0 before) act → ComesFrom logs before e act
comes_from logs e before (Handle d answer) n waited h =
    let mine : IsUnhandled d (log_of d.dst.0 before) = subst (λ (x : ℕ). IsUnhandled d (log_of x before)) (sym h.0) h.2 in
    (ap (λ (x : ℕ). record { 0 = x }) h.0, h.1, unhandled_by_all logs d before n h.1 waited mine)
comes_from logs e before (Next index op answer) n waited h = tt
comes_from logs e before (Push d) n waited h = tt
comes_from logs e before (Poll c) n waited h = tt

-- so of a whole history
pub delivered_from : (logs : ℕ → List Entry) (history : List Entry) → ((p : ℕ) → AreNumbered p (logs p)) → ((p : ℕ) → TookOnce logs p (log_of p history))
    → IsDelivered logs history
delivered_from logs [] n waited = tt
delivered_from logs (e ∷ before) n waited =
    let earlier : (p : ℕ) → TookOnce logs p (log_of p before) = λ p. waited_before logs e before p (waited p) in
    (delivered_from logs before n earlier, comes_from logs e before e.act n earlier (waited_newest logs e before waited))

-- the joint history of logs whose inboxes deliver is delivered
pub joint_delivered : (logs : ℕ → List Entry) (waiting : ℕ → List Datagram) (history : List Entry) → Delivers logs waiting → IsJoint logs history → IsDelivered logs history
joint_delivered logs waiting history i joint =
    delivered_from logs history i.numbered
    (λ p. (let P : List Entry → Type 0 = λ log. TookOnce logs p log in subst P (sym (joint.logs_are p)) (i.handled p)))
