-- By the stamps, what is taken was pushed before.
use Rattle.std.proofs.Common.{◌≡◌, ℕ, ◌<◌, ◌≤◌, List, [], ◌∷◌, refl, arith, ◌⊎◌, inl, inr, sym, ap, subst}
use Rattle.rdm_num.specs.declared.numbers.Stamp.{Stamp}
use Rattle.rdm_wire.specs.declared.Datagram.{Datagram}
use Rattle.rdm_model.specs.declared.job.Job.{Job}
use Rattle.rdm_model.specs.declared.answer.Handled.{Handled}
use Rattle.rdm_model.specs.declared.entry.Entry.{Entry}
use Rattle.rdm_model.specs.declared.entry.Act.{Act}
use Rattle.rdm_model.specs.declared.entry.Act.TheVariants.{Next, Push, Handle, Poll}
use Rattle.rdm_model.specs.Deeds.{log_of}
use Rattle.rdm_model.specs.Scenes.{deeds_at}
use Rattle.rdm_model.specs.Classes.{class_of}
use Rattle.rdm_model.specs.Steps.{clock, stamp_after, Does}
use Rattle.rdm_model.specs.Local.{own_scene, Local}
use Rattle.rdm_model.specs.Wire.{PushedIn, Comes, Wire, IsAbove, IsInOrder}
use Rattle.rdm_model.specs.Joint.{IsJoint, ComesFrom, IsDelivered}
use Rattle.rdm_law.proofs.Lives.Logs.{log_of-same, at_log_of, local_before}

-- no stamp passes this one
abbrev pub Within : ℕ → List Entry → Type 0
Within top [] = Unit {0}
Within top (e ∷ before) = Within top before × (e.stamp.0 ≤ top)

-- a greater stamp is not passed either
within_more : (top more : ℕ) (log : List Entry) → top ≤ more → Within top log → Within more log
within_more top more [] h w = tt
within_more top more (e ∷ before) h w = (within_more top more before h w.0, omega arith)

-- stamps do not fall
above_newest : (e f : Entry) (before : List Entry) → IsAbove e (f ∷ before) → f.stamp.0 ≤ e.stamp.0
above_newest e f before (inl a) = omega arith
above_newest e f before (inr a) = let s = ap (λ (x : Stamp). x.0) a.0 in omega arith

-- no older entry has a greater stamp
in_order_within : (e : Entry) (before : List Entry) → IsInOrder (e ∷ before) → Within e.stamp.0 before
in_order_within e [] o = tt
in_order_within e (f ∷ before) o =
    let newest = above_newest e f before o.1 in
    (within_more f.stamp.0 e.stamp.0 before newest (in_order_within f before o.0), newest)

-- a datagram that was handled has a lesser stamp than its handling
handle_above : (now : ℕ) (e : Entry) (d : Datagram) (answer : Handled) → e.stamp.0 ≡ stamp_after now (Handle d answer) → d.stamp.0 < e.stamp.0
unfolding stamp_after
handle_above now e d answer h = omega arith

-- a datagram that the newest entry pushed has its stamp
pushed_or_before : (job : Job) (port : ℕ) (e : Entry) (before : List Entry) (d : Datagram)
    → Local job port (log_of port (e ∷ before)) → PushedIn d (log_of port (e ∷ before)) → (d.stamp.0 ≡ e.stamp.0) ⊎ PushedIn d (log_of port before)
pushed_or_before job port e before d =
    at_log_of (λ log. Local job port log → PushedIn d log → (d.stamp.0 ≡ e.stamp.0) ⊎ PushedIn d (log_of port before)) port e before
    (λ s l h. elim h [
      | inl is ↦
          let s = own_scene job port (deeds_at job port (log_of port before)) in
          let P : Act → Type 0 = λ act. Does job class_of s (log_of port before) e act in
          let does : Does job class_of s (log_of port before) e (Push d) = subst P is l.2.2 in
          inl (ap (λ (x : Stamp). x.0) does.2)
      | inr a ↦ inr a
    ])
    (λ s l h. inr h)

-- a handled datagram is older than its handling
stamp_of_handle : (job : Job) (e : Entry) (before : List Entry) (d : Datagram) (answer : Handled)
    → Local job e.port.0 (log_of e.port.0 (e ∷ before)) → e.act ≡ Handle d answer → d.stamp.0 < e.stamp.0
stamp_of_handle job e before d answer l is =
    let P : List Entry → Type 0 = λ log. Local job e.port.0 log in
    let mine : Local job e.port.0 (e ∷ log_of e.port.0 before) = subst P (log_of-same e.port.0 e before refl) l in
    let Q : Act → Type 0 = λ act. e.stamp.0 ≡ stamp_after (clock job (log_of e.port.0 before)) act in
    handle_above (clock job (log_of e.port.0 before)) e d answer (subst Q is mine.2.0)

-- what comes from logs with a newer entry comes from those without it
comes_from_before : (job : Job) (newer : Entry) (whole : List Entry) (e : Entry) (before : List Entry) (act : Act)
    → ((port : ℕ) → Local job port (log_of port (newer ∷ whole)))
    → e.stamp.0 ≤ newer.stamp.0 → ((d : Datagram) (answer : Handled) → act ≡ Handle d answer → d.stamp.0 < e.stamp.0)
    → ComesFrom (λ port. log_of port (newer ∷ whole)) before e act → ComesFrom (λ port. log_of port whole) before e act
comes_from_before job newer whole e before (Handle d answer) ls le above c =
    let less = above d answer refl in
    (c.0, elim (pushed_or_before job d.src.0 newer whole d (ls d.src.0) c.1) [ inl a ↦ absurd (omega arith) | inr a ↦ a ], c.2)
comes_from_before job newer whole e before (Next index op answer) ls le above c = tt
comes_from_before job newer whole e before (Push d) ls le above c = tt
comes_from_before job newer whole e before (Poll p) ls le above c = tt

-- what is delivered from logs with a newer entry is delivered from those without it
delivered_before : (job : Job) (newer : Entry) (whole history : List Entry)
    → ((port : ℕ) → Local job port (log_of port (newer ∷ whole))) → ((port : ℕ) → Local job port (log_of port history))
    → Within newer.stamp.0 history
    → IsDelivered (λ port. log_of port (newer ∷ whole)) history → IsDelivered (λ port. log_of port whole) history
delivered_before job newer whole [] ls ks w d = tt
delivered_before job newer whole (e ∷ before) ls ks w d =
    let earlier : (port : ℕ) → Local job port (log_of port before) = λ port. local_before job port e before (ks port) in (
      delivered_before job newer whole before ls earlier w.0 d.0,
      comes_from_before job newer whole e before e.act ls w.1 (λ x answer is. stamp_of_handle job e before x answer (ks e.port.0) is) d.1,
    )

-- the newest handling is of what was pushed before
comes_at : (job : Job) (e : Entry) (before : List Entry) (act : Act) → ((port : ℕ) → Local job port (log_of port (e ∷ before)))
    → ((d : Datagram) (answer : Handled) → act ≡ Handle d answer → d.stamp.0 < e.stamp.0)
    → ComesFrom (λ port. log_of port (e ∷ before)) before e act → Comes before e act
comes_at job e before (Handle d answer) ls above c =
    let less = above d answer refl in
    (c.0, elim (pushed_or_before job d.src.0 e before d (ls d.src.0) c.1) [ inl a ↦ absurd (omega arith) | inr a ↦ a ], c.2)
comes_at job e before (Next index op answer) ls above c = tt
comes_at job e before (Push d) ls above c = tt
comes_at job e before (Poll p) ls above c = tt

-- in order of the stamps, the wire keeps its law
pub wire_from : (job : Job) (history : List Entry) → IsInOrder history → ((port : ℕ) → Local job port (log_of port history))
    → IsDelivered (λ port. log_of port history) history → Wire history
wire_from job [] o ls d = tt
wire_from job (e ∷ before) o ls d =
    let earlier : (port : ℕ) → Local job port (log_of port before) = λ port. local_before job port e before (ls port) in (
      wire_from job before o.0 earlier (delivered_before job e before before ls earlier (in_order_within e before o) d.0),
      comes_at job e before e.act ls (λ x answer is. stamp_of_handle job e before x answer (ls e.port.0) is) d.1,
    )

-- a datagram comes from logs that are the same
same_comes : (logs ks : ℕ → List Entry) (before : List Entry) (e : Entry) (act : Act) → ((port : ℕ) → logs port ≡ ks port)
    → ComesFrom logs before e act → ComesFrom ks before e act
same_comes logs ks before e (Handle d answer) s c = (c.0, (let P : List Entry → Type 0 = λ log. PushedIn d log in subst P (s d.src.0) c.1), c.2)
same_comes logs ks before e (Next index op answer) s c = tt
same_comes logs ks before e (Push d) s c = tt
same_comes logs ks before e (Poll p) s c = tt

-- so do all
same_delivered : (logs ks : ℕ → List Entry) (history : List Entry) → ((port : ℕ) → logs port ≡ ks port) → IsDelivered logs history → IsDelivered ks history
same_delivered logs ks [] s d = tt
same_delivered logs ks (e ∷ before) s d = (same_delivered logs ks before s d.0, same_comes logs ks before e e.act s d.1)

-- logs that are right by themselves, over inboxes that deliver, have a history on a wire that delivers
pub record JointParts (job : Job) (history : List Entry) : Type 0 where
  pub locals : (port : ℕ) → Local job port (log_of port history)
  pub wire : Wire history

-- the joint history of such logs
pub joint_parts : (job : Job) (logs : ℕ → List Entry) (history : List Entry) → IsJoint logs history → IsDelivered logs history
    → ((port : ℕ) → Local job port (logs port)) → JointParts job history
joint_parts job logs history joint d ls =
    let P : ℕ → List Entry → Type 0 = λ port log. Local job port log in
    let mine : (port : ℕ) → Local job port (log_of port history) = λ port. subst (P port) (sym (joint.logs_are port)) (ls port) in
    let came = same_delivered logs (λ port. log_of port history) history (λ port. sym (joint.logs_are port)) d in
    record { locals = mine; wire = wire_from job history joint.in_order mine came }
