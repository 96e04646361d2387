-- What waits by the logs waits in the history too.
use Rattle.std.proofs.Common.{◌≡◌, ℕ, ◌≤◌, Bool, true, false, cond, not, ◌&&◌, eqb-true, eq-eqb, List, [], ◌∷◌, ◌++◌, length, refl, arith, ◌⊎◌, inl, inr, sym, ap, subst, length-append}
use Rattle.std.specs.Prelude.{◌==◌}
use Rattle.std.proofs.lemmas.Bool.{and_parts}
use Rattle.rdm_lists.specs.Lists.{Member}
use Rattle.rdm_num.specs.declared.numbers.PortNo.{PortNo}
use Rattle.rdm_num.specs.declared.numbers.DatagramNo.{DatagramNo}
use Rattle.rdm_wire.specs.declared.Datagram.{Datagram}
use Rattle.rdm_model.specs.declared.entry.Entry.{Entry}
use Rattle.rdm_model.specs.declared.entry.Act.{Act}
use Rattle.rdm_model.specs.declared.entry.Act.TheVariants.{Next, Push, Handle, Poll}
use Rattle.rdm_model.specs.Deeds.{log_of}
use Rattle.rdm_model.specs.Wire.{PushedIn, IsOther, IsUnhandled}
use Rattle.rdm_model.specs.Joint.{IsJoint}
use Rattle.rdm_model.specs.Settled.{same_datagram, waiting_after, waiting_datagrams}
use Rattle.rdm_law.specs.Worlds.{TookOnce}
use Rattle.rdm_law.proofs.Played.Apart.{AreApart, member_without}
use Rattle.rdm_law.proofs.Played.Delivers.{Delivers}
use Rattle.rdm_law.proofs.Lives.Logs.{at_log_of}
use Rattle.rdm_law.proofs.Played.JointDelivered.{unhandled_by_all}
use Rattle.rdm_lists.proofs.Members.{member-append_left, member-append_right, filter-member}

-- an element of a list stands between two parts
pub record Split {A : Type 0} (x : A) (xs : List A) : Type 0 where
  pub front : List A
  pub back : List A
  pub is : xs ≡ front ++ x ∷ back

-- an element of a list has such a split
pub member_split : {A : Type 0} (x : A) (xs : List A) → Member x xs → Split x xs
member_split x [] m = elim m [ ]
member_split x (y ∷ xs) (inl is) = record { front = []; back = xs; is = ap (λ z. z ∷ xs) is }
member_split {A} x (y ∷ xs) (inr m) = let s = member_split x xs m in record { front = y ∷ s.front; back = s.back; is = ap (λ (l : List A). y ∷ l) s.is }

-- a list of datagrams apart is no longer than a list that has each of them
pub apart_length : (xs ys : List Datagram) → AreApart xs → ((d : Datagram) → Member d xs → Member d ys) → length xs ≤ length ys
apart_length [] ys a has = omega arith
apart_length (x ∷ xs) ys a has =
    let s = member_split x ys (has x (inl refl)) in
    let rest : (d : Datagram) → Member d xs → Member d (s.front ++ s.back) =
    λ d m. elim (member_without d x s.front s.back (subst (λ (l : List Datagram). Member d l) s.is (has d (inr m)))) [
      | inl same ↦ absurd (a.0 d m (ap (λ (y : Datagram). y.src) (sym same)) (ap (λ (y : Datagram). y.number) (sym same)))
      | inr k ↦ k
    ] in
    let shorter = apart_length xs (s.front ++ s.back) a.1 rest in
    let b = length-append s.front s.back in
    let c = length-append s.front (x ∷ s.back) in
    let d = ap length s.is in
    omega arith

-- a datagram that was not handled is none that an entry handles
other_datagram : (d q : Datagram) → (q.src ≡ d.src → q.number ≡ d.number → ⊥) → not (same_datagram q d) ≡ true
unfolding same_datagram
other_datagram d q h =
    (elim ((q.src.0 == d.src.0) && (q.number.0 == d.number.0)) as (λ b. ((q.src.0 == d.src.0) && (q.number.0 == d.number.0)) ≡ b → not b ≡ true) [
      | true ↦ λ is.
          let both = and_parts (q.src.0 == d.src.0) (q.number.0 == d.number.0) is in
          let s : q.src ≡ d.src = ap (λ (n : ℕ). let x : PortNo = record { 0 = n } in x) (eqb-true _ _ both.0) in
          let n : q.number ≡ d.number = ap (λ (n : ℕ). let x : DatagramNo = record { 0 = n } in x) (eqb-true _ _ both.1) in
          absurd (h s n)
      | false ↦ λ is. refl
    ]) refl

-- what waits goes on to wait
still_waits : (port : ℕ) (act : Act) (ds : List Datagram) (d : Datagram) → Member d ds → IsOther d act → Member d (waiting_after port act ds)
unfolding waiting_after
still_waits port (Push q) ds d m other =
    (elim (q.dst.0 == port) as (λ b. Member d (cond b (ds ++ q ∷ []) ds)) [ true ↦ member-append_left d ds (q ∷ []) m | false ↦ m ])
still_waits port (Handle q answer) ds d m other = filter-member (λ x. not (same_datagram q x)) d ds m (other_datagram d q other)
still_waits port (Next index op answer) ds d m other = m
still_waits port (Poll c) ds d m other = m

-- what is pushed to a port waits
pushed_waits : (act : Act) (ds : List Datagram) (d : Datagram) → act ≡ Push d → Member d (waiting_after d.dst.0 act ds)
unfolding waiting_after
pushed_waits act ds d is =
    let P : Act → Type 0 = λ x. Member d (waiting_after d.dst.0 x ds) in
    let Q : Bool → Type 0 = λ b. Member d (cond b (ds ++ d ∷ []) ds) in
    subst P (sym is) (subst Q (sym (eq-eqb d.dst.0 d.dst.0 refl)) (member-append_right d ds (d ∷ []) (inl refl)))

-- a datagram was pushed by the newest entry or before
newest_or_before : (e : Entry) (before : List Entry) (d : Datagram) → PushedIn d (log_of d.src.0 (e ∷ before)) → (e.act ≡ Push d) ⊎ PushedIn d (log_of d.src.0 before)
newest_or_before e before d =
    at_log_of (λ (log : List Entry). PushedIn d log → (e.act ≡ Push d) ⊎ PushedIn d (log_of d.src.0 before)) d.src.0 e before (λ is h. h) (λ no h. inr h)

-- what was pushed and not handled waits
pub waits_in_history : (history : List Entry) (d : Datagram) → PushedIn d (log_of d.src.0 history) → IsUnhandled d history → Member d (waiting_datagrams d.dst.0 history)
unfolding waiting_datagrams log_of
waits_in_history [] d h k = elim h [ ]
waits_in_history (e ∷ before) d h k =
    let ds = waiting_datagrams d.dst.0 before in
    elim (newest_or_before e before d h) [
      | inl now ↦ pushed_waits e.act ds d now
      | inr was ↦ still_waits d.dst.0 e.act ds d (waits_in_history before d was k.0) k.1
    ]

-- what waits by the logs waits in their joint history
pub waits_jointly : (logs : ℕ → List Entry) (waiting : ℕ → List Datagram) (history : List Entry) (port : ℕ) (d : Datagram) → Delivers logs waiting → IsJoint logs history
    → Member d (waiting port) → Member d (waiting_datagrams port history)
waits_jointly logs waiting history port d i joint m =
    let w = i.waits port d m in
    let P : List Entry → Type 0 = λ log. PushedIn d log in
    let pushed : PushedIn d (log_of d.src.0 history) = subst P (sym (joint.logs_are d.src.0)) w.pushed in
    let Q : List Entry → Type 0 = λ log. IsUnhandled d log in
    let fresh : IsUnhandled d (logs d.dst.0) = subst (λ (x : ℕ). IsUnhandled d (logs x)) (sym w.for_it) w.fresh in
    let mine : IsUnhandled d (log_of d.dst.0 history) = subst Q (sym (joint.logs_are d.dst.0)) fresh in
    let all = unhandled_by_all logs d history i.numbered w.pushed
    (λ p. (let R : List Entry → Type 0 = λ log. TookOnce logs p log in subst R (sym (joint.logs_are p)) (i.handled p))) mine in
    subst (λ (x : ℕ). Member d (waiting_datagrams x history)) w.for_it (waits_in_history history d pushed all)

-- no more wait by the logs than in the history
pub waiting_bound : (logs : ℕ → List Entry) (waiting : ℕ → List Datagram) (history : List Entry) (port : ℕ) → Delivers logs waiting → IsJoint logs history
    → length (waiting port) ≤ length (waiting_datagrams port history)
waiting_bound logs waiting history port i joint =
    apart_length (waiting port) (waiting_datagrams port history) (i.apart port) (λ d m. waits_jointly logs waiting history port d i joint m)
