-- A stable sort by stamp of the logs of ports one after the other is their joint history.
use Rattle.std.proofs.Common.{◌≡◌, ℕ, ◌+◌, ◌<◌, ◌≤◌, Bool, List, reverse, filter, nat_cmp, Bor, arith, sym, ap, ◌∙◌, subst}
use Rattle.std.specs.Prelude.{◌==◌}
use denote.Param.Members.{Mut}
use Rattle.std.specs.Fn.{Called, ComputesKey}
use Rattle.std.proofs.lemmas.Fn.{always_returns_same}
use Rattle.std.specs.List.Sorted.{IsSortedByKey, IsStableByKey}
use Rattle.std.proofs.lemmas.List.Sorted.{IsNonDecreasingBy-from_sort}
use Rattle.std.proofs.lemmas.List.{reverse-reverse}
use Rattle.rdm_model.specs.declared.entry.Entry.{Entry}
use Rattle.rdm_model.specs.Deeds.{log_of}
use Rattle.rdm_model.specs.Joint.{IsJoint}
use Rattle.rdm_model.specs.Wire.{IsInOrder}
use Rattle.rdm_port.specs.Views.{PortView}
use Rattle.rdm_world.specs.Gathers.{logs_of, IsOwnLog, AreOwnLogs}
use Rattle.rdm_world.specs.Joined.{joined}
use Rattle.rdm_world.proofs.GatheredPairs.{Pairs, pairs_at, pairs_filter, pairs_reverse, pairs_weaker}
use Rattle.rdm_world.proofs.GatheredClasses.{tie, same_by_classes, pairs_by_classes}
use Rattle.rdm_world.proofs.GatheredOrder.{IsBelow, pairs_below, in_order_by}
use Rattle.rdm_world.proofs.GatheredLogs.{AreOwnFrom, log_of-reverse, log_is_filter, filters_commute, own_stamps, joined_ports, joined_at}

-- the number of an entry's stamp
abbrev pub stamp_of : Entry → ℕ
stamp_of e = e.stamp.0

-- own logs are so from zero on
own_from_zero : (ports : List PortView) → AreOwnLogs ports → AreOwnFrom 0 ports
own_from_zero ports own i = let e : i ≡ 0 + i = omega arith in subst (λ n. IsOwnLog n (logs_of ports i)) e (own i)

-- entries of one port keep the classes of stamps
classes_kept : (q : ℕ) (xs ys : List Entry) → IsStableByKey stamp_of nat_cmp xs ys → (x : Entry)
    → filter (tie stamp_of x) (log_of q ys) ≡ filter (tie stamp_of x) (log_of q xs)
classes_kept q xs ys stable x =
    let t : Entry → Bool = tie stamp_of x in
    let s : Entry → Bool = λ e. e.port.0 == q in
    ap (filter t) (log_is_filter q ys) ∙ filters_commute t s ys ∙ ap (filter s) (stable x) ∙ sym (filters_commute t s xs) ∙ sym (ap (filter t) (log_is_filter q xs))

-- the entries of one port, in the order of the sort
sorted_log : (ports : List PortView) (ys : List Entry) (q : ℕ) → AreOwnLogs ports → IsSortedByKey stamp_of nat_cmp ys → IsStableByKey stamp_of nat_cmp (joined ports) ys
    → log_of q ys ≡ reverse (logs_of ports q)
sorted_log ports ys q own up stable =
    let R : Entry → Entry → Type 0 = λ f e. f.stamp.0 ≤ e.stamp.0 in
    let whole : Pairs R ys = pairs_at stamp_of ys (IsNonDecreasingBy-from_sort stamp_of ys up) in
    let e : q ≡ 0 + q = omega arith in
    let there : log_of q (joined ports) ≡ reverse (logs_of ports q) = ap (λ n. log_of n (joined ports)) e ∙ joined_at 0 q ports (own_from_zero ports own) in
    let mine : Pairs R (log_of q ys) = subst (Pairs R) (sym (log_is_filter q ys)) (pairs_filter R (λ x. x.port.0 == q) ys whole) in
    same_by_classes stamp_of (log_of q ys) (reverse (logs_of ports q)) mine (own_stamps q (logs_of ports q) (own q))
    (λ x. classes_kept q (joined ports) ys stable x ∙ ap (filter (tie stamp_of x)) there)

-- the sorted entries, from the newest on, are in order
sorted_order : (ports : List PortView) (ys : List Entry) → AreOwnLogs ports → IsSortedByKey stamp_of nat_cmp ys → IsStableByKey stamp_of nat_cmp (joined ports) ys
    → IsInOrder (reverse ys)
sorted_order ports ys own up stable =
    let S : Entry → Entry → Type 0 = λ f e. f.stamp.0 ≡ e.stamp.0 → f.port.0 < e.port.0 in
    let whole = pairs_at stamp_of ys (IsNonDecreasingBy-from_sort stamp_of ys up) in
    let lower : Pairs S (joined ports) = joined_ports 0 ports (own_from_zero ports own) in
    let classes : (x : Entry) → Pairs S (filter (tie stamp_of x) ys) = λ x. subst (Pairs S) (sym (stable x)) (pairs_filter S (tie stamp_of x) (joined ports) lower) in
    let twice = pairs_by_classes stamp_of S ys classes in
    let once : Pairs S ys = pairs_weaker (λ f e. f.stamp.0 ≡ e.stamp.0 → S f e) S ys (λ f e h is. h is is) twice in
    in_order_by (reverse ys) (pairs_reverse (λ e f. IsBelow f e) ys (pairs_below ys whole once))

-- they are the joint history
pub sorted_is_joint : (ports : List PortView) (ys : List Entry) → AreOwnLogs ports → IsSortedByKey stamp_of nat_cmp ys → IsStableByKey stamp_of nat_cmp (joined ports) ys
    → IsJoint (logs_of ports) (reverse ys)
sorted_is_joint ports ys own up stable =
    record {
      in_order = sorted_order ports ys own up stable;
      logs_are = λ q. log_of-reverse q ys ∙ ap reverse (sorted_log ports ys q own up stable) ∙ reverse-reverse (logs_of ports q);
    }

-- what `sort_by_key` ensures makes of joined logs their joint history, where each call gives the stamp
pub joint_from_sort : {F : Type 0} {g : Mut F (Bor Entry × Unit {0}) ℕ} {f : F} (ports : List PortView) (xs ys : List Entry) → xs ≡ joined ports → AreOwnLogs ports
    → ((key : Entry → ℕ) → ComputesKey g key f → IsSortedByKey key nat_cmp ys)
    → ((key : Entry → ℕ) → ComputesKey g key f → IsStableByKey key nat_cmp xs ys)
    → ((a : Bor Entry × Unit {0}) (r : ℕ) (f' : F) → Called g f a r f' → (r ≡ stamp_of a.0.now) × (f' ≡ f))
    → IsJoint (logs_of ports) (reverse ys)
joint_from_sort {g = g} {f = f} ports xs ys is own up stable h =
    let key : ComputesKey g stamp_of f = always_returns_same g (λ a r. r ≡ stamp_of a.0.now) f h in
    sorted_is_joint ports ys own (up stamp_of key) (subst (λ (l : List Entry). IsStableByKey stamp_of nat_cmp l ys) is (stable stamp_of key))
