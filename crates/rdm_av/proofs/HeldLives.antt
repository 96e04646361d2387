-- The lives of an `Av` beside the hash map and the hash set that keep them.
use Rattle.std.proofs.Common.{◌≡◌, refl, sym, ap, subst, ◌∙◌, ℕ, ◌+◌, ◌-◌, Bool, true, false, List, [], ◌∷◌, Option, Some, None, arith}
use Rattle.std.specs.Prelude.{cond, ◌||◌, ◌&&◌, T, nat_eq, option_map, is_some}
use Rattle.std.specs.declared.cmp.Ordering.TheVariants.{Less, Equal, Greater}
use Rattle.std.specs.List.{list_any}
use Rattle.std.specs.Ordering.{nat_cmp, is_eq, eq_by_cmp, ordering_then}
use Rattle.std.specs.Cmp.{IsTotalOrder, nat_cmp_total, then_total, on_total, nat_eq_equiv, unsigned_tied, tied_then}
use Rattle.std.specs.Map.{lookup}
use Rattle.std.specs.FinMap as map
use Rattle.std.specs.FinSet as set
use Rattle.rdm_num.specs.Lives.{life}
use Rattle.rdm_num.specs.declared.numbers.PortNo.{PortNo}
use Rattle.rdm_num.specs.declared.numbers.Connid.{Connid}
use Rattle.rdm_num.specs.declared.numbers.Life.{Life}
use Rattle.rdm_av.specs.Lives.{Lives, life_order, current_life, is_superseded, with_room, with_spent}

-- lives are ordered in full
pub life_order_total : IsTotalOrder life_order
life_order_total = then_total (on_total (λ t. t.0) nat_cmp_total) (on_total (λ t. t.1) nat_cmp_total)

-- only a life ties with itself
pub life_order-IsAntisymmetric : set.IsAntisymmetric life_order
life_order-IsAntisymmetric x y is =
    elim (nat_cmp x.0 y.0) as (λ r. nat_cmp x.0 y.0 ≡ r → ordering_then r (nat_cmp x.1 y.1) ≡ Equal → x ≡ y) [
      | Less ↦ λ p e. absurd (subst (λ r. T (is_eq r)) (sym e) tt)
      | Equal ↦ λ p e i. (set.nat_cmp-IsAntisymmetric x.0 y.0 p i, set.nat_cmp-IsAntisymmetric x.1 y.1 e i)
      | Greater ↦ λ p e. absurd (subst (λ r. T (is_eq r)) (sym e) tt)
    ] refl is

-- the first entry with a key is what a look-up finds
find_is_lookup : {X : Type 0} (es : List (ℕ × X)) (q : ℕ) → map.find nat_cmp q es ≡ lookup (nat_eq q) es
find_is_lookup [] q = refl
find_is_lookup (e ∷ es) q = λ i. cond (unsigned_tied q e.0 i) (Some e.1) (find_is_lookup es q i)

-- a map has at a key what a look-up in its entries finds
pub get_is_lookup : {X : Type 0} (es : List (ℕ × X)) (q : ℕ) → map.get (map.from_entries {R = nat_cmp} es) q ≡ lookup (nat_eq q) es
get_is_lookup es q = map.get-from_entries nat_cmp_total es q ∙ find_is_lookup es q

-- where the look-ups are the same, so is the map
pub map_same : {X : Type 0} (es fs : List (ℕ × X)) → ((q : ℕ) → lookup (nat_eq q) fs ≡ lookup (nat_eq q) es) → map.from_entries {R = nat_cmp} fs ≡ map.from_entries es
map_same es fs at =
    map.same_map nat_cmp_total map.nat_cmp-IsAntisymmetric _ _ (λ q. get_is_lookup fs q ∙ at q ∙ sym (get_is_lookup es q))

-- where the look-ups are those after an insert, so is the map
pub map_after : {X : Type 0} (es fs : List (ℕ × X)) (k : ℕ) (v : X) → ((q : ℕ) → lookup (nat_eq q) fs ≡ cond (nat_eq k q) (Some v) (lookup (nat_eq q) es)) → map.from_entries {R = nat_cmp} fs ≡ map.insert (map.from_entries es) k v
map_after es fs k v at =
    map.same_map nat_cmp_total map.nat_cmp-IsAntisymmetric _ _ (λ q.
    get_is_lookup fs q
    ∙ at q
    ∙ (λ i. cond ((nat_eq_equiv.symm k q ∙ sym (unsigned_tied q k)) i) (Some v) (sym (get_is_lookup es q) i))
    ∙ sym (map.get-insert nat_cmp_total (map.from_entries es) k v q))

-- the same port number and identifier
abbrev pub same_pair : ℕ × ℕ → ℕ × ℕ → Bool
same_pair a b = nat_eq a.0 b.0 && nat_eq a.1 b.1

-- sameness goes both ways
turned : (a b : ℕ × ℕ) → same_pair a b ≡ same_pair b a
turned a b = λ i. nat_eq_equiv.symm a.0 b.0 i && nat_eq_equiv.symm a.1 b.1 i

-- what ties is the same
pair_tied : (a b : ℕ × ℕ) → eq_by_cmp life_order a b ≡ same_pair a b
pair_tied a b = sym (tied_then (nat_cmp a.0 b.0) (nat_cmp a.1 b.1)) ∙ (λ i. unsigned_tied a.0 b.0 i && unsigned_tied a.1 b.1 i)

-- a key is among those that are kept
any_tied : (ks : List (ℕ × ℕ)) (q : ℕ × ℕ) → list_any (eq_by_cmp life_order q) ks ≡ list_any (same_pair q) ks
any_tied [] q = refl
any_tied (k ∷ ks) q = λ i. pair_tied q k i || any_tied ks q i

-- a set has a key where it is among those that are kept
pub contains_is_any : (ks : List (ℕ × ℕ)) (q : ℕ × ℕ) → set.contains (set.from_list {R = life_order} ks) q ≡ list_any (same_pair q) ks
contains_is_any ks q = set.contains-from_list life_order_total ks q ∙ any_tied ks q

-- where the same keys are kept, so is the set
pub set_same : (ks js : List (ℕ × ℕ)) → ((q : ℕ × ℕ) → list_any (same_pair q) js ≡ list_any (same_pair q) ks) → set.from_list {R = life_order} js ≡ set.from_list ks
set_same ks js at =
    set.same_set life_order_total life_order-IsAntisymmetric _ _ (λ q. contains_is_any js q ∙ at q ∙ sym (contains_is_any ks q))

-- a choice of true is an or
cond_is_or : (a b : Bool) → cond a true b ≡ (a || b)
cond_is_or true b = refl
cond_is_or false b = refl

-- where the keys are those after an insert, so is the set
pub set_after : (ks js : List (ℕ × ℕ)) (k : ℕ × ℕ) → ((q : ℕ × ℕ) → list_any (same_pair q) js ≡ cond (same_pair k q) true (list_any (same_pair q) ks)) → set.from_list {R = life_order} js ≡ set.insert (set.from_list ks) k
set_after ks js k at =
    set.same_set life_order_total life_order-IsAntisymmetric _ _ (λ q.
    contains_is_any js q
    ∙ at q
    ∙ cond_is_or (same_pair k q) (list_any (same_pair q) ks)
    ∙ (λ i. (turned k q ∙ sym (pair_tied q k)) i || sym (contains_is_any ks q) i)
    ∙ sym (set.contains-insert life_order_total (set.from_list ks) k q))

-- lives from a map, a set and the room
abbrev pub lives_of : map.FinMap nat_cmp Connid → set.FinSet life_order → ℕ → Lives
lives_of m s room = record { current = m; superseded = s; room = room }

-- the current life of a port is what a look-up in the kept entries finds
pub current_is_lookup : (es : List (ℕ × Connid)) (s : set.FinSet life_order) (room : ℕ) (lives : Lives) → lives_of (map.from_entries es) s room ≡ lives → (port : PortNo) → current_life lives port ≡ option_map (life port) (lookup (nat_eq port.0) es)
current_is_lookup es s room lives is port = ap (λ l. current_life l port) (sym is) ∙ ap (option_map (life port)) (get_is_lookup es port.0)

-- a life is superseded where the kept keys have it
pub superseded_is_kept : (m : map.FinMap nat_cmp Connid) (ks : List (ℕ × ℕ)) (room : ℕ) (lives : Lives) → lives_of m (set.from_list ks) room ≡ lives → (l : Life) → is_superseded lives l ≡ list_any (same_pair (l.port.0, l.connid.0)) ks
superseded_is_kept m ks room lives is l = ap (λ v. is_superseded v l) (sym is) ∙ contains_is_any ks (l.port.0, l.connid.0)

-- nothing is both there and not
pub not_both : {A P : Type 0} (o : Option A) (x : A) → o ≡ None → o ≡ Some x → P
not_both o x none there = absurd (subst (λ p. T (is_some p)) (sym there ∙ none) tt)

-- a reservation that is made and spent
pub spent_room : (lives : Lives) → with_spent (with_room lives) ≡ lives
spent_room lives = ap (lives_of lives.current lives.superseded) (let e : lives.room + 1 - 1 ≡ lives.room = omega arith in e)
