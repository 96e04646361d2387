-- Finite maps beside the entries of the tree maps that keep them.
use Rattle.std.proofs.Common.{◌≡◌, refl, sym, ap, ◌∙◌, ◌+◌, List, [], ◌∷◌, Option, Some, None, length, add-one}
use Rattle.std.specs.Prelude.{cond, is_some}
use Rattle.std.specs.declared.cmp.Ordering.{Ordering}
use Rattle.std.specs.declared.cmp.Ordering.TheVariants.{Less}
use Rattle.std.specs.List.{AllByRecursion}
use Rattle.std.specs.List.Sorted.{IsStrictlySortedBy}
use Rattle.std.specs.Ordering.{is_eq, eq_by_cmp}
use Rattle.std.specs.Cmp.{IsTotalOrder, eq_by_cmp_equiv}
use Rattle.std.specs.Map.{lookup, keys_of}
use Rattle.std.specs.BTreeMap.{is_at}
use Rattle.std.specs.FinMap as map

-- the first entry with a key is what a look-up finds
find_is_lookup : {K X : Type 0} (R : K → K → Ordering) (es : List (K × X)) (q : K) → map.find R q es ≡ lookup (is_at (R q)) es
find_is_lookup R [] q = refl
find_is_lookup R (e ∷ es) q = ap (cond (is_eq (R q e.0)) (Some e.1)) (find_is_lookup R es q)

-- a key of which each entry is above it is that of none
none_at : {K X : Type 0} (R : K → K → Ordering) (k : K) (es : List (K × X)) → AllByRecursion (λ y. R k y ≡ Less) (keys_of es) → lookup (is_at (R k)) es ≡ None
none_at R k [] h = refl
none_at R k (e ∷ es) h = ap (λ r. cond (is_eq r) (Some e.1) (lookup (is_at (R k)) es)) h.0 ∙ none_at R k es h.1

-- fs has v at the key k, or nothing, and has at each other key what es has
abbrev pub Changes : {K X : Type 0} (R : K → K → Ordering) → (es fs : List (K × X)) → K → Option X → Type 0
Changes {K} R es fs k v = (q : K) → lookup (is_at (R q)) fs ≡ cond (is_at (R k) q) v (lookup (is_at (R q)) es)

module _ {K X : Type 0} {R : K → K → Ordering} (o : IsTotalOrder R) where
  -- a map has at a key what a look-up in its entries finds
  pub get_is_lookup : (es : List (K × X)) (q : K) → map.get (map.from_entries {R = R} es) q ≡ lookup (is_at (R q)) es
  get_is_lookup es q = map.get-from_entries o es q ∙ find_is_lookup R es q

  -- a map is as long as its entries
  pub len_is_length : (es : List (K × X)) → IsStrictlySortedBy R (keys_of es) → map.len (map.from_entries {R = R} es) ≡ length es
  unfolding IsStrictlySortedBy
  len_is_length [] h = map.len-empty R X
  len_is_length (e ∷ es) h =
      map.len-insert o (map.from_entries es) e.0 e.1
      ∙ ap (λ v. cond (is_some v) (map.len (map.from_entries {R = R} es)) (map.len (map.from_entries {R = R} es) + 1)) (get_is_lookup es e.0 ∙ none_at R e.0 es h.0)
      ∙ ap (λ n. n + 1) (len_is_length es h.1)
      ∙ add-one (length es)

  module _ (same : map.IsAntisymmetric R) where
    -- where the look-ups are those after an insert, so is the map
    pub map_after : (es fs : List (K × X)) (k : K) (v : X) → Changes R es fs k (Some v) → map.from_entries {R = R} fs ≡ map.insert (map.from_entries es) k v
    map_after es fs k v at =
        map.same_map o same _ _ (λ q.
        get_is_lookup fs q
        ∙ at q
        ∙ ap (λ b. cond b (Some v) (lookup (is_at (R q)) es)) ((eq_by_cmp_equiv o).symm k q)
        ∙ ap (cond (eq_by_cmp R q k) (Some v)) (sym (get_is_lookup es q))
        ∙ sym (map.get-insert o (map.from_entries es) k v q))

    -- where the look-ups are those after a removal, so is the map
    pub map_without : (es fs : List (K × X)) (k : K) → Changes R es fs k None → map.from_entries {R = R} fs ≡ map.remove (map.from_entries es) k
    map_without es fs k at =
        map.same_map o same _ _ (λ q.
        get_is_lookup fs q
        ∙ at q
        ∙ ap (λ b. cond b None (lookup (is_at (R q)) es)) ((eq_by_cmp_equiv o).symm k q)
        ∙ ap (cond (eq_by_cmp R q k) None) (sym (get_is_lookup es q))
        ∙ sym (map.get-remove o (map.from_entries es) k q))
