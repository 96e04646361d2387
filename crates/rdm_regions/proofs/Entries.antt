-- The entries of a tree map of ranges, beside the finite map of a clause.
use Rattle.std.proofs.Common.{◌≡◌, refl, sym, ap, ◌∙◌, ℕ, suc, ◌+◌, Bool, true, false, cond, List, [], ◌∷◌, map as each, Some, None, arith}
use Rattle.std.specs.declared.cmp.Ordering.TheVariants.{Less, Equal, Greater}
use Rattle.std.specs.List.{All, AllByRecursion, sum_by}
use Rattle.std.specs.List.Sorted.{IsStrictlySortedBy}
use Rattle.std.specs.declared.cmp.Ordering.{Ordering}
use Rattle.std.specs.Ordering.{nat_cmp, is_eq, eq_by_cmp, match_ordering}
use Rattle.std.specs.Cmp.{IsTotalOrder, nat_cmp_total, eq_by_cmp_equiv, tied_itself}
use Rattle.std.proofs.lemmas.Cmp.{on_total, then_total}
use Rattle.std.proofs.lemmas.Map.Lookups.{exact_pairs, exact_unsigned}
use Rattle.std.specs.Map.{keys_of, values_of, lookup, remove_entry}
use Rattle.std.specs.BTreeMap.{is_at, insert_entry}
use Rattle.std.specs.FinMap as map
use Rattle.std.specs.FinMap.Entries.{by_order, put}
use Rattle.std.proofs.lemmas.List.{nil_from_length}
use Rattle.std.proofs.lemmas.List.Elements.{All-cons}
use Rattle.std.proofs.lemmas.Map.Keys.{sorted_head, sorted_tail}
use Rattle.std.proofs.lemmas.Map.Entries.{sum_by-remove_entry, sum_by-insert_entry}
use Rattle.rdm_num.specs.declared.parts.Span.{Span}
use Rattle.rdm_regions.specs.declared.key.HoldKey.{HoldKey}
use Rattle.rdm_regions.specs.Ranges.{key_cmp}

abbrev pub Entries : Type 0 → Type 0
Entries K = List (K × Span)

-- a total order in which only equal keys are tied
pub record Exact {K : Type 0} (R : K → K → Ordering) : Type 0 where
  pub total : IsTotalOrder R
  pub ties : map.IsAntisymmetric R

-- the order of the receives
pub by_number : Exact nat_cmp
by_number = record { total = nat_cmp_total; ties = map.nat_cmp-IsAntisymmetric }

-- the order of the parts of sends
pub by_key : Exact key_cmp
by_key = record {
  total = then_total (on_total (λ (k : HoldKey). k.send) nat_cmp_total) (on_total (λ (k : HoldKey). k.part) nat_cmp_total);
  ties = λ a b h. ap (λ (p : ℕ × ℕ). record { send = p.0; part = p.1 }) (exact_pairs nat_cmp nat_cmp exact_unsigned exact_unsigned (a.send, a.part) (b.send, b.part) h);
}

-- the finite map of entries
abbrev pub map_of : {K : Type 0} {R : K → K → Ordering} → Entries K → map.FinMap R Span
map_of es = map.from_entries es

module _ {K : Type 0} {R : K → K → Ordering} (o : Exact R) where
  -- what a finite map has at a key is what a look-up finds in its entries
  pub find_is_lookup : (es : Entries K) (q : K) → map.find R q es ≡ lookup (is_at (R q)) es
  find_is_lookup [] q = refl
  find_is_lookup (e ∷ es) q = ap (cond (is_eq (R q e.0)) (Some e.1)) (find_is_lookup es q)

  pub get_is_lookup : (es : Entries K) (q : K) → map.get (map_of {R = R} es) q ≡ lookup (is_at (R q)) es
  get_is_lookup es q = map.get-from_entries o.total es q ∙ find_is_lookup es q

  -- where the look-ups are those after an insert, so is the map
  pub map_with : (es fs : Entries K) (k : K) (v : Span) → ((q : K) → lookup (is_at (R q)) fs ≡ cond (is_at (R k) q) (Some v) (lookup (is_at (R q)) es)) → map_of {R = R} fs ≡ map.insert (map_of {R = R} es) k v
  map_with es fs k v at =
      map.same_map o.total o.ties _ _ (λ q.
      get_is_lookup fs q
      ∙ at q
      ∙ ap (λ b. cond b (Some v) (lookup (is_at (R q)) es)) ((eq_by_cmp_equiv o.total).symm k q)
      ∙ ap (cond (eq_by_cmp R q k) (Some v)) (sym (get_is_lookup es q))
      ∙ sym (map.get-insert o.total (map_of {R = R} es) k v q))

  -- and where they are those after a remove
  pub map_without : (es fs : Entries K) (k : K) → ((q : K) → lookup (is_at (R q)) fs ≡ cond (is_at (R k) q) None (lookup (is_at (R q)) es)) → map_of {R = R} fs ≡ map.remove (map_of {R = R} es) k
  map_without es fs k at =
      map.same_map o.total o.ties _ _ (λ q.
      get_is_lookup fs q
      ∙ at q
      ∙ ap (λ b. cond b None (lookup (is_at (R q)) es)) ((eq_by_cmp_equiv o.total).symm k q)
      ∙ ap (cond (eq_by_cmp R q k) None) (sym (get_is_lookup es q))
      ∙ sym (map.get-remove o.total (map_of {R = R} es) k q))

  -- an entry below all others is put first
  put_first : (e : K × Span) (es : Entries K) → AllByRecursion (λ k. R e.0 k ≡ Less) (keys_of es) → put R e.0 e.1 es ≡ e ∷ es
  put_first e [] h = refl
  put_first e (f ∷ es) h = ap (λ t. by_order t (e ∷ f ∷ es) ((f.0, e.1) ∷ es) (f ∷ put R e.0 e.1 es)) h.0

  pub none_are : map.entries (map_of {R = R} []) ≡ []
  none_are = nil_from_length _ (sym (map.len-entries (map_of {R = R} [])) ∙ map.len-empty R Span)

  pub entries_are : (es : Entries K) → IsStrictlySortedBy R (keys_of es) → map.entries (map_of {R = R} es) ≡ es
  entries_are [] s = none_are
  entries_are (e ∷ es) s =
      map.entries-insert o.total (map_of {R = R} es) e.0 e.1 ∙ ap (put R e.0 e.1) (entries_are es (sorted_tail R e.0 (keys_of es) s)) ∙ put_first e es (sorted_head R e.0 (keys_of es) s)

  -- the values of the finite map of entries in order are theirs
  pub values_are : (es : Entries K) → IsStrictlySortedBy R (keys_of es) → map.values (map_of {R = R} es) ≡ values_of es
  values_are es s = ap (each (λ (e : K × Span). e.1)) (entries_are es s)

  -- a sum with the weight of a new range
  pub sum_with : (es : Entries K) (k : K) (v : Span) → IsStrictlySortedBy R (keys_of es) → lookup (is_at (R k)) es ≡ None → (f : Span → ℕ) → sum_by f (values_of (insert_entry R es k v)) ≡ sum_by f (values_of es) + f v
  sum_with es k v s none f =
      let sum = rw none at (sum_by-insert_entry f o.total es k v s) in
      omega (arith, sum)

  -- and without the weight of one that is removed
  pub sum_without : (es : Entries K) (k : K) (v : Span) → lookup (is_at (R k)) es ≡ Some v → (f : Span → ℕ) → sum_by f (values_of (remove_entry (is_at (R k)) es)) + f v ≡ sum_by f (values_of es)
  sum_without es k v there f =
      let sum = rw there at (sum_by-remove_entry f (is_at (R k)) es) in
      sum

  tied : (k : K) → R k k ≡ Equal
  tied k = tied_itself o.total k

  -- to remove what was inserted is to do nothing
  pub undone : (es : Entries K) (k : K) (v : Span) → lookup (is_at (R k)) es ≡ None → remove_entry (is_at (R k)) (insert_entry R es k v) ≡ es
  undone [] k v none = ap (λ t. cond (is_eq t) [] ((k, v) ∷ [])) (tied k)
  undone (e ∷ es) k v none =
      elim (R k e.0) as (λ t. R k e.0 ≡ t → remove_entry (is_at (R k)) (match_ordering t ((k, v) ∷ e ∷ es) ((e.0, v) ∷ es) (e ∷ insert_entry R es k v)) ≡ e ∷ es) [
        | Less ↦ λ is. ap (λ t. cond (is_eq t) (e ∷ es) ((k, v) ∷ remove_entry (is_at (R k)) (e ∷ es))) (tied k)
        | Equal ↦ λ is. absurd (some_none e.1 (sym (ap (λ t. cond (is_eq t) (Some e.1) (lookup (is_at (R k)) es)) is) ∙ none))
        | Greater ↦ λ is.
            let rest : lookup (is_at (R k)) es ≡ None = sym (ap (λ t. cond (is_eq t) (Some e.1) (lookup (is_at (R k)) es)) is) ∙ none in
            ap (λ t. cond (is_eq t) (insert_entry R es k v) (e ∷ remove_entry (is_at (R k)) (insert_entry R es k v))) is
            ∙ ap (λ l. e ∷ l) (undone es k v rest)
      ] refl
    where
      some_none : (x : Span) → Some x ≡ None → ⊥
      some_none x h = cc

-- what holds of each range holds of those that are left
pub All_without : {K : Type 0} (P : Span → Type 0) (test : K → Bool) (es : Entries K) → All P (values_of es) → All P (values_of (remove_entry test es))
All_without P test [] h = h
All_without P test (e ∷ es) h =
    let tail : All P (values_of es) = λ k d lt. h (suc k) d (omega arith) in
    elim (test e.0) as (λ b. All P (values_of (cond b es (e ∷ remove_entry test es)))) [
      | true ↦ tail
      | false ↦ All-cons P e.1 (values_of (remove_entry test es)) (h 0 e.1 (omega arith)) (All_without P test es tail)
    ]
