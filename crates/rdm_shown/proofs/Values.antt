-- Which values a finite map has.
use Rattle.std.proofs.Common.{◌≡◌, Bool, true, false, cond, List, [], ◌∷◌, map as each, Some, None, refl, sym, ap, ◌∙◌, subst, inl, inr}
use Rattle.std.specs.Prelude.{◌||◌, ◌&&◌, T}
use Rattle.std.specs.declared.cmp.Ordering.{Ordering}
use Rattle.std.specs.declared.cmp.Ordering.TheVariants.{Less, Equal, Greater}
use Rattle.std.specs.List.{list_any}
use Rattle.std.specs.Ordering.{eq_by_cmp, is_eq, is_lt, ordering_reverse}
use Rattle.std.specs.Cmp.{IsTotalOrder, tied_itself}
use Rattle.std.specs.FinMap.{FinMap, entries, entries_sorted, get, get-entries, values, find, is_sorted}
use Rattle.std.specs.FinMap.Entries.{below_all}
use Rattle.rdm_lists.specs.Lists.{Member}

no_true : false ≡ true → ⊥
no_true h = cc

first : (a b : Bool) → T (a && b) → T a
first true b h = tt
first false b h = absurd h

second : (a b : Bool) → T (a && b) → T b
second true b h = h
second false b h = absurd h

some_same : {A : Type 0} (a b : A) → Some a ≡ Some b → a ≡ b
some_same a b h = cc

-- a key above another one doesn't tie with it
above : {K : Type 0} {R : K → K → Ordering} (o : IsTotalOrder R) (a b : K) → T (is_lt (R a b)) → eq_by_cmp R b a ≡ false
above {K} {R} o a b lt =
    ap is_eq (o.antisymm b a)
    ∙ elim (R a b) as (λ r. T (is_lt r) → is_eq (ordering_reverse r) ≡ false) [ Less ↦ λ _. refl | Equal ↦ λ h. absurd h | Greater ↦ λ h. absurd h ] lt

module _ {K X : Type 0} {R : K → K → Ordering} (o : IsTotalOrder R) where
  -- each key of entries in order is above one below them all
  above_all : (k : K) (es : List (K × X)) (e : K × X) → T (below_all R k es) → Member e es → eq_by_cmp R e.0 k ≡ false
  above_all k [] e h m = absurd m
  above_all k (d ∷ es) e h (inl is) = subst (λ (x : K × X). eq_by_cmp R x.0 k ≡ false) is (above o k d.0 (first _ _ h))
  above_all k (d ∷ es) e h (inr m) = above_all k es e (second _ _ h) m

  -- a value that passes is found under a key
  any_entry : (p : X → Bool) (es : List (K × X)) → T (is_sorted R es) → list_any p (each (λ e. e.1) es) ≡ true → (e : K × X) × Member e es × (p e.1 ≡ true) × (find R e.0 es ≡ Some e.1)
  any_entry p [] s h = absurd (no_true h)
  any_entry p (d ∷ es) s h =
      elim (p d.1) as (λ b. p d.1 ≡ b → (b || list_any p (each (λ e. e.1) es)) ≡ true → (e : K × X) × Member e (d ∷ es) × (p e.1 ≡ true) × (find R e.0 (d ∷ es) ≡ Some e.1)) [
        | true ↦ λ is _. (d, inl refl, is, ap (λ r. cond (is_eq r) (Some d.1) (find R d.0 es)) (tied_itself o d.0))
        | false ↦ λ is later.
            let rest = any_entry p es (second _ _ s) later in
            (rest.0, inr rest.1, rest.2, ap (λ b. cond b (Some d.1) (find R rest.0.0 es)) (above_all d.0 es rest.0 (first _ _ s) rest.1) ∙ rest.3)
      ] refl h

  -- one that passes is under some key
  pub any_value : (p : X → Bool) (m : FinMap R X) → list_any p (values m) ≡ true → (k : K) × (x : X) × (get m k ≡ Some x) × (p x ≡ true)
  any_value p m h =
      let e = any_entry p (entries m) (entries_sorted m) h in
      (e.0.0, e.0.1, get-entries m e.0.0 ∙ e.3, e.2)

  -- a value that is found and passes is one of them
  found_any : (p : X → Bool) (es : List (K × X)) (k : K) (x : X) → find R k es ≡ Some x → p x ≡ true → list_any p (each (λ e. e.1) es) ≡ true
  found_any p [] k x h pass = absurd (no_some h)
    where
      no_some : None ≡ Some x → ⊥
      no_some e = cc
  found_any p (d ∷ es) k x h pass =
      elim (eq_by_cmp R k d.0) as (λ b. cond b (Some d.1) (find R k es) ≡ Some x → (p d.1 || list_any p (each (λ e. e.1) es)) ≡ true) [
        | true ↦ λ is. ap (λ b. b || list_any p (each (λ e. e.1) es)) (ap p (some_same d.1 x is) ∙ pass)
        | false ↦ λ is. (let rest = found_any p es k x is pass in rw rest (or_true (p d.1)))
      ] h
    where
      or_true : (b : Bool) → (b || true) ≡ true
      or_true true = refl
      or_true false = refl

  pub value_any : (p : X → Bool) (m : FinMap R X) (k : K) (x : X) → get m k ≡ Some x → p x ≡ true → list_any p (values m) ≡ true
  value_any p m k x h pass = found_any p (entries m) k x (sym (get-entries m k) ∙ h) pass

-- tests of two kinds that come to the same
pub same_test : (a b : Bool) → (a ≡ true → b ≡ true) → (b ≡ true → a ≡ true) → a ≡ b
same_test true b f g = sym (f refl)
same_test false true f g = g refl
same_test false false f g = refl
