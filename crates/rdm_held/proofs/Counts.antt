-- How many keys of a map pass a test.
use Rattle.std.proofs.Common.{◌≡◌, refl, sym, ap, ◌∙◌, ℕ, ◌+◌, ◌-◌, Bool, true, false, List, [], ◌∷◌, Option, Some, None, arith, IsSome}
use Rattle.std.specs.Prelude.{cond, not, is_some}
use Rattle.std.specs.declared.cmp.Ordering.{Ordering}
use Rattle.std.specs.declared.cmp.Ordering.TheVariants.{Equal}
use Rattle.std.specs.Ordering.{eq_by_cmp}
use Rattle.std.specs.Cmp.{IsTotalOrder, Equal-is}
use Rattle.std.specs.FinMap as map

-- one more where there was none
abbrev pub more : Bool → ℕ → ℕ
more there n = cond there n (n + 1)

-- of what passes: what is put at a key that passes is there, and the rest as before
put_pass : {A : Type 0} (p tie : Bool) (x o : Option A) → (tie ≡ true → p ≡ true) → cond p (cond tie x o) None ≡ cond tie x (cond p o None)
put_pass true tie x o h = refl
put_pass false true x o h = let e : false ≡ true = h refl in cc
put_pass false false x o h = refl

-- what is put at a key that does not pass is not seen
put_miss : {A : Type 0} (p tie : Bool) (x o : Option A) → (tie ≡ true → p ≡ false) → cond p (cond tie x o) None ≡ cond p o None
put_miss true true x o h = let e : true ≡ false = h refl in cc
put_miss true false x o h = refl
put_miss false tie x o h = refl

-- what is taken out is seen no more
cut_pass : {A : Type 0} (p tie : Bool) (o : Option A) → cond p (cond tie None o) None ≡ cond tie None (cond p o None)
cut_pass true tie o = refl
cut_pass false true o = refl
cut_pass false false o = refl

-- a test and its negation, of one key more
both_more : (p there : Bool) (a b n : ℕ) → a + b ≡ n → cond p (more there a) a + cond (not p) (more there b) b ≡ more there n
both_more true true a b n e = e
both_more true false a b n e = omega arith
both_more false true a b n e = e
both_more false false a b n e = omega arith

-- what passes and is there is there among those that pass
passes : {X : Type 0} (b : Bool) (y : Option X) → IsSome y → is_some (cond b y None) ≡ b
passes true y h = h
passes false y h = refl

-- nothing passes where nothing is
none_there : {X : Type 0} (b : Bool) (n : Option X) → n ≡ None → cond b n None ≡ None
none_there true n e = e
none_there false n e = refl

-- nothing passes a test that is among those that pass another, where none passes both
none_both : {X : Type 0} (b c : Bool) (y : Option X) → (b ≡ true → c ≡ false) → cond b (cond c y None) None ≡ None
none_both true true y h = let e : true ≡ false = h refl in cc
none_both true false y h = refl
none_both false c y h = refl

-- what passes a test passes a weaker one
first_both : {X : Type 0} (b c : Bool) (y : Option X) → (b ≡ true → c ≡ true) → cond b (cond c y None) None ≡ cond b y None
first_both true true y h = refl
first_both true false y h = let e : false ≡ true = h refl in cc
first_both false c y h = refl

module _ {K : Type 0} {R : K → K → Ordering} (same : map.IsAntisymmetric R) where
  -- tests do not tell keys that tie apart
  alike : (p : K → Bool) (q x : K) → R q x ≡ Equal → p x ≡ p q
  alike p q x t = ap p (sym (same q x t))

  -- keys that tie pass alike
  tied_pass : (p : K → Bool) (q k : K) (b : Bool) → p k ≡ b → eq_by_cmp R q k ≡ true → p q ≡ b
  tied_pass p q k b is tie = ap p (same q k ((Equal-is _).0 tie)) ∙ is

module _ {K X : Type 0} {R : K → K → Ordering} (o : IsTotalOrder R) (same : map.IsAntisymmetric R) where
  -- what is kept of a map by a test
  pub get_kept : (m : map.FinMap R X) (p : K → Bool) (q : K) → map.get (map.retain_keys m p) q ≡ cond (p q) (map.get m q) None
  get_kept m p q = map.get-retain_keys m p q (alike same p q)

  -- a key that passes is put in
  kept_insert : (m : map.FinMap R X) (p : K → Bool) (k : K) (x : X) → p k ≡ true → map.retain_keys (map.insert m k x) p ≡ map.insert (map.retain_keys m p) k x
  kept_insert m p k x is =
      map.same_map o same _ _ (λ q.
      get_kept (map.insert m k x) p q
      ∙ ap (λ y. cond (p q) y None) (map.get-insert o m k x q)
      ∙ put_pass (p q) (eq_by_cmp R q k) (Some x) (map.get m q) (tied_pass same p q k true is)
      ∙ sym (map.get-insert o (map.retain_keys m p) k x q ∙ ap (cond (eq_by_cmp R q k) (Some x)) (get_kept m p q)))

  -- a key that does not pass is not
  kept_same : (m : map.FinMap R X) (p : K → Bool) (k : K) (x : X) → p k ≡ false → map.retain_keys (map.insert m k x) p ≡ map.retain_keys m p
  kept_same m p k x is =
      map.same_map o same _ _ (λ q.
      get_kept (map.insert m k x) p q
      ∙ ap (λ y. cond (p q) y None) (map.get-insert o m k x q)
      ∙ put_miss (p q) (eq_by_cmp R q k) (Some x) (map.get m q) (tied_pass same p q k false is)
      ∙ sym (get_kept m p q))

  -- how many pass, with one key more
  pub count_insert : (m : map.FinMap R X) (p : K → Bool) (k : K) (x : X)
      → map.len (map.retain_keys (map.insert m k x) p) ≡ cond (p k) (more (is_some (map.get m k)) (map.len (map.retain_keys m p))) (map.len (map.retain_keys m p))
  count_insert m p k x =
      elim (p k) as (λ b. p k ≡ b → map.len (map.retain_keys (map.insert m k x) p) ≡ cond b (more (is_some (map.get m k)) (map.len (map.retain_keys m p))) (map.len (map.retain_keys m p))) [
        | true ↦ λ is. ap (λ (n : map.FinMap R X). map.len n) (kept_insert m p k x is)
            ∙ map.len-insert o (map.retain_keys m p) k x
            ∙ ap (λ y. more (is_some y) (map.len (map.retain_keys m p))) (get_kept m p k ∙ ap (λ b. cond b (map.get m k) None) is)
        | false ↦ λ is. ap (λ (n : map.FinMap R X). map.len n) (kept_same m p k x is)
      ] refl

  -- a key that is taken out of what passes
  kept_remove : (m : map.FinMap R X) (p : K → Bool) (k : K) → map.retain_keys (map.remove m k) p ≡ map.remove (map.retain_keys m p) k
  kept_remove m p k =
      map.same_map o same _ _ (λ q.
      get_kept (map.remove m k) p q
      ∙ ap (λ y. cond (p q) y None) (map.get-remove o m k q)
      ∙ cut_pass (p q) (eq_by_cmp R q k) (map.get m q)
      ∙ sym (map.get-remove o (map.retain_keys m p) k q ∙ ap (cond (eq_by_cmp R q k) None) (get_kept m p q)))

  -- how many pass, with one key less
  pub count_remove : (m : map.FinMap R X) (p : K → Bool) (k : K) → IsSome (map.get m k)
      → map.len (map.retain_keys (map.remove m k) p) ≡ cond (p k) (map.len (map.retain_keys m p) - 1) (map.len (map.retain_keys m p))
  count_remove m p k there =
      ap (λ (n : map.FinMap R X). map.len n) (kept_remove m p k)
      ∙ map.len-remove o (map.retain_keys m p) k
      ∙ ap (λ y. cond (is_some y) (map.len (map.retain_keys m p) - 1) (map.len (map.retain_keys m p))) (get_kept m p k)
      ∙ ap (λ b. cond b (map.len (map.retain_keys m p) - 1) (map.len (map.retain_keys m p))) (passes (p k) (map.get m k) there)

  -- a map is the one of its entries
  of_entries : (m : map.FinMap R X) → map.from_entries (map.entries m) ≡ m
  of_entries m = map.same_map o same _ _ (λ q. map.get-from_entries o (map.entries m) q ∙ sym (map.get-entries m q))

  -- a map of nothing has no key that passes
  pub kept_empty : (p : K → Bool) → map.retain_keys (map.empty {X = X} {R = R}) p ≡ map.empty
  kept_empty p =
      map.same_map o same _ _ (λ q. get_kept map.empty p q ∙ none_there (p q) (map.get map.empty q) (map.get-empty R q) ∙ sym (map.get-empty R q))

  -- the same, of the map of a list of entries
  parts_of : (p : K → Bool) (es : List (K × X))
      → map.len (map.retain_keys (map.from_entries {R = R} es) p) + map.len (map.retain_keys (map.from_entries {R = R} es) (λ k. not (p k))) ≡ map.len (map.from_entries {R = R} es)
  parts_of p [] =
      let none : map.len (map.empty {X = X} {R = R}) ≡ 0 = map.len-empty R X in
      rw (kept_empty p, kept_empty (λ k. not (p k)), none) refl
  parts_of p (e ∷ es) =
      rw (count_insert (map.from_entries es) p e.0 e.1, count_insert (map.from_entries es) (λ k. not (p k)) e.0 e.1, map.len-insert o (map.from_entries es) e.0 e.1)
      (both_more (p e.0) (is_some (map.get (map.from_entries {R = R} es) e.0)) _ _ _ (parts_of p es))

  -- those that pass and those that do not are all
  pub both_parts : (m : map.FinMap R X) (p : K → Bool) → map.len (map.retain_keys m p) + map.len (map.retain_keys m (λ k. not (p k))) ≡ map.len m
  both_parts m p = rw (sym (of_entries m)) (parts_of p (map.entries m))

  -- none passes a test among those that do not
  pub none_pass : (m : map.FinMap R X) (p q : K → Bool) → ((k : K) → p k ≡ true → q k ≡ false) → map.len (map.retain_keys (map.retain_keys m q) p) ≡ 0
  none_pass m p q apart =
      ap (λ (n : map.FinMap R X). map.len n)
      (map.same_map o same _ map.empty (λ k.
      get_kept (map.retain_keys m q) p k
      ∙ ap (λ y. cond (p k) y None) (get_kept m q k)
      ∙ none_both (p k) (q k) (map.get m k) (apart k)
      ∙ sym (map.get-empty R k)))
      ∙ map.len-empty R X

  -- all that pass a test are among those that pass a weaker one
  pub all_pass : (m : map.FinMap R X) (p q : K → Bool) → ((k : K) → p k ≡ true → q k ≡ true) → map.retain_keys (map.retain_keys m q) p ≡ map.retain_keys m p
  all_pass m p q weaker =
      map.same_map o same _ _ (λ k.
      get_kept (map.retain_keys m q) p k
      ∙ ap (λ y. cond (p k) y None) (get_kept m q k)
      ∙ first_both (p k) (q k) (map.get m k) (weaker k)
      ∙ sym (get_kept m p k))
