-- Ranges that share no place with any of a list, and two ranges that stand under different numbers.
use Rattle.std.proofs.Common.{◌≡◌, refl, sym, ap, subst, ◌∙◌, ℕ, zero, suc, ◌+◌, ◌≤◌, Bool, true, false, cond, List, [], ◌∷◌, get_or, Some, arith}
use Rattle.std.specs.Prelude.{◌||◌}
use Rattle.std.specs.List.{All, list_any, sum_by}
use Rattle.std.specs.Map.{values_of, lookup, remove_entry}
use Rattle.std.specs.BTreeMap.{is_at, insert_entry}
use Rattle.std.specs.declared.cmp.Ordering.{Ordering}
use Rattle.std.specs.Ordering.{nat_cmp}
use Rattle.std.specs.Cmp.{unsigned_tied}
use Rattle.std.proofs.lemmas.Bool.{or_parts, eqb-true}
use Rattle.std.proofs.lemmas.Bool.Decides.{nat_tests}
use Rattle.std.proofs.lemmas.List.Sums.{sum_by-cons}
use Rattle.std.proofs.lemmas.Map.Views.{All-values-insert_entry}
use Rattle.rdm_num.specs.Pieces.{overlaps}
use Rattle.rdm_num.specs.declared.parts.Span.{Span}
use Rattle.rdm_regions.specs.Ranges.{meets}
use Rattle.rdm_regions.specs.Tallies.{Apart}
use Rattle.rdm_regions.proofs.Entries.{Entries, Exact, All_without}

pub meets_back : (x y : Span) → meets x y ≡ false → meets y x ≡ false
unfolding meets overlaps
meets_back x y h = grind (arith, nat_tests)

-- none passes a test
pub none_each : (p : Span → Bool) (ys : List Span) → list_any p ys ≡ false → All (λ y. p y ≡ false) ys
none_each p [] h k d lt = absurd (omega arith)
none_each p (y ∷ ys) h zero d lt = (or_parts (p y) (list_any p ys) h).0
none_each p (y ∷ ys) h (suc k) d lt = none_each p ys (or_parts (p y) (list_any p ys) h).1 k d (omega arith)

pub each_none : (p : Span → Bool) (ys : List Span) → All (λ y. p y ≡ false) ys → list_any p ys ≡ false
each_none p [] h = refl
each_none p (y ∷ ys) h = ap (λ b. b || list_any p ys) (h 0 y (omega arith)) ∙ each_none p ys (λ k d lt. h (suc k) d (omega arith))

-- one range more is leased, which shares no place with a held one
pub apart_with : (key : ℕ) (x : Span) (held : List Span) (leased : Entries ℕ) → Apart held (values_of leased) → list_any (meets x) held ≡ false → Apart held (values_of (insert_entry nat_cmp leased key x))
apart_with key x held leased a clear k d lt =
    let y = get_or held k d in
    each_none (meets y) (values_of (insert_entry nat_cmp leased key x))
    (All-values-insert_entry nat_cmp key x (λ z. meets y z ≡ false) leased (none_each (meets y) (values_of leased) (a k d lt)) (meets_back x y (none_each (meets x) held clear k d lt)))

pub apart_without : (test : ℕ → Bool) (held : List Span) (leased : Entries ℕ) → Apart held (values_of leased) → Apart held (values_of (remove_entry test leased))
apart_without test held leased a k d lt =
    let y = get_or held k d in
    each_none (meets y) (values_of (remove_entry test leased)) (All_without (λ z. meets y z ≡ false) test leased (none_each (meets y) (values_of leased) (a k d lt)))

-- what a look-up finds has what all have
pub found_has : {K : Type 0} {R : K → K → Ordering} (o : Exact R) (P : Span → Type 0) (es : Entries K) (key : K) (x : Span) → All P (values_of es) → lookup (is_at (R key)) es ≡ Some x → P x
found_has {R = R} o P [] key x all is = cc
found_has {R = R} o P (e ∷ es) key x all is =
    elim (is_at (R key) e.0) as (λ b. cond b (Some e.1) (lookup (is_at (R key)) es) ≡ Some x → P x) [
      | true ↦ λ h. let same : e.1 ≡ x = cc in subst P same (all 0 e.1 (omega arith))
      | false ↦ λ h. found_has {R = R} o P es key x (λ k d lt. all (suc k) d (omega arith)) h
    ] is

-- and weighs at most what all weigh
pub found_weighs : (f : Span → ℕ) (es : Entries ℕ) (key : ℕ) (x : Span) → lookup (is_at (nat_cmp key)) es ≡ Some x → f x ≤ sum_by f (values_of es)
found_weighs f [] key x is = cc
found_weighs f (e ∷ es) key x is =
    let sum = sum_by-cons f e.1 (values_of es) in
    elim (is_at (nat_cmp key) e.0) as (λ b. cond b (Some e.1) (lookup (is_at (nat_cmp key)) es) ≡ Some x → f x ≤ sum_by f (values_of (e ∷ es))) [
      | true ↦ λ h. let same : e.1 ≡ x = cc in let w = ap f same in omega (arith, sum, w)
      | false ↦ λ h. let rest = found_weighs f es key x h in omega (arith, sum, rest)
    ] is

pub key_is : (a k : ℕ) → is_at (nat_cmp a) k ≡ true → a ≡ k
key_is a k h = eqb-true a k (sym (unsigned_tied a k) ∙ h)

-- so do two under different numbers together
pub two_weigh : (f : Span → ℕ) (es : Entries ℕ) (a b : ℕ) (x y : Span) → (a ≡ b → ⊥) → lookup (is_at (nat_cmp a)) es ≡ Some x → lookup (is_at (nat_cmp b)) es ≡ Some y → f x + f y ≤ sum_by f (values_of es)
two_weigh f [] a b x y ne p q = cc
two_weigh f (e ∷ es) a b x y ne p q =
    by (is_at (nat_cmp a) e.0) (is_at (nat_cmp b) e.0) refl refl p q (two_weigh f es a b x y ne) (λ h. found_weighs f es b y h) (λ h. found_weighs f es a x h)
  where
    by : (c d : Bool) → is_at (nat_cmp a) e.0 ≡ c → is_at (nat_cmp b) e.0 ≡ d → cond c (Some e.1) (lookup (is_at (nat_cmp a)) es) ≡ Some x → cond d (Some e.1) (lookup (is_at (nat_cmp b)) es) ≡ Some y
        → (lookup (is_at (nat_cmp a)) es ≡ Some x → lookup (is_at (nat_cmp b)) es ≡ Some y → f x + f y ≤ sum_by f (values_of es)) → (lookup (is_at (nat_cmp b)) es ≡ Some y → f y ≤ sum_by f (values_of es)) → (lookup (is_at (nat_cmp a)) es ≡ Some x → f x ≤ sum_by f (values_of es))
        → f x + f y ≤ sum_by f (values_of (e ∷ es))
    by true true c d p q both right left = absurd (ne (key_is a e.0 c ∙ sym (key_is b e.0 d)))
    by true false c d p q both right left = let same : e.1 ≡ x = cc in let w = ap f same in let r = right q in let sum = sum_by-cons f e.1 (values_of es) in omega (arith, sum, w, r)
    by false true c d p q both right left = let same : e.1 ≡ y = cc in let w = ap f same in let l = left p in let sum = sum_by-cons f e.1 (values_of es) in omega (arith, sum, w, l)
    by false false c d p q both right left = let r = both p q in let sum = sum_by-cons f e.1 (values_of es) in omega (arith, sum, r)
