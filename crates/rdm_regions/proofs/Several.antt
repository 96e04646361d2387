-- Holds of several ranges, one after another.
use Rattle.std.proofs.Common.{◌≡◌, refl, sym, ap, ◌∙◌, ℕ, zero, suc, ◌+◌, ◌<◌, ◌≤◌, inl, inr, Bool, true, false, cond, List, [], ◌∷◌, length, get_or, take, Some, None, Result, Ok, Err, arith}
use Rattle.std.specs.Prelude.{slice_get}
use Rattle.std.proofs.lemmas.Bool.{cases_lt}
use Rattle.std.specs.declared.cmp.Ordering.{Ordering}
use Rattle.std.specs.Ordering.{eq_by_cmp, is_eq}
use Rattle.std.specs.Cmp.{tied_itself}
use Rattle.std.specs.FinMap as finite
use Rattle.std.proofs.lemmas.Map.Views.{tells_apart}
use Rattle.rdm_num.specs.declared.parts.Span.{Span}
use Rattle.rdm_regions.specs.declared.key.HoldKey.{HoldKey}
use Rattle.rdm_regions.specs.declared.refused.RegionRefused.{RegionRefused}
use Rattle.rdm_regions.specs.Ranges.{HeldRanges, hold_key}
use Rattle.rdm_regions.specs.Registry.{Registry, with_hold}
use Rattle.rdm_regions.specs.Holds.{HoldsNone, with_all, with_holds, without_all, without_holds, after_hold_all, EachIsHeld, NoneIsHeld}
use Rattle.rdm_regions.proofs.Entries.{Exact, by_key}

module _ {K : Type 0} {R : K → K → Ordering} (o : Exact R) where
  -- another key than the one that is put in or taken out
  not_tied : (q k : K) → (q ≡ k → ⊥) → eq_by_cmp R q k ≡ false
  not_tied q k ne = elim (eq_by_cmp R q k) as (λ b. eq_by_cmp R q k ≡ b → b ≡ false) [ true ↦ λ e. absurd (ne (tells_apart o.ties q k e)) | false ↦ λ e. refl ] refl

  tied_is : (k : K) → eq_by_cmp R k k ≡ true
  tied_is k = ap is_eq (tied_itself o.total k)

  pub get_beside : (m : finite.FinMap R Span) (k q : K) (x : Span) → (q ≡ k → ⊥) → finite.get (finite.insert m k x) q ≡ finite.get m q
  get_beside m k q x ne = finite.get-insert o.total m k x q ∙ ap (λ b. cond b (Some x) (finite.get m q)) (not_tied q k ne)

  pub get_without : (m : finite.FinMap R Span) (k q : K) → (q ≡ k → ⊥) → finite.get (finite.remove m k) q ≡ finite.get m q
  get_without m k q ne = finite.get-remove o.total m k q ∙ ap (λ b. cond b None (finite.get m q)) (not_tied q k ne)

  -- the key that is put in, and the one that is taken out
  pub get_put : (m : finite.FinMap R Span) (k : K) (x : Span) → finite.get (finite.insert m k x) k ≡ Some x
  get_put m k x = finite.get-insert o.total m k x k ∙ ap (λ b. cond b (Some x) (finite.get m k)) (tied_is k)

  pub get_gone : (m : finite.FinMap R Span) (k : K) → finite.get (finite.remove m k) k ≡ None
  get_gone m k = finite.get-remove o.total m k k ∙ ap (λ b. cond b None (finite.get m k)) (tied_is k)

  -- to take out what was put in under a new key is to do nothing
  remove_insert : (m : finite.FinMap R Span) (k : K) (x : Span) → finite.get m k ≡ None → finite.remove (finite.insert m k x) k ≡ m
  remove_insert m k x none =
      finite.same_map o.total o.ties _ _ (λ q.
      finite.get-remove o.total (finite.insert m k x) k q ∙ ap (cond (eq_by_cmp R q k) None) (finite.get-insert o.total m k x q) ∙ by q (eq_by_cmp R q k) refl)
    where
      by : (q : K) (b : Bool) → eq_by_cmp R q k ≡ b → cond b None (cond b (Some x) (finite.get m q)) ≡ finite.get m q
      by q true e = sym none ∙ ap (finite.get m) (sym (tells_apart o.ties q k e))
      by q false e = refl

-- a key that has a range is not one that has none
pub other_key : {K : Type 0} {R : K → K → Ordering} (m : finite.FinMap R Span) (k q : K) (x : Span) → finite.get m k ≡ None → finite.get m q ≡ Some x → q ≡ k → ⊥
other_key m k q x none some e = no (sym none ∙ ap (finite.get m) (sym e) ∙ some)
  where
    no : None ≡ Some x → ⊥
    no h = cc

-- the keys of another send are others, and those of other parts
pub another_send : (other send part i : ℕ) → (other ≡ send → ⊥) → hold_key other part ≡ hold_key send i → ⊥
another_send other send part i ne e = ne (ap (λ (k : HoldKey). k.send) e)

another_part : (send part i : ℕ) → (part ≡ i → ⊥) → hold_key send part ≡ hold_key send i → ⊥
another_part send part i ne e = ne (ap (λ (k : HoldKey). k.part) e)

pub get_all : (m : HeldRanges) (send part : ℕ) (xs : List Span) (q : HoldKey) → ((i : ℕ) → i < length xs → q ≡ hold_key send (part + i) → ⊥) → finite.get (with_all m send part xs) q ≡ finite.get m q
get_all m send part [] q other = refl
get_all m send part (x ∷ xs) q other =
    get_all (finite.insert m (hold_key send part) x) send (part + 1) xs q (λ i lt e. let next : (part + 1) + i ≡ part + suc i = omega arith in other (suc i) (omega arith) (e ∙ ap (hold_key send) next))
    ∙ get_beside by_key m (hold_key send part) q x (λ e. let here : part ≡ part + 0 = omega arith in other 0 (omega arith) (e ∙ ap (hold_key send) here))

pub get_but : (m : HeldRanges) (send k : ℕ) (q : HoldKey) → ((i : ℕ) → i < k → q ≡ hold_key send i → ⊥) → finite.get (without_all m send k) q ≡ finite.get m q
get_but m send zero q other = refl
get_but m send (suc k) q other = get_but (finite.remove m (hold_key send k)) send k q (λ i lt. other i (omega arith)) ∙ get_without by_key m (hold_key send k) q (other k (omega arith))

-- one range more
with_next : (m : HeldRanges) (send part k : ℕ) (xs : List Span) (d : Span) → k < length xs → with_all m send part (take (suc k) xs) ≡ finite.insert (with_all m send part (take k xs)) (hold_key send (part + k)) (get_or xs k d)
with_next m send part k [] d lt = absurd (omega arith)
with_next m send part zero (x ∷ xs) d lt = let e : part ≡ part + 0 = omega arith in ap (λ j. finite.insert m (hold_key send j) x) e
with_next m send part (suc k) (x ∷ xs) d lt =
    let e : (part + 1) + k ≡ part + suc k = omega arith in
    with_next (finite.insert m (hold_key send part) x) send (part + 1) k xs d (omega arith) ∙ ap (λ j. finite.insert (with_all (finite.insert m (hold_key send part) x) send (part + 1) (take k xs)) (hold_key send j) (get_or xs k d)) e

with_next_first : (m : HeldRanges) (send k : ℕ) (xs : List Span) (d : Span) → k < length xs → with_all m send 0 (take (suc k) xs) ≡ finite.insert (with_all m send 0 (take k xs)) (hold_key send k) (get_or xs k d)
with_next_first m send k xs d lt = let e : 0 + k ≡ k = omega arith in with_next m send 0 k xs d lt ∙ ap (λ j. finite.insert (with_all m send 0 (take k xs)) (hold_key send j) (get_or xs k d)) e

short : (j : ℕ) (ys : List Span) → length (take j ys) ≤ j
short zero ys = omega arith
short (suc j) [] = omega arith
short (suc j) (y ∷ ys) = let rest = short j ys in omega arith

-- the part after those of the first ranges
next_free : (m : HeldRanges) (send k : ℕ) (xs : List Span) → finite.get m (hold_key send k) ≡ None → finite.get (with_all m send 0 (take k xs)) (hold_key send k) ≡ None
next_free m send k xs free = let size = short k xs in get_all m send 0 (take k xs) (hold_key send k) (λ i lt. another_part send k (0 + i) (λ e. omega (arith, size, lt, e))) ∙ free

all_undone : (m : HeldRanges) (send k : ℕ) (xs : List Span) → k ≤ length xs → ((i : ℕ) → i < k → finite.get m (hold_key send i) ≡ None) → (d : Span) → without_all (with_all m send 0 (take k xs)) send k ≡ m
all_undone m send zero xs le free d = refl
all_undone m send (suc k) xs le free d =
    ap (λ a. without_all (finite.remove a (hold_key send k)) send k) (with_next_first m send k xs d (omega arith))
    ∙ ap (λ a. without_all a send k) (remove_insert by_key (with_all m send 0 (take k xs)) (hold_key send k) (get_or xs k d) (next_free m send k xs (free k (omega arith))))
    ∙ all_undone m send k xs (omega arith) (λ i lt. free i (omega arith)) d

-- the same of the regions, while ranges come to be held one after another
module _ (r s : Registry) (send k : ℕ) (xs : List Span) (so_far : s ≡ with_holds r send (take k xs)) (few : length xs ≤ 4) (free : HoldsNone r send) where
  pub holds_next : (t : Registry) (d : Span) → k < length xs → t ≡ with_hold s (hold_key send k) (get_or xs k d) → t ≡ with_holds r send (take (k + 1) xs)
  holds_next t d lt is =
      let e : suc k ≡ k + 1 = omega arith in
      is
      ∙ ap (λ q. with_hold q (hold_key send k) (get_or xs k d)) so_far
      ∙ ap (λ (h : HeldRanges). record r { held = h }) (sym (with_next_first r.held send k xs d lt))
      ∙ ap (λ j. with_holds r send (take j xs)) e

  pub is_free : k < length xs → finite.get s.held (hold_key send k) ≡ None
  is_free lt = ap (λ (q : Registry). finite.get q.held (hold_key send k)) so_far ∙ next_free r.held send k xs (free k (omega (arith, lt, few)))

  pub gives_up : (t u : Registry) (d : Span) → k < length xs → t ≡ s → u ≡ without_holds t send k → u ≡ r
  gives_up t u d lt same is =
      is ∙ ap (λ q. without_holds q send k) (same ∙ so_far) ∙ ap (λ (h : HeldRanges). record r { held = h }) (all_undone r.held send k xs (omega arith) (λ i below. free i (omega (arith, below, lt, few))) d)

-- each range is held under its part
each_held : (m : HeldRanges) (send part : ℕ) (xs : List Span) (i : ℕ) → i < length xs → finite.get (with_all m send part xs) (hold_key send (part + i)) ≡ slice_get xs i
each_held m send part [] i lt = absurd (omega arith)
each_held m send part (x ∷ xs) zero lt =
    let e : part + 0 ≡ part = omega arith in
    ap (λ j. finite.get (with_all (finite.insert m (hold_key send part) x) send (part + 1) xs) (hold_key send j)) e
    ∙ get_all (finite.insert m (hold_key send part) x) send (part + 1) xs (hold_key send part) (λ i below. another_part send part ((part + 1) + i) (λ same. omega (arith, same)))
    ∙ get_put by_key m (hold_key send part) x
each_held m send part (x ∷ xs) (suc i) lt =
    let e : part + suc i ≡ (part + 1) + i = omega arith in
    ap (λ j. finite.get (with_all (finite.insert m (hold_key send part) x) send (part + 1) xs) (hold_key send j)) e ∙ each_held (finite.insert m (hold_key send part) x) send (part + 1) xs i (omega arith)

pub each_is_held : EachIsHeld
each_is_held r send xs part lt = let e : part ≡ 0 + part = omega arith in ap (λ j. finite.get (with_all r.held send 0 xs) (hold_key send j)) e ∙ each_held r.held send 0 xs part lt

-- none is left
none_left : (m : HeldRanges) (send k i : ℕ) → i < k → finite.get (without_all m send k) (hold_key send i) ≡ None
none_left m send zero i lt = absurd (omega arith)
none_left m send (suc k) i lt =
    elim (cases_lt i k) [
      | inl below ↦ none_left (finite.remove m (hold_key send k)) send k i below
      | inr past ↦
          let e : i ≡ k = omega arith in
          get_but (finite.remove m (hold_key send k)) send k (hold_key send i) (λ j below. another_part send i j (λ same. omega (arith, same, below, past))) ∙ ap (λ n. finite.get (finite.remove m (hold_key send k)) (hold_key send n)) e ∙ get_gone by_key m (hold_key send k)
    ]

pub none_is_held : NoneIsHeld
none_is_held r send part lt = none_left r.held send 4 part lt

-- what is leased stays so
pub leased_after : {A : Type 0} (r : Registry) (send : ℕ) (xs : List Span) (answer : Result A RegionRefused) → (after_hold_all r send xs answer).leased ≡ r.leased
leased_after r send xs (Ok done) = refl
leased_after r send xs (Err why) = refl
