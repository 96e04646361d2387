-- Values in slots, in order.
use Rattle.std.proofs.Common.{◌≡◌, ℕ, zero, suc, ◌+◌, ◌<◌, ◌≤◌, Bool, true, false, List, [], ◌∷◌, ◌++◌, map, length, get_or, set, drop, replicate, reverse, refl, sym, ap, ◌∙◌, subst, arith, Option, Some, None, append_assoc, append-nil, option_to_list, get_or-set_same, get_or-set_other}
use Rattle.std.proofs.lemmas.List.{reverse-append}
use mathlib.Core.Logic.{dite}
use mathlib.Core.Option.{some, some-injective}
use native.Mathlib.Decide.{ℕ_discrete}
use lib.ListN.{get_elem?}
use Rattle.atomic_table.proofs.Lists.{drop_at}
use Rattle.rdm_turn.specs.Slots.{values_of, EachFits}

-- words that are all 0
pub zeros : (n i : ℕ) → get_or (replicate {A = ℕ} n 0) i 0 ≡ 0
zeros zero i = refl
zeros (suc n) zero = refl
zeros (suc n) (suc i) = zeros n i

module _ {V : Type 0} where
  values_of-append : (xs ys : List (Option V)) → values_of (xs ++ ys) ≡ values_of xs ++ values_of ys
  values_of-append [] ys = refl
  values_of-append (None ∷ xs) ys = values_of-append xs ys
  values_of-append (Some x ∷ xs) ys = ap (λ l. x ∷ l) (values_of-append xs ys)

  values_of-map : (values : List V) → values_of (map Some values) ≡ values
  values_of-map [] = refl
  values_of-map (x ∷ values) = ap (λ l. x ∷ l) (values_of-map values)

  -- the values in slots that were filled with these values
  pub values_in : (slots : List (Option V)) (values : List V) → slots ≡ map Some values → values_of slots ≡ values
  values_in slots values is = ap (λ l. values_of l) is ∙ values_of-map values

  -- a word for each of these values is a word for each value in the slots
  pub words_for : (words : List ℕ) (n : ℕ) (slots : List (Option V)) (values : List V) → words ≡ replicate n 0 → n ≡ length values → slots ≡ map Some values → words ≡ replicate (length (values_of slots)) 0
  words_for words n slots values are count is = are ∙ (ap (λ k. replicate k 0) count ∙ ap (λ l. replicate (length l) 0) (sym (values_in slots values is)))

  -- slots that were filled with these values have them all
  pub full_of : (slots : List (Option V)) (values : List V) → slots ≡ map Some values → slots ≡ map Some (values_of slots)
  full_of slots values is = is ∙ ap (λ l. map Some l) (sym (values_in slots values is))

  -- the last slot was taken away, and its value added to those that were taken before, the last one first
  pub moved : (slots : List (Option V)) (slot : Option V) (done : List V) → values_of slots ++ reverse (done ++ option_to_list slot) ≡ values_of (slots ++ slot ∷ []) ++ reverse done
  moved slots None done = ap (λ l. values_of slots ++ reverse l) (append-nil done) ∙ ap (λ l. l ++ reverse done) (sym (append-nil (values_of slots)) ∙ sym (values_of-append slots (None ∷ [])))
  moved slots (Some x) done =
      ap (λ l. values_of slots ++ l) (reverse-append done (x ∷ []))
      ∙ (sym (append_assoc (values_of slots) (x ∷ []) (reverse done)) ∙ ap (λ l. l ++ reverse done) (sym (values_of-append slots (Some x ∷ []))))

  one_more : (slot : Option V) (slots : List (Option V)) → values_of (slot ∷ slots) ≡ option_to_list slot ++ values_of slots
  one_more None slots = refl
  one_more (Some x) slots = refl

  -- the first slot that was left is passed, and its value added to those before
  pub passed : (done : List V) (slots : List (Option V)) (i : ℕ) (slot : Option V) → get_elem? slots i ≡ some slot → (done ++ option_to_list slot) ++ values_of (drop (i + 1) slots) ≡ done ++ values_of (drop i slots)
  passed done slots i slot at =
      let next : suc i ≡ i + 1 = omega arith in
      append_assoc done (option_to_list slot) (values_of (drop (i + 1) slots))
      ∙ ap (λ l. done ++ l) (ap (λ k. option_to_list slot ++ values_of (drop k slots)) (sym next) ∙ (sym (one_more slot (drop (suc i) slots)) ∙ ap (λ l. values_of l) (sym (drop_at slots i slot at))))

  -- a slot that was filled with values that fit has one that fits
  pub slot_fits : (fits : V → ℕ → Type 0) (values : List V) → EachFits fits values → (i : ℕ) → i < length values → (x : V) × (get_elem? (map Some values) i ≡ some (Some x)) × fits x i
  slot_fits fits [] each i near = absurd (omega arith)
  slot_fits fits (x ∷ values) each zero near = (x, refl, each zero x refl)
  slot_fits fits (x ∷ values) each (suc i) near = slot_fits (λ y k. fits y (suc k)) values (λ k y e. each (suc k) y e) i (omega arith)

  same_value : (x y : V) → Some x ≡ Some y → x ≡ y
  same_value x y e = cc

  -- a value that fits the first place, before values that fit the next ones
  fits_first : (fits : V → ℕ → Type 0) (x : V) (values : List V) → fits x 0 → EachFits (λ y k. fits y (suc k)) values → EachFits fits (x ∷ values)
  fits_first fits x values first rest zero y e = subst (λ z. fits z 0) (same_value x y e) first
  fits_first fits x values first rest (suc i) y e = rest i y e

  -- where each slot has a value that fits, there are as many values as slots, and each of them fits
  pub all_fit : (fits : V → ℕ → Type 0) (slots : List (Option V)) → ((i : ℕ) → i < length slots → (x : V) × (get_elem? slots i ≡ some (Some x)) × fits x i) → (length (values_of slots) ≡ length slots) × EachFits fits (values_of slots)
  all_fit fits [] each = (refl, λ i x e. absurd (cc))
  all_fit fits (None ∷ slots) each = let x = each zero (omega arith) in absurd (cc)
  all_fit fits (Some x ∷ slots) each =
      let first = each zero (omega arith) in
      let is : x ≡ first.0 = same_value x first.0 (some-injective (Some x) (Some first.0) first.1) in
      let rest = all_fit (λ y k. fits y (suc k)) slots (λ i near. each (suc i) (omega arith)) in
      (ap suc rest.0, fits_first fits x (values_of slots) (subst (λ z. fits z 0) (sym is) first.2) rest.1)

-- a slot that was emptied leaves the later ones filled, and the earlier ones empty
pub later_filled : (filled : List Bool) (i n : ℕ) → ((k : ℕ) → i ≤ k → k < n → get_or filled k false ≡ true) → (k : ℕ) → i + 1 ≤ k → k < n → get_or (set filled i false) k false ≡ true
later_filled filled i n each k from near = get_or-set_other filled i k false false (λ e. omega arith) ∙ each k (omega arith) near

pub earlier_empty : (filled : List Bool) (i : ℕ) → i < length filled → ((k : ℕ) → k < i → get_or filled k false ≡ false) → (k : ℕ) → k < i + 1 → get_or (set filled i false) k false ≡ false
earlier_empty filled i near each k before =
    dite (ℕ_discrete k i)
    (λ e. ap (λ n. get_or (set filled i false) n false) e ∙ get_or-set_same filled i false false near)
    (λ ne. get_or-set_other filled i k false false ne ∙ each k (omega arith))
