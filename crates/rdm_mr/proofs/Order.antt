-- Parts that lie in order.
use Rattle.std.proofs.Common.{◌≡◌, ℕ, zero, suc, ◌+◌, ◌-◌, ◌<◌, ◌≤◌, inl, inr, true, false, ltb, List, [], ◌∷◌, ◌++◌, length, get_or, map, replicate, Option, Some, None, refl, ap, subst, ◌∙◌, arith, ltb-true, ltb-false}
use Rattle.std.proofs.lemmas.List.{get_or_default, get_or_past, get_or_append_left, get_or-append-add, get_or-replicate, length-replicate, length-map}
use Rattle.std.specs.List.{All, AllWithin}
use Rattle.std.specs.List.Sorted.{IsNonDecreasingBy}
use Rattle.rdm_mr.specs.Part.{Piece, end_of}
use Rattle.rdm_mr.specs.Ordered.{cells_of, AreApart, Misses, LacksOne}
use Rattle.rdm_mr.specs.Tiles.{AreHome}
use Rattle.rdm_mr.proofs.Cells.{AreApart_lower, home_at}

-- a part among those that lie from lo on
pub apart_from : (lo n : ℕ) (parts : List Piece) → AreApart lo n parts → (i : ℕ) (d : Piece) → i < length parts → (lo ≤ (get_or parts i d).start) × (0 < length ((get_or parts i d).bytes))
apart_from lo n [] s i d lt = absurd (omega arith)
apart_from lo n (p ∷ parts) s zero d lt = (s.0, s.1)
apart_from lo n (p ∷ parts) s (suc i) d lt =
    let rest = apart_from (end_of p + 1) n parts s.2 i d (omega arith) in
    (omega (arith, s.0, s.1, rest.0), rest.1)

-- a later part begins after the end of an earlier one
pub later_begins : (lo n : ℕ) (parts : List Piece) → AreApart lo n parts → (i j : ℕ) (d : Piece) → i < j → j < length parts → end_of (get_or parts i d) < (get_or parts j d).start
later_begins lo n [] s i j d le lt = absurd (omega arith)
later_begins lo n (p ∷ parts) s i zero d le lt = absurd (omega arith)
later_begins lo n (p ∷ parts) s zero (suc j) d le lt =
    let later = apart_from (end_of p + 1) n parts s.2 j d (omega arith) in
    omega (arith, later.0)
later_begins lo n (p ∷ parts) s (suc i) (suc j) d le lt = later_begins (end_of p + 1) n parts s.2 i j d (omega arith) (omega arith)

pub ends_in_order : (lo n : ℕ) (parts : List Piece) → AreApart lo n parts → IsNonDecreasingBy end_of parts
ends_in_order lo n parts s i j d le lt =
    elim (ltb i j) as (λ v. ltb i j ≡ v → end_of (get_or parts i d) ≤ end_of (get_or parts j d)) [
      | true ↦ λ e. let begins = later_begins lo n parts s i j d (ltb-true i j e) lt in omega arith
      | false ↦ λ e.
          let over = ltb-false i j e in
          let same : i ≡ j = omega arith in
          let ends = ap (λ k. end_of (get_or parts k d)) same in
          omega (arith, ends)
    ] refl

-- the parts before i end by the place, and the one at i begins after it or ends by it, as the later ones begin after it
none_has : (lo n place i : ℕ) (d : Piece) (parts : List Piece) → AreApart lo n parts → AllWithin (λ (p : Piece). end_of p ≤ place) parts 0 i → (i < length parts → Misses place (get_or parts i d) × (place ≤ end_of (get_or parts i d)))
    → All (Misses place) parts
none_has lo n place i d parts s before here k e lt =
    elim (ltb k i) as (λ v. ltb k i ≡ v → Misses place (get_or parts k e)) [
      | true ↦ λ v. let below : k < i = ltb-true k i v in inl (before k e (omega arith) below)
      | false ↦ λ v.
          let over : i ≤ k = ltb-false k i v in
          let at = here (omega arith) in
          elim (ltb i k) as (λ w. ltb i k ≡ w → Misses place (get_or parts k e)) [
            | true ↦ λ w.
                let begins = later_begins lo n parts s i k e (ltb-true i k w) lt in
                let ends = ap end_of (get_or_default parts i d e (omega arith)) in
                inr (omega (arith, begins, ends, at.1))
            | false ↦ λ w.
                let back = ltb-false i k w in
                let same : i ≡ k = omega arith in
                subst (Misses place) (get_or_default parts i d e (omega arith) ∙ ap (λ j. get_or parts j e) same) at.0
          ] refl
    ] refl

-- where the search for `from` stopped, no part has all of the places from `from` up to end
module _ (lo n from end i : ℕ) (parts : List Piece) (s : AreApart lo n parts) (some : from < end) (before : AllWithin (λ (p : Piece). end_of p ≤ from) parts 0 i) where
  -- no part ends after it
  pub past_all : length parts ≤ i → LacksOne from end parts
  past_all le = (from, omega arith, some, λ k d lt. inl (before k d (omega arith) (omega arith)))

  module _ (d : Piece) (lt : i < length parts) (after : from < end_of (get_or parts i d)) where
    -- the part begins after it
    pub begins_after : from < (get_or parts i d).start → LacksOne from end parts
    begins_after low = (from, omega arith, some, none_has lo n from i d parts s before (λ below. (inr low, omega arith)))

    -- the part ends within the range
    pub ends_early : end_of (get_or parts i d) < end → LacksOne from end parts
    ends_early high =
        let stop = end_of (get_or parts i d) in
        (stop, omega arith, high, none_has lo n stop i d parts s (λ k e low below. let ends = before k e low below in omega (arith, ends)) (λ below. (inl (omega arith), omega arith)))

-- a place that no part has is out
pub missed_is_out : (lo n place : ℕ) (parts : List Piece) → lo ≤ place → AreApart lo n parts → All (Misses place) parts → get_or (cells_of lo n parts) (place - lo) None ≡ None
missed_is_out lo n place [] le s a =
    elim (ltb (place - lo) (n - lo)) as (λ v. ltb (place - lo) (n - lo) ≡ v → get_or (replicate {A = Option ℕ} (n - lo) None) (place - lo) None ≡ None) [
      | true ↦ λ v. get_or-replicate (n - lo) (place - lo) None None (ltb-true (place - lo) (n - lo) v)
      | false ↦ λ v. let size = length-replicate {A = Option ℕ} (n - lo) None in let over = ltb-false (place - lo) (n - lo) v in get_or_past (replicate (n - lo) None) (place - lo) None (omega arith)
    ] refl
missed_is_out lo n place (p ∷ parts) le s a =
    let A : List (Option ℕ) = replicate (p.start - lo) None in
    let B = map Some p.bytes in
    let C = cells_of (end_of p) n parts in
    let a' : length A ≡ p.start - lo = length-replicate (p.start - lo) None in
    let b' : length B ≡ length p.bytes = length-map p.bytes Some in
    elim (a 0 p (omega arith)) [
      | inr before ↦ get_or_append_left A (B ++ C) None (place - lo) (omega (arith, a', before)) ∙ get_or-replicate (p.start - lo) (place - lo) None None (omega (arith, before))
      | inl after ↦
          let i : place - lo ≡ length A + (place - p.start) = omega (arith, a', s.0, after) in
          let j : place - p.start ≡ length B + (place - end_of p) = omega (arith, b', after) in
          ap (λ k. get_or (A ++ (B ++ C)) k None) i ∙ get_or-append-add A (B ++ C) (place - p.start) None ∙ ap (λ k. get_or (B ++ C) k None) j ∙ get_or-append-add B C (place - end_of p) None
          ∙ missed_is_out (end_of p) n place parts after (AreApart_lower (end_of p + 1) (end_of p) n parts (omega arith) s.2) (λ k d lt. a (suc k) d (omega arith))
    ]

-- so a range of which the parts lack a place is not all at home
pub lacks_is_not_home : (lo n at len from : ℕ) (slice parts : List Piece) → slice ≡ parts → from ≡ lo + at → AreApart lo n parts → LacksOne from (from + len) slice → AreHome at len (cells_of lo n parts) → ⊥
lacks_is_not_home lo n at len from slice parts is e s lacks home =
    let a = subst (All (Misses lacks.0)) is lacks.3 in
    home_at at len (lacks.0 - lo) (cells_of lo n parts) home (omega (arith, lacks.1)) (omega (arith, lacks.1, lacks.2)) (missed_is_out lo n lacks.0 parts (omega (arith, lacks.1)) s a)
