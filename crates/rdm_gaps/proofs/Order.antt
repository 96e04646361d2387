-- Gaps that lie in order.
use Rattle.std.proofs.Common.{ℕ, zero, suc, ◌+◌, ◌<◌, ◌≤◌, inl, inr, ltb, ltb-true, ltb-false, ◌≡◌, true, false, refl, List, [], ◌∷◌, length, get_or, take, sym, ap, subst, arith}
use Rattle.std.proofs.lemmas.List.{get_or-take, get_or_default, length-take-le}
use Rattle.std.specs.List.{All, AllWithin}
use Rattle.std.specs.List.Sorted.{IsNonDecreasingBy}
use Rattle.rdm_gaps.specs.declared.ranges.Gap.{Gap}
use Rattle.rdm_gaps.specs.Ranges.{gap, gap_at, AreApart, Misses}

-- a gap among those that lie from lo on
pub apart_from : (lo n : ℕ) (gaps : List Gap) → AreApart lo n gaps → (i : ℕ) (d : Gap) → i < length gaps → (lo ≤ (get_or gaps i d).start) × ((get_or gaps i d).start < (get_or gaps i d).end)
apart_from lo n [] s i d lt = absurd (omega arith)
apart_from lo n (g ∷ gaps) s zero d lt = (s.0, s.1)
apart_from lo n (g ∷ gaps) s (suc i) d lt =
    let rest = apart_from (g.end + 1) n gaps s.2 i d (omega arith) in
    (omega (arith, s.0, s.1, rest.0), rest.1)

-- an earlier gap begins and ends no later
pub in_order : (lo n : ℕ) (gaps : List Gap) → AreApart lo n gaps → (i j : ℕ) (d : Gap) → i ≤ j → j < length gaps
    → ((get_or gaps i d).start ≤ (get_or gaps j d).start) × ((get_or gaps i d).end ≤ (get_or gaps j d).end)
in_order lo n [] s i j d le lt = absurd (omega arith)
in_order lo n (g ∷ gaps) s zero zero d le lt = (omega arith, omega arith)
in_order lo n (g ∷ gaps) s zero (suc j) d le lt =
    let later = apart_from (g.end + 1) n gaps s.2 j d (omega arith) in
    (omega (arith, s.1, later.0), omega (arith, later.0, later.1))
in_order lo n (g ∷ gaps) s (suc i) zero d le lt = absurd (omega arith)
in_order lo n (g ∷ gaps) s (suc i) (suc j) d le lt = in_order (g.end + 1) n gaps s.2 i j d (omega arith) (omega arith)

pub ends_in_order : (lo n : ℕ) (gaps : List Gap) → AreApart lo n gaps → IsNonDecreasingBy (λ (g : Gap). g.end) gaps
ends_in_order lo n gaps s i j d le lt = (in_order lo n gaps s i j d le lt).1

-- those before i end by the place, and the one at i begins after it
pub none_has : (lo n place i : ℕ) (gaps : List Gap) → AreApart lo n gaps → AllWithin (λ (g : Gap). g.end ≤ place) gaps 0 i
    → (i < length gaps → place < (gap_at gaps i).start) → All (Misses place) gaps
none_has lo n place i gaps s before after k d lt =
    elim (ltb k i) as (λ v. ltb k i ≡ v → Misses place (get_or gaps k d)) [
      | true ↦ λ e. let below : k < i = ltb-true k i e in inl (before k d (omega arith) below)
      | false ↦ λ e.
          let le : i ≤ k = ltb-false k i e in
          let first = after (omega arith) in
          let same = get_or_default gaps i (gap 0 0) d (omega arith) in
          let start = ap (λ (g : Gap). g.start) same in
          let order = in_order lo n gaps s i k d le lt in
          inr (omega (arith, first, start, order.0))
    ] refl

-- what holds of those before i holds of the first i
pub within_front : (P : Gap → Type 0) (i : ℕ) (gaps : List Gap) → i ≤ length gaps → AllWithin P gaps 0 i → All P (take i gaps)
within_front P i gaps le h k d lt =
    let size = length-take-le i gaps le in
    subst P (sym (get_or-take i gaps k d (omega arith))) (h k d (omega arith) (omega arith))
