-- The tree over the ends of numbers: what a new leaf leaves, and where the way down ends.
use Rattle.std.proofs.Common.{◌≡◌, ◌≢◌, ℕ, zero, suc, ◌+◌, ◌-◌, ◌*◌, ◌/◌, ◌^◌, ◌<◌, ◌≤◌, max, List, [], ◌∷◌, length, get_or, drop, Some, None, refl, sym, ap, ◌∙◌, inl, inr, arith}
use Rattle.std.specs.List.{slice_index}
use Rattle.std.specs.Int.{IsPowerOfTwo}
use Rattle.std.proofs.lemmas.Bool.{cases_eq, cases_lt}
use Rattle.std.proofs.lemmas.Bool.Decides.{nat_tests}
use Rattle.std.proofs.lemmas.List.{get_or-drop, length-drop}
use Rattle.std.proofs.lemmas.Nat.{pow_pos}
use Rattle.std.proofs.Math.Nat.{pow-succ', pow-le-pow_right}
use Rattle.rdm_pool.specs.Ends.{IsTree, first_above}

-- each node above the leaves but one has the greater of the two below it
abbrev pub IsTreeBut : ℕ → ℕ → List ℕ → Type 0
IsTreeBut but leaves tree = (node : ℕ) → 1 ≤ node → node < leaves → node ≢ but → slice_index tree node ≡ max (slice_index tree (2 * node)) (slice_index tree (2 * node + 1))

-- no node is above the first
root_greatest : (fuel leaves : ℕ) (tree : List ℕ) → IsTree leaves tree → (node : ℕ) → 1 ≤ node → node ≤ fuel → node < 2 * leaves → slice_index tree node ≤ slice_index tree 1
root_greatest zero leaves tree is node from le within = absurd (omega (arith, from, le))
root_greatest (suc fuel) leaves tree is node from le within =
    elim (cases_eq node 1) [
      | inl same ↦ rw same (omega arith)
      | inr away ↦
          let above = is (node / 2) (omega arith) (omega arith) in
          let higher = root_greatest fuel leaves tree is (node / 2) (omega arith) (omega arith) (omega arith) in
          elim (cases_eq (2 * (node / 2)) node) [
            | inl even ↦ let below = rw even at above in omega (arith, below, higher)
            | inr odd ↦
                let same : 2 * (node / 2) + 1 ≡ node = omega arith in
                let below = rw same at above in
                omega (arith, below, higher)
          ]
    ]

-- where no end is above a number
none_above : (ends : List ℕ) (number : ℕ) → ((i : ℕ) → i < length ends → get_or ends i 0 ≤ number) → first_above ends number ≡ None
unfolding first_above
none_above [] number below = refl
none_above (end ∷ rest) number below = grind (arith, nat_tests, below 0 (omega arith), none_above rest number (λ i within. below (suc i) (omega arith)))

-- where the ends before one are not above a number
found_above : (ends : List ℕ) (number i : ℕ) → i < length ends → number < get_or ends i 0 → ((j : ℕ) → j < i → get_or ends j 0 ≤ number) → first_above ends number ≡ Some (get_or ends i 0)
unfolding first_above
found_above [] number i within above before = absurd (omega (arith, within))
found_above (end ∷ rest) number zero within above before = grind (arith, nat_tests, above)
found_above (end ∷ rest) number (suc i) within above before = grind (arith, nat_tests, before 0 (omega arith), found_above rest number i (omega arith) above (λ j less. before (suc j) (omega arith)))

-- where the first node is not above a number, no leaf is
pub none_in_tree : (leaves number : ℕ) (tree : List ℕ) → length tree ≡ 2 * leaves → 1 ≤ leaves → IsTree leaves tree → slice_index tree 1 ≤ number → first_above (drop leaves tree) number ≡ None
none_in_tree leaves number tree nodes some is low =
    none_above (drop leaves tree) number (λ i within.
    let counted = length-drop leaves tree in
    let greatest = root_greatest (leaves + i) leaves tree is (leaves + i) (omega arith) (omega arith) (omega (arith, within, counted, nodes)) in
    rw (get_or-drop leaves tree i 0) (omega (arith, greatest, low)))

-- a way down has come to a node of a level: it is above the number, and the nodes of its level
-- before it are not
pub record IsWayDown (leaves : ℕ) (tree : List ℕ) (number node : ℕ) : Type 0 where
  pub level : ℕ
  pub levels : ℕ
  pub counted : leaves ≡ 2 ^ levels
  pub not_past : level ≤ levels
  pub from : 2 ^ level ≤ node
  pub within : node < 2 * 2 ^ level
  pub above : number < slice_index tree node
  pub before : (other : ℕ) → 2 ^ level ≤ other → other < node → slice_index tree other ≤ number

-- it begins at the first node
pub way_begins : (leaves : ℕ) (tree : List ℕ) (number : ℕ) → IsPowerOfTwo leaves → number < slice_index tree 1 → IsWayDown leaves tree number 1
way_begins leaves tree number power above = record {
  level = 0;
  levels = power.0;
  counted = power.1;
  not_past = omega arith;
  from = omega arith;
  within = omega arith;
  above = above;
  before = λ other from less. absurd (omega arith);
}

-- a node above the leaves is not of the last level
goes_on : (leaves : ℕ) (tree : List ℕ) (number node : ℕ) (way : IsWayDown leaves tree number node) → node < leaves → way.level < way.levels
goes_on leaves tree number node way less = elim (cases_lt way.level way.levels) [
  | inl on ↦ on
  | inr past ↦
      let last : way.level ≡ way.levels = omega (arith, past, way.not_past) in
      absurd (omega (arith, way.from, way.counted, ap (λ k. 2 ^ k) last, less))
]

-- nodes below those that are not above the number are not above it
before_next : (leaves : ℕ) (tree : List ℕ) (number node : ℕ) (way : IsWayDown leaves tree number node) → IsTree leaves tree → node < leaves → (other : ℕ) → 2 * 2 ^ way.level ≤ other → other < 2 * node → slice_index tree other ≤ number
before_next leaves tree number node way is less other from before =
    let power = pow_pos way.level in
    let above = is (other / 2) (omega (arith, from, power)) (omega (arith, before, less)) in
    let low = way.before (other / 2) (omega (arith, from)) (omega (arith, before)) in
    elim (cases_eq (2 * (other / 2)) other) [
      | inl even ↦ let below = rw even at above in omega (arith, below, low)
      | inr odd ↦
          let same : 2 * (other / 2) + 1 ≡ other = omega arith in
          let below = rw same at above in
          omega (arith, below, low)
    ]

-- it goes on to the left where that is above the number
pub way_left : (leaves : ℕ) (tree : List ℕ) (number node : ℕ) → IsWayDown leaves tree number node → IsTree leaves tree → node < leaves → number < slice_index tree (2 * node) → IsWayDown leaves tree number (2 * node)
way_left leaves tree number node way is less above =
    let twice = pow-succ' 2 way.level in
    record {
      level = suc way.level;
      levels = way.levels;
      counted = way.counted;
      not_past = goes_on leaves tree number node way less;
      from = omega (arith, twice, way.from);
      within = omega (arith, twice, way.within);
      above = above;
      before = λ other from before. before_next leaves tree number node way is less other (omega (arith, twice, from)) before;
    }

-- and else to the right
pub way_right : (leaves : ℕ) (tree : List ℕ) (number node : ℕ) → IsWayDown leaves tree number node → IsTree leaves tree → 1 ≤ node → node < leaves → slice_index tree (2 * node) ≤ number → IsWayDown leaves tree number (2 * node + 1)
way_right leaves tree number node way is one less low =
    let twice = pow-succ' 2 way.level in
    let here = is node one less in
    record {
      level = suc way.level;
      levels = way.levels;
      counted = way.counted;
      not_past = goes_on leaves tree number node way less;
      from = omega (arith, twice, way.from);
      within = omega (arith, twice, way.within);
      above = omega (arith, here, way.above, low);
      before = λ other from before. elim (cases_eq other (2 * node)) [
        | inl same ↦ rw same low
        | inr away ↦ before_next leaves tree number node way is less other (omega (arith, twice, from)) (omega (arith, before, away))
      ];
    }

-- it ends at the first leaf above the number
pub way_ends : (leaves : ℕ) (tree : List ℕ) (number node : ℕ) → IsWayDown leaves tree number node → length tree ≡ 2 * leaves → leaves ≤ node → first_above (drop leaves tree) number ≡ Some (slice_index tree node)
way_ends leaves tree number node way nodes past =
    elim (cases_lt way.level way.levels) [
      | inl on ↦ absurd (omega (arith, way.within, past, way.counted, twice_below way.level way.levels on))
      | inr at_end ↦
          let last : way.level ≡ way.levels = omega (arith, at_end, way.not_past) in
          let first : 2 ^ way.level ≡ leaves = ap (λ k. 2 ^ k) last ∙ sym way.counted in
          let place : leaves + (node - leaves) ≡ node = omega (arith, past) in
          let counted = length-drop leaves tree in
          let found = get_or-drop leaves tree (node - leaves) 0 ∙ ap (λ i. get_or tree i 0) place in
          found_above (drop leaves tree) number (node - leaves) (omega (arith, way.within, first, counted, nodes, past)) (rw found way.above) (λ j less. rw (get_or-drop leaves tree j 0) (way.before (leaves + j) (omega (arith, first)) (omega (arith, less, past))))
          ∙ ap Some found
    ]
  where
    twice_below : (level levels : ℕ) → level < levels → 2 * 2 ^ level ≤ 2 ^ levels
    twice_below level levels less = rw (← pow-succ' 2 level) (pow-le-pow_right (omega arith) less)

-- a power of two is at least 1
pub power_some : (n : ℕ) → IsPowerOfTwo n → 1 ≤ n
power_some n power = omega (arith, power.1, pow_pos power.0)

-- a node on the way down is at least 1
pub way_from_one : (leaves : ℕ) (tree : List ℕ) (number node : ℕ) → IsWayDown leaves tree number node → 1 ≤ node
way_from_one leaves tree number node way = omega (arith, way.from, pow_pos way.level)
