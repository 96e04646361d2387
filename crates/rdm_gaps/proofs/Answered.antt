-- Whether a range is missing, by the gap that has its first place.
use Rattle.std.proofs.Common.{◌≡◌, ℕ, ◌+◌, ◌<◌, ◌≤◌, ◌↔◌, true, false, ltb, ltb-true, ltb-false, List, length, get_or, IsTrue, refl, sym, ap, subst, ◌∙◌, arith}
use Rattle.std.proofs.lemmas.Bool.{true≢false}
use Rattle.std.proofs.lemmas.List.{get_or_default}
use Rattle.std.specs.List.{All}
use Rattle.rdm_gaps.specs.declared.ranges.Gap.{Gap}
use Rattle.rdm_gaps.specs.Places.{Missing, AreMissing}
use Rattle.rdm_gaps.specs.Ranges.{places_of, AreApart, Has, Misses, gap_at}
use Rattle.rdm_gaps.proofs.Covered.{length-places_of}
use Rattle.rdm_gaps.proofs.Runs.{run_missed_all, run_had, missing_by_run, run_by_missing}

-- where a search in a slice of the gaps found the place, and the gap that was read there
pub record Found (place i : ℕ) (g : Gap) (gaps : List Gap) : Type 0 where
  pub below : i < length gaps
  pub has : Has place (gap_at gaps i)
  pub same : gap_at gaps i ≡ g

pub found : (place i : ℕ) (g : Gap) (slice gaps : List Gap) → slice ≡ gaps → (i < length slice) × Has place (gap_at slice i) → g ≡ get_or gaps i g → Found place i g gaps
found place i g slice gaps is at read =
    let both = subst (λ l. (i < length l) × Has place (gap_at l i)) is at in
    record {
      below = both.0;
      has = both.1;
      same = get_or_default gaps i _ g both.0 ∙ sym read;
    }

pub says_no : {P : Type 0} → (P → ⊥) → IsTrue false ↔ P
says_no f = (λ t. absurd (true≢false (sym t)), λ p. absurd (f p))

pub says_yes : {P : Type 0} → P → IsTrue true ↔ P
says_yes p = (λ t. p, λ q. refl)

-- what is no more than n only by a false test is more
pub more_than : (a n : ℕ) → (a ≤ n → IsTrue false) → n < a
more_than a n f = elim (ltb n a) as (λ v. ltb n a ≡ v → n < a) [ true ↦ λ e. ltb-true n a e | false ↦ λ e. absurd (true≢false (sym (f (ltb-false n a e)))) ] refl

-- the range that is asked for, of the message whose missing places the gaps are
module _ (n off len : ℕ) (gaps : List Gap) (m : Missing) (places : places_of 0 n gaps ≡ m.places) (apart : AreApart 0 n gaps) where
  to_gaps : AreMissing off len m.places → AreMissing off len (places_of 0 n gaps)
  to_gaps a = subst (AreMissing off len) (sym places) a

  -- the range passes the end
  pub not_within : n < off + len → AreMissing off len m.places → ⊥
  not_within lt a = let size = length-places_of 0 n gaps apart in omega (arith, (to_gaps a).0)

  -- the range is empty
  pub empty_is_missing : len ≡ 0 → off + len ≤ n → AreMissing off len m.places
  empty_is_missing e le =
      let size = length-places_of 0 n gaps apart in
      subst (AreMissing off len) places (missing_by_run off len (places_of 0 n gaps) (omega (arith, size)) (omega arith))

  -- no gap has its first place
  pub none_is_not : (slice : List Gap) → slice ≡ gaps → (len ≡ 0 → ⊥) → All (Misses off) slice → AreMissing off len m.places → ⊥
  none_is_not slice is some misses a =
      let run = run_missed_all n off gaps apart (subst (All (Misses off)) is misses) in
      let le = run_by_missing off len (places_of 0 n gaps) (to_gaps a) in
      some (omega (arith, run, le))

  module _ (i : ℕ) (g : Gap) (f : Found off i g gaps) where
    length_run : off + len ≤ g.end → off + len ≤ n → AreMissing off len (places_of 0 n gaps)
    length_run p le =
        let size = length-places_of 0 n gaps apart in
        let run = run_had n off i gaps apart f.below f.has in
        let end = ap (λ (h : Gap). h.end) f.same in
        missing_by_run off len (places_of 0 n gaps) (omega (arith, size)) (omega (arith, run, end))

    -- the gap ends within the range
    pub ends_early : g.end < off + len → AreMissing off len m.places → ⊥
    ends_early lt a =
        let run = run_had n off i gaps apart f.below f.has in
        let le = run_by_missing off len (places_of 0 n gaps) (to_gaps a) in
        let end = ap (λ (h : Gap). h.end) f.same in
        omega (arith, run, le, end, f.has.0, f.has.1)

    -- the gap has all of the range
    pub has_all : off + len ≤ g.end → off + len ≤ n → AreMissing off len m.places
    has_all p le = subst (AreMissing off len) places (length_run p le)
