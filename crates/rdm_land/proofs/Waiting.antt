-- What is missing or lent.
use Rattle.std.proofs.Common.{◌≡◌, ℕ, ◌+◌, ◌-◌, ◌<◌, ◌≤◌, ◌⊎◌, ◌↔◌, Bool, true, false, ◌||◌, List, [], ◌∷◌, length, get_or, drop, IsTrue, refl, sym, ap, subst, ◌∙◌, arith}
use Rattle.std.proofs.lemmas.Bool.{true≢false}
use Rattle.rdm_gaps.specs.Places.{AreMissing, run}
use Rattle.rdm_gaps.proofs.Covered.{all_at}
use Rattle.rdm_gaps.proofs.Runs.{run_missing, missing_by_run, run_by_missing}
use Rattle.rdm_land.specs.declared.spans.Span.{Span}
use Rattle.rdm_land.specs.Spans.{have, with_spans, AreApart}
use Rattle.rdm_mr.proofs.Overlays.{by_range}
use Rattle.rdm_land.proofs.SetRanges.{length-set, set_in, set_out, all_from_each}
use Rattle.rdm_land.proofs.Order.{apart_le, has_yes, has_out}

-- the place is missing or lent
abbrev pub waits : List Bool → List Span → ℕ → Bool
waits missing lent k = have k lent || get_or missing k false

pub or_yes : (a : Bool) → (a || true) ≡ true
or_yes true = refl
or_yes false = refl

-- where all that is lent is missing, the places are those that are missing or lent
pub length-with_spans : (lo n c : ℕ) (spans : List Span) (missing : List Bool) → AreApart lo n c spans → n ≡ length missing → length (with_spans spans missing) ≡ length missing
length-with_spans lo n c [] missing a e = refl
length-with_spans lo n c (s ∷ spans) missing a e =
    let rest = length-with_spans s.end n c spans missing a.3 e in
    let le = apart_le s.end n c spans a.3 in
    length-set true s.start (s.end - s.start) (with_spans spans missing) (omega (arith, rest, le, e, a.1)) ∙ rest

pub waits_each : (lo n c k : ℕ) (spans : List Span) (missing : List Bool) → AreApart lo n c spans → n ≡ length missing → get_or (with_spans spans missing) k false ≡ waits missing spans k
waits_each lo n c k [] missing a e = refl
waits_each lo n c k (s ∷ spans) missing a e =
    let size = length-with_spans s.end n c spans missing a.3 e in
    let le = apart_le s.end n c spans a.3 in
    let fits : s.start + (s.end - s.start) ≤ length (with_spans spans missing) = omega (arith, size, le, e, a.1) in
    let end : s.start + (s.end - s.start) ≡ s.end = omega (arith, a.1) in
    by_range s.start (s.end - s.start) k
    (λ p q. set_in true s.start (s.end - s.start) (with_spans spans missing) fits k p q ∙ ap (λ b. (b || have k spans) || get_or missing k false) (sym (has_yes k s p (omega (arith, end)))))
    (λ o. set_out true s.start (s.end - s.start) (with_spans spans missing) fits k o ∙ waits_each s.end n c k spans missing a.3 e
    ∙ ap (λ b. (b || have k spans) || get_or missing k false) (sym (has_out k s (subst (λ m. (k < s.start) ⊎ (m ≤ k)) end o))))

-- a run of missing places
pub run_fits : (at n : ℕ) (missing : List Bool) → n ≡ run (drop at missing) → 0 < n → at + n ≤ length missing
run_fits at n missing e some = let m = run_missing at missing (omega (arith, e, some)) in omega (arith, m.0, e)

pub run_waits : (at n : ℕ) (missing : List Bool) (lent : List Span) → n ≡ run (drop at missing) → 0 < n → (k : ℕ) → at ≤ k → k < at + n → waits missing lent k ≡ true
run_waits at n missing lent e some k p q =
    let m = run_missing at missing (omega (arith, e, some)) in
    ap (λ b. have k lent || b) (all_at true false at (run (drop at missing)) k missing m p (omega (arith, e))) ∙ or_yes (have k lent)

-- a place that is missing or lent is what is asked for
pub stops_here : (off at end : ℕ) (missing : List Bool) (lent : List Span) → off ≤ at → at < end → waits missing lent at ≡ false → IsTrue false ↔ ((k : ℕ) → off ≤ k → k < end → waits missing lent k ≡ true)
stops_here off at end missing lent low high none = (λ t. absurd (true≢false (sym t)), λ all. absurd (true≢false (sym (all at low high) ∙ none)))

-- the range is not missing, and would be if what is lent were
abbrev Only : List Bool → List Span → ℕ → ℕ → Type 0
Only missing lent off len = (AreMissing off len missing → ⊥) × AreMissing off len (with_spans lent missing)

-- what is asked of a landing
module _ (missing : List Bool) (lent : List Span) (off len : ℕ) where
  -- the range is missing
  pub not_missing : off + len ≤ length missing → len ≤ run (drop off missing) → Only missing lent off len → ⊥
  not_missing fits long only = only.0 (missing_by_run off len missing fits long)

  module _ (c : ℕ) (apart : AreApart 0 (length missing) c lent) where
    size : length (with_spans lent missing) ≡ length missing
    size = length-with_spans 0 (length missing) c lent missing apart refl

    -- the range passes the end
    pub past_end : length missing < off + len → Only missing lent off len → ⊥
    past_end lt only = omega (arith, size, only.1.0)

    -- the range is inside, and some place of it is not missing
    pub only_where_all_wait : off + len ≤ length missing → run (drop off missing) < len → (r : Bool) → IsTrue r ↔ ((k : ℕ) → off ≤ k → k < off + len → waits missing lent k ≡ true) → IsTrue r ↔ Only missing lent off len
    only_where_all_wait fits short r all = (
      λ t. (λ m. (let le = run_by_missing off len missing m in omega (arith, le)), all_from_each true off len (with_spans lent missing) (omega (arith, size)) (λ k p q. waits_each 0 (length missing) c k lent missing apart refl ∙ all.0 t k p q)),
      λ only. all.1 (λ k p q. sym (waits_each 0 (length missing) c k lent missing apart refl) ∙ all_at true false off len k (with_spans lent missing) only.1 p q),
    )

pub says_no : {P : Type 0} → (P → ⊥) → IsTrue false ↔ P
says_no f = (λ t. absurd (true≢false (sym t)), λ p. absurd (f p))
