-- A range that is lent stays lent over the calls for other ranges.
use Rattle.std.proofs.Common.{◌≡◌, ℕ, zero, suc, ◌+◌, ◌-◌, ◌<◌, ◌≤◌, ◌⊎◌, inl, inr, Bool, true, false, cond, leb, List, [], ◌∷◌, length, get_or, take, drop, map, replicate, min, Option, Some, None, is_none, Ok, Err, refl, sym, ap, subst, ◌∙◌, arith}
use Rattle.std.proofs.lemmas.List.{length-map, length-replicate, length-take, get_or-take, get_or-drop, get_or-replicate, nil_from_length}
use Rattle.std.proofs.lemmas.Bool.{true≢false}
use Rattle.std.specs.List.{Contains}
use Rattle.rdm_gaps.specs.Places.{AreMissing, AreTaken, with_range}
use Rattle.rdm_gaps.proofs.Covered.{all_at}
use Rattle.rdm_mr.specs.Part.{Piece}
use Rattle.rdm_mr.specs.Tiles.{laid, AreOut}
use Rattle.rdm_mr.proofs.Overlays.{by_lt, by_range, length-new, new_in, new_out, out_from_each}
use Rattle.rdm_mr.proofs.Undone.{laid_nothing}
use Rattle.rdm_land.specs.declared.spans.Span.{Span}
use Rattle.rdm_land.specs.declared.landing.Placed.TheVariants.{Placed, Overlap}
use Rattle.rdm_land.specs.Spans.{span, same, with_span, without_span, AreApart}
use Rattle.rdm_land.specs.Landed.{Landed, IsLent, IsPartOf, capacity, below}
use Rattle.rdm_land.specs.Loans.{IsLoan, ShareNone, LoansAreApart, LentAreLoans, LendGivesLoan, StayReserved, StayPlaced, StayFilled, StayLent, StayLanded, StayUnlent}
use Rattle.rdm_land.proofs.SetRanges.{length-set, set_in, set_out, all_from_each}
use Rattle.rdm_land.proofs.Order.{same_is}
use Rattle.rdm_land.specs.Inside.{Agrees}
use Rattle.rdm_land.proofs.Changed.{contained_bounds}
use Rattle.rdm_land.proofs.Agreed.{are_taken, are_out}
use Rattle.rdm_land.proofs.Laws.{lend_lends}

-- the place is in the range not
abbrev pub Beside : ℕ → ℕ → ℕ → Type 0
Beside at n k = (k < at) ⊎ (at + n ≤ k)

-- the cells fit where they are laid, or there are none
abbrev pub Fits : ℕ → List (Option ℕ) → List (Option ℕ) → Type 0
Fits at xs cells = (at + length xs ≤ length cells) ⊎ (xs ≡ [])

pub laid_long : (at : ℕ) (xs cells : List (Option ℕ)) → Fits at xs cells → length (laid at xs cells) ≡ length cells
laid_long at xs cells (inl fits) = length-new at xs cells None fits
laid_long at xs cells (inr none) = ap (λ x. length (laid at x cells)) none ∙ ap length (laid_nothing at cells)

pub laid_beside : (at : ℕ) (xs cells : List (Option ℕ)) (n k : ℕ) → Fits at xs cells → length xs ≤ n → Beside at n k → get_or (laid at xs cells) k None ≡ get_or cells k None
laid_beside at xs cells n k (inl fits) le (inl p) = new_out at xs cells None fits k (inl p)
laid_beside at xs cells n k (inl fits) le (inr p) = new_out at xs cells None fits k (inr (omega arith))
laid_beside at xs cells n k (inr none) le o = ap (λ x. get_or (laid at x cells) k None) none ∙ ap (λ l. get_or l k None) (laid_nothing at cells)

-- a cell of a range that is out
pub out_at : (off n k : ℕ) (cells : List (Option ℕ)) → AreOut off n cells → off ≤ k → k < off + n → is_none (get_or cells k None) ≡ true
out_at off n k cells out p q =
    let gone : length (replicate {A = Option ℕ} n None) ≡ n = length-replicate n None in
    let at : off + (k - off) ≡ k = omega arith in
    ap is_none
    (ap (λ j. get_or cells j None) (sym at) ∙ sym (get_or-drop off cells (k - off) None) ∙ sym (get_or-take (length (replicate {A = Option ℕ} n None)) (drop off cells) (k - off) None (omega (arith, gone)))
    ∙ ap (λ l. get_or l (k - off) None) out.1 ∙ get_or-replicate n (k - off) None None (omega arith))

-- a missing range and one that is not share no place
pub missing_beside : (at n off len k : ℕ) (missing : List Bool) → AreMissing at n missing → AreTaken off len missing → off ≤ k → k < off + len → Beside at n k
missing_beside at n off len k missing m taken p q = by_range at n k (λ low high. absurd (true≢false (sym (all_at true false at n k missing m low high) ∙ all_at false false off len k missing taken p q))) (λ o. o)

pub share_beside : (off len at n k : ℕ) → ShareNone off len at n → off ≤ k → k < off + len → Beside at n k
share_beside off len at n k (inl le) p q = inl (omega arith)
share_beside off len at n k (inr le) p q = inr (omega arith)

-- a range that is not missing, once tests beside it are set
pub taken_beside : (b : Bool) (at n off len : ℕ) (missing : List Bool) → at + n ≤ length missing → AreTaken off len missing → ((k : ℕ) → off ≤ k → k < off + len → Beside at n k) → AreTaken off len (with_range b at n missing)
taken_beside b at n off len missing fits taken o =
    let size = length-set b at n missing fits in
    all_from_each false off len (with_range b at n missing) (omega (arith, size, taken.0)) (λ k p q. set_out b at n missing fits k (o k p q) ∙ all_at false false off len k missing taken p q)

-- another range that is put in or taken out
contains_later : (s u : Span) (spans more : List Span) → (Contains spans s → Contains more s) → Contains (u ∷ spans) s → Contains (u ∷ more) s
contains_later s u spans more rest (zero, lt, e) = (zero, omega arith, e)
contains_later s u spans more rest (suc i, lt, e) = let r = rest (i, omega arith, e) in (suc r.0, omega (arith, r.1), r.2)

pub contains_with : (s t : Span) (spans : List Span) → Contains spans s → Contains (with_span t spans) s
contains_with s t [] (i, lt, e) = absurd (omega arith)
contains_with s t (u ∷ spans) c =
    elim (leb u.end t.start) as (λ v. Contains (cond v (u ∷ with_span t spans) (t ∷ u ∷ spans)) s) [ true ↦ contains_later s u spans (with_span t spans) (contains_with s t spans) c | false ↦ (suc c.0, omega (arith, c.1), c.2) ]

contains_past : (s t u : Span) (spans : List Span) → (s ≡ t → ⊥) → same t u ≡ true → Contains (u ∷ spans) s → Contains spans s
contains_past s t u spans other is (zero, lt, e) = absurd (other (sym e ∙ same_is t u is))
contains_past s t u spans other is (suc i, lt, e) = (i, omega arith, e)

pub contains_without : (s t : Span) (spans : List Span) → (s ≡ t → ⊥) → Contains spans s → Contains (without_span t spans) s
contains_without s t [] other (i, lt, e) = absurd (omega arith)
contains_without s t (u ∷ spans) other c =
    elim (same t u) as (λ v. same t u ≡ v → Contains (cond v spans (u ∷ without_span t spans)) s) [
      | true ↦ λ e. contains_past s t u spans other e c
      | false ↦ λ e. contains_later s u spans (without_span t spans) (contains_without s t spans other) c
    ] refl

module _ (l : Landed) (off len : ℕ) (part : Piece) (loan : IsLoan l off len part) where
  -- where its places are as they were, it stays
  pub stays : (missing : List Bool) (cells : List (Option ℕ)) (lent : List Span) (out room : ℕ) → Contains lent (span off len) → length cells ≡ capacity l → AreTaken off len missing → ((k : ℕ) → off ≤ k → k < off + len → get_or cells k None ≡ get_or l.tiles.cells k None)
      → IsLoan (record { tiles = record { block = l.tiles.block; whole = l.tiles.whole; start = l.tiles.start; cells = cells; out = out }; missing = missing; lent = lent; room = room }) off len part
  stays missing cells lent out room there size taken same =
      let gone : length (replicate {A = Option ℕ} (below l off len) None) ≡ below l off len = length-replicate (below l off len) None in (
        (there, loan.0.1, loan.0.2, loan.0.3 ∙ ap (λ k. min len (k - off)) (sym size)),
        subst (λ k. 0 < min len (k - off)) (sym size) loan.1,
        taken,
        subst (λ k. AreOut off (min len (k - off)) cells) (sym size) (out_from_each off (below l off len) cells (omega (arith, size, gone, loan.3.0)) (λ k p q. ap is_none (same k p (omega arith)) ∙ out_at off (below l off len) k l.tiles.cells loan.3 p q)),
      )

-- the bytes that are kept fit
kept_fits : (at : ℕ) (bytes : List ℕ) (cells : List (Option ℕ)) → Fits at (map Some (take (length cells - at) bytes)) cells
kept_fits at bytes cells =
    let kept = take (length cells - at) bytes in
    let long = length-take (length cells - at) bytes in
    let all = length-map kept Some in
    by_lt (length cells) at (λ lt. inr (ap (map Some) (nil_from_length kept (omega (arith, long))))) (λ le. inl (omega (arith, long, all)))

kept_short : (at : ℕ) (bytes : List ℕ) (cells : List (Option ℕ)) → length (map Some (take (length cells - at) bytes)) ≤ length bytes
kept_short at bytes cells = let long = length-take (length cells - at) bytes in let all = length-map (take (length cells - at) bytes) Some in omega (arith, long, all)

-- a part that comes back fits
module _ (l : Landed) (at n : ℕ) (part : Piece) (is : IsLent l at n part) where
  begins : part.start - l.tiles.start ≡ at
  begins = omega (arith, is.2)

  back_fits : Fits (part.start - l.tiles.start) (map Some part.bytes) l.tiles.cells
  back_fits = let long = length-map part.bytes Some in by_lt (capacity l) at (λ lt. inr (ap (map Some) (nil_from_length part.bytes (omega (arith, is.3))))) (λ le. inl (omega (arith, begins, long, is.3)))

  back_short : length (map Some part.bytes) ≤ n
  back_short = let long = length-map part.bytes Some in omega (arith, long, is.3)

  -- a range beside it is another
  other : (off len : ℕ) → 0 < len → ShareNone off len at n → span off len ≡ span at n → ⊥
  other off len some (inl le) e = let start = ap (λ (s : Span). s.start) e in omega (arith, start)
  other off len some (inr le) e = let start = ap (λ (s : Span). s.start) e in let end = ap (λ (s : Span). s.end) e in omega (arith, start, end)

pub stay_reserved : StayReserved
stay_reserved l n off len part loan = loan

pub stay_placed : StayPlaced
stay_placed l at bytes (Ok Placed) m off len part loan =
    let o : (k : ℕ) → off ≤ k → k < off + len → Beside at (length bytes) k = (λ k p q. missing_beside at (length bytes) off len k l.missing m loan.2 p q) in
    stays l off len part loan (with_range false at (length bytes) l.missing) (laid at (map Some (take (capacity l - at) bytes)) l.tiles.cells) l.lent l.tiles.out l.room loan.0.0
    (laid_long at (map Some (take (capacity l - at) bytes)) l.tiles.cells (kept_fits at bytes l.tiles.cells)) (taken_beside false at (length bytes) off len l.missing m.0 loan.2 o)
    (λ k p q. laid_beside at (map Some (take (capacity l - at) bytes)) l.tiles.cells (length bytes) k (kept_fits at bytes l.tiles.cells) (kept_short at bytes l.tiles.cells) (o k p q))
stay_placed l at bytes (Ok Overlap) m off len part loan = loan
stay_placed l at bytes (Err why) m off len part loan = loan

pub stay_filled : StayFilled
stay_filled l at bytes Placed m off len part loan = stay_placed l at bytes (Ok Placed) m off len part loan
stay_filled l at bytes Overlap m off len part loan = loan

pub stay_lent : StayLent
stay_lent l at n (Ok (Some p)) m off len part loan =
    let t = l.tiles in
    let is : IsPartOf l at n p = m.1 in
    let missing : AreMissing at n l.missing = m.0.0 in
    let gone : length (replicate {A = Option ℕ} (length p.bytes) None) ≡ length p.bytes = length-replicate (length p.bytes) None in
    let all = length-map p.bytes Some in
    let begins : p.start - t.start ≡ at = omega (arith, is.1) in
    let fits : (p.start - t.start) + length (replicate {A = Option ℕ} (length p.bytes) None) ≤ length t.cells = omega (arith, begins, gone, all, is.3.0) in
    let o : (k : ℕ) → off ≤ k → k < off + len → Beside at n k = (λ k p q. missing_beside at n off len k l.missing missing loan.2 p q) in
    stays l off len part loan (with_range false at n l.missing) (laid (p.start - t.start) (replicate (length p.bytes) None) t.cells) (with_span (span at n) l.lent) (t.out + 1) l.room (contains_with (span off len) (span at n) l.lent loan.0.0)
    (laid_long (p.start - t.start) (replicate (length p.bytes) None) t.cells (inl fits)) (taken_beside false at n off len l.missing missing.0 loan.2 o)
    (λ k low high. laid_beside (p.start - t.start) (replicate (length p.bytes) None) t.cells n k (inl fits) (omega (arith, gone, is.2)) (subst (λ j. Beside j n k) (sym begins) (o k low high)))
stay_lent l at n (Ok None) m off len part loan = loan
stay_lent l at n (Err why) m off len part loan = loan

pub stay_landed : StayLanded
stay_landed l at n p is off len part beside loan =
    stays l off len part loan l.missing (laid (p.start - l.tiles.start) (map Some p.bytes) l.tiles.cells) (without_span (span at n) l.lent) (l.tiles.out - 1) l.room
    (contains_without (span off len) (span at n) l.lent (other l at n p is off len (omega (arith, loan.1)) beside) loan.0.0) (laid_long (p.start - l.tiles.start) (map Some p.bytes) l.tiles.cells (back_fits l at n p is)) loan.2
    (λ k low high. laid_beside (p.start - l.tiles.start) (map Some p.bytes) l.tiles.cells n k (back_fits l at n p is) (back_short l at n p is)
    (subst (λ j. Beside j n k) (sym (begins l at n p is)) (share_beside off len at n k beside low high)))

pub stay_unlent : StayUnlent
stay_unlent l at n p is off len part beside loan =
    let landed = stay_landed l at n p is.0 off len part beside loan in
    (landed.0, landed.1, taken_beside true at n off len l.missing is.2.0 loan.2 (λ k low high. share_beside off len at n k beside low high), landed.3)

pub lend_gives_loan : LendGivesLoan
lend_gives_loan l off len part may is =
    let t = l.tiles in
    let m = may.0 in
    let nones = replicate {A = Option ℕ} (length part.bytes) None in
    let gone : length nones ≡ length part.bytes = length-replicate (length part.bytes) None in
    let all = length-map part.bytes Some in
    let begins : part.start - t.start ≡ off = omega (arith, is.1) in
    let fits : (part.start - t.start) + length nones ≤ length t.cells = omega (arith, begins, gone, all, is.3.0) in
    let size : length (laid (part.start - t.start) nones t.cells) ≡ length t.cells = length-new (part.start - t.start) nones t.cells None fits in
    let tests = length-set false off len l.missing m.0 in (
      lend_lends l off len part may is,
      subst (λ k. 0 < min len (k - off)) (sym size) may.1,
      all_from_each false off len (with_range false off len l.missing) (omega (arith, tests, m.0)) (λ k p q. set_in false off len l.missing m.0 k p q),
      subst (λ k. AreOut off (min len (k - off)) (laid (part.start - t.start) nones t.cells)) (sym size)
          (out_from_each off (below l off len) (laid (part.start - t.start) nones t.cells) (omega (arith, size, all, is.2, is.3.0))
          (λ k p q. ap is_none (new_in (part.start - t.start) nones t.cells None fits k (omega (arith, begins)) (omega (arith, begins, gone, is.2))) ∙ ap is_none (get_or-replicate (length part.bytes) (k - (part.start - t.start)) None None (omega (arith, begins, is.2))))),
    )

-- two of the ranges in order are one, or share no place
pub contained_apart : (lo n c : ℕ) (s t : Span) (spans : List Span) → AreApart lo n c spans → Contains spans s → Contains spans t → (s ≡ t) ⊎ ((s.end ≤ t.start) ⊎ (t.end ≤ s.start))
contained_apart lo n c s t [] a (i, lt, e) there = absurd (omega arith)
contained_apart lo n c s t (u ∷ spans) a (zero, lt, e) (zero, lt', e') = inl (sym e ∙ e')
contained_apart lo n c s t (u ∷ spans) a (zero, lt, e) (suc j, lt', e') =
    let b = contained_bounds u.end n c t spans a.3 (j, omega arith, e') in
    inr (inl (subst (λ (x : Span). x.end ≤ t.start) e b.0))
contained_apart lo n c s t (u ∷ spans) a (suc i, lt, e) (zero, lt', e') =
    let b = contained_bounds u.end n c s spans a.3 (i, omega arith, e) in
    inr (inr (subst (λ (x : Span). x.end ≤ s.start) e' b.0))
contained_apart lo n c s t (u ∷ spans) a (suc i, lt, e) (suc j, lt', e') = contained_apart u.end n c s t spans a.3 (i, omega arith, e) (j, omega arith, e')

-- what a landing keeps of its loans
module _ (l : Landed) (agrees : Agrees l.missing l.tiles.cells l.lent) where
  pub loans_are_apart : LoansAreApart l
  loans_are_apart off len at n part other is is' = by (contained_apart 0 (length l.missing) (capacity l) (span off len) (span at n) l.lent agrees.apart is.0 is'.0)
    where
      by : (span off len ≡ span at n) ⊎ ((off + len ≤ at) ⊎ (at + n ≤ off)) → ((off ≡ at) × (len ≡ n)) ⊎ ShareNone off len at n
      by (inl e) = let start = ap (λ (s : Span). s.start) e in let end = ap (λ (s : Span). s.end) e in inl (start, omega (arith, start, end))
      by (inr o) = inr o

  pub lent_are_loans : LentAreLoans l
  lent_are_loans off len part is =
      let b = contained_bounds 0 (length l.missing) (capacity l) (span off len) l.lent agrees.apart is.0 in
      (is, omega (arith, b.1, b.3), are_taken l.missing l.tiles.cells l.lent agrees off len is.0, are_out l.missing l.tiles.cells l.lent agrees off len is.0 (below l off len) refl)
