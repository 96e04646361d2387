-- Parts tile their block exactly where each place of it is in one of them; so what keeps the counts keeps the tiling.
use Rattle.std.proofs.Common.{◌≡◌, ℕ, ◌+◌, ◌-◌, ◌<◌, ◌≤◌, ◌⊎◌, inl, inr, List, [], ◌∷◌, ◌++◌, length, refl, sym, ap, ◌∙◌, arith, length-append, length-take-le, length-drop}
use Rattle.std.proofs.lemmas.Bool.{cases_lt}
use Rattle.std.specs.List.{AllByRecursion}
use Rattle.std.specs.List.{length_refill}
use denote.RawPtr.{Ptr}
use lib.ListN.{drop as drop_l}
use Rattle.rdm_mr.specs.Part.{Piece, end_of, Whole, Meets, front_of, back_of, joined, with_bytes}
use Rattle.rdm_mr.specs.Tiling.{HasPlace, LiesIn, Disjoint, PairwiseDisjoint, Covered, Tiles, HaveNoBytes, TilingLaw}

-- 1 from the place k on, and 0 before
abbrev from : ℕ → ℕ → ℕ
from k i = i + 1 - k - (i - k)

-- 1 where the part has the place, and 0 elsewhere
abbrev one : ℕ → Piece → ℕ
one i p = from p.start i - from (end_of p) i

-- how many of the parts have the place
abbrev holders : ℕ → List Piece → ℕ
holders i [] = 0
holders i (p ∷ ps) = one i p + holders i ps

from_falls : (i s m : ℕ) → s ≤ m → from m i ≤ from s i
from_falls i s m low = omega (arith, low)

-- the places of two ranges that meet
meeting : (a b c : ℕ) → b ≤ a → c ≤ b → a - b + (b - c) ≡ a - c
meeting a b c p q = omega (arith, p, q)

-- s to m and m' to e, where m and m' are one
side_by_side : (i s m m' e : ℕ) → m' ≡ m → s ≤ m → m ≤ e → from s i - from m i + (from m' i - from e i) ≡ from s i - from e i
side_by_side i s m m' e same low high = ap (λ k. from s i - from m i + (from k i - from e i)) same ∙ meeting (from s i) (from m i) (from e i) (from_falls i s m low) (from_falls i m e high)

one_has : (i : ℕ) (p : Piece) → HasPlace i p → one i p ≡ 1
one_has i p has = omega (arith, has)

has_one : (i : ℕ) (p : Piece) → 1 ≤ one i p → HasPlace i p
has_one i p some = omega (arith, some)

one_most : (i : ℕ) (p : Piece) → one i p ≤ 1
one_most i p = omega arith

holders-append : (i : ℕ) (ps qs : List Piece) → holders i (ps ++ qs) ≡ holders i ps + holders i qs
holders-append i [] qs = omega arith
holders-append i (p ∷ ps) qs = omega (arith, holders-append i ps qs)

covered_some : (i : ℕ) (ps : List Piece) → Covered i ps → 1 ≤ holders i ps
covered_some i [] covered = absurd covered
covered_some i (p ∷ ps) (inl has) = omega (arith, one_has i p has)
covered_some i (p ∷ ps) (inr later) = omega (arith, covered_some i ps later)

some_covered : (i : ℕ) (ps : List Piece) → 1 ≤ holders i ps → Covered i ps
some_covered i [] some = omega (arith, some)
some_covered i (p ∷ ps) some = elim (cases_lt (one i p) 1) as (λ _. HasPlace i p ⊎ Covered i ps) [ inl less ↦ inr (some_covered i ps (omega (arith, some, less))) | inr more ↦ inl (has_one i p more) ]

-- parts that are disjoint hold each place at most once
none_after : (i : ℕ) (p : Piece) (ps : List Piece) → AllByRecursion (Disjoint p) ps → HasPlace i p → holders i ps ≡ 0
none_after i p [] apart has = refl
none_after i p (q ∷ ps) apart has =
    let rest = none_after i p ps apart.1 has in
    elim (cases_lt (one i q) 1) as (λ _. holders i (q ∷ ps) ≡ 0) [ inl less ↦ omega (arith, rest, less) | inr more ↦ absurd (apart.0 i has (has_one i q more)) ]

disjoint_most : (ps : List Piece) → PairwiseDisjoint ps → (i : ℕ) → holders i ps ≤ 1
disjoint_most [] disjoint i = omega arith
disjoint_most (p ∷ ps) disjoint i =
    let rest = disjoint_most ps disjoint.1 i in
    elim (cases_lt (one i p) 1) as (λ _. holders i (p ∷ ps) ≤ 1) [
      | inl less ↦ omega (arith, rest, less)
      | inr more ↦ omega (arith, one_most i p, none_after i p ps disjoint.0 (has_one i p more))
    ]

-- and the other way round
disjoint_from : (p : Piece) (ps : List Piece) → ((i : ℕ) → HasPlace i p → holders i ps ≡ 0) → AllByRecursion (Disjoint p) ps
disjoint_from p [] none = tt
disjoint_from p (q ∷ ps) none = (λ i has also. omega (arith, none i has, one_has i q also), disjoint_from p ps (λ i has. omega (arith, none i has)))

most_disjoint : (ps : List Piece) → ((i : ℕ) → holders i ps ≤ 1) → PairwiseDisjoint ps
most_disjoint [] most = tt
most_disjoint (p ∷ ps) most = (disjoint_from p ps (λ i has. omega (arith, most i, one_has i p has)), most_disjoint ps (λ i. omega (arith, most i)))

-- parts in the block with the counts of parts that tile it tile it too
same_counts : (block : Ptr) (whole : ℕ) (ps qs : List Piece) → AllByRecursion (LiesIn block whole) qs → ((i : ℕ) → holders i qs ≡ holders i ps) → Tiles block whole ps → Tiles block whole qs
same_counts block whole ps qs inside same tiles = record {
  inside = inside;
  disjoint = most_disjoint qs (λ i. omega (arith, same i, disjoint_most ps tiles.disjoint i));
  covered = λ i low. some_covered i qs (omega (arith, same i, covered_some i ps (tiles.covered i low)));
}

module _ (P : Piece → Type 0) where
  parted : (ps qs : List Piece) → AllByRecursion P (ps ++ qs) → AllByRecursion P ps × AllByRecursion P qs
  parted [] qs all = (tt, all)
  parted (p ∷ ps) qs all = let rest = parted ps qs all.1 in ((all.0, rest.0), rest.1)

  together : (ps qs : List Piece) → AllByRecursion P ps → AllByRecursion P qs → AllByRecursion P (ps ++ qs)
  together [] qs front back = back
  together (p ∷ ps) qs front back = (front.0, together ps qs front.1 back)

-- the counts of parts with others before them
behind : (i : ℕ) (before ps qs : List Piece) → holders i ps ≡ holders i qs → holders i (before ++ ps) ≡ holders i (before ++ qs)
behind i before ps qs same = omega (arith, holders-append i before ps, holders-append i before qs, same)

order : (block : Ptr) (whole : ℕ) (before between after : List Piece) (p q : Piece) → Tiles block whole (before ++ p ∷ (between ++ q ∷ after)) → Tiles block whole (before ++ q ∷ (between ++ p ∷ after))
order block whole before between after p q tiles =
    let In = LiesIn block whole in
    let one_part = parted In before (p ∷ (between ++ q ∷ after)) tiles.inside in
    let two_part = parted In between (q ∷ after) one_part.1.1 in
    same_counts block whole (before ++ p ∷ (between ++ q ∷ after)) (before ++ q ∷ (between ++ p ∷ after))
    (together In before (q ∷ (between ++ p ∷ after)) one_part.0 (two_part.1.0, together In between (p ∷ after) two_part.0 (one_part.1.0, two_part.1.1)))
    (λ i. behind i before (q ∷ (between ++ p ∷ after)) (p ∷ (between ++ q ∷ after)) (omega (arith, holders-append i between (q ∷ after), holders-append i between (p ∷ after)))) tiles

-- a part that is replaced by parts in the same places
replaced : (block : Ptr) (whole : ℕ) (before ps after : List Piece) (p : Piece) → (LiesIn block whole p → AllByRecursion (LiesIn block whole) ps) → ((i : ℕ) → holders i ps ≡ one i p)
    → Tiles block whole (before ++ p ∷ after) → Tiles block whole (before ++ (ps ++ after))
replaced block whole before ps after p inside same tiles =
    let In = LiesIn block whole in
    let had = parted In before (p ∷ after) tiles.inside in
    same_counts block whole (before ++ p ∷ after) (before ++ (ps ++ after)) (together In before (ps ++ after) had.0 (together In ps after (inside had.1.0) had.1.1))
    (λ i. behind i before (ps ++ after) (p ∷ after) (omega (arith, holders-append i ps after, same i))) tiles

make : (p : Piece) → Whole p → Tiles p.block p.whole (p ∷ [])
make p is = record {
  inside = ((refl, refl, omega (arith, is)), tt);
  disjoint = (tt, tt);
  covered = λ i low. inl (omega (arith, is, low));
}

-- the places of a part that is cut in two
cut_counts : (i : ℕ) (p : Piece) (at : ℕ) → at ≤ length p.bytes → one i (front_of at p) + one i (back_of at p) ≡ one i p
cut_counts i p at low =
    let long = length-take-le at p.bytes low in
    let ends : p.start + at + length (drop_l at p.bytes) ≡ end_of p = omega (arith, length-drop at p.bytes, low) in
    side_by_side i p.start (end_of (front_of at p)) (p.start + at) (end_of (back_of at p)) (omega (arith, long)) (omega arith) (omega (arith, long, ends, low))
    ∙ ap (λ k. from p.start i - from k i) ends

-- the places of two that meet
join_counts : (i : ℕ) (l r : Piece) → Meets l r → one i (joined l r) ≡ one i l + one i r
join_counts i l r meets =
    let long = length-append l.bytes r.bytes in
    let ends : end_of r ≡ end_of (joined l r) = omega (arith, long, meets.2) in
    sym (side_by_side i l.start (end_of l) r.start (end_of r) meets.2 (omega arith) (omega (arith, meets.2)) ∙ ap (λ k. from l.start i - from k i) ends)

split : (block : Ptr) (whole : ℕ) (before after : List Piece) (p : Piece) (at : ℕ) → at ≤ length p.bytes → Tiles block whole (before ++ p ∷ after) → Tiles block whole (before ++ front_of at p ∷ back_of at p ∷ after)
split block whole before after p at low =
    let long = length-take-le at p.bytes low in
    let short = length-drop at p.bytes in
    replaced block whole before (front_of at p ∷ back_of at p ∷ []) after p (λ is. ((is.0, is.1, omega (arith, is.2, long, low)), ((is.0, is.1, omega (arith, is.2, short, low)), tt)))
    (λ i. omega (arith, cut_counts i p at low))

write : (block : Ptr) (whole : ℕ) (before after : List Piece) (p : Piece) (bytes : List ℕ) → Tiles block whole (before ++ p ∷ after) → Tiles block whole (before ++ with_bytes p bytes ∷ after)
write block whole before after p bytes =
    let long = length_refill (length p.bytes) p.bytes bytes refl in
    replaced block whole before (with_bytes p bytes ∷ []) after p (λ is. ((is.0, is.1, omega (arith, is.2, long)), tt)) (λ i. omega (arith, ap (λ k. from p.start i - from (p.start + k) i) long))

join : (block : Ptr) (whole : ℕ) (before between after : List Piece) (l r : Piece) → Meets l r → Tiles block whole (before ++ l ∷ (between ++ r ∷ after)) → Tiles block whole (before ++ joined l r ∷ (between ++ after))
join block whole before between after l r meets tiles =
    let In = LiesIn block whole in
    let long = length-append l.bytes r.bytes in
    let one_part = parted In before (l ∷ (between ++ r ∷ after)) tiles.inside in
    let two_part = parted In between (r ∷ after) one_part.1.1 in
    same_counts block whole (before ++ l ∷ (between ++ r ∷ after)) (before ++ joined l r ∷ (between ++ after))
    (together In before (joined l r ∷ (between ++ after)) one_part.0 ((one_part.1.0.0, one_part.1.0.1, omega (arith, long, meets.2, two_part.1.0.2)), together In between after two_part.0 two_part.1.1))
    (λ i. behind i before (joined l r ∷ (between ++ after)) (l ∷ (between ++ r ∷ after)) (omega (arith, join_counts i l r meets, holders-append i between after, holders-append i between (r ∷ after)))) tiles

-- a part with a byte has the place where it starts
no_place : (whole : ℕ) (block : Ptr) (ps : List Piece) → AllByRecursion (LiesIn block whole) ps → ((i : ℕ) → i < whole → holders i ps ≡ 0) → HaveNoBytes ps
no_place whole block [] inside none = tt
no_place whole block (p ∷ ps) inside none = (
  elim (cases_lt 0 (length p.bytes)) as (λ _. length p.bytes ≡ 0) [
    | inl some ↦ let low : p.start < whole = omega (arith, inside.0.2, some) in omega (arith, none p.start low, one_has p.start p (omega (arith, some)))
    | inr empty ↦ omega (arith, empty)
  ],
  no_place whole block ps inside.1 (λ i low. omega (arith, none i low)),
)

release : (block : Ptr) (whole : ℕ) (before after : List Piece) (p : Piece) → Whole p → Tiles block whole (before ++ p ∷ after) → HaveNoBytes (before ++ after)
release block whole before after p is tiles =
    let In = LiesIn block whole in
    let had = parted In before (p ∷ after) tiles.inside in
    no_place whole block (before ++ after) (together In before after had.0 had.1.1)
    (λ i low. omega (arith, one_has i p (omega (arith, is, had.1.0.1, low)), disjoint_most (before ++ p ∷ after) tiles.disjoint i, holders-append i before (p ∷ after), holders-append i before after))

pub keeps_tiling : TilingLaw
keeps_tiling = record { order = order; make = make; split = split; join = join; write = write; release = release }
