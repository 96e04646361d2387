-- What lending a range and taking it back come to.
use Rattle.std.proofs.Common.{◌≡◌, ℕ, suc, ◌+◌, ◌-◌, ◌<◌, ◌≤◌, Bool, true, false, cond, leb, List, [], ◌∷◌, ◌++◌, length, take, drop, map, replicate, Option, Some, None, Result, Ok, Err, refl, sym, ap, subst, ◌∙◌, arith, drop-drop, leb-true, min}
use Rattle.std.proofs.lemmas.List.{length-map, length-replicate, length-take-le, take-append-drop, nil_from_length, length-take}
use Rattle.std.specs.List.{Contains}
use Rattle.rdm_gaps.specs.Places.{AreTaken, with_range}
use Rattle.rdm_gaps.proofs.Covered.{set_between}
use Rattle.rdm_mr.specs.Part.{Piece}
use Rattle.rdm_mr.specs.Tiles.{laid, Lie}
use Rattle.rdm_land.specs.declared.spans.Span.{Span}
use Rattle.rdm_land.specs.declared.landing.Placed.{Placed as Answer}
use Rattle.rdm_land.specs.declared.landing.Placed.TheVariants.{Placed, Overlap}
use Rattle.rdm_land.specs.Spans.{span, with_span, without_span}
use Rattle.rdm_land.specs.Landed.{Landed, MayLend, IsPartOf, capacity, Keeps, with_lent, landed, after_place, after_fill}
use Rattle.rdm_land.specs.Laws.{LendLends, UnlendUndoesLend, LandIsUnlendAndPlace}
use Rattle.rdm_mr.proofs.Overlays.{by_lt, length-new}
use Rattle.rdm_land.proofs.Order.{is_same, earlier_is_other}
use Rattle.rdm_mr.proofs.Undone.{laid_over, laid_same, laid_nothing}
use Rattle.rdm_land.proofs.LandingViews.{set_back}

-- a range that is put in and taken out again
pub without-with_span : (s : Span) (spans : List Span) → s.start < s.end → without_span s (with_span s spans) ≡ spans
without-with_span s [] lt = ap (λ b. cond b [] (s ∷ [])) (is_same s)
without-with_span s (t ∷ spans) lt =
    elim (leb t.end s.start) as (λ v. leb t.end s.start ≡ v → without_span s (cond v (t ∷ with_span s spans) (s ∷ t ∷ spans)) ≡ t ∷ spans) [
      | true ↦ λ e. ap (λ b. cond b (with_span s spans) (t ∷ without_span s (with_span s spans))) (earlier_is_other s t (leb-true t.end s.start e) lt) ∙ ap (λ l. t ∷ l) (without-with_span s spans lt)
      | false ↦ λ e. ap (λ b. cond b (t ∷ spans) (s ∷ without_span s (t ∷ spans))) (is_same s)
    ] refl

pub with_span_contains : (s : Span) (spans : List Span) → Contains (with_span s spans) s
with_span_contains s [] = (0, omega arith, refl)
with_span_contains s (t ∷ spans) =
    let rest = with_span_contains s spans in
    elim (leb t.end s.start) as (λ v. Contains (cond v (t ∷ with_span s spans) (s ∷ t ∷ spans)) s) [ true ↦ (suc rest.0, omega (arith, rest.1), rest.2) | false ↦ (0, omega arith, refl) ]

-- tests of a range that are set and set back
set_again : (off len : ℕ) (places : List Bool) → AreTaken off len places → with_range false off len (with_range true off len places) ≡ places
set_again off len places m =
    let F = take off places in
    let B = drop (off + len) places in
    let f : length F ≡ off = length-take-le off places (omega (arith, m.0)) in
    set_between false F (replicate len true) B off len f (length-replicate len true)
    ∙ ap (λ l. F ++ (l ++ B)) (sym m.1) ∙ ap (λ l. F ++ (take len (drop off places) ++ l)) (sym (drop-drop len off places)) ∙ ap (λ l. F ++ l) (take-append-drop len (drop off places)) ∙ take-append-drop off places

pub lend_lends : LendLends
lend_lends l off len part may is =
    let t = l.tiles in
    let n = length part.bytes in
    let gone : length (replicate {A = Option ℕ} n None) ≡ n = length-replicate n None in
    let long = length-map part.bytes Some in
    let size : length (laid (part.start - t.start) (replicate {A = Option ℕ} n None) t.cells) ≡ length t.cells = length-new (part.start - t.start) (replicate n None) t.cells None (omega (arith, gone, long, is.1, is.3.0)) in
    (with_span_contains (span off len) l.lent, is.0, is.1, is.2 ∙ ap (λ k. min len (k - off)) (sym size))

-- a range that is lent and comes back with other bytes leaves as many places
pub capacity-landed : (l : Landed) (off len : ℕ) (part back : Piece) → MayLend l off len → IsPartOf l off len part → back.start ≡ part.start → length back.bytes ≡ length part.bytes → capacity (landed (with_lent l off len part) off len back) ≡ capacity l
capacity-landed l off len part back may is same long =
    let t = l.tiles in
    let n = length part.bytes in
    let gone : length (replicate {A = Option ℕ} n None) ≡ n = length-replicate n None in
    let bytes = length-map back.bytes Some in
    let all = length-map part.bytes Some in
    let size : length (laid (part.start - t.start) (replicate {A = Option ℕ} n None) t.cells) ≡ length t.cells = length-new (part.start - t.start) (replicate n None) t.cells None (omega (arith, gone, all, is.1, is.3.0)) in
    length-new (back.start - t.start) (map Some back.bytes) (laid (part.start - t.start) (replicate n None) t.cells) None (omega (arith, size, bytes, all, same, long, is.1, is.3.0)) ∙ size

pub unlend_undoes_lend : UnlendUndoesLend
unlend_undoes_lend l off len part may is =
    let t = l.tiles in
    let n = length part.bytes in
    let gone : length (replicate {A = Option ℕ} n None) ≡ n = length-replicate n None in
    let long = length-map part.bytes Some in
    let lies = is.3 in
    let at : off ≡ part.start - t.start = omega (arith, is.1) in
    let some : off < off + len = omega (arith, may.1) in
    let lies' = subst (λ k. Lie k (map Some part.bytes) t.cells) at lies in
    let fits : (part.start - t.start) + length (replicate {A = Option ℕ} n None) ≤ length t.cells = omega (arith, gone, long, lies'.0) in
    let same : length (map Some part.bytes) ≡ length (replicate {A = Option ℕ} n None) = long ∙ sym gone in
    let cells = laid_over (part.start - t.start) (map Some part.bytes) (replicate n None) t.cells fits same ∙ laid_same (part.start - t.start) (map Some part.bytes) t.cells lies' in
    let missing = set_back off len l.missing may.0 in
    let lent = without-with_span (span off len) l.lent some in
    let count : (t.out + 1) - 1 ≡ t.out = omega arith in
    λ i. record { tiles = record { block = t.block; whole = t.whole; start = t.start; cells = cells i; out = count i }; missing = missing i; lent = lent i; room = l.room }

pub land_is_unlend_and_place : LandIsUnlendAndPlace
land_is_unlend_and_place l off bytes part is taken kept =
    let t = l.tiles in
    let at : part.start - t.start ≡ off = omega (arith, is.2) in
    let xs = map Some part.bytes in
    let long = length-map part.bytes Some in
    let lands = laid (part.start - t.start) xs t.cells in
    let size : length lands ≡ length t.cells = length_landed in
    let again : laid off (map Some (take (length lands - off) bytes)) lands ≡ lands =
    ap (λ n. laid off (map Some (take (n - off) bytes)) lands) size ∙ ap (λ x. laid off (map Some x) lands) (sym kept) ∙ ap (λ k. laid off xs (laid k xs t.cells)) at ∙ landed_twice ∙ ap (λ k. laid k xs t.cells) (sym at) in
    λ i. record { tiles = record { block = t.block; whole = t.whole; start = t.start; cells = sym again i; out = t.out - 1 }; missing = sym (set_again off (length bytes) l.missing taken) i; lent = without_span (span off (length bytes)) l.lent; room = l.room }
  where
    empty : length l.tiles.cells < off → map Some part.bytes ≡ []
    empty lt = ap (map Some) (nil_from_length part.bytes (omega (arith, is.3)))

    length_landed : length (laid (part.start - l.tiles.start) (map Some part.bytes) l.tiles.cells) ≡ length l.tiles.cells
    length_landed =
        let at : part.start - l.tiles.start ≡ off = omega (arith, is.2) in
        let long = length-map part.bytes Some in
        by_lt (length l.tiles.cells) off
        (λ lt. ap (λ x. length (laid (part.start - l.tiles.start) x l.tiles.cells)) (empty lt) ∙ ap length (laid_nothing (part.start - l.tiles.start) l.tiles.cells))
        (λ le. length-new (part.start - l.tiles.start) (map Some part.bytes) l.tiles.cells None (omega (arith, at, long, is.3)))

    landed_twice : laid off (map Some part.bytes) (laid off (map Some part.bytes) l.tiles.cells) ≡ laid off (map Some part.bytes) l.tiles.cells
    landed_twice =
        let long = length-map part.bytes Some in
        by_lt (length l.tiles.cells) off
        (λ lt. ap (λ x. laid off x (laid off (map Some part.bytes) l.tiles.cells)) (empty lt) ∙ laid_nothing off (laid off (map Some part.bytes) l.tiles.cells))
        (λ le. laid_over off (map Some part.bytes) (map Some part.bytes) l.tiles.cells (omega (arith, long, is.3)) refl)

-- what a `place` or a `fill` keeps, whatever it answers
pub place_keeps : {E : Type 0} (l : Landed) (off : ℕ) (bytes : List ℕ) (answer : Result Answer E) → Keeps l (after_place l off bytes answer)
place_keeps l off bytes (Ok Placed) =
    let kept = take (capacity l - off) bytes in
    let long = length-take (capacity l - off) bytes in
    let all = length-map kept Some in
    record {
      start = refl;
      whole = refl;
      places = by_lt (capacity l) off
          (λ lt. let none : capacity l - off ≡ 0 = omega arith in ap (λ n. length (laid off (map Some (take n bytes)) l.tiles.cells)) none ∙ ap length (laid_nothing off l.tiles.cells))
          (λ le. length-new off (map Some kept) l.tiles.cells None (omega (arith, long, all)));
      lent = refl;
    }
place_keeps l off bytes (Ok Overlap) = record { start = refl; whole = refl; places = refl; lent = refl }
place_keeps l off bytes (Err why) = record { start = refl; whole = refl; places = refl; lent = refl }

pub fill_keeps : (l : Landed) (off : ℕ) (bytes : List ℕ) (answer : Answer) → Keeps l (after_fill l off bytes answer)
fill_keeps l off bytes Placed = let kept = place_keeps {E = Unit {0}} l off bytes (Ok Placed) in record { start = refl; whole = refl; places = kept.places; lent = refl }
fill_keeps l off bytes Overlap = record { start = refl; whole = refl; places = refl; lent = refl }

pub keeps_on : (l m n : Landed) → Keeps l m → Keeps m n → Keeps l n
keeps_on l m n a b = record { start = b.start ∙ a.start; whole = b.whole ∙ a.whole; places = b.places ∙ a.places; lent = b.lent ∙ a.lent }
