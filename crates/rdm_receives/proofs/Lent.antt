-- Loans of a receive, and what the record sees of them.
use Rattle.std.proofs.Common.{◌≡◌, ℕ, ◌+◌, ◌-◌, ◌<◌, ◌≤◌, ◌⊎◌, inl, inr, Bool, true, false, not, ◌&&◌, ◌||◌, List, [], length, get_or, take, map, replicate, min, Option, Some, None, refl, sym, ap, subst, ◌∙◌, arith}
use Rattle.std.specs.Prelude.{nat_lt}
use Rattle.std.proofs.lemmas.Bool.{true≢false}
use Rattle.std.proofs.lemmas.List.{length-map, length-replicate, nil_from_length}
use Rattle.rdm_gaps.specs.Places.{AreMissing, with_range}
use Rattle.rdm_gaps.proofs.Covered.{all_at}
use Rattle.rdm_mr.specs.Part.{Piece}
use Rattle.rdm_mr.specs.Tiles.{laid}
use Rattle.rdm_mr.proofs.Overlays.{by_lt, by_range, length-new, new_out}
use Rattle.rdm_mr.proofs.Undone.{laid_nothing}
use Rattle.rdm_land.specs.Spans.{span, have, with_span, without_span}
use Rattle.rdm_land.specs.Landed as Landed
use Rattle.rdm_land.specs.Landed.{Landed as Landing, MayLend, IsPartOf, IsLent, capacity, with_lent}
use Rattle.rdm_land.specs.Arrivals.{waits, has_come}
use Rattle.rdm_land.specs.Inside.{Agrees}
use Rattle.rdm_land.proofs.SetRanges.{length-set, set_in, set_out, all_from_each}
use Rattle.rdm_land.proofs.Order.{has_yes, has_out}
use Rattle.rdm_land.proofs.Changed.{have-with_span, have_contained, have_others}
use Rattle.rdm_land.proofs.Agreed.{bounds, are_taken}
use Rattle.rdm_land.proofs.LandingViews.{agrees_unlent}
use Rattle.rdm_land.proofs.Laws.{land_is_unlend_and_place}
use Rattle.rdm_life.specs.Kept.{LiveReceive}
use Rattle.rdm_life.specs.Landing.{with_piece}
use Rattle.rdm_receives.specs.View.{ReceiveView, IsReceive}
use Rattle.rdm_receives.specs.Answers.{unlent, landed}
use Rattle.rdm_receives.specs.Shows.{Shows}
use Rattle.rdm_receives.specs.Laws.{LendShows, UnlendShows, LandShows, FreeIsMissing}
use Rattle.rdm_receives.proofs.Coming.{show_same}
use Rattle.rdm_receives.proofs.Showing.{bytes_come}

or_some : (b : Bool) → (b || true) ≡ true
or_some true = refl
or_some false = refl

-- the same places have come where the same wait, of as many
same_come : (l n : Landing) → length n.missing ≡ length l.missing → ((k : ℕ) → waits n k ≡ waits l k) → (k : ℕ) → has_come l k ≡ has_come n k
same_come l n size same k = ap (λ m. nat_lt k m && not (waits l k)) (sym size) ∙ ap (λ b. nat_lt k (length n.missing) && not b) (sym (same k))

-- a receive whose landing changes only at places that wait
waiting_change : (r : ReceiveView) (l : LiveReceive) (n : Landing) → Shows r l → length n.missing ≡ length r.landed.missing → ((k : ℕ) → waits n k ≡ waits r.landed k)
    → ((k : ℕ) → waits n k ≡ false → get_or n.tiles.cells k None ≡ get_or r.landed.tiles.cells k None) → Shows (record r { landed = n }) l
waiting_change r l n s size same cells =
    record {
      number = s.number;
      req = s.req;
      named = s.named;
      cells = λ k lt free. cells k free ∙ s.cells k lt (sym (same k) ∙ free);
      matched = show_same r.landed n (same_come r.landed n size same) r.message l.matched s.matched;
    }

-- a range that is lent waits as it did
module _ (l : Landing) (at len : ℕ) (part : Piece) (may : MayLend l at len) where
  lend_waits : (k : ℕ) → waits (with_lent l at len part) k ≡ waits l k
  lend_waits k =
      let missing = with_range false at len l.missing in
      ap (λ b. b || get_or missing k false) (have-with_span k (span at len) l.lent)
      ∙ by_range at len k
      (λ p q.
      ap (λ b. (b || have k l.lent) || get_or missing k false) (has_yes k (span at len) p q)
      ∙ sym (ap (λ b. have k l.lent || b) (all_at true false at len k l.missing may.0 p q) ∙ or_some (have k l.lent)))
      (λ o.
      ap (λ b. (b || have k l.lent) || get_or missing k false) (has_out k (span at len) o)
      ∙ ap (λ b. have k l.lent || b) (set_out false at len l.missing may.0.0 k o))

  -- it waits
  lend_in : (k : ℕ) → at ≤ k → k < at + len → waits l k ≡ true
  lend_in k p q = ap (λ b. have k l.lent || b) (all_at true false at len k l.missing may.0 p q) ∙ or_some (have k l.lent)

pub lend_shows : LendShows
lend_shows r l at len part s may is =
    let d = r.landed in
    let n = length part.bytes in
    let gone : length (replicate {A = Option ℕ} n None) ≡ n = length-replicate n None in
    let long = length-map part.bytes Some in
    let begin : part.start - d.tiles.start ≡ at = omega (arith, is.1) in
    waiting_change r l (with_lent d at len part) s (length-set false at len d.missing may.0.0) (lend_waits d at len part may) (λ k free.
    by_range at len k
    (λ p q. absurd (true≢false (sym (sym free ∙ lend_waits d at len part may k ∙ lend_in d at len part may k p q))))
    (λ o. new_out (part.start - d.tiles.start) (replicate n None) d.tiles.cells None (omega (arith, gone, long, begin, is.3.0)) k (beside k o gone begin)))
  where
    beside : (k : ℕ) → (k < at) ⊎ (at + len ≤ k) → length (replicate {A = Option ℕ} (length part.bytes) None) ≡ length part.bytes → part.start - r.landed.tiles.start ≡ at
        → (k < part.start - r.landed.tiles.start) ⊎ ((part.start - r.landed.tiles.start) + length (replicate {A = Option ℕ} (length part.bytes) None) ≤ k)
    beside k (inl p) gone begin = inl (omega (arith, begin))
    beside k (inr p) gone begin = inr (omega (arith, gone, begin, is.2))

-- a range that is lent, with the part that comes back
module _ (l : Landing) (at len : ℕ) (part : Piece) (agrees : Agrees l.missing l.tiles.cells l.lent) (is : IsLent l at len part) where
  inside : (at < at + len) × (at + len ≤ length l.missing) × (at < capacity l)
  inside = let b = bounds l.missing l.tiles.cells l.lent agrees at len is.0 in (b.1, b.2, b.3)

  begins : part.start - l.tiles.start ≡ at
  begins = omega (arith, is.2)

  long : length (map Some part.bytes) ≡ min len (capacity l - at)
  long = length-map part.bytes Some ∙ is.3

  fits : (part.start - l.tiles.start) + length (map Some part.bytes) ≤ length l.tiles.cells
  fits = let b = inside in let s = begins in let n = long in omega (arith, b.2, s, n)

  pub unlent_size : length ((Landed.unlent l at len part).missing) ≡ length l.missing
  unlent_size = length-set true at len l.missing inside.1

  pub unlent_capacity : capacity (Landed.unlent l at len part) ≡ capacity l
  unlent_capacity = length-new (part.start - l.tiles.start) (map Some part.bytes) l.tiles.cells None fits

  pub unlent_in : (k : ℕ) → at ≤ k → k < at + len → waits (Landed.unlent l at len part) k ≡ true
  unlent_in k p q = ap (λ b. have k (without_span (span at len) l.lent) || b) (set_in true at len l.missing inside.1 k p q) ∙ or_some (have k (without_span (span at len) l.lent))

  pub unlent_waits : (k : ℕ) → waits (Landed.unlent l at len part) k ≡ waits l k
  unlent_waits k =
      by_range at len k
      (λ p q. unlent_in k p q ∙ sym (ap (λ b. b || get_or l.missing k false) (have_contained (span at len) l.lent k is.0 p q)))
      (λ o. ap (λ b. b || get_or (with_range true at len l.missing) k false) (have_others (span at len) l.lent k is.0 o) ∙ ap (λ b. have k l.lent || b) (set_out true at len l.missing inside.1 k o))

  pub unlent_cells : (k : ℕ) → waits (Landed.unlent l at len part) k ≡ false → get_or ((Landed.unlent l at len part).tiles.cells) k None ≡ get_or l.tiles.cells k None
  unlent_cells k free =
      by_range at len k
      (λ p q. absurd (true≢false (sym (unlent_in k p q) ∙ free)))
      (λ o. new_out (part.start - l.tiles.start) (map Some part.bytes) l.tiles.cells None fits k (beside o))
    where
      beside : (k < at) ⊎ (at + len ≤ k) → (k < part.start - l.tiles.start) ⊎ ((part.start - l.tiles.start) + length (map Some part.bytes) ≤ k)
      beside (inl p) = let s = begins in inl (omega (arith, s))
      beside (inr p) = let s = begins in let n = long in inr (omega (arith, s, n))

  pub unlent_missing : AreMissing at len ((Landed.unlent l at len part).missing)
  unlent_missing = let size = unlent_size in all_from_each true at len (with_range true at len l.missing) (omega (arith, size, inside.1)) (λ k p q. set_in true at len l.missing inside.1 k p q)

pub unlend_shows : UnlendShows
unlend_shows r l at len part is s lent =
    let d = r.landed in
    waiting_change r l (Landed.unlent d at len part) s (unlent_size d at len part is.agrees lent) (unlent_waits d at len part is.agrees lent) (unlent_cells d at len part is.agrees lent)

pub land_shows : LandShows
land_shows r l at bytes part is s lent kept =
    let d = r.landed in
    let len = length bytes in
    let u = Landed.unlent d at len part in
    let back = unlend_shows r l at len part is s lent in
    let same : Landed.landed d at len part ≡ Landed.with_bytes u at bytes = land_is_unlend_and_place d at bytes part lent (are_taken d.missing d.tiles.cells d.lent is.agrees at len lent.0) kept in
    let seen = agrees_unlent d.tiles d.missing d.lent {room = d.room} is.agrees d refl at len part lent in
    subst (λ (n : Landing). Shows (record r { landed = n }) (with_piece (record { offset = at; bytes = bytes }) l)) (sym same)
    (bytes_come (unlent r at len part) l at bytes (unlent_capacity d at len part is.agrees lent ∙ is.places) seen.taken back (unlent_missing d at len part is.agrees lent))

-- a range that waits and of which nothing is lent
pub free_is_missing : FreeIsMissing
free_is_missing r at len m free = all_from_each true at len r.landed.missing m.1.0 (λ k p q. sym (ap (λ b. b || get_or r.landed.missing k false) (free k p q)) ∙ m.1.1 k p q)
