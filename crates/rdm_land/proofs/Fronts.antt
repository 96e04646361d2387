-- The first place that waits, and ranges that do.
use Rattle.std.proofs.Common.{◌≡◌, ℕ, ◌+◌, ◌-◌, ◌<◌, ◌≤◌, ◌↔◌, Bool, true, false, ◌||◌, List, [], ◌∷◌, length, get_or, slice_get, Some, None, IsTrue, leb, leb-true, refl, sym, ap, subst, ◌∙◌, arith, min}
use Rattle.std.proofs.lemmas.Bool.{true≢false, le-leb}
use Rattle.std.specs.List.{AllWithin}
use Rattle.rdm_gaps.specs.Places.{lull}
use Rattle.rdm_mr.specs.Tiles.{Tiles}
use Rattle.rdm_land.specs.Landed.{Landed}
use Rattle.rdm_land.specs.Arrivals.{IsFront}
use Rattle.rdm_gaps.proofs.Lulls.{lull_le, came_each, came_end}
use Rattle.rdm_mr.proofs.Overlays.{by_lt}
use Rattle.rdm_land.specs.declared.spans.Span.{Span}
use Rattle.rdm_land.specs.Spans.{has, have, AreApart}
use Rattle.rdm_land.proofs.Order.{none_before, has_yes, has_before, have_at, past_all, apart_from}
use Rattle.rdm_land.proofs.Waiting.{or_yes}

-- neither of two tests holds
neither : (a b : Bool) → a ≡ false → b ≡ false → (a || b) ≡ false
neither a b p q = ap (λ v. v || b) p ∙ q

module _ (tiles : Tiles) (missing : List Bool) (room c : ℕ) where
  -- a landing that lends these ranges
  abbrev pub landing : List Span → Landed
  landing lent = record { tiles = tiles; missing = missing; lent = lent; room = room }

  -- where nothing is lent, the first place that is missing
  pub front_none : IsFront (landing []) (lull missing)
  front_none =
      record {
        within = lull_le missing;
        before = λ k lt. came_each 0 k missing (omega arith) (omega arith);
        here = λ lt. subst (λ j. get_or missing j false ≡ true) (let e : 0 + lull missing ≡ lull missing = omega arith in e) (came_end 0 missing (omega arith));
      }

  -- else that, or the first that is lent
  pub front_is : (s : Span) (spans : List Span) → AreApart 0 (length missing) c (s ∷ spans) → IsFront (landing (s ∷ spans)) (min (lull missing) s.start)
  front_is s spans a =
      let none = front_none in
      let from : AreApart s.start (length missing) c (s ∷ spans) = (omega arith, a.1, a.2, a.3) in
      record {
        within = omega (arith, none.within);
        before = λ k lt. neither (have k (s ∷ spans)) (get_or missing k false) (none_before s.start (length missing) c k (s ∷ spans) from (omega arith)) (none.before k (omega arith));
        here = λ lt. by_lt s.start (lull missing)
            (λ p.
            let e : s.start ≡ min (lull missing) s.start = omega arith in
            subst (λ k. (have k (s ∷ spans) || get_or missing k false) ≡ true) e (ap (λ b. (b || have s.start spans) || get_or missing s.start false) (has_yes s.start s (omega arith) a.1)))
            (λ p.
            let e : lull missing ≡ min (lull missing) s.start = omega arith in
            subst (λ k. (have k (s ∷ spans) || get_or missing k false) ≡ true) e (ap (λ b. have (lull missing) (s ∷ spans) || b) (none.here (omega arith)) ∙ or_yes (have (lull missing) (s ∷ spans))));
      }

  pub front_some : (lent : List Span) (s : Span) → slice_get lent 0 ≡ Some s → AreApart 0 (length missing) c lent → IsFront (landing lent) (min (lull missing) s.start)
  front_some [] s e a = absurd (cc)
  front_some (t ∷ spans) s e a = let same : t ≡ s = cc in subst (λ (x : Span). IsFront (landing (t ∷ spans)) (min (lull missing) x.start)) same (front_is t spans a)

  pub front_empty : (lent : List Span) → slice_get lent 0 ≡ None → IsFront (landing lent) (lull missing)
  front_empty [] e = front_none
  front_empty (t ∷ spans) e = absurd (cc)

-- no place of the range is lent
abbrev Free : List Span → ℕ → ℕ → Type 0
Free lent off len = (k : ℕ) → off ≤ k → k < off + len → have k lent ≡ false

module _ (lo n c : ℕ) (lent slice : List Span) (same : slice ≡ lent) (a : AreApart lo n c lent) (off len i : ℕ) (before : AllWithin (λ (s : Span). s.end ≤ off) slice 0 i) where
  low : AllWithin (λ (s : Span). s.end ≤ off) lent 0 i
  low = subst (λ l. AllWithin (λ (s : Span). s.end ≤ off) l 0 i) same before

  -- the first range that ends after its first place begins past it
  pub free_here : i < length lent → AllWithin (λ (s : Span). off < s.end) slice i (length slice) → (s : Span) → s ≡ get_or lent i s → IsTrue (leb len (s.start - off)) ↔ Free lent off len
  free_here lt after s read =
      let high = subst (λ l. AllWithin (λ (s : Span). off < s.end) l i (length l)) same after in
      let end : off < s.end = subst (λ (t : Span). off < t.end) (sym read) (high i s (omega arith) lt) in
      let some : s.start < s.end = subst (λ (t : Span). t.start < t.end) (sym read) (apart_from lo n c lent a i s lt).1 in
      let at : (k : ℕ) → off ≤ k → k < s.end → have k lent ≡ has k s =
      (λ k p q. have_at lo n c k i s lent a (λ j d l b. (let e : (get_or lent j d).end ≤ off = low j d l b in omega arith)) lt (subst (λ (t : Span). k < t.end) read q) ∙ ap (has k) (sym read)) in (
        λ t k p q. (
            let le : len ≤ s.start - off = leb-true len (s.start - off) t in
            at k p (omega arith) ∙ has_before k s (omega arith)),
        λ free. by_lt (s.start - off) len
            (λ short. by_lt s.start off
            (λ b. absurd (true≢false (sym (sym (free off (omega arith) (omega arith)) ∙ at off (omega arith) end ∙ has_yes off s (omega arith) end))))
            (λ b. absurd (true≢false (sym (sym (free s.start b (omega arith)) ∙ at s.start b some ∙ has_yes s.start s (omega arith) some)))))
            (λ le. le-leb len (s.start - off) le),
      )

  -- no range ends after its first place
  pub free_past : length lent ≤ i → IsTrue true ↔ Free lent off len
  free_past le = (λ t k p q. past_all k i lent le (λ j d l b. (let e : (get_or lent j d).end ≤ off = low j d l b in omega arith)), λ free. refl)
