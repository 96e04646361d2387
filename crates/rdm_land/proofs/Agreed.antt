-- What is missing, what is at home and what is lent stay in agreement.
use Rattle.std.proofs.Common.{◌≡◌, ℕ, ◌+◌, ◌-◌, ◌<◌, ◌≤◌, ◌⊎◌, inl, inr, Bool, true, false, ◌||◌, List, [], length, get_or, map, replicate, min, Option, Some, None, is_none, refl, sym, ap, subst, ◌∙◌, arith}
use Rattle.std.proofs.lemmas.List.{length-map, length-replicate, get_or-replicate}
use Rattle.std.proofs.lemmas.Bool.{true≢false}
use Rattle.std.specs.List.{Contains}
use Rattle.rdm_gaps.specs.Places.{AreMissing, AreTaken, with_range}
use Rattle.rdm_gaps.proofs.Covered.{all_at}
use Rattle.rdm_mr.specs.Tiles.{laid, AreHome, AreOut, IsWhole}
use Rattle.rdm_land.specs.declared.spans.Span.{Span}
use Rattle.rdm_land.specs.Spans.{span, have, with_span, without_span, AreApart}
use Rattle.rdm_land.specs.Inside.{Agrees}
use Rattle.rdm_mr.proofs.Overlays.{by_range, length-new, new_in, new_out, out_from_each, home_from_each, whole_from_each, some_bytes}
use Rattle.rdm_land.proofs.SetRanges.{length-set, set_in, set_out, all_from_each}
use Rattle.rdm_land.proofs.Order.{has_yes, has_out}
use Rattle.rdm_land.proofs.Changed.{have-with_span, apart_with, apart_without, have_contained, contained_bounds, have_removed, have_others}

-- what is not missing is all that can be lent
free : (b : Bool) (m : Bool) → m ≡ true → (b ≡ true → m ≡ false) → b ≡ false
free true m is h = absurd (true≢false (sym is ∙ h refl))
free false m is h = refl

-- all is at home
pub agrees_whole : (missing : List Bool) (cells : List (Option ℕ)) → IsWhole cells → Agrees missing cells []
agrees_whole missing cells whole =
    record {
      apart = omega arith;
      taken = λ k h. absurd (true≢false (sym h));
      out = λ k lt. let long = length-map whole.0 Some in let size = ap length whole.1 in ap (λ l. is_none (get_or l k None)) whole.1 ∙ some_bytes whole.0 k (omega (arith, long, size));
    }

-- nothing has come
pub agrees_new : (size : ℕ) (bytes : List ℕ) → Agrees (replicate size true) (map Some bytes) []
agrees_new size bytes =
    record {
      apart = omega arith;
      taken = λ k h. absurd (true≢false (sym h));
      out = λ k lt. some_bytes bytes k (let m = length-map bytes Some in omega (arith, m));
    }

module _ (missing : List Bool) (cells : List (Option ℕ)) (lent : List Span) (agrees : Agrees missing cells lent) where
  -- a missing place is not lent
  pub not_lent : (off len k : ℕ) → AreMissing off len missing → off ≤ k → k < off + len → have k lent ≡ false
  not_lent off len k m p q = free (have k lent) (get_or missing k false) (all_at true false off len k missing m p q) (agrees.taken k)

  -- so a missing range is at home
  pub are_home : (off len n : ℕ) → AreMissing off len missing → n ≤ len → off + n ≤ length cells → AreHome off n cells
  are_home off len n m le fits = home_from_each off n cells fits (λ k p q. agrees.out k (omega arith) ∙ not_lent off len k m p (omega arith))

  -- nothing is out where nothing is lent
  pub is_whole : lent ≡ [] → IsWhole cells
  is_whole none = (_, whole_from_each cells (λ k lt. agrees.out k lt ∙ ap (have k) none))

  -- bytes are written where their range was missing
  pub agrees_place : (off len : ℕ) (bytes : List ℕ) → AreMissing off len missing → length bytes ≤ len → off + length bytes ≤ length cells → Agrees (with_range false off len missing) (laid off (map Some bytes) cells) lent
  agrees_place off len bytes m le fits =
      let long = length-map bytes Some in
      let fits' : off + length (map Some bytes) ≤ length cells = omega (arith, long) in
      let size = length-new off (map Some bytes) cells None fits' in
      let tests = length-set false off len missing m.0 in
      record {
        apart = subst (λ n. AreApart 0 n (length (laid off (map Some bytes) cells)) lent) (sym tests) (subst (λ c. AreApart 0 (length missing) c lent) (sym size) agrees.apart);
        taken = λ k h. by_range off len k (λ p q. set_in false off len missing m.0 k p q) (λ o. set_out false off len missing m.0 k o ∙ agrees.taken k h);
        out = λ k lt. by_range off (length (map Some bytes)) k
            (λ p q. ap is_none (new_in off (map Some bytes) cells None fits' k p q) ∙ some_bytes bytes (k - off) (omega (arith, long)) ∙ sym (not_lent off len k m p (omega (arith, long))))
            (λ o. ap is_none (new_out off (map Some bytes) cells None fits' k o) ∙ agrees.out k (omega (arith, size)));
      }

  -- a range is missing no more
  pub agrees_take : (off len : ℕ) → AreMissing off len missing → Agrees (with_range false off len missing) cells lent
  agrees_take off len m =
      let tests = length-set false off len missing m.0 in
      record {
        apart = subst (λ n. AreApart 0 n (length cells) lent) (sym tests) agrees.apart;
        taken = λ k h. by_range off len k (λ p q. set_in false off len missing m.0 k p q) (λ o. set_out false off len missing m.0 k o ∙ agrees.taken k h);
        out = agrees.out;
      }

  -- a range is lent
  pub agrees_lend : (off len n : ℕ) → AreMissing off len missing → 0 < len → off < length cells → n ≡ min len (length cells - off) → Agrees (with_range false off len missing) (laid off (replicate n None) cells) (with_span (span off len) lent)
  agrees_lend off len n m some below is =
      let s = span off len in
      let gone : length (replicate {A = Option ℕ} n None) ≡ n = length-replicate n None in
      let fits : off + length (replicate {A = Option ℕ} n None) ≤ length cells = omega (arith, gone, is) in
      let size = length-new off (replicate n None) cells None fits in
      let tests = length-set false off len missing m.0 in
      let clear : (k : ℕ) → off ≤ k → k < off + len → have k lent ≡ false = (λ k p q. not_lent off len k m p q) in
      record {
        apart = subst (λ k. AreApart 0 k (length (laid off (replicate n None) cells)) (with_span s lent)) (sym tests)
            (subst (λ c. AreApart 0 (length missing) c (with_span s lent)) (sym size) (apart_with 0 (length missing) (length cells) s lent agrees.apart clear (omega arith) (omega arith) m.0 below));
        taken = λ k h. by_range off len k (λ p q. set_in false off len missing m.0 k p q)
            (λ o. set_out false off len missing m.0 k o ∙ agrees.taken k (ap (λ b. b || have k lent) (sym (has_out k s o)) ∙ sym (have-with_span k s lent) ∙ h));
        out = λ k lt. by_range off len k
            (λ p q. ap is_none (new_in off (replicate n None) cells None fits k p (omega (arith, gone, is, size))) ∙ ap is_none (get_or-replicate n (k - off) None None (omega (arith, is, size))) ∙ ap (λ b. b || have k lent) (sym (has_yes k s p q)) ∙ sym (have-with_span k s lent))
            (λ o. ap is_none (new_out off (replicate n None) cells None fits k (farther off len n k o (omega (arith, gone, is)))) ∙ agrees.out k (omega (arith, size)) ∙ ap (λ b. b || have k lent) (sym (has_out k s o)) ∙ sym (have-with_span k s lent));
      }
    where
      farther : (off len n k : ℕ) → (k < off) ⊎ (off + len ≤ k) → length (replicate {A = Option ℕ} n None) ≤ len → (k < off) ⊎ (off + length (replicate {A = Option ℕ} n None) ≤ k)
      farther off len n k (inl p) le = inl p
      farther off len n k (inr p) le = inr (omega arith)

  module _ (off len : ℕ) (there : Contains lent (span off len)) where
    pub bounds : (0 ≤ off) × (off < off + len) × (off + len ≤ length missing) × (off < length cells)
    bounds = contained_bounds 0 (length missing) (length cells) (span off len) lent agrees.apart there

    -- a lent range is not missing, and out below the capacity
    pub are_taken : AreTaken off len missing
    are_taken = all_from_each false off len missing bounds.2 (λ k p q. agrees.taken k (have_contained (span off len) lent k there p q))

    pub are_out : (n : ℕ) → n ≡ min len (length cells - off) → AreOut off n cells
    are_out n is =
        let b = bounds in
        out_from_each off n cells (omega (arith, is, b.3)) (λ k p q. agrees.out k (omega (arith, is, b.3)) ∙ have_contained (span off len) lent k there p (omega (arith, is)))

    pub some_below : (n : ℕ) → n ≡ min len (length cells - off) → 0 < n
    some_below n is = let b = bounds in omega (arith, is, b.1, b.3)

    -- it is at home again, and its tests are b
    module _ (bytes : List ℕ) (is : length bytes ≡ min len (length cells - off)) where
      all_long : length (map Some bytes) ≡ length bytes
      all_long = length-map bytes Some

      fits : off + length (map Some bytes) ≤ length cells
      fits = let b = bounds in omega (arith, all_long, is, b.3)

      back_out : (k : ℕ) → k < length (laid off (map Some bytes) cells) → is_none (get_or (laid off (map Some bytes) cells) k None) ≡ have k (without_span (span off len) lent)
      back_out k lt =
          let size = length-new off (map Some bytes) cells None fits in
          by_range off len k
          (λ p q. ap is_none (new_in off (map Some bytes) cells None fits k p (omega (arith, all_long, is, size))) ∙ some_bytes bytes (k - off) (omega (arith, all_long, is, size))
          ∙ sym (have_removed 0 (length missing) (length cells) (span off len) lent k agrees.apart there p q))
          (λ o. ap is_none (new_out off (map Some bytes) cells None fits k (farther k o)) ∙ agrees.out k (omega (arith, size)) ∙ sym (have_others (span off len) lent k there o))
        where
          farther : (k : ℕ) → (k < off) ⊎ (off + len ≤ k) → (k < off) ⊎ (off + length (map Some bytes) ≤ k)
          farther k (inl p) = inl p
          farther k (inr p) = inr (omega (arith, all_long, is))

      back_apart : AreApart 0 (length missing) (length (laid off (map Some bytes) cells)) (without_span (span off len) lent)
      back_apart = subst (λ c. AreApart 0 (length missing) c (without_span (span off len) lent)) (sym (length-new off (map Some bytes) cells None fits)) (apart_without 0 (length missing) (length cells) (span off len) lent agrees.apart)

      pub agrees_land : Agrees missing (laid off (map Some bytes) cells) (without_span (span off len) lent)
      agrees_land =
          record {
            apart = back_apart;
            taken = λ k h. by_range off len k (λ p q. agrees.taken k (have_contained (span off len) lent k there p q)) (λ o. agrees.taken k (sym (have_others (span off len) lent k there o) ∙ h));
            out = back_out;
          }

      pub agrees_unlend : Agrees (with_range true off len missing) (laid off (map Some bytes) cells) (without_span (span off len) lent)
      agrees_unlend =
          let tests = length-set true off len missing bounds.2 in
          record {
            apart = subst (λ n. AreApart 0 n (length (laid off (map Some bytes) cells)) (without_span (span off len) lent)) (sym tests) back_apart;
            taken = λ k h. by_range off len k (λ p q. absurd (true≢false (sym h ∙ have_removed 0 (length missing) (length cells) (span off len) lent k agrees.apart there p q)))
                (λ o. set_out true off len missing bounds.2 k o ∙ agrees.taken k (sym (have_others (span off len) lent k there o) ∙ h));
            out = back_out;
          }

-- the same of other lists that are equal
pub agrees_along : {m n : List Bool} {cells others : List (Option ℕ)} {spans ranges : List Span} → n ≡ m → others ≡ cells → ranges ≡ spans → Agrees m cells spans → Agrees n others ranges
agrees_along {m = m} {n = n} {cells = cells} {others = others} {spans = spans} {ranges = ranges} e f g a =
    subst (λ x. Agrees x others ranges) (sym e) (subst (λ x. Agrees m x ranges) (sym f) (subst (λ x. Agrees m cells x) (sym g) a))
