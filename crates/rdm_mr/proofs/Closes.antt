-- With nothing out there is one part, or none.
use Rattle.std.proofs.Common.{◌≡◌, ℕ, zero, suc, ◌+◌, ◌-◌, ◌<◌, ◌≤◌, ◌⊎◌, inl, inr, ltb, true, false, List, [], ◌∷◌, ◌++◌, length, length-append, get_or, map, replicate, Some, None, refl, sym, ap, subst, ◌∙◌, arith, ltb-true, ltb-false}
use Rattle.std.proofs.lemmas.List.{get_or-replicate, length-map, append-nil, take_all}
use Rattle.std.proofs.lemmas.Bool.{false≢true}
use Rattle.rdm_mr.specs.Part.{Piece, end_of}
use Rattle.rdm_mr.specs.Ordered.{cells_of, AreApart}
use Rattle.rdm_mr.specs.Tiles.{AreHome}
use Rattle.rdm_mr.proofs.Cells.{AreApart_le, length-cells_of, not_home, home_at}

pub record One (lo n : ℕ) (parts : List Piece) (p : Piece) : Type 0 where
  pub is : parts ≡ p ∷ []
  pub start : p.start ≡ lo
  pub all : map Some p.bytes ≡ cells_of lo n parts

-- a list is all at home if it is Some of each byte
all_home : (xs : List ℕ) → AreHome 0 (length xs) (map Some xs)
all_home xs = (xs, refl, (let l = length-map xs Some in omega arith, take_all (length (map Some xs)) (map Some xs) (omega arith)))

module _ (lo n : ℕ) (le : lo ≤ n) where
  none_out : (parts : List Piece) (xs : List ℕ) (k : ℕ) → AreApart lo n parts → cells_of lo n parts ≡ map Some xs → k < n - lo → get_or (cells_of lo n parts) k None ≡ None → ⊥
  none_out parts xs k s e lt none =
      let size = length-cells_of lo n parts s in
      let long = length-map xs Some in
      let same = ap length e in
      home_at 0 (length xs) k (map Some xs) (all_home xs) (omega arith) (omega arith) (ap (λ l. get_or l k None) (sym e) ∙ none)

  by_lt : {X : Type 0} (a b : ℕ) → (a < b → X) → (b ≤ a → X) → X
  by_lt {X = X} a b f g = elim (ltb a b) as (λ v. ltb a b ≡ v → X) [ true ↦ λ e. f (ltb-true a b e) | false ↦ λ e. g (ltb-false a b e) ] refl

  pub closes : (parts : List Piece) (xs : List ℕ) → AreApart lo n parts → cells_of lo n parts ≡ map Some xs → ((parts ≡ []) × (cells_of lo n parts ≡ [])) ⊎ ((p : Piece) × One lo n parts p)
  closes [] xs s e =
      by_lt lo n (λ lt. absurd (none_out [] xs 0 s e (omega arith) (get_or-replicate (n - lo) 0 None None (omega arith))))
      (λ ge. let none : n - lo ≡ 0 = omega arith in inl (refl, ap (λ k. replicate k None) none))
  closes (p ∷ []) xs s e =
      let at : p.start ≡ lo =
      by_lt lo p.start (λ lt. absurd (let zero_is : lo - lo ≡ 0 = omega arith in none_out (p ∷ []) xs (lo - lo) s e (omega (arith, s.1, s.2)) (not_home lo lo n [] (p ∷ []) (omega arith) (omega (arith, s.1, s.2)) (omega arith) (omega arith, s.1, s.2))))
      (λ ge. omega (arith, s.0)) in
      let full : n ≡ end_of p =
      by_lt (end_of p) n (λ lt. absurd (none_out (p ∷ []) xs (end_of p - lo) s e (omega (arith, s.0, s.1)) (not_home lo (end_of p) n (p ∷ []) [] (omega (arith, s.0)) lt (s.0, s.1, omega arith) (omega arith))))
      (λ ge. omega (arith, s.2)) in
      let front : p.start - lo ≡ 0 = omega arith in
      let back : n - end_of p ≡ 0 = omega arith in
      inr (
        p,
        record {
          is = refl;
          start = at;
          all = sym (append-nil (map Some p.bytes)) ∙ ap (λ k. map Some p.bytes ++ replicate k None) (sym back) ∙ ap (λ k. replicate k None ++ (map Some p.bytes ++ replicate (n - end_of p) None)) (sym front);
        },
      )
  closes (p ∷ q ∷ parts) xs s e =
      let rest : end_of q + 1 ≤ n + 1 = AreApart_le (end_of q + 1) n parts s.2.2 in
      absurd (none_out (p ∷ q ∷ parts) xs (end_of p - lo) s e (omega (arith, s.0, s.1, s.2.0, s.2.1)) (not_home lo (end_of p) n (p ∷ []) (q ∷ parts) (omega (arith, s.0)) (omega (arith, s.2.0, s.2.1)) (s.0, s.1, omega arith) s.2))

  -- what is popped is that part
  pub popped : (parts new : List Piece) (q : Piece) (xs : List ℕ) → parts ≡ new ++ q ∷ [] → AreApart lo n parts → cells_of lo n parts ≡ map Some xs → (length new ≡ 0) × One lo n parts q
  popped parts [] q xs is s e = (refl, record { is = is; start = (one parts q xs is s e).start; all = (one parts q xs is s e).all })
    where
      one : (parts : List Piece) (q : Piece) (xs : List ℕ) → parts ≡ q ∷ [] → AreApart lo n parts → cells_of lo n parts ≡ map Some xs → One lo n parts q
      one parts q xs is s e = elim (closes parts xs s e) [
        | inl w ↦ absurd (let l = ap length (sym is ∙ w.0) in omega arith)
        | inr w ↦ let same : w.0 ≡ q = ap (λ l. get_or l 0 q) (sym w.1.is ∙ is) in subst (One lo n parts) same w.1
      ]
  popped parts (y ∷ ys) q xs is s e = absurd (elim (closes parts xs s e) [
    | inl w ↦ (let l = ap length (sym is ∙ w.0) in omega arith)
    | inr w ↦ (let l = ap length (sym is ∙ w.1.is) in let m = length-append ys (q ∷ []) in omega arith)
  ])

  pub none_left : (parts : List Piece) (xs : List ℕ) → length parts ≡ 0 → AreApart lo n parts → cells_of lo n parts ≡ map Some xs → cells_of lo n parts ≡ []
  none_left parts xs l s e = elim (closes parts xs s e) [ inl w ↦ w.1 | inr w ↦ absurd (let m = ap length w.1.is in omega arith) ]

pub zero_from : (n : ℕ) → (0 < n → false ≡ true) → n ≡ 0
zero_from zero f = refl
zero_from (suc n) f = absurd (false≢true (f (omega arith)))
