-- Bytes that are put into a range of a region leave all other places.
use Rattle.std.proofs.Common.{◌≡◌, ℕ, zero, suc, ◌+◌, ◌<◌, ◌≤◌, true, false, ◌&&◌, List, [], ◌∷◌, length, get_or, refl, arith, inl, inr, sym, ◌∙◌, ap, eq-eqb}
use Rattle.std.specs.Prelude.{◌==◌, nat_lt, nat_le, slice_get}
use Rattle.std.proofs.lemmas.Bool.{eqb-true, cases_lt, and_from, lt-ltb, le-leb}
use Rattle.rdm_num.specs.declared.request.RecvReq.{RecvReq}
use Rattle.rdm_model.specs.Regions.{put, change_at}
use Rattle.rdm_life.specs.Memory.{is_place_of}
use Rattle.rdm_life.proofs.Writes.{put_before, put_after, changed_here, changed_there}

-- past the end there is none
pub get_or_past : {A : Type 0} (xs : List A) (n : ℕ) (d : A) → length xs ≤ n → get_or xs n d ≡ d
get_or_past [] n d h = refl
get_or_past (x ∷ xs) zero d h = absurd (omega arith)
get_or_past (x ∷ xs) (suc n) d h = get_or_past xs n d (omega arith)

-- a change keeps how many there are
length_changed : {A : Type 0} (f : A → A) (n : ℕ) (xs : List A) → length (change_at f n xs) ≡ length xs
unfolding change_at
length_changed f n [] = refl
length_changed f zero (x ∷ xs) = refl
length_changed f (suc n) (x ∷ xs) = ap suc (length_changed f n xs)

-- a place outside a range is before it or after it
outside : (req : RecvReq) (region place : ℕ) → is_place_of req region place ≡ false → req.region.0 ≡ region → req.at ≤ place → place < req.at + req.len → ⊥
unfolding is_place_of
outside req region place h same low high =
    let t = and_from (req.region.0 == region && nat_le req.at place) (nat_lt place (req.at + req.len))
    (and_from (req.region.0 == region) (nat_le req.at place) (eq-eqb req.region.0 region same) (le-leb req.at place low)) (lt-ltb place (req.at + req.len) high) in
    cc

-- bytes that are put into a range leave the places outside it
put_outside : (bytes : List ℕ) (req : RecvReq) (content : List ℕ) (region place : ℕ) → length bytes ≤ req.len → req.at + req.len ≤ length content → req.region.0 ≡ region
    → is_place_of req region place ≡ false → slice_get (put req.at bytes content) place ≡ slice_get content place
put_outside bytes req content region place short fit same out =
    elim (cases_lt place req.at) [
      | inl a ↦ put_before req.at bytes content place (omega arith) a
      | inr a ↦ elim (cases_lt place (req.at + req.len)) [
        | inl b ↦ absurd (outside req region place out same a b)
        | inr b ↦ put_after req.at bytes content place (omega arith) (omega arith)
      ]
    ]

-- so a change of a region by such bytes does
pub change_outside : (bytes : List ℕ) (req : RecvReq) (regions : List (List ℕ)) (region place : ℕ) → length bytes ≤ req.len
    → req.at + req.len ≤ length (get_or regions req.region.0 []) → is_place_of req region place ≡ false
    → slice_get (get_or (change_at (put req.at bytes) req.region.0 regions) region []) place ≡ slice_get (get_or regions region []) place
change_outside bytes req regions region place short fit out =
    (elim (req.region.0 == region) as (λ b. (req.region.0 == region) ≡ b
    → slice_get (get_or (change_at (put req.at bytes) req.region.0 regions) region []) place ≡ slice_get (get_or regions region []) place) [
      | true ↦ λ e.
          let same : req.region.0 ≡ region = eqb-true req.region.0 region e in
          elim (cases_lt req.region.0 (length regions)) [
            | inl lt ↦
                ap (λ (n : ℕ). slice_get (get_or (change_at (put req.at bytes) req.region.0 regions) n []) place) (sym same)
                ∙ ap (λ (r : List ℕ). slice_get r place) (changed_here (put req.at bytes) req.region.0 regions [] lt)
                ∙ put_outside bytes req (get_or regions req.region.0 []) region place short fit same out
                ∙ ap (λ (n : ℕ). slice_get (get_or regions n []) place) same
            | inr past ↦
                let n = length_changed (put req.at bytes) req.region.0 regions in
                ap (λ (r : List ℕ). slice_get r place) (get_or_past (change_at (put req.at bytes) req.region.0 regions) region [] (omega arith) ∙ sym (get_or_past regions region [] (omega arith)))
          ]
      | false ↦ λ e.
          ap (λ (r : List ℕ). slice_get r place)
          (changed_there (put req.at bytes) req.region.0 region regions [] (λ q. (let t = eq-eqb req.region.0 region (sym q) in cc)))
    ]) refl
