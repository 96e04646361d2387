-- What a put, a take and a write change of what the slab lists.
use Rattle.std.proofs.Common.{◌≡◌, ◌≢◌, ℕ, List, [], ◌∷◌, ◌++◌, Some, None, refl, ap, ◌∙◌, inl, inr, arith}
use Rattle.std.proofs.lemmas.Bool.{cases_eq}
use Rattle.std.proofs.lemmas.Bool.Decides.{nat_tests}
use Rattle.slab.specs.Slab.{Slab, get, Updates}
use Rattle.rdm_pool.specs.Numbered.{value_at, without, with_value}
use Rattle.rdm_pool.specs.Places.{IsFree, AreHeld, listed}
use Rattle.rdm_pool.proofs.Entries.{without_first, without_after}
use Rattle.rdm_pool.proofs.SlabKeys.{some_of, listed-held, listed-elsewhere, held-elsewhere, vacant_free, listed-last, held-last}

-- a free key stays free without a number
free-without : (pairs : List (ℕ × ℕ)) (key number : ℕ) → IsFree pairs key → IsFree (without pairs number) key
unfolding without
free-without [] key number free = tt
free-without (pair ∷ rest) key number free = elim (cases_eq pair.0 number) [
  | inl here ↦ rw (without_first pair rest number here) free.1
  | inr away ↦ rw (without_after pair rest number away) (free.0, free-without rest key number free.1)
]

-- the key that a number has is not free
free_under : (pairs : List (ℕ × ℕ)) (key other number : ℕ) → value_at pairs number ≡ Some key → IsFree pairs other → other ≢ key
unfolding value_at
free_under [] key other number is free = absurd (cc)
free_under (pair ∷ rest) key other number is free = λ same. elim (cases_eq pair.0 number) [
  | inl here ↦ grind (arith, nat_tests, free.0)
  | inr away ↦ grind (arith, nat_tests, free_under rest key other number)
]

module _ {T : Type 0} where
  -- a put lists its value last
  pub listed-put : (old new : Slab T) (pairs : List (ℕ × ℕ)) (pair : ℕ × ℕ) (value : T) → Updates old new pair.1 (Some value) → get old pair.1 ≡ None → AreHeld old pairs → listed new (pairs ++ pair ∷ []) ≡ listed old pairs ++ (pair.0, value) ∷ []
  listed-put old new pairs pair value updates vacant held =
      let free = vacant_free old pair.1 pairs vacant held in
      listed-last new pairs pair value updates.changed (held-elsewhere old new pair.1 _ pairs updates free held)
      ∙ ap (λ xs. xs ++ (pair.0, value) ∷ []) (listed-elsewhere old new pair.1 _ pairs updates free)

  -- and holds it
  pub held-put : (old new : Slab T) (pairs : List (ℕ × ℕ)) (pair : ℕ × ℕ) (value : T) → Updates old new pair.1 (Some value) → get old pair.1 ≡ None → AreHeld old pairs → AreHeld new (pairs ++ pair ∷ [])
  held-put old new pairs pair value updates vacant held =
      let free = vacant_free old pair.1 pairs vacant held in
      held-last new pairs pair (rw updates.changed refl) free (held-elsewhere old new pair.1 _ pairs updates free held)

  -- a take leaves the others held
  pub held-take : (old new : Slab T) (pairs : List (ℕ × ℕ)) (number key : ℕ) → value_at pairs number ≡ Some key → Updates old new key None → AreHeld old pairs → AreHeld new (without pairs number)
  unfolding value_at
  held-take old new [] number key is updates held = absurd (cc)
  held-take old new (pair ∷ rest) number key is updates held = elim (cases_eq pair.0 number) [
    | inl here ↦
        let same : pair.1 ≡ key = grind (arith, nat_tests, here) in
        rw (without_first pair rest number here) (held-elsewhere old new pair.1 None rest (rw same updates) held.1 held.2)
    | inr away ↦
        let under : value_at rest number ≡ Some key = grind (arith, nat_tests, away) in
        rw (without_after pair rest number away) (
          rw (updates.others pair.1 (free_under rest key pair.1 number under held.1)) held.0,
          free-without rest pair.1 number held.1,
          held-take old new rest number key under updates held.2,
        )
  ]

  -- a take lists the others
  pub listed-take : (old new : Slab T) (pairs : List (ℕ × ℕ)) (number key : ℕ) → value_at pairs number ≡ Some key → Updates old new key None → AreHeld old pairs → listed new (without pairs number) ≡ without (listed old pairs) number
  unfolding value_at
  listed-take old new [] number key is updates held = absurd (cc)
  listed-take old new (pair ∷ rest) number key is updates held =
      let some = some_of (get old pair.1) held.0 in
      let listed_first = listed-held old pair rest some.0 some.1 in
      elim (cases_eq pair.0 number) [
        | inl here ↦
            let same : pair.1 ≡ key = grind (arith, nat_tests, here) in
            rw (without_first pair rest number here, listed_first, without_first (pair.0, some.0) (listed old rest) number here) (listed-elsewhere old new pair.1 None rest (rw same updates) held.1)
        | inr away ↦
            let under : value_at rest number ≡ Some key = grind (arith, nat_tests, away) in
            let kept = updates.others pair.1 (free_under rest key pair.1 number under held.1) ∙ some.1 in
            rw (without_after pair rest number away, listed_first, without_after (pair.0, some.0) (listed old rest) number away) (
            listed-held new pair (without rest number) some.0 kept
            ∙ ap (λ xs. (pair.0, some.0) ∷ xs) (listed-take old new rest number key under updates held.2)
            )
      ]

  -- a write leaves each number held
  pub held-written : (old new : Slab T) (key : ℕ) (value : T) (pairs : List (ℕ × ℕ)) → Updates old new key (Some value) → AreHeld old pairs → AreHeld new pairs
  held-written old new key value [] updates held = tt
  held-written old new key value (pair ∷ rest) updates held = (
    elim (cases_eq pair.1 key) [
      | inl same ↦ rw (same, updates.changed) refl
      | inr other ↦ rw (updates.others pair.1 other) held.0
    ],
    held.1,
    held-written old new key value rest updates held.2,
  )

  -- a write under a number's key is listed under the number
  pub listed-written : (old new : Slab T) (pairs : List (ℕ × ℕ)) (number key : ℕ) (value : T) → value_at pairs number ≡ Some key → Updates old new key (Some value) → AreHeld old pairs → listed new pairs ≡ with_value (listed old pairs) number value
  unfolding listed with_value value_at
  listed-written old new [] number key value is updates held = refl
  listed-written old new (pair ∷ rest) number key value is updates held =
      let some = some_of (get old pair.1) held.0 in
      elim (cases_eq pair.0 number) [
        | inl here ↦
            let same : pair.1 ≡ key = grind (arith, nat_tests, here) in
            let elsewhere = listed-elsewhere old new pair.1 (Some value) rest (rw same updates) held.1 in
            listed-held new pair rest value (rw same updates.changed)
            ∙ ap (λ xs. (pair.0, value) ∷ xs) elsewhere
            ∙ rw (listed-held old pair rest some.0 some.1) (grind (arith, nat_tests, here))
        | inr away ↦
            let under : value_at rest number ≡ Some key = grind (arith, nat_tests, away) in
            let other = free_under rest key pair.1 number under held.1 in
            listed-held new pair rest some.0 (updates.others pair.1 other ∙ some.1)
            ∙ ap (λ xs. (pair.0, some.0) ∷ xs) (listed-written old new rest number key value under updates held.2)
            ∙ rw (listed-held old pair rest some.0 some.1) (grind (arith, nat_tests, away))
      ]
