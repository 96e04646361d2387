-- The puts of any calls gave each number once.
use Rattle.std.proofs.Common.{◌≡◌, ℕ, Bool, true, false, List, [], ◌∷◌, refl, add-one}
use Rattle.rdm_pool.specs.Numbered.{Numbered, is_full, put_answer, after_put}
use Rattle.rdm_pool.specs.Runs.{Put, Take, Write, Mark, Unmark, after_calls, with_given, given, falling_from, NumbersComeOnce}

-- by the two values of a test
by_test : {P : Type 0} (b : Bool) → (b ≡ true → P) → (b ≡ false → P) → P
by_test true hit miss = hit refl
by_test false hit miss = miss refl

module _ {T : Type 0} where
  -- one put
  once_more : (p : Numbered T) (value : T) (numbers : List ℕ) → numbers ≡ falling_from p.made → with_given (put_answer p value) numbers ≡ falling_from (after_put p value).made
  unfolding with_given falling_from
  once_more p value numbers so_far =
      by_test (is_full p)
      (λ full. rw (full, so_far) refl)
      (λ room. rw (room, so_far, add-one) refl)

  pub numbers_come_once : NumbersComeOnce T
  unfolding after_calls given falling_from
  numbers_come_once size [] = refl
  numbers_come_once size (Put value ∷ before) = once_more (after_calls size before) value (given size before) (numbers_come_once size before)
  numbers_come_once size (Take id ∷ before) = numbers_come_once size before
  numbers_come_once size (Write id value ∷ before) = numbers_come_once size before
  numbers_come_once size (Mark id ∷ before) = numbers_come_once size before
  numbers_come_once size (Unmark id ∷ before) = numbers_come_once size before
