-- The numbers of all puts: 0, 1, 2 and so on, so none comes twice.
use Rattle.std.specs.Prelude.{◌≡◌, ℕ, zero, suc, List, [], ◌∷◌, Result, Ok, Err}
use Rattle.rdm_num.specs.declared.numbers.OpId.{OpId}
use Rattle.rdm_pool.specs.declared.Full.{Full}
use Rattle.rdm_pool.specs.Numbered.{Numbered, nothing_put, put_answer, after_put, after_take, after_write, after_mark, after_unmark}

-- a call that may change a pool
pub data Call (T : Type 0) : Type 0 where
  Put : T → Call T
  Take : OpId → Call T
  Write : OpId → T → Call T
  Mark : OpId → Call T
  Unmark : OpId → Call T

module _ {T : Type 0} where
  -- the pool after calls, the newest call first
  unfoldable pub after_calls : ℕ → List (Call T) → Numbered T
  after_calls size [] = nothing_put size
  after_calls size (Put value ∷ before) = after_put (after_calls size before) value
  after_calls size (Take id ∷ before) = after_take (after_calls size before) id
  after_calls size (Write id value ∷ before) = after_write (after_calls size before) id value
  after_calls size (Mark id ∷ before) = after_mark (after_calls size before) id
  after_calls size (Unmark id ∷ before) = after_unmark (after_calls size before) id

  -- the number that a put gave, if any, before others
  unfoldable pub with_given : Result OpId (Full T) → List ℕ → List ℕ
  with_given (Ok id) others = id.0 ∷ others
  with_given (Err full) others = others

  -- the numbers that puts gave, the newest first
  unfoldable pub given : ℕ → List (Call T) → List ℕ
  given size [] = []
  given size (Put value ∷ before) = with_given (put_answer (after_calls size before) value) (given size before)
  given size (Take id ∷ before) = given size before
  given size (Write id value ∷ before) = given size before
  given size (Mark id ∷ before) = given size before
  given size (Unmark id ∷ before) = given size before

-- the numbers below one, the greatest first
unfoldable pub falling_from : ℕ → List ℕ
falling_from zero = []
falling_from (suc n) = n ∷ falling_from n

-- over any calls, the puts gave each number below the count of puts once, and rising
abbrev pub NumbersComeOnce : Type 0 → Type 0
NumbersComeOnce T = (size : ℕ) (calls : List (Call T)) → given size calls ≡ falling_from (after_calls size calls).made
