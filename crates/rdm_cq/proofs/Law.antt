-- Items come out as they were written.
use Rattle.std.proofs.Common.{◌≡◌, ◌<◌, ◌≤◌, Bool, true, false, List, [], ◌∷◌, ◌++◌, length, drop, slice_get, refl, sym, ap, ◌∙◌, append_assoc, append-nil, length-append, arith}
use Rattle.std.proofs.lemmas.Bool.Decides.{nat_tests}
use Rattle.rdm_cq.specs.Queue.{Queue, IsWithin, is_full, after_reserve, unreserved, written, poll_answer, polled}
use Rattle.rdm_cq.specs.Runs.{Reserve, Unreserve, Write, Poll, after_calls, all_written, all_polled, one_or_none, ComesAsWritten}

-- by the two values of a test
by_test : {P : Type 0} (b : Bool) → (b ≡ true → P) → (b ≡ false → P) → P
by_test true hit miss = hit refl
by_test false hit miss = miss refl

module _ {T : Type 0} where
  -- what has come out and what waits is what was written
  abbrev Stands : List T → Queue T → List T → Type 0
  Stands out q wrote = IsWithin q × (out ++ q.list ≡ wrote)

  -- a reserve
  reserve_stands : (out : List T) (q : Queue T) (wrote : List T) → Stands out q wrote → Stands out (after_reserve q) wrote
  reserve_stands out q wrote st =
      by_test (is_full q)
      (λ full. rw full st)
      (λ room. rw room (grind (arith, nat_tests, st.0, room), st.1))

  -- a place is given back
  unreserve_stands : (out : List T) (q : Queue T) (wrote : List T) → 0 < q.reserved → Stands out q wrote → Stands out (unreserved q) wrote
  unreserve_stands out q wrote some st = (omega (arith, st.0), st.1)

  -- a write
  write_stands : (out : List T) (q : Queue T) (wrote : List T) (item : T) → 0 < q.reserved → Stands out q wrote → Stands out (written q item) (wrote ++ item ∷ [])
  write_stands out q wrote item some st = (
    omega (arith, st.0, length-append q.list (item ∷ [])),
    sym (append_assoc out q.list (item ∷ [])) ∙ ap (λ xs. xs ++ item ∷ []) st.1,
  )

  -- the first and the others
  first_out : (out list : List T) → (out ++ one_or_none (slice_get list 0)) ++ drop 1 list ≡ out ++ list
  unfolding one_or_none
  first_out out [] = append-nil (out ++ []) ∙ refl
  first_out out (item ∷ rest) = append_assoc out (item ∷ []) rest

  -- a poll leaves no more
  fewer : (list : List T) → length (drop 1 list) ≤ length list
  fewer [] = omega arith
  fewer (item ∷ rest) = omega arith

  -- a poll
  poll_stands : (out : List T) (q : Queue T) (wrote : List T) → Stands out q wrote → Stands (out ++ one_or_none (poll_answer q)) (polled q) wrote
  poll_stands out q wrote st = (omega (arith, st.0, fewer q.list), first_out out q.list ∙ st.1)

  -- all calls
  pub comes_as_written : ComesAsWritten T
  unfolding after_calls all_written all_polled
  comes_as_written size [] are = (omega arith, refl)
  comes_as_written size (Reserve ∷ before) are = reserve_stands (all_polled size before) (after_calls size before) (all_written before) (comes_as_written size before are)
  comes_as_written size (Unreserve ∷ before) are = unreserve_stands (all_polled size before) (after_calls size before) (all_written before) are.1 (comes_as_written size before are.0)
  comes_as_written size (Write item ∷ before) are = write_stands (all_polled size before) (after_calls size before) (all_written before) item are.1 (comes_as_written size before are.0)
  comes_as_written size (Poll ∷ before) are = poll_stands (all_polled size before) (after_calls size before) (all_written before) (comes_as_written size before are)
