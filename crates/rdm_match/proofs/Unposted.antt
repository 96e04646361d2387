-- Numbers of which no receive is posted.
use Rattle.std.proofs.Common.{◌≡◌, refl, ap, subst, ◌∙◌, ℕ, ◌<◌, Bool, true, false, List, [], ◌∷◌, ◌++◌, Option, Some, None, arith}
use Rattle.std.specs.Prelude.{cond, find, is_some, T}
use Rattle.rdm_lists.specs.Lists.{without_first}
use Rattle.rdm_match.specs.declared.PostedRecv.{PostedRecv}
use Rattle.rdm_match.specs.declared.Arrived.{Arrived}
use Rattle.rdm_match.specs.Matcher.{Post, Arrive, accepts, is_recv, after, after_post, after_arrive}
use Rattle.rdm_match.specs.Waiting.{Waiting, with_pairs, waiting_in, waiting_after, is_posted}

-- where a search finds none, the first element fails
first_fails : {A : Type 0} (t : Bool) (x : A) (o : Option A) → is_some (cond t (Some x) o) ≡ false → t ≡ false
first_fails true x o none = absurd (subst T none tt)
first_fails false x o none = refl

-- where a search finds none, nor does it behind the first element
rest_fails : {A : Type 0} (t : Bool) (x : A) (o : Option A) → is_some (cond t (Some x) o) ≡ false → is_some o ≡ false
rest_fails true x o none = absurd (subst T none tt)
rest_fails false x o none = none

-- nor does it with one more element that fails
none_with : {A : Type 0} (p : A → Bool) (xs : List A) (x : A) → is_some (find p xs) ≡ false → p x ≡ false → is_some (find p (xs ++ x ∷ [])) ≡ false
none_with p [] x none fails = ap (λ t. is_some (cond t (Some x) None)) fails
none_with p (y ∷ xs) x none fails =
    ap (λ t. is_some (cond t (Some y) (find p (xs ++ x ∷ [])))) (first_fails (p y) y (find p xs) none) ∙ none_with p xs x (rest_fails (p y) y (find p xs) none) fails

-- nor does it once an element is out
none_without : {A : Type 0} (p q : A → Bool) (xs : List A) → is_some (find p xs) ≡ false → is_some (find p (without_first q xs)) ≡ false
unfolding without_first
none_without p q [] none = refl
none_without p q (y ∷ xs) none =
    elim (q y) as (λ t. is_some (find p (cond t xs (y ∷ without_first q xs))) ≡ false) [
      | true ↦ rest_fails (p y) y (find p xs) none
      | false ↦ ap (λ t. is_some (cond t (Some y) (find p (without_first q xs)))) (first_fails (p y) y (find p xs) none) ∙ none_without p q xs (rest_fails (p y) y (find p xs) none)
    ]

-- a lesser number is another one
is_other : (r : PostedRecv) (k : ℕ) → r.id.0 < k → is_recv k r ≡ false
unfolding is_recv
is_other r k less = grind arith

-- a post leaves each greater number free that was
pub free_after_post : (w : Waiting) (r : PostedRecv) (k : ℕ) → r.id.0 < k → is_posted w k ≡ false → is_posted (waiting_after w (Post r)) k ≡ false
unfolding with_pairs waiting_in waiting_after after after_post is_posted
free_after_post w r k less free =
    elim (find (accepts r) w.arrived) as (λ o. is_some (find (is_recv k) (after_post (with_pairs w []) r o).posted) ≡ false) [
      | None ↦ none_with (is_recv k) w.posted r free (is_other r k less)
      | Some a ↦ free
    ]

-- an arrival leaves each number free that was
pub free_after_arrive : (w : Waiting) (a : Arrived) (k : ℕ) → is_posted w k ≡ false → is_posted (waiting_after w (Arrive a)) k ≡ false
unfolding with_pairs waiting_in waiting_after after after_arrive is_posted
free_after_arrive w a k free =
    elim (find (λ r. accepts r a) w.posted) as (λ o. is_some (find (is_recv k) (after_arrive (with_pairs w []) a o).posted) ≡ false) [
      | None ↦ free
      | Some r ↦ none_without (is_recv k) (λ q. accepts q a) w.posted free
    ]
