-- Numbers of which no receive is posted.
use Rattle.std.proofs.Common.{◌≡◌, ℕ, suc, refl, ap, subst, ◌∙◌, Bool, true, false, not, cond, List, [], ◌∷◌, Option, Some, is_some, arith}
use Rattle.std.specs.Prelude.{find, filter, T}
use Rattle.rdm_lists.specs.Lists.{without_first}
use Rattle.rdm_num.specs.Lives.{is_life}
use Rattle.rdm_match.specs.declared.PostedRecv.{PostedRecv}
use Rattle.rdm_match.specs.Matcher.{Event, Post, Arrive, Cancel, Forget, is_recv, after}
use Rattle.rdm_match.specs.Waiting.{Waiting, with_pairs, waiting_in, waiting_after, waiting_after_all, is_posted}
use Rattle.rdm_match.proofs.Unposted.{free_after_post, free_after_arrive}
use Rattle.rdm_bins.specs.Calls.{AreFreeFrom, PostsBelow, NumbersStayFree}

-- where a search finds none, the first element fails, and it finds none behind it
none_parts : {A : Type 0} (t : Bool) (x : A) (o : Option A) → is_some (cond t (Some x) o) ≡ false → (t ≡ false) × (is_some o ≡ false)
none_parts true x o none = absurd (subst T none tt)
none_parts false x o none = (refl, none)

-- where a search finds none, it finds none once an element is out
none_without : {A : Type 0} (p q : A → Bool) (xs : List A) → is_some (find p xs) ≡ false → is_some (find p (without_first q xs)) ≡ false
unfolding without_first
none_without p q [] none = refl
none_without p q (x ∷ xs) none =
    let parts = none_parts (p x) x (find p xs) none in
    elim (q x) as (λ (t : Bool). is_some (find p (cond t xs (x ∷ without_first q xs))) ≡ false) [
      | true ↦ parts.1
      | false ↦ ap (λ (t : Bool). is_some (cond t (Some x) (find p (without_first q xs)))) parts.0 ∙ none_without p q xs parts.1
    ]

-- nor once all that fail another test are out
none_filtered : {A : Type 0} (p q : A → Bool) (xs : List A) → is_some (find p xs) ≡ false → is_some (find p (filter q xs)) ≡ false
none_filtered p q [] none = refl
none_filtered p q (x ∷ xs) none =
    let parts = none_parts (p x) x (find p xs) none in
    elim (q x) as (λ (t : Bool). is_some (find p (cond t (x ∷ filter q xs) (filter q xs))) ≡ false) [
      | true ↦ ap (λ (t : Bool). is_some (cond t (Some x) (find p (filter q xs)))) parts.0 ∙ none_filtered p q xs parts.1
      | false ↦ none_filtered p q xs parts.1
    ]

-- numbers from one on stay free over an event that posts only lesser ones
pub stay_free : (n : ℕ) (w : Waiting) (e : Event) → PostsBelow n e → AreFreeFrom n w → AreFreeFrom n (waiting_after w e)
unfolding waiting_after waiting_in with_pairs after is_posted
stay_free n w (Post r) below free k from = free_after_post w r k (omega arith) (free k from)
stay_free n w (Arrive a) below free k from = free_after_arrive w a k (free k from)
stay_free n w (Cancel m) below free k from = none_without (is_recv k) (is_recv m) w.posted (free k from)
stay_free n w (Forget life) below free k from = none_filtered (is_recv k) (λ (r : PostedRecv). not (is_life r.from life)) w.posted (free k from)

-- and over events in order
pub numbers_stay_free : NumbersStayFree
unfolding waiting_after_all
numbers_stay_free n w [] below free = free
numbers_stay_free n w (e ∷ es) below free = numbers_stay_free n (waiting_after w e) es (λ k d within. below (suc k) d (omega arith)) (stay_free n w e (below 0 e (omega arith)) free)
