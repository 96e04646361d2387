-- Which receives a deed leaves live.
use Rattle.std.proofs.Common.{◌≡◌, ℕ, Bool, true, false, cond, not, ◌&&◌, List, [], ◌∷◌, ◌++◌, map, refl, inl, inr, sym, ◌∙◌, ap, eq-eqb}
use Rattle.std.specs.Prelude.{◌==◌, ◌||◌, filter, find, None}
use Rattle.std.specs.List.{list_any}
use Rattle.std.proofs.lemmas.Bool.{eqb-true, false_from_ne_true}
use Rattle.rdm_lists.specs.Lists.{Member}
use Rattle.rdm_lists.proofs.Filters.{filter_both}
use Rattle.rdm_lists.proofs.Same.{filter_same}
use Rattle.rdm_model.specs.Beginnings.{Own}
use Rattle.rdm_model.specs.Deeds.{Deed}
use Rattle.rdm_model.specs.Matches.{Receive, receives, received_by}
use Rattle.rdm_model.specs.Receives.{RecvEnd, has_ended, ended_recv}
use Rattle.rdm_life.specs.Keeps.{own_live_receives}
use Rattle.rdm_life.proofs.EndSteps.{own_ends, new_ends, ends_step, unended, live_are}
use Rattle.rdm_life.proofs.ReceivesQuiet.{no_receive_more}

-- either holds of an element of one list or the other
any_both : {A : Type 0} (t : A → Bool) (xs ys : List A) → list_any t (xs ++ ys) ≡ (list_any t xs || list_any t ys)
any_both t [] ys = refl
any_both t (x ∷ xs) ys = elim (t x) as (λ b. (b || list_any t (xs ++ ys)) ≡ ((b || list_any t xs) || list_any t ys)) [ true ↦ refl | false ↦ any_both t xs ys ]

-- neither of two tests holds
not_or : (a b : Bool) → not (a || b) ≡ (not a && not b)
not_or true b = refl
not_or false b = refl

-- the order of a comparison is nothing to it
pub eqb_other : (a b : ℕ) → (a == b) ≡ (b == a)
eqb_other a b =
    (elim (a == b) as (λ x. (a == b) ≡ x → x ≡ (b == a)) [
      | true ↦ λ e. sym (eq-eqb b a (sym (eqb-true a b e)))
      | false ↦ λ e. sym (false_from_ne_true (b == a) (λ h. (let t = eq-eqb a b (sym (eqb-true b a h)) in cc)))
    ]) refl

-- those that pass among things that were made of others
pub filter_made : {A B : Type 0} (f : A → B) (t : B → Bool) (xs : List A) → filter t (map f xs) ≡ map f (filter (λ x. t (f x)) xs)
filter_made f t [] = refl
filter_made {A} {B} f t (x ∷ xs) =
    elim (t (f x)) as (λ b. cond b (f x ∷ filter t (map f xs)) (filter t (map f xs)) ≡ map f (cond b (x ∷ filter (λ y. t (f y)) xs) (filter (λ y. t (f y)) xs))) [
      | true ↦ ap (λ ys. f x ∷ ys) (filter_made f t xs)
      | false ↦ filter_made f t xs
    ]

-- where none passes none is found
pub find_nothing : {A : Type 0} (t : A → Bool) (xs : List A) → ((x : A) → Member x xs → t x ≡ false) → find t xs ≡ None
find_nothing t [] h = refl
find_nothing t (x ∷ xs) h = (let e = h x (inl refl) in rw e (find_nothing t xs (λ y m. h y (inr m))))

-- the live receives after a deed are those that it doesn't end, of all that had not ended before it
pub live_after : (own : Own) (d : Deed) (before : List Deed)
    → own_live_receives own (d ∷ before) ≡ filter (λ (r : Receive). not (has_ended (new_ends own d before) r.number)) (unended (own_ends own before) (receives (d ∷ before)))
unfolding has_ended
live_after own d before =
    let olds = own_ends own before in
    let news = new_ends own d before in
    let all = receives (d ∷ before) in
    live_are own (d ∷ before)
    ∙ ap (λ (es : List RecvEnd). unended es all) (ends_step own d before)
    ∙ filter_same (λ (r : Receive). not (has_ended (olds ++ news) r.number)) (λ (r : Receive). not (has_ended olds r.number) && not (has_ended news r.number)) all
    (λ r. ap not (any_both (λ e. ended_recv e == r.number) olds news) ∙ not_or (has_ended olds r.number) (has_ended news r.number))
    ∙ filter_both (λ (r : Receive). not (has_ended olds r.number)) (λ (r : Receive). not (has_ended news r.number)) all

-- the live receives after a deed that accepts none are those that it doesn't end
pub live_left : (own : Own) (d : Deed) (before : List Deed) → received_by (receives before) before d ≡ []
    → own_live_receives own (d ∷ before) ≡ filter (λ (r : Receive). not (has_ended (new_ends own d before) r.number)) (own_live_receives own before)
live_left own d before unposted =
    live_after own d before
    ∙ ap (λ (rs : List Receive). filter (λ (r : Receive). not (has_ended (new_ends own d before) r.number)) (unended (own_ends own before) rs)) (no_receive_more d before unposted)
    ∙ ap (filter (λ (r : Receive). not (has_ended (new_ends own d before) r.number))) (sym (live_are own before))
