-- Lives that are forgotten, in a matcher and by the record.
use Rattle.std.proofs.Common.{◌≡◌, refl, ◌∙◌, Bool, true, false, List, [], ◌∷◌, Option, Some, None, map}
use Rattle.std.specs.Prelude.{not, ◌&&◌, ◌||◌, filter}
use Rattle.rdm_lists.proofs.Filters.{filter_all, filter_both}
use Rattle.rdm_lists.proofs.Same.{filter_same}
use Rattle.rdm_num.specs.Lives.{same_life, is_life}
use Rattle.rdm_num.specs.declared.numbers.Life.{Life}
use Rattle.rdm_match.specs.declared.PostedRecv.{PostedRecv}
use Rattle.rdm_match.specs.declared.Arrived.{Arrived}
use Rattle.rdm_match.specs.Matcher.{Forget, after}
use Rattle.rdm_match.specs.Waiting.{Waiting, with_pairs, waiting_in, waiting_after, waiting_after_all}
use Rattle.rdm_life.specs.Forgetting.{is_among, names_one, forget}
use Rattle.rdm_tie.specs.Laws.{waits_in, ForgetForgets, EachIsForgotten}

-- what waits without the messages of lives and the receives that name one
abbrev without : List Life → Waiting → Waiting
without lives w =
    record {
      posted = filter (λ (r : PostedRecv). not (names_one lives r.from)) w.posted;
      arrived = filter (λ (a : Arrived). not (is_among lives a.life)) w.arrived;
    }

-- neither is the first nor any of the others
not_or : (a b : Bool) → not (a || b) ≡ (not a && not b)
not_or true b = refl
not_or false b = refl

-- a life is one of some where it is the first or one of the others
named_apart : (life : Life) (lives : List Life) (o : Option Life) → not (names_one (life ∷ lives) o) ≡ (not (is_life o life) && not (names_one lives o))
unfolding names_one is_life is_among
named_apart life lives None = refl
named_apart life lives (Some other) = not_or (same_life other life) (is_among lives other)

among_apart : (life : Life) (lives : List Life) (other : Life) → not (is_among (life ∷ lives) other) ≡ (not (same_life other life) && not (is_among lives other))
unfolding is_among
among_apart life lives other = not_or (same_life other life) (is_among lives other)

-- no life is named
none_named : (o : Option Life) → not (names_one [] o) ≡ true
unfolding names_one is_among
none_named None = refl
none_named (Some life) = refl

-- one after another
without_each : (lives : List Life) (w : Waiting) → without lives w ≡ waiting_after_all w (map Forget lives)
unfolding waiting_after_all waiting_after waiting_in with_pairs after is_among
without_each [] w =
    λ i. record {
      posted = filter_all (λ (r : PostedRecv). not (names_one [] r.from)) w.posted (λ r m. none_named r.from) i;
      arrived = filter_all (λ (a : Arrived). not (is_among [] a.life)) w.arrived (λ a m. refl) i;
    }
without_each (life ∷ lives) w =
    (λ i. record {
      posted = (filter_same (λ (r : PostedRecv). not (names_one (life ∷ lives) r.from)) (λ (r : PostedRecv). not (is_life r.from life) && not (names_one lives r.from)) w.posted (λ r. named_apart life lives r.from)
          ∙ filter_both (λ (r : PostedRecv). not (is_life r.from life)) (λ (r : PostedRecv). not (names_one lives r.from)) w.posted) i;
      arrived = (filter_same (λ (a : Arrived). not (is_among (life ∷ lives) a.life)) (λ (a : Arrived). not (same_life a.life life) && not (is_among lives a.life)) w.arrived (λ a. among_apart life lives a.life)
          ∙ filter_both (λ (a : Arrived). not (same_life a.life life)) (λ (a : Arrived). not (is_among lives a.life)) w.arrived) i;
    })
    ∙ without_each lives (waiting_after w (Forget life))

pub each_is_forgotten : EachIsForgotten
unfolding forget
each_is_forgotten lives v = without_each lives (waits_in v)

pub forget_forgets : ForgetForgets
unfolding waiting_after_all
forget_forgets life v = each_is_forgotten (life ∷ []) v
