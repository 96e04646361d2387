-- Receives settle one after another, as many as there are.
use Rattle.std.proofs.Common.{◌≡◌, ℕ, Bool, false, not, List, [], ◌∷◌, refl, ◌∙◌, ap, append-nil}
use Rattle.std.specs.Prelude.{filter}
use Rattle.rdm_lists.specs.Lists.{or_else}
use Rattle.rdm_lists.proofs.Filters.{filter_all, filter_nothing}
use Rattle.rdm_life.specs.Kept.{Kept, LiveReceive, change_where}
use Rattle.rdm_life.specs.Memory.{byte_back, with_back}
use Rattle.rdm_life.specs.Landing.{is_one_of, is_filled_one, with_window, settle}
use Rattle.rdm_sound.specs.Premises.{AreOnce, AreNumbered, AreApart}
use Rattle.rdm_sound.specs.Steps.{settle_one, settle_each}
use Rattle.rdm_sound.proofs.Lists.{change_none}
use Rattle.rdm_sound.proofs.Settles.{settle_first, put_same}
use Rattle.rdm_sound.proofs.Stays.{settled_numbered, settled_apart}

-- none settles
nothing_one : (x : LiveReceive) → is_one_of [] x ≡ false
unfolding is_one_of
nothing_one x = refl

nothing_filled : (x : LiveReceive) → is_filled_one [] x ≡ false
unfolding is_filled_one is_one_of
nothing_filled x = refl

pub settle_nothing : (is_new : Bool) (v : Kept) → settle is_new [] v ≡ v
unfolding settle with_back byte_back or_else
settle_nothing is_new v =
    let rs = v.receives in
    let none = filter_nothing (is_filled_one []) rs (λ x m. nothing_filled x) in
    let all : filter (λ (r : LiveReceive). not (is_filled_one [] r)) rs ≡ rs = filter_all (λ (r : LiveReceive). not (is_filled_one [] r)) rs (λ x m. ap not (nothing_filled x)) in
    put_same v _ _ _ _ _ _ _ _
    (ap (λ qs. with_back qs v.home) none)
    (ap (change_where (is_one_of []) (with_window v.own)) all ∙ change_none (is_one_of []) (with_window v.own) rs (λ x m. nothing_one x))
    (append-nil v.owed) (append-nil v.completions)

-- one settles
pub settle_alone : (is_new : Bool) (n : ℕ) (v : Kept) → AreNumbered v.receives → AreApart v.receives → settle is_new (n ∷ []) v ≡ settle_one is_new n v
settle_alone is_new n v numbered apart = settle_first is_new n [] v (λ m. elim m [ ]) numbered apart ∙ settle_nothing is_new (settle_one is_new n v)

-- each settles
pub settles_each : (is_new : Bool) (numbers : List ℕ) (v : Kept) → AreOnce numbers → AreNumbered v.receives → AreApart v.receives → settle is_new numbers v ≡ settle_each is_new numbers v
unfolding settle_each
settles_each is_new [] v once numbered apart = settle_nothing is_new v
settles_each is_new (n ∷ ns) v once numbered apart =
    settle_first is_new n ns v once.0 numbered apart
    ∙ settles_each is_new ns (settle_one is_new n v) once.1 (settled_numbered is_new n v numbered) (settled_apart is_new n v apart)
