-- A cancel that finds no receive changes nothing.
use Rattle.std.proofs.Common.{◌≡◌, ℕ, false, List, Option, Some, None, refl, ap, subst}
use Rattle.std.specs.Prelude.{is_some, T}
use Rattle.rdm_match.specs.declared.PostedRecv.{PostedRecv}
use Rattle.rdm_match.specs.Matcher.{Cancel, is_recv, after}
use Rattle.rdm_match.specs.Waiting.{Waiting, with_pairs, waiting_in, waiting_after, is_posted}
use Rattle.rdm_match.proofs.Places.{none_without}

-- what is not there is none
none_there : {A : Type 0} (o : Option A) → is_some o ≡ false → o ≡ None
none_there None h = refl
none_there (Some x) h = absurd (subst (λ b. T b) h tt)

-- what waits stays
pub vain_cancel : (w : Waiting) (n : ℕ) → is_posted w n ≡ false → waiting_after w (Cancel n) ≡ w
unfolding with_pairs waiting_in waiting_after after is_posted
vain_cancel w n h =
    ap (λ (rs : List PostedRecv). record { posted = rs; arrived = w.arrived }) (none_without (is_recv n) w.posted (none_there _ h))
