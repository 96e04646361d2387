-- What is asked of live receives, beside the map of their messages.
use Rattle.std.proofs.Common.{◌≡◌, refl, sym, ap, ◌∙◌, ℕ, Option, Some, None, List, Bool}
use Rattle.std.specs.Prelude.{find, option_map}
use Rattle.rdm_num.specs.declared.numbers.OpId.{OpId}
use Rattle.rdm_lists.proofs.Members.{find_member}
use Rattle.rdm_receives.specs.View.{ReceiveView}
use Rattle.rdm_live.specs.View.{has_number, NumbersRise}
use Rattle.rdm_live.proofs.Rising.{numbered_is}

-- the number of a receive, if there is one
abbrev pub number_of : Option ReceiveView → Option OpId
number_of o = option_map (λ (r : ReceiveView). r.number) o

-- where there is no number, there is no receive
pub no_number : (o : Option ReceiveView) → number_of o ≡ None → o ≡ None
no_number None is = refl
no_number (Some r) is = absurd (cc)

-- a receive that was found is the one of its number
pub found_by_number : (rs : List ReceiveView) (bound : ℕ) (p : ReceiveView → Bool) (number : OpId) (o : Option ReceiveView) → NumbersRise 0 rs bound → find p rs ≡ o → number_of o ≡ Some number → find (has_number number) rs ≡ o
found_by_number rs bound p number None rise found is = absurd (cc)
found_by_number rs bound p number (Some r) rise found is =
    let same : r.number ≡ number = cc in
    ap (λ (n : OpId). find (has_number n) rs) (sym same) ∙ numbered_is 0 rs bound r rise (find_member p r rs found).0
