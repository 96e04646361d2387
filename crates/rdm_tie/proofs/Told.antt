-- What is told of those that wait.
use Rattle.std.proofs.Common.{◌≡◌, refl, ap, Bool, true, false, List, [], ◌∷◌, Option, Some, None, is_some, cond, arith}
use Rattle.std.specs.Prelude.{◌==◌, ◌&&◌, ◌||◌, find}
use Rattle.std.specs.List.{list_any}
use Rattle.std.proofs.lemmas.Bool.{eqb-true}
use Rattle.rdm_lists.proofs.Members.{find_member}
use Rattle.rdm_match.specs.declared.PostedRecv.{PostedRecv}
use Rattle.rdm_match.specs.Matcher.{accepts, is_recv}
use Rattle.rdm_match.specs.Waiting.{taker_of, is_posted}
use Rattle.rdm_life.specs.Kept.{Kept}
use Rattle.rdm_life.specs.Facts.{is_met_in}
use Rattle.rdm_sound.specs.Premises.{IsOrderly}
use Rattle.rdm_tie.specs.Laws.{PostedTold, MetTold, NextIsFree}

pub posted_told : PostedTold
unfolding is_posted
posted_told recv v = refl

-- some element passes where one is found
any_is_found : {A : Type 0} (t : A → Bool) (xs : List A) → list_any t xs ≡ is_some (find t xs)
any_is_found t [] = refl
any_is_found t (x ∷ xs) =
    elim (t x) as (λ b. (b || list_any t xs) ≡ is_some (cond b (Some x) (find t xs))) [ true ↦ refl | false ↦ any_is_found t xs ]

pub met_told : MetTold
unfolding is_met_in taker_of
met_told source number tag v =
    ap (λ b. (v.peers source).next == number && b) (any_is_found (λ (r : PostedRecv). accepts r (record { life = source; no = record { 0 = number }; tag = tag })) v.posted)

-- none is found of the next number
next_free : (v : Kept) → IsOrderly v → (o : Option PostedRecv) → find (is_recv v.receive_count) v.posted ≡ o → is_some o ≡ false
unfolding is_recv
next_free v orderly None is = refl
next_free v orderly (Some r) is =
    let there = find_member (is_recv v.receive_count) r v.posted is in
    let number = eqb-true r.id.0 v.receive_count there.1 in
    let given = orderly.posted_given r there.0 in
    absurd (omega arith)

pub next_is_free : NextIsFree
unfolding is_posted
next_is_free v orderly = next_free v orderly (find (is_recv v.receive_count) v.posted) refl
