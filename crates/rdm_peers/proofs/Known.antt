-- The accounts of lives beside the tree map that keeps them.
use Rattle.std.proofs.Common.{◌≡◌, refl, sym, ap, subst, ◌∙◌, ℕ, ◌<◌, true, false, List, Option, Some, None, IsSome, arith}
use Rattle.std.specs.Ordering.{nat_cmp, is_eq, eq_by_cmp}
use Rattle.std.specs.Cmp.{IsTotalOrder, Equal-is, tied_itself, nat_cmp_total, then_total, on_total}
use Rattle.std.specs.Prelude.{cond, is_some, option_map, unwrap_or}
use Rattle.std.specs.Map.{lookup}
use Rattle.std.specs.BTreeMap.{is_at}
use Rattle.std.specs.FinMap as map
use Rattle.std.proofs.lemmas.Map.Lookups.{exact_pairs, exact_unsigned}
use Rattle.rdm_num.specs.declared.numbers.Life.{Life}
use Rattle.rdm_window.proofs.Maps.{Changes, get_is_lookup, map_after, map_without}
use Rattle.rdm_peers.specs.Accounts.{Acquaintance, stranger, with_room}
use Rattle.rdm_peers.specs.Table.{Key, Known, life_order, key_of, account_at, account_of, with_account, without_account, put_back, changed}

-- keys are ordered in full
pub life_order_total : IsTotalOrder life_order
life_order_total = then_total (on_total (λ k. k.0) nat_cmp_total) (on_total (λ k. k.1) nat_cmp_total)

-- only a key ties with itself
pub life_order-IsAntisymmetric : map.IsAntisymmetric life_order
life_order-IsAntisymmetric x y is = exact_pairs nat_cmp nat_cmp exact_unsigned exact_unsigned x y is

-- those accounts, with that first number
abbrev pub known_in : ℕ → map.FinMap life_order Acquaintance → Known
known_in first accounts = record { first = first; accounts = accounts }

-- entries of a tree map of accounts
abbrev pub Entries : Type 0
Entries = List (Key × Acquaintance)

-- the accounts of those entries, with that first number
abbrev pub known_of : ℕ → Entries → Known
known_of first es = known_in first (map.from_entries es)

-- nothing is both there and not
pub not_there : {A : Type 0} (o : Option A) → IsSome o → o ≡ None → ⊥
not_there o there none = let e : false ≡ true = sym (ap is_some none) ∙ there in cc

-- the account of a life that is known
pub found : (known : Known) (life : Life) (a : Acquaintance) → Some a ≡ account_at known life → a ≡ account_of known life
found known life a is = ap (λ o. unwrap_or o (stranger known.first)) is

-- the account of a life that is known, once w is put in its place
module _ (known : Known) (life : Life) (a w : Acquaintance) (was : Some a ≡ account_at known life) where
  -- what was known, where w is the account itself
  pub with_same : w ≡ a → with_account known life w ≡ known
  with_same is =
      ap (with_account known life) is
      ∙ ap (known_in known.first) (map.same_map life_order_total life_order-IsAntisymmetric _ _ (λ q.
      map.get-insert life_order_total known.accounts (key_of life) a q
      ∙ elim (eq_by_cmp life_order q (key_of life)) as (λ b. eq_by_cmp life_order q (key_of life) ≡ b → cond b (Some a) (map.get known.accounts q) ≡ map.get known.accounts q) [
        | true ↦ λ e. was ∙ map.get_tied life_order_total known.accounts q (key_of life) ((Equal-is _).0 e)
        | false ↦ λ e. refl
      ] refl))

  -- what was known with the account changed, where w is the changed one
  pub with_changed : (change : Acquaintance → Acquaintance) → w ≡ change a → with_account known life w ≡ changed known life change
  unfolding put_back
  with_changed change is = ap (with_account known life) is ∙ ap (λ o. put_back known life (option_map change o)) was

-- an account that was given to a life is there
at_with : (known : Known) (life : Life) (w : Acquaintance) → account_at (with_account known life w) life ≡ Some w
at_with known life w =
    map.get-insert life_order_total known.accounts (key_of life) w (key_of life)
    ∙ ap (λ r. cond (is_eq r) (Some w) (map.get known.accounts (key_of life))) (tied_itself life_order_total (key_of life))

-- it is that of the life
pub given : (known : Known) (life : Life) (w : Acquaintance) → account_of (with_account known life w) life ≡ w
given known life w = ap (λ o. unwrap_or o (stranger known.first)) (at_with known life w)

-- a life that has room for messages is known
pub roomy_known : (first : ℕ) (o : Option Acquaintance) → 0 < (unwrap_or o (stranger first)).hearing.room → IsSome o
roomy_known first None h = absurd (let e : 0 < 0 = h in omega arith)
roomy_known first (Some a) h = refl

-- room that was made for a message is there
pub room_made : (known : Known) (life : Life) (a w : Acquaintance) → w ≡ with_room a → 0 < (account_of (with_account known life w) life).hearing.room
room_made known life a w is =
    let some : 0 < (with_room a).hearing.room = omega arith in
    subst (λ (x : Acquaintance). 0 < x.hearing.room) (sym (given known life w ∙ is)) some

-- what is known beside the entries that keep it
module _ (first : ℕ) (es : Entries) (known : Known) (is : known_of first es ≡ known) where
  -- an account is what a look-up in the kept entries finds
  pub account_is_lookup : (life : Life) → lookup (is_at (life_order (key_of life))) es ≡ account_at known life
  account_is_lookup life = sym (ap (λ (k : Known). map.get k.accounts (key_of life)) (sym is) ∙ get_is_lookup life_order_total es (key_of life))

  module _ (fs : Entries) (life : Life) where
    -- what is known after an account took the place of its key
    pub known_with : (a : Acquaintance) → Changes life_order es fs (key_of life) (Some a) → known_of first fs ≡ with_account known life a
    known_with a at =
        ap (known_in first) (map_after life_order_total life_order-IsAntisymmetric es fs (key_of life) a at)
        ∙ ap (λ k. with_account k life a) is

    -- what is known after an account was taken out
    pub known_without : Changes life_order es fs (key_of life) None → known_of first fs ≡ without_account known life
    known_without at =
        ap (known_in first) (map_without life_order_total life_order-IsAntisymmetric es fs (key_of life) at)
        ∙ ap (λ k. without_account k life) is
