-- Which account is that of a life, once one is opened, changed or taken away.
use Rattle.std.proofs.Common.{◌≡◌, refl, sym, ap, ◌∙◌, true, false, true≢false, Some, None, IsSome}
use Rattle.std.specs.Prelude.{cond, is_some, unwrap_or}
use Rattle.std.specs.Ordering.{is_eq, eq_by_cmp}
use Rattle.std.specs.Cmp.{Equal-is, tied_itself}
use Rattle.std.specs.FinMap as map
use Rattle.std.proofs.lemmas.Bool.{and_from, eq-eqb}
use Rattle.rdm_num.specs.Lives.{same_life}
use Rattle.rdm_num.specs.declared.numbers.Life.{Life}
use Rattle.rdm_peers.specs.Accounts.{Acquaintance, stranger}
use Rattle.rdm_peers.specs.Table.{Key, Known, life_order, key_of, account_at, account_of, with_account, without_account, changed}
use Rattle.rdm_peers.proofs.Known.{life_order_total, life_order-IsAntisymmetric, found, given, with_changed}

-- lives with one key are the same
same_keys : (a b : Life) → key_of a ≡ key_of b → same_life a b ≡ true
unfolding same_life
same_keys a b is = and_from _ _ (eq-eqb a.port.0 b.port.0 (ap (λ (k : Key). k.0) is)) (eq-eqb a.connid.0 b.connid.0 (ap (λ (k : Key). k.1) is))

-- keys of lives that are not the same are apart
keys_apart : (a b : Life) → same_life a b ≡ false → eq_by_cmp life_order (key_of a) (key_of b) ≡ false
keys_apart a b apart =
    elim (eq_by_cmp life_order (key_of a) (key_of b)) as (λ r. eq_by_cmp life_order (key_of a) (key_of b) ≡ r → r ≡ false) [
      | true ↦ λ e. absurd (true≢false (sym (same_keys a b (life_order-IsAntisymmetric _ _ ((Equal-is _).0 e))) ∙ apart))
      | false ↦ λ e. refl
    ] refl

module _ (known : Known) (life : Life) where
  -- an account that is given to a life leaves those of others
  pub beside : (w : Acquaintance) (other : Life) → same_life other life ≡ false → account_of (with_account known life w) other ≡ account_of known other
  beside w other apart =
      ap (λ o. unwrap_or o (stranger known.first)) (map.get-insert life_order_total known.accounts (key_of life) w (key_of other)
      ∙ ap (λ b. cond b (Some w) (map.get known.accounts (key_of other))) (keys_apart other life apart))

  -- so does an account that is taken away
  pub left : (other : Life) → same_life other life ≡ false → account_of (without_account known life) other ≡ account_of known other
  left other apart =
      ap (λ o. unwrap_or o (stranger known.first)) (map.get-remove life_order_total known.accounts (key_of life) (key_of other)
      ∙ ap (λ b. cond b None (map.get known.accounts (key_of other))) (keys_apart other life apart))

  -- a life whose account is taken away is a stranger
  pub taken_away : account_of (without_account known life) life ≡ stranger known.first
  taken_away =
      ap (λ o. unwrap_or o (stranger known.first)) (map.get-remove life_order_total known.accounts (key_of life) (key_of life)
      ∙ ap (λ b. cond b None (map.get known.accounts (key_of life))) (ap is_eq (tied_itself life_order_total (key_of life))))

  -- the change of an account that is there puts one in its place
  pub changed_is : (change : Acquaintance → Acquaintance) → IsSome (account_at known life) → with_account known life (change (account_of known life)) ≡ changed known life change
  changed_is change there =
      elim (account_at known life) as (λ o. o ≡ account_at known life → IsSome o → with_account known life (change (account_of known life)) ≡ changed known life change) [
        | None ↦ λ is t. absurd (true≢false (sym t))
        | Some a ↦ λ is t. with_changed known life a (change (account_of known life)) is change (ap change (sym (found known life a is)))
      ] refl there

  -- the account of the life is then the changed one
  pub changed_account : (change : Acquaintance → Acquaintance) → IsSome (account_at known life) → account_of (changed known life change) life ≡ change (account_of known life)
  changed_account change there =
      ap (λ k. account_of k life) (sym (changed_is change there)) ∙ given known life (change (account_of known life))

  -- a life without an account is a stranger
  pub unknown : is_some (account_at known life) ≡ false → account_of known life ≡ stranger known.first
  unknown none =
      elim (account_at known life) as (λ o. is_some o ≡ false → unwrap_or o (stranger known.first) ≡ stranger known.first) [
        | None ↦ λ e. refl
        | Some a ↦ λ e. absurd (true≢false e)
      ] none
