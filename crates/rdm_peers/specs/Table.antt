-- The lives that are known, each with its account.
use Rattle.std.specs.Prelude.{ℕ, Option, Some, None, option_map, unwrap_or}
use Rattle.std.specs.Ordering.{nat_cmp, ordering_then}
use Rattle.std.specs.declared.cmp.Ordering.{Ordering}
use Rattle.std.specs.FinMap as map
use Rattle.rdm_num.specs.declared.numbers.Life.{Life}
use Rattle.rdm_peers.specs.Accounts.{Acquaintance, stranger}

-- a life's port and identifier
abbrev pub Key : Type 0
Key = ℕ × ℕ

-- by port, then by identifier
abbrev pub life_order : Key → Key → Ordering
life_order a b = ordering_then (nat_cmp a.0 b.0) (nat_cmp a.1 b.1)

-- from which number on messages are numbered, and the lives that are known, each with its account
pub record Known : Type 0 where
  pub first : ℕ
  pub accounts : map.FinMap life_order Acquaintance

-- what a life is known under
abbrev pub key_of : Life → Key
key_of life = (life.port.0, life.connid.0)

-- no life is known
abbrev pub nobody : (first : ℕ) → Known
nobody first = record { first = first; accounts = map.empty }

-- the account of a life, where it is known
abbrev pub account_at : Known → Life → Option Acquaintance
account_at known life = map.get known.accounts (key_of life)

-- the account of a life; of one that is not known, that of a stranger
abbrev pub account_of : Known → Life → Acquaintance
account_of known life = unwrap_or (account_at known life) (stranger known.first)

-- the life has that account, in the place of the one that it had
abbrev pub with_account : Known → Life → Acquaintance → Known
with_account known life a = record known { accounts = map.insert known.accounts (key_of life) a }

-- the life has that account, if it is given one
unfoldable pub put_back : Known → Life → Option Acquaintance → Known
put_back known life None = known
put_back known life (Some a) = with_account known life a

-- the account of a life that is known is changed so
abbrev pub changed : Known → Life → (Acquaintance → Acquaintance) → Known
changed known life change = put_back known life (option_map change (account_at known life))

-- the life is not known any more
abbrev pub without_account : Known → Life → Known
without_account known life = record known { accounts = map.remove known.accounts (key_of life) }
