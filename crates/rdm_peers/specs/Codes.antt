-- How what is kept of lives is stored.
use Rattle.std.specs.Prelude.{ℕ, Bool, Option, refl}
use Rattle.std.specs.Coded.{Coded, code_by, coded×, coded_ℕ, coded_bool, coded_option}
use Rattle.std.specs.FinMap as map
use Rattle.rdm_peer.specs.Account.{Account}
use Rattle.rdm_window.specs.Window.{Hearing, hearing_code}
use Rattle.rdm_peers.specs.Accounts.{Acquaintance}
use Rattle.rdm_peers.specs.Table.{Known, life_order}

-- what is known of a life and owed to it as the tuple of its fields
abbrev pub account_code : Coded Account
account_code =
    code_by
    (Bool × (Option ℕ × ℕ))
    (coded× coded_bool (coded× (coded_option coded_ℕ) coded_ℕ))
    (λ a. (a.owes, (a.known, a.next)))
    (λ p. record { owes = p.0; known = p.1.0; next = p.1.1 })
    (λ _. refl)

-- what is kept of a life as the pair of its fields
abbrev pub acquaintance_code : Coded Acquaintance
acquaintance_code =
    code_by (Account × Hearing) (coded× account_code hearing_code) (λ a. (a.peer, a.hearing)) (λ p. record { peer = p.0; hearing = p.1 }) (λ _. refl)

-- the table as the pair of its fields
abbrev pub known_code : Coded Known
known_code =
    code_by
    (ℕ × map.FinMap life_order Acquaintance)
    (coded× coded_ℕ (map.code (coded× coded_ℕ coded_ℕ) acquaintance_code))
    (λ k. (k.first, k.accounts))
    (λ p. record { first = p.0; accounts = p.1 })
    (λ _. refl)
