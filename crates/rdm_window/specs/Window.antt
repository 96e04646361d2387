-- Which message numbers of a life were heard.
use Rattle.std.specs.Prelude.{◌≡◌, ℕ, ◌+◌, ◌-◌, ◌^◌, ◌<◌, ◌≤◌, true, false, nat_lt, if◌then◌else◌, refl}
use Rattle.std.specs.Ordering.{nat_cmp}
use Rattle.std.specs.Coded.{Coded, code_by, coded×, coded_ℕ}
use Rattle.std.specs.FinSet as set
use Rattle.rdm_window.specs.declared.window.Heard.{Heard}
use Rattle.rdm_window.specs.declared.window.Heard.TheVariants.{New, Waiting, Entered}

-- the first number, the numbers that were heard, the least number from the first on that was not heard, and how many more
-- can be heard without memory
pub record Hearing : Type 0 where
  pub first : ℕ
  pub heard : set.FinSet nat_cmp
  pub next : ℕ
  pub room : ℕ

-- it is stored as the tuple of its fields
abbrev pub hearing_code : Coded Hearing
hearing_code =
    code_by
    (ℕ × (set.FinSet nat_cmp × (ℕ × ℕ)))
    (coded× coded_ℕ (coded× (set.code coded_ℕ) (coded× coded_ℕ coded_ℕ)))
    (λ a. (a.first, (a.heard, (a.next, a.room))))
    (λ p. record { first = p.0; heard = p.1.0; next = p.1.1.0; room = p.1.1.1 })
    (λ _. refl)

-- before any number was heard
abbrev pub none_heard : ℕ → Hearing
none_heard first = record { first = first; heard = set.empty; next = first; room = 0 }

-- one more number can be heard without memory
abbrev pub with_room : Hearing → Hearing
with_room a = record a { room = a.room + 1 }

-- a reservation is spent
abbrev pub with_spent : Hearing → Hearing
with_spent a = record a { room = a.room - 1 }

-- a number below the next one has entered; else it waits where it was heard, and is new where it was not
unfoldable pub state_of : Hearing → ℕ → Heard
state_of a n = if nat_lt n a.next then Entered else if set.contains a.heard n then Waiting else New

-- a number was heard, by which the next one rose
abbrev pub after_hear : Hearing → ℕ → ℕ → Hearing
after_hear a n risen = record a { heard = set.insert a.heard n; next = a.next + risen }

-- the next number is the least one from the first on that was not heard. Only numbers of 32 bits from the first on are
-- heard, so it is 2 ^ 32 where all of them were
pub record IsLeastMissing (a : Hearing) : Type 0 where
  pub from : a.first ≤ a.next
  pub before : (k : ℕ) → a.first ≤ k → k < a.next → set.contains a.heard k ≡ true
  pub missing : set.contains a.heard a.next ≡ false
  pub numbers : (k : ℕ) → set.contains a.heard k ≡ true → (a.first ≤ k) × (k < 2 ^ 32)

-- what was heard tells the next number
abbrev pub NextIsTold : Type 0
NextIsTold = (a b : Hearing) → a.first ≡ b.first → a.heard ≡ b.heard → IsLeastMissing a → IsLeastMissing b → a.next ≡ b.next
