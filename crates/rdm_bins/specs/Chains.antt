-- Chains of places: each place of a chain is linked to the next one and to the one before.
use Rattle.std.specs.Prelude.{◌≡◌, ℕ, ◌+◌, ◌<◌, ◌≤◌, Bool, true, false, List, [], ◌∷◌, zero, suc, Option, Some, None, nat_eq, option_map, length}
use Rattle.std.specs.List.{slice_get}
use Rattle.std.specs.HashMap.{get, spare}
use Rattle.std.specs.Vec.{vec_len, vec_capacity}
use Rattle.rdm_bins.specs.declared.chains.Ends.{Ends}
use Rattle.rdm_bins.specs.declared.chains.Link.{Link}
use Rattle.rdm_bins.specs.declared.chains.Chains.{Chains}

-- the first place from n on that is in the chain
abbrev pub IsFirstFrom : (ℕ → Bool) → ℕ → Option ℕ → Type 0
IsFirstFrom here n None = (k : ℕ) → n ≤ k → here k ≡ false
IsFirstFrom here n (Some s) = (n ≤ s) × (here s ≡ true) × ((k : ℕ) → n ≤ k → k < s → here k ≡ false)

-- the last place below n that is in the chain
abbrev pub IsLastBelow : (ℕ → Bool) → ℕ → Option ℕ → Type 0
IsLastBelow here n None = (k : ℕ) → k < n → here k ≡ false
IsLastBelow here n (Some s) = (s < n) × (here s ≡ true) × ((k : ℕ) → s < k → k < n → here k ≡ false)

-- the first place of a chain
abbrev pub first_of : Option Ends → Option ℕ
first_of ends = option_map (λ e. e.first) ends

-- the last place of a chain
abbrev pub last_of : Option Ends → Option ℕ
last_of ends = option_map (λ e. e.last) ends

-- the places below the size that are in the chain, each linked to its neighbours
pub record IsChain (here : ℕ → Bool) (size : ℕ) (ends : Option Ends) (after before : ℕ → Option ℕ) : Type 0 where
  pub below : (n : ℕ) → size ≤ n → here n ≡ false
  pub begins : IsFirstFrom here 0 (first_of ends)
  pub stops : IsLastBelow here size (last_of ends)
  pub goes_on : (n : ℕ) → here n ≡ true → IsFirstFrom here (n + 1) (after n)
  pub goes_back : (n : ℕ) → here n ≡ true → IsLastBelow here n (before n)

-- what stands behind the link
abbrev pub after_link : Option Link → Option ℕ
after_link None = None
after_link (Some link) = link.after

-- what stands before the link
abbrev pub before_link : Option Link → Option ℕ
before_link None = None
before_link (Some link) = link.before

-- the place behind a place
abbrev pub after_at : List Link → ℕ → Option ℕ
after_at links n = after_link (slice_get links n)

-- the place before a place
abbrev pub before_at : List Link → ℕ → Option ℕ
before_at links n = before_link (slice_get links n)

-- the ends of a bin's chain
unfoldable pub ends_at : Chains → Option ℕ → Option Ends
ends_at c None = c.other
ends_at c (Some tag) = get nat_eq c.tagged tag

-- the links with another place behind the one at n
unfoldable pub with_after_at : List Link → ℕ → Option ℕ → List Link
with_after_at [] n a = []
with_after_at (l ∷ ls) zero a = record { before = l.before; after = a } ∷ ls
with_after_at (l ∷ ls) (suc n) a = l ∷ with_after_at ls n a

-- the links with another place before the one at n
unfoldable pub with_before_at : List Link → ℕ → Option ℕ → List Link
with_before_at [] n b = []
with_before_at (l ∷ ls) zero b = record { before = b; after = l.after } ∷ ls
with_before_at (l ∷ ls) (suc n) b = l ∷ with_before_at ls n b

-- the same, where there is such a place
unfoldable pub with_after : List Link → Option ℕ → Option ℕ → List Link
with_after ls None a = ls
with_after ls (Some n) a = with_after_at ls n a

-- the same, where there is such a place
unfoldable pub with_before : List Link → Option ℕ → Option ℕ → List Link
with_before ls None b = ls
with_before ls (Some n) b = with_before_at ls n b

-- the ends of a chain with one more place
unfoldable pub ends_with : Option Ends → ℕ → Ends
ends_with None n = record { first = n; last = n }
ends_with (Some e) n = record { first = e.first; last = n }

-- the ends of a chain without the place that had these neighbours
unfoldable pub ends_without : Option Ends → Option ℕ → Option ℕ → Option Ends
ends_without None before after = None
ends_without (Some e) None None = None
ends_without (Some e) None (Some a) = Some (record { first = a; last = e.last })
ends_without (Some e) (Some b) None = Some (record { first = e.first; last = b })
ends_without (Some e) (Some b) (Some a) = Some e

-- each bin has a chain of its places
pub record AreChains (here : Option ℕ → ℕ → Bool) (size : ℕ) (c : Chains) : Type 0 where
  pub length : length c.links.items ≡ size
  pub chain : (b : Option ℕ) → IsChain (here b) size (ends_at c b) (after_at c.links.items) (before_at c.links.items)

-- there is memory for so many more places, each in a bin that has no chain yet
pub record HasRoom (room : ℕ) (c : Chains) : Type 0 where
  pub links : vec_len c.links + room ≤ vec_capacity c.links
  pub ends : room ≤ spare c.tagged
