-- A shelf: items at rising places, and two kinds of chains that link the places of the items of each bin and each group.
use Rattle.std.specs.Prelude.{◌≡◌, refl, ℕ, zero, suc, ◌+◌, ◌≤◌, Bool, true, false, if◌then◌else◌, List, [], ◌∷◌, length, Option, Some, None, nat_eq, nat_lt, find}
use Rattle.std.specs.Coded.{Coded, code_by, coded×, coded_list, coded_option, coded_ℕ}
use Rattle.std.specs.Map.{values_of}
use Rattle.std.specs.Option.{option_eq}
use Rattle.std.specs.List.{slice_get}
use Rattle.rdm_bins.specs.declared.chains.Chains.{Chains}
use Rattle.rdm_bins.specs.Chains.{AreChains, HasRoom}

-- there is memory for so many more items
pub record HasPlaces (room len capacity : ℕ) (bins groups : Chains) : Type 0 where
  pub places : len + room ≤ capacity
  pub by_bin : HasRoom room bins
  pub by_group : HasRoom room groups

-- the place comes before the end, if one is set
abbrev pub is_within : Option ℕ → ℕ → Bool
is_within None n = true
is_within (Some end) n = nat_lt n end

-- the items at their places, and for how many more there is room
pub record Places (X : Type 0) : Type 0 where
  pub items : List (Option X)
  pub room : ℕ

-- places are stored as the pair of their fields
abbrev pub places_code : {X : Type 0} → Coded X → Coded (Places X)
places_code {X} code = code_by (List (Option X) × ℕ) (coded× (coded_list (coded_option code)) coded_ℕ) (λ s. (s.items, s.room)) (λ p. record { items = p.0; room = p.1 }) (λ _. refl)

-- before anything came
abbrev pub no_places : {X : Type 0} → Places X
no_places = record { items = []; room = 0 }

module _ {X : Type 0} where
  -- what a place holds, if there is such a place
  abbrev pub held : Option (Option X) → Option X
  held None = None
  held (Some o) = o

  -- the item at a place
  abbrev pub item_at : List (Option X) → ℕ → Option X
  item_at items n = held (slice_get items n)

  -- the items with none at a place
  abbrev pub without_at : List (Option X) → ℕ → List (Option X)
  without_at [] n = []
  without_at (o ∷ items) zero = None ∷ items
  without_at (o ∷ items) (suc n) = o ∷ without_at items n

  -- the items with their places, where the first place has that number
  abbrev pub entries_from : ℕ → List (Option X) → List (ℕ × X)
  entries_from n [] = []
  entries_from n (None ∷ items) = entries_from (suc n) items
  entries_from n (Some x ∷ items) = (n, x) ∷ entries_from (suc n) items

  -- the items on a shelf with their places
  abbrev pub entries_on : Places X → List (ℕ × X)
  entries_on s = entries_from 0 s.items

  -- the items on a shelf, in order
  abbrev pub values_on : Places X → List X
  values_on s = values_of (entries_on s)

  -- the item is there and passes
  abbrev pub passes : (X → Bool) → Option X → Bool
  passes p None = false
  passes p (Some x) = p x

  -- the items with none at a place, where what it holds passes
  abbrev pub without_passing : (X → Bool) → List (Option X) → ℕ → List (Option X)
  without_passing p items n = if passes p (item_at items n) then without_at items n else items

  -- the item is there and stands in that bin
  unfoldable pub is_in : (X → Option ℕ) → Option ℕ → Option X → Bool
  is_in bin b None = false
  is_in bin b (Some x) = option_eq nat_eq b (bin x)

  -- the place holds an item of that bin
  abbrev pub is_in_at : (X → Option ℕ) → List (Option X) → Option ℕ → ℕ → Bool
  is_in_at bin items b n = is_in bin b (item_at items n)

  -- the chains link the places of the items of each bin and of each group, and the items that wait are counted
  pub record IsShelf (bin group : X → Option ℕ) (items : List (Option X)) (bins groups : Chains) (waiting : ℕ) : Type 0 where
    pub by_bin : AreChains (is_in_at bin items) (length items) bins
    pub by_group : AreChains (is_in_at group items) (length items) groups
    pub counted : waiting ≡ length (entries_from 0 items)

  -- the first item that passes
  abbrev pub first_passing : (X → Bool) → List (ℕ × X) → Option (ℕ × X)
  first_passing p es = find (λ e. p e.1) es

  -- the one of two entries with the lesser place
  unfoldable pub earlier : Option (ℕ × X) → Option (ℕ × X) → Option (ℕ × X)
  earlier None other = other
  earlier (Some a) None = Some a
  earlier (Some a) (Some b) = if nat_lt b.0 a.0 then Some b else Some a

  -- the entry that was found, if its place comes before an end that is set
  abbrev pub below : Option ℕ → Option (ℕ × X) → Option (ℕ × X)
  below None found = found
  below (Some end) None = None
  below (Some end) (Some e) = if nat_lt e.0 end then Some e else None
