-- A shelf that was given room.
use Rattle.std.proofs.Common.{◌≡◌, sym, subst, ℕ, ◌+◌, ◌-◌, ◌<◌, List, Option, length, arith}
use Rattle.rdm_bins.specs.declared.chains.Chains.{Chains}
use Rattle.rdm_bins.specs.Chains.{ends_at, HasRoom}
use Rattle.rdm_bins.specs.Shelf.{IsShelf, is_in_at}
use Rattle.rdm_bins.proofs.Linked.{chains_same}

-- chains with the same ends and links link the same items
pub shelf_same : {X : Type 0} (bin group : X → Option ℕ) (items now : List (Option X)) (bins new_bins groups new_groups : Chains) (waiting : ℕ) → now ≡ items
    → ((b : Option ℕ) → ends_at new_bins b ≡ ends_at bins b) → new_bins.links.items ≡ bins.links.items
    → ((b : Option ℕ) → ends_at new_groups b ≡ ends_at groups b) → new_groups.links.items ≡ groups.links.items
    → IsShelf bin group items bins groups waiting → IsShelf bin group now new_bins new_groups waiting
shelf_same {X} bin group items now bins new_bins groups new_groups waiting same bin_ends bin_links group_ends group_links shelf =
    subst (λ (l : List (Option X)). IsShelf bin group l new_bins new_groups waiting) (sym same)
    (record {
      by_bin = chains_same (is_in_at bin items) (length items) bins new_bins bin_ends bin_links shelf.by_bin;
      by_group = chains_same (is_in_at group items) (length items) groups new_groups group_ends group_links shelf.by_group;
      counted = shelf.counted;
    })

-- room that is used up and one place more are the room before
pub one_of_room : (room : ℕ) (c : Chains) → 0 < room → HasRoom room c → HasRoom (room - 1 + 1) c
one_of_room room c some has = let same : room ≡ room - 1 + 1 = omega arith in subst (λ n. HasRoom n c) same has
