-- The receives of messages beside the hash map that keeps them.
use Rattle.std.proofs.Common.{◌≡◌, refl, sym, ap, ◌∙◌, ℕ, Bool, List, [], ◌∷◌, Option, Some, None}
use Rattle.std.specs.Prelude.{cond, ◌&&◌, nat_eq}
use Rattle.std.specs.Ordering.{nat_cmp, ordering_then, eq_by_cmp}
use Rattle.std.specs.Cmp.{unsigned_tied, tied_then}
use Rattle.std.specs.Map.{lookup}
use Rattle.std.specs.BTreeMap.{is_at}
use Rattle.std.specs.FinMap as map
use Rattle.rdm_num.specs.declared.numbers.Life.{Life}
use Rattle.rdm_num.specs.declared.numbers.MsgNo.{MsgNo}
use Rattle.rdm_num.specs.declared.numbers.OpId.{OpId}
use Rattle.rdm_window.specs.Early.{Key, message_order, key_of}
use Rattle.rdm_window.proofs.Maps as maps
use Rattle.rdm_window.proofs.Messages.{message_order_total, message_order-IsAntisymmetric}
use Rattle.rdm_matched.specs.Matches.{Matches, receive_at, with_match, without_match}

-- entries of a hash map of receives
abbrev pub Entries : Type 0
Entries = List (Key × OpId)

-- the same port number, identifier and message number
abbrev pub same_key : Key → Key → Bool
same_key a b = (nat_eq a.0.0 b.0.0 && nat_eq a.0.1 b.0.1) && nat_eq a.1 b.1

-- what ties is the same
tied : (a b : Key) → eq_by_cmp message_order a b ≡ same_key a b
tied a b =
    sym (tied_then (ordering_then (nat_cmp a.0.0 b.0.0) (nat_cmp a.0.1 b.0.1)) (nat_cmp a.1 b.1))
    ∙ (λ i. (sym (tied_then (nat_cmp a.0.0 b.0.0) (nat_cmp a.0.1 b.0.1)) ∙ (λ j. unsigned_tied a.0.0 b.0.0 j && unsigned_tied a.0.1 b.0.1 j)) i && unsigned_tied a.1 b.1 i)

-- a look-up by sameness finds what one by order does
lookup_tied : (es : Entries) (q : Key) → lookup (is_at (message_order q)) es ≡ lookup (same_key q) es
lookup_tied [] q = refl
lookup_tied (e ∷ es) q = λ i. cond (tied q e.0 i) (Some e.1) (lookup_tied es q i)

-- a map has at a key what a look-up in its entries finds
get_is_lookup : (es : Entries) (q : Key) → map.get (map.from_entries {R = message_order} es) q ≡ lookup (same_key q) es
get_is_lookup es q = maps.get_is_lookup message_order_total es q ∙ lookup_tied es q

-- the entries of fs have v at the key k, or nothing, and at each other key what those of es have
abbrev pub Updated : (es fs : Entries) → Key → Option OpId → Type 0
Updated es fs k v = (q : Key) → lookup (same_key q) fs ≡ cond (same_key k q) v (lookup (same_key q) es)

-- that is so by order too
by_order : (es fs : Entries) (k : Key) (v : Option OpId) → Updated es fs k v → maps.Changes message_order es fs k v
by_order es fs k v at q =
    lookup_tied fs q ∙ at q ∙ (λ i. cond (sym (tied k q) i) v (sym (lookup_tied es q) i))

-- matches with that room
abbrev pub matches_in : ℕ → map.FinMap message_order OpId → Matches
matches_in room messages = record { room = room; messages = messages }

-- the matches of those entries, with that room
abbrev pub matches_of : ℕ → Entries → Matches
matches_of room es = matches_in room (map.from_entries es)

-- where the look-ups are the same, so are the matches
pub matches_same : (es fs : Entries) → ((q : Key) → lookup (same_key q) fs ≡ lookup (same_key q) es) → map.from_entries {R = message_order} fs ≡ map.from_entries es
matches_same es fs at =
    map.same_map message_order_total message_order-IsAntisymmetric _ _ (λ q. get_is_lookup fs q ∙ at q ∙ sym (get_is_lookup es q))

-- matches beside the entries that keep them
module _ (room : ℕ) (es : Entries) (m : Matches) (is : matches_of room es ≡ m) (life : Life) (number : MsgNo) where
  -- the receive of a message is what a look-up in the kept entries finds
  pub receive_is_lookup : lookup (same_key (key_of life number)) es ≡ receive_at m life number
  receive_is_lookup = sym (ap (λ (k : Matches). receive_at k life number) (sym is) ∙ get_is_lookup es (key_of life number))

  -- the matches after a message was put, with any room
  pub put_is : (fs : Entries) (recv : OpId) (left : ℕ) → Updated es fs (key_of life number) (Some recv) → matches_of left fs ≡ record (with_match m life number recv) { room = left }
  put_is fs recv left at =
      ap (matches_in left) (maps.map_after message_order_total message_order-IsAntisymmetric es fs (key_of life number) recv (by_order es fs (key_of life number) (Some recv) at))
      ∙ ap (λ (k : Matches). record (with_match k life number recv) { room = left }) is

  -- the matches after a message was taken
  pub taken_is : (fs : Entries) → Updated es fs (key_of life number) None → matches_of room fs ≡ without_match m life number
  taken_is fs at =
      ap (matches_in room) (maps.map_without message_order_total message_order-IsAntisymmetric es fs (key_of life number) (by_order es fs (key_of life number) None at))
      ∙ ap (λ (k : Matches). without_match k life number) is
