-- The messages that are held beside the tree map that keeps them.
use Rattle.std.proofs.Common.{◌≡◌, refl, sym, ap, subst, ◌∙◌, ℕ, ◌+◌, ◌<◌, ◌≤◌, Bool, true, false, List, Option, Some, None, length, arith, IsSome}
use Rattle.std.specs.Ordering.{nat_cmp, is_eq, eq_by_cmp}
use Rattle.std.specs.Cmp.{IsTotalOrder, Equal-is, tied_itself, nat_cmp_total, then_total, on_total}
use Rattle.std.specs.Prelude.{cond, is_some, option_map}
use Rattle.std.specs.Option.{IsSomeAnd}
use Rattle.std.specs.List.Sorted.{IsStrictlySortedBy}
use Rattle.std.specs.Map.{lookup, keys_of}
use Rattle.std.specs.BTreeMap.{is_at}
use Rattle.std.specs.FinMap as map
use Rattle.std.proofs.lemmas.Map.Lookups.{exact_pairs, exact_unsigned}
use Rattle.rdm_num.specs.declared.numbers.Life.{Life}
use Rattle.rdm_num.specs.declared.numbers.MsgNo.{MsgNo}
use Rattle.rdm_window.specs.Message.{Message, room, with_room}
use Rattle.rdm_window.specs.Early.{Key, Held, message_order, key_of, message_at, with_message, without_message, put_back, changed}
use Rattle.rdm_window.proofs.Maps.{Changes, get_is_lookup, len_is_length, map_after, map_without}

-- keys are ordered in full
pub message_order_total : IsTotalOrder message_order
message_order_total = then_total (then_total (on_total (λ k. k.0.0) nat_cmp_total) (on_total (λ k. k.0.1) nat_cmp_total)) (on_total (λ k. k.1) nat_cmp_total)

-- only a key ties with itself
pub message_order-IsAntisymmetric : map.IsAntisymmetric message_order
message_order-IsAntisymmetric x y is =
    exact_pairs _ nat_cmp (exact_pairs nat_cmp nat_cmp exact_unsigned exact_unsigned) exact_unsigned x y is

-- those messages, with that many places
abbrev pub held_in : ℕ → map.FinMap message_order Message → Held
held_in size messages = record { size = size; messages = messages }

-- entries of a tree map of messages
abbrev pub Entries : Type 0
Entries = List (Key × Message)

-- the messages of those entries, with that many places
abbrev pub held_of : ℕ → Entries → Held
held_of size es = held_in size (map.from_entries es)

-- one more at most, where one more has a place
pub one_more_fits : (b : Bool) (n m size : ℕ) → m ≡ n + cond b 0 1 → n < size → m ≤ size
one_more_fits true n m size e h = omega arith
one_more_fits false n m size e h = omega arith

-- nothing is both there and not
pub not_there : {A : Type 0} (o : Option A) → IsSome o → o ≡ None → ⊥
not_there o there none = let e : false ≡ true = sym (ap is_some none) ∙ there in cc

-- a message that is held, once w is put in its place
module _ (held : Held) (life : Life) (number : MsgNo) (m w : Message) (was : Some m ≡ message_at held life number) where
  -- what was held, where w is the message itself
  pub with_same : w ≡ m → with_message held life number w ≡ held
  with_same is =
      ap (with_message held life number) is
      ∙ ap (held_in held.size) (map.same_map message_order_total message_order-IsAntisymmetric _ _ (λ q.
      map.get-insert message_order_total held.messages (key_of life number) m q
      ∙ elim (eq_by_cmp message_order q (key_of life number)) as (λ b. eq_by_cmp message_order q (key_of life number) ≡ b → cond b (Some m) (map.get held.messages q) ≡ map.get held.messages q) [
        | true ↦ λ e. was ∙ map.get_tied message_order_total held.messages q (key_of life number) ((Equal-is _).0 e)
        | false ↦ λ e. refl
      ] refl))

  -- what was held with the message changed, where w is the changed one
  pub with_changed : (change : Message → Message) → w ≡ change m → with_message held life number w ≡ changed held life number change
  unfolding put_back
  with_changed change is = ap (with_message held life number) is ∙ ap (λ o. put_back held life number (option_map change o)) was

-- a message that was put in a place is there
at_with : (held : Held) (life : Life) (number : MsgNo) (w : Message) → message_at (with_message held life number w) life number ≡ Some w
at_with held life number w =
    map.get-insert message_order_total held.messages (key_of life number) w (key_of life number)
    ∙ ap (λ r. cond (is_eq r) (Some w) (map.get held.messages (key_of life number))) (tied_itself message_order_total (key_of life number))

-- a reservation that was made for a message that is held can be spent
pub has_room : (held : Held) (life : Life) (number : MsgNo) (m w : Message) → w ≡ with_room m → IsSomeAnd (message_at (with_message held life number w) life number) (λ n. 0 < room n)
has_room held life number m w is =
    let more : 0 < room w = let some : 0 < room (with_room m) = omega arith in rw is some in
    subst (λ o. IsSomeAnd o (λ n. 0 < room n)) (sym (at_with held life number w)) more

-- what is held beside the entries that hold it
module _ (size : ℕ) (es : Entries) (held : Held) (is : held_of size es ≡ held) where
  -- what is held at a key is what a look-up in the kept entries finds
  pub get_of_entries : (q : Key) → map.get held.messages q ≡ lookup (is_at (message_order q)) es
  get_of_entries q = ap (λ (h : Held). map.get h.messages q) (sym is) ∙ get_is_lookup message_order_total es q

  -- a message that is held is what a look-up in the kept entries finds
  pub message_is_lookup : (life : Life) (number : MsgNo) → lookup (is_at (message_order (key_of life number))) es ≡ message_at held life number
  message_is_lookup life number = sym (get_of_entries (key_of life number))

  -- as many messages are held as there are entries
  pub len_of_entries : IsStrictlySortedBy message_order (keys_of es) → map.len held.messages ≡ length es
  len_of_entries sorted = ap (λ (h : Held). map.len h.messages) (sym is) ∙ len_is_length message_order_total es sorted

  -- fewer entries than places
  pub fewer_entries : IsStrictlySortedBy message_order (keys_of es) → map.len held.messages < held.size → length es < size
  fewer_entries sorted h = rw (← len_of_entries sorted, ap (λ (l : Held). l.size) is) h

  module _ (fs : Entries) (life : Life) (number : MsgNo) where
    -- the messages after one took the place of its key
    pub held_with : (m : Message) → Changes message_order es fs (key_of life number) (Some m) → held_of size fs ≡ with_message held life number m
    held_with m at =
        ap (held_in size) (map_after message_order_total message_order-IsAntisymmetric es fs (key_of life number) m at)
        ∙ ap (λ h. with_message h life number m) is

    -- the messages after one was taken
    pub held_without : Changes message_order es fs (key_of life number) None → held_of size fs ≡ without_message held life number
    held_without at =
        ap (held_in size) (map_without message_order_total message_order-IsAntisymmetric es fs (key_of life number) at)
        ∙ ap (λ h. without_message h life number) is
