-- How the bytes of messages land, and what that makes owed.
use Rattle.std.specs.Prelude.{ℕ, ◌+◌, ◌-◌, min, Bool, true, false, not, ◌&&◌, ◌||◌, nat_lt, if◌then◌else◌, List, [], ◌∷◌, ◌++◌, length, map, filter, find, flat_map, Option, Some, None, option_map, is_some, unwrap_or}
use Rattle.std.specs.List.{list_any}
use Rattle.rdm_lists.specs.Lists.{below, each_below}
use Rattle.rdm_num.specs.Lives.{same_life}
use Rattle.rdm_num.specs.Pieces.{Piece, byte_in}
use Rattle.rdm_num.specs.declared.numbers.OpId.{OpId}
use Rattle.rdm_num.specs.declared.completion.Completion.{Completion}
use Rattle.rdm_num.specs.declared.completion.Completion.TheVariants.{Recv}
use Rattle.rdm_num.specs.declared.completion.Outcome.TheVariants.{Took}
use Rattle.rdm_match.specs.Matcher.{Pair, is_recv}
use Rattle.rdm_model.specs.Beginnings.{Own}
use Rattle.rdm_model.specs.Completions.{is_matched}
use Rattle.rdm_model.specs.Deeds.{Item, Asks}
use Rattle.rdm_model.specs.Grants.{window_of}
use Rattle.rdm_model.specs.Replies.{Reply, reply, asks_for, grant_for, end_for}
use Rattle.rdm_life.specs.Kept.{Kept, EarlyMessage, LiveReceive, Matched, is_receive, receive_numbered, change_where}
use Rattle.rdm_life.specs.Memory.{with_back}

-- all bytes of the message came
abbrev pub has_all : Matched → Bool
has_all m = each_below m.came m.head.length

-- the receive has a message, and all of it came
unfoldable pub is_full : Option Matched → Bool
is_full None = false
is_full (Some m) = has_all m

-- the next window, once all that was granted has landed
unfoldable pub next_window : Own → Matched → ℕ
next_window own m = if each_below m.came m.granted then window_of own.limits m.head m.head.shape m.granted else 0

-- it is granted
unfoldable pub with_window : Own → LiveReceive → LiveReceive
with_window own r = record r { matched = option_map (λ (m : Matched). record m { granted = m.granted + next_window own m }) r.matched }

-- what a message makes owed: all asks where it was just matched, the next window, and an end or a receipt once all of it came
unfoldable pub items_of : Own → (is_new : Bool) → (recv : OpId) → Matched → List Item
items_of own is_new recv m =
    (if is_new then map Asks (asks_for m.head.shape recv) else []) ++ grant_for own m.head.shape recv (next_window own m)
    ++ (if has_all m then end_for own m.head.shape m.head.confirm (record { 0 = m.number }) recv else [])

-- the same as replies to its life
unfoldable pub replies_of : Own → (is_new : Bool) → (recv : OpId) → Option Matched → List Reply
replies_of own is_new recv None = []
replies_of own is_new recv (Some m) = map (reply m.source) (items_of own is_new recv m)

-- what a receive makes owed, if there is one
unfoldable pub replies_by : Own → (is_new : Bool) → Option LiveReceive → List Reply
replies_by own is_new None = []
replies_by own is_new (Some r) = replies_of own is_new (record { 0 = r.receive.number }) r.matched

-- the completion of a receive that took all of its message, or its first bytes that fit
unfoldable pub completion_of : LiveReceive → Option Matched → List Completion
completion_of r None = []
completion_of r (Some m) =
    if has_all m
    then Recv (record { 0 = r.receive.number }) (Took m.source m.head.tag m.head.cq_data (map r.part (below (min r.receive.req.len m.head.length))) (m.head.length - r.receive.req.len)) ∷ []
    else []

-- the same, if there is a receive
unfoldable pub completion_by : Option LiveReceive → List Completion
completion_by None = []
completion_by (Some r) = completion_of r r.matched

-- the receive has one of these numbers
unfoldable pub is_one_of : List ℕ → LiveReceive → Bool
is_one_of numbers r = list_any (λ number. is_receive number r) numbers

-- it has one of these numbers, and all of its message came
unfoldable pub is_filled_one : List ℕ → LiveReceive → Bool
is_filled_one numbers r = is_one_of numbers r && is_full r.matched

-- after bytes came to receives, in that order: what that makes owed, and those are over of which all came
unfoldable pub settle : (is_new : Bool) → (numbers : List ℕ) → Kept → Kept
settle is_new numbers v =
    record v {
      home = with_back (filter (is_filled_one numbers) v.receives) v.home;
      receives = change_where (is_one_of numbers) (with_window v.own) (filter (λ (r : LiveReceive). not (is_filled_one numbers r)) v.receives);
      owed = v.owed ++ flat_map (λ number. replies_by v.own is_new (receive_numbered v number)) numbers;
      completions = v.completions ++ flat_map (λ number. completion_by (receive_numbered v number)) numbers;
    }

-- the bytes of a message over those of a range, where they came and fit
unfoldable pub laid_over : (len : ℕ) → (ℕ → Option ℕ) → (ℕ → ℕ) → ℕ → ℕ
laid_over len came part k = if nat_lt k len then unwrap_or (came k) (part k) else part k

-- a piece of its message came to a receive
abbrev pub with_piece : Piece → LiveReceive → LiveReceive
with_piece p r =
    record r {
      part = laid_over r.receive.req.len (byte_in p) r.part;
      matched = option_map (λ (m : Matched). record m { came = λ place. m.came place || is_some (byte_in p place) }) r.matched;
    }

-- a piece lands in the receive of that number
unfoldable pub land : (number : ℕ) → Piece → Kept → Kept
land number p v = settle false (number ∷ []) (record v { receives = change_where (is_receive number) (with_piece p) v.receives })

-- ---- matches

-- a receive takes an early message, whose bytes so far are laid over its range
unfoldable pub with_message : Pair → Option EarlyMessage → LiveReceive → LiveReceive
with_message p None r = r
with_message p (Some e) r =
    record r {
      part = laid_over r.receive.req.len e.came r.part;
      matched = Some (record { source = p.message.life; number = p.message.no.0; head = e.head; came = λ place. is_some (e.came place); granted = e.first_part });
    }

-- a receive takes the message that it was paired with, if it was
unfoldable pub with_pair : Kept → Option Pair → LiveReceive → LiveReceive
with_pair v None r = r
with_pair v (Some p) r = with_message p (v.early p.message.life p.message.no.0) r

-- receives take the messages that they were paired with, which are early no more
unfoldable pub meet : List Pair → Kept → Kept
meet ps v =
    settle true (map (λ (p : Pair). p.recv.id.0) ps)
    (record v {
      receives = map (λ (r : LiveReceive). with_pair v (find (λ (p : Pair). is_recv r.receive.number p.recv) ps) r) v.receives;
      early = λ life number. if is_matched ps (record { life = life; number = number }) then None else v.early life number;
      early_of = λ life. v.early_of life - length (filter (λ (p : Pair). same_life p.message.life life) ps);
      early_count = v.early_count - length ps;
    })
