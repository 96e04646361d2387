-- Steps of an endpoint's record, one receive or one message at a time.
use Rattle.std.specs.Prelude.{ℕ, zero, suc, ◌+◌, ◌-◌, Bool, true, false, not, ◌&&◌, ◌==◌, if◌then◌else◌, List, [], ◌∷◌, ◌++◌, filter, find, Option, Some, None}
use Rattle.rdm_lists.specs.Lists.{without_first}
use Rattle.rdm_num.specs.Lives.{same_life}
use Rattle.rdm_num.specs.Pieces.{Piece}
use Rattle.rdm_num.specs.declared.numbers.Life.{Life}
use Rattle.rdm_match.specs.declared.PostedRecv.{PostedRecv}
use Rattle.rdm_match.specs.declared.Arrived.{Arrived}
use Rattle.rdm_match.specs.Matcher.{Pair, accepts}
use Rattle.rdm_life.specs.Kept.{Kept, Peer, LiveReceive, is_receive, receive_numbered, change_where, with_peer}
use Rattle.rdm_life.specs.Memory.{with_back}
use Rattle.rdm_life.specs.Landing.{is_full, with_window, replies_by, completion_of, with_piece, with_message}
use Rattle.rdm_life.specs.Receiving.{tag_of}

-- a step is done so many times
unfoldable pub times : {A : Type 0} → ℕ → (A → A) → A → A
times zero step v = v
times (suc n) step v = times n step (step v)

-- ---- bytes came to a receive

-- a receive of which all came is over, its range is at home again, and it completes
abbrev pub with_end : LiveReceive → Kept → Kept
with_end r v =
    record v {
      home = with_back (r ∷ []) v.home;
      receives = filter (λ (q : LiveReceive). not (is_receive r.receive.number q)) v.receives;
      completions = v.completions ++ completion_of r r.matched;
    }

-- one of which some is missing has its next window
abbrev pub with_next_window : LiveReceive → Kept → Kept
with_next_window r v = record v { receives = change_where (is_receive r.receive.number) (with_window v.own) v.receives }

-- what it makes owed
abbrev pub with_replies : (is_new : Bool) → LiveReceive → Kept → Kept
with_replies is_new r v = record v { owed = v.owed ++ replies_by v.own is_new (Some r) }

-- after bytes came to a receive, if there is one
unfoldable pub settle_found : (is_new : Bool) → Option LiveReceive → Kept → Kept
settle_found is_new None v = v
settle_found is_new (Some r) v = with_replies is_new r (if is_full r.matched then with_end r v else with_next_window r v)

-- after bytes came to the receive of that number
abbrev pub settle_one : (is_new : Bool) → (number : ℕ) → Kept → Kept
settle_one is_new number v = settle_found is_new (receive_numbered v number) v

-- the same for each in turn
unfoldable pub settle_each : (is_new : Bool) → (numbers : List ℕ) → Kept → Kept
settle_each is_new [] v = v
settle_each is_new (number ∷ rest) v = settle_each is_new rest (settle_one is_new number v)

-- a piece lands in the receive of that number
abbrev pub land_one : (number : ℕ) → Piece → Kept → Kept
land_one number p v = settle_one false number (record v { receives = change_where (is_receive number) (with_piece p) v.receives })

-- ---- a receive takes a message

-- a message is early no more
abbrev pub without_early : Life → (number : ℕ) → Kept → Kept
without_early source number v =
    record v {
      early = λ life n. if same_life source life && number == n then None else v.early life n;
      early_of = λ life. if same_life source life then v.early_of life - 1 else v.early_of life;
      early_count = v.early_count - 1;
    }

-- a receive takes the early message that it was paired with
unfoldable pub meet_one : Pair → Kept → Kept
meet_one p v =
    settle_one true p.recv.id.0
    (record (without_early p.message.life p.message.no.0 v) {
      receives = change_where (is_receive p.recv.id.0) (with_message p (v.early p.message.life p.message.no.0)) v.receives;
    })

-- the same for each in turn
unfoldable pub meet_each : List Pair → Kept → Kept
meet_each [] v = v
meet_each (p ∷ ps) v = meet_each ps (meet_one p v)

-- ---- a receive is posted

-- it takes that message, or waits last
unfoldable pub post_found : PostedRecv → Option Arrived → Kept → Kept
post_found r None v = record v { posted = v.posted ++ r ∷ [] }
post_found r (Some a) v = meet_one (record { recv = r; message = a }) (record v { arrived = without_first (accepts r) v.arrived })

-- it takes the first message that it accepts, or waits last
abbrev pub post_one : PostedRecv → Kept → Kept
post_one r v = post_found r (find (accepts r) v.arrived) v

-- ---- a message enters

-- that receive takes it, or it waits last
unfoldable pub arrive_found : Arrived → Option PostedRecv → Kept → Kept
arrive_found a None v = record v { arrived = v.arrived ++ a ∷ [] }
arrive_found a (Some r) v = meet_one (record { recv = r; message = a }) (record v { posted = without_first (λ q. accepts q a) v.posted })

-- the first receive that accepts it takes it, or it waits last
abbrev pub arrive_one : Arrived → Kept → Kept
arrive_one a v = arrive_found a (find (λ r. accepts r a) v.posted) v

-- the next message of a life, as it comes to the matcher
abbrev pub next_of : Kept → Life → Arrived
next_of v source = record { life = source; no = record { 0 = (v.peers source).next }; tag = tag_of (v.early source (v.peers source).next) }

-- the next message of a life enters
abbrev pub enter_one : Life → Kept → Kept
enter_one source v = arrive_one (next_of v source) (with_peer source (λ (p : Peer). record p { next = p.next + 1 }) v)
