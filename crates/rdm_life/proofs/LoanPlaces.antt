-- What a datagram brings of the message of a live receive is what it says it brings, so a range that shares no place with that stays missing.
use Rattle.std.proofs.Common.{◌≡◌, ℕ, ◌+◌, ◌<◌, ◌≤◌, true, false, List, ◌∷◌, length, Option, Some, None, refl, arith, eq-eqb, eqb-true, sym, ◌∙◌, ap}
use Rattle.std.specs.Prelude.{◌==◌, find, is_some, option_map}
use Rattle.std.proofs.lemmas.Bool.{and_parts, and_from, lt-ltb}
use Rattle.rdm_lists.specs.Lists.{Member, or_else}
use Rattle.rdm_lists.proofs.Options.{none_there, then_some_parts}
use Rattle.rdm_num.specs.Lives.{same_life}
use Rattle.rdm_num.specs.Pieces.{Piece, byte_in, overlaps}
use Rattle.rdm_num.specs.declared.numbers.Life.{Life}
use Rattle.rdm_num.proofs.Lives.{same_life-true, same_life-refl}
use Rattle.rdm_pkt.specs.declared.Packet.TheVariants.{Rtm, CtsData}
use Rattle.rdm_pkt.specs.Heads.{piece_of}
use Rattle.rdm_match.specs.Matcher.{Pair, is_pair}
use Rattle.rdm_model.specs.Beginnings.{Own}
use Rattle.rdm_model.specs.Deeds.{Deed, Took, Item, Spelled, Gives}
use Rattle.rdm_model.specs.Matches.{Receive}
use Rattle.rdm_model.specs.Parts.{piece_by, carried_by}
use Rattle.rdm_model.proofs.Matches.{is_pair_member}
use Rattle.rdm_law.proofs.Matching.Distinct.{matching_distinct}
use Rattle.rdm_law.proofs.Matching.Received.{receive_once}
use Rattle.rdm_law.proofs.Windows.Granted.{byte_ends}
use Rattle.rdm_life.specs.Kept.{Kept, LiveReceive, Matched}
use Rattle.rdm_life.specs.Keeps.{told, own_pairs, own_live_receives, byte_came, pair_of, matched_of, kept_receive, KeepsReceives}
use Rattle.rdm_life.specs.Facts.{is_of, receive_from}
use Rattle.rdm_life.specs.Handling.{byte_by, receive_of}
use Rattle.rdm_life.specs.Lending.{Loan, IsMissing, Spares, range_of, brought, share}
use Rattle.rdm_life.proofs.CameWithin.{byte_starts, some_cond}
use Rattle.rdm_life.proofs.EarlyWords.{came_after}
use Rattle.rdm_life.proofs.LoanPairs.{LentOf}
use Rattle.rdm_life.proofs.ReceiveFacts.{names, receive_from_is}
use Rattle.rdm_life.proofs.TakenBy.{LiveOf, find_one, live_takes, receive_of_is}
use Rattle.rdm_life.proofs.Apart.{live_is}

-- ---- which receive a datagram finds

-- by the message
pub by_message : (own : Own) (log : List Deed) (v : Kept) (p : Pair) → KeepsReceives own log v → Member p (own_pairs own log) → (a : LiveOf own log p)
    → receive_of v p.message.life p.message.no.0 ≡ Some (kept_receive own log a.recv)
by_message own log v p k m a =
    receive_of_is own log v p.message.life p.message.no.0 k
    ∙ ap (option_map (kept_receive own log))
    (live_takes own log p.message.life p.message.no.0 p m refl refl a)

-- by its number
by_number : (own : Own) (log : List Deed) (v : Kept) (p : Pair) → KeepsReceives own log v → Member p (own_pairs own log) → (a : LiveOf own log p)
    → receive_from v p.message.life p.recv.id.0 ≡ Some (kept_receive own log a.recv)
unfolding is_of
by_number own log v p k m a =
    let r = a.recv in
    let from = p.message.life in
    let n = p.recv.id.0 in
    let of : is_of from (option_map (matched_of own log) (pair_of own log r)) ≡ true =
    ap (λ (o : Option Pair). is_of from (option_map (matched_of own log) o)) a.pair_is ∙ same_life-refl from in
    let found : find (names own log from n) (own_live_receives own log) ≡ Some r =
    find_one (names own log from n) r (own_live_receives own log) a.live
    (and_from (r.number == n) (is_of from (option_map (matched_of own log) (pair_of own log r))) (eq-eqb r.number n a.number_is) of)
    (λ q held passes.
    let parts = and_parts (q.number == n) (is_of from (option_map (matched_of own log) (pair_of own log q))) passes in
    receive_once log q r (live_is own log q held).0 (live_is own log r a.live).0 (eqb-true q.number n parts.0 ∙ sym a.number_is)) in
    receive_from_is own log v from n k ∙ ap (option_map (kept_receive own log)) found

-- ---- what it brings

-- the range of a piece of the message of a receive
abbrev piece_range : Receive → Piece → Loan
piece_range r x = record { recv = r.number; offset = x.offset; len = length x.bytes }

-- as it is found
range_is : (own : Own) (log : List Deed) (r : Receive) (x : Piece) → range_of (Some (kept_receive own log r)) (Some x) ≡ Some (piece_range r x)
unfolding range_of kept_receive
range_is own log r x = refl

-- bytes that name the receive
number_brings : (own : Own) (log : List Deed) (v : Kept) (from : Life) (n : ℕ) (p : Pair) (x : Piece) → KeepsReceives own log v → Member p (own_pairs own log) → (a : LiveOf own log p)
    → from ≡ p.message.life → is_pair (own_pairs own log) n p.message.life p.message.no.0 ≡ true → range_of (receive_from v from n) (Some x) ≡ Some (piece_range a.recv x)
number_brings own log v from n p x k m a life paired =
    let q = is_pair_member (own_pairs own log) n p.message.life p.message.no.0 paired in
    let same : q.0 ≡ p = (matching_distinct own.limits.first (told own log).head log).once q.0 p q.1 m q.3 q.4 in
    let number : n ≡ p.recv.id.0 = sym q.2 ∙ ap (λ (y : Pair). y.recv.id.0) same in
    ap (λ (l : Life). range_of (receive_from v l n) (Some x)) life
    ∙ ap (λ (i : ℕ). range_of (receive_from v p.message.life i) (Some x)) number
    ∙ ap (λ (o : Option LiveReceive). range_of o (Some x)) (by_number own log v p k m a)
    ∙ range_is own log a.recv x

-- a packet that names the message
message_brings : (own : Own) (log : List Deed) (v : Kept) (from : Life) (n : ℕ) (p : Pair) (x : Piece) → KeepsReceives own log v → Member p (own_pairs own log) → (a : LiveOf own log p)
    → from ≡ p.message.life → n ≡ p.message.no.0 → range_of (receive_of v from n) (Some x) ≡ Some (piece_range a.recv x)
message_brings own log v from n p x k m a life number =
    ap (λ (l : Life). range_of (receive_of v l n) (Some x)) life
    ∙ ap (λ (i : ℕ). range_of (receive_of v p.message.life i) (Some x)) number
    ∙ ap (λ (o : Option LiveReceive). range_of o (Some x)) (by_message own log v p k m a)
    ∙ range_is own log a.recv x

-- a piece of the message of a live receive is what is brought
item_brings : (own : Own) (log : List Deed) (v : Kept) (from : Life) (item : Item) (p : Pair) (x : Piece) → KeepsReceives own log v → Member p (own_pairs own log) → (a : LiveOf own log p)
    → from ≡ p.message.life → piece_by (own_pairs own log) p.message.life p.message.no.0 item ≡ Some x → brought v from item ≡ Some (piece_range a.recv x)
unfolding piece_by brought
item_brings own log v from (Spelled (Rtm number tag confirm opt form)) p x k m a life h =
    let parts = some_cond (number.0 == p.message.no.0) (piece_of form) x h in
    ap (range_of (receive_of v from number.0)) parts.1 ∙ message_brings own log v from number.0 p x k m a life (eqb-true number.0 p.message.no.0 parts.0)
item_brings own log v from (Spelled (CtsData recv offset connid bytes)) p x k m a life h =
    let y : Piece = record { offset = offset; bytes = bytes } in
    let parts = then_some_parts (is_pair (own_pairs own log) recv.0 p.message.life p.message.no.0) y x h in
    ap (λ (z : Piece). range_of (receive_from v from recv.0) (Some z)) parts.1 ∙ number_brings own log v from recv.0 p x k m a life parts.0
item_brings own log v from (Gives g) p x k m a life h =
    let y : Piece = record { offset = g.at; bytes = g.bytes } in
    let parts = then_some_parts (is_pair (own_pairs own log) g.recv_id.0 p.message.life p.message.no.0) y x h in
    ap (λ (z : Piece). range_of (receive_from v from g.recv_id.0) (Some z)) parts.1 ∙ number_brings own log v from g.recv_id.0 p x k m a life parts.0
item_brings own log v from _ p x k m a life h = cc

-- ---- what stays missing

-- ranges of one receive with a place in common share it
one_shares : (a b : Loan) (place : ℕ) → a.recv ≡ b.recv → a.offset ≤ place → place < a.offset + a.len → b.offset ≤ place → place < b.offset + b.len → share a b ≡ true
unfolding share overlaps
one_shares a b place same low high low' high' =
    and_from (a.recv == b.recv) _ (eq-eqb a.recv b.recv same)
    (and_from _ _ (and_from _ _ (and_from _ _ (lt-ltb 0 a.len (omega arith)) (lt-ltb 0 b.len (omega arith))) (lt-ltb a.offset (b.offset + b.len) (omega arith))) (lt-ltb b.offset (a.offset + a.len) (omega arith)))

-- a piece that a deed brings has no byte of a range that it spares
spared : (own : Own) (d : Deed) (log : List Deed) (v : Kept) (l : Loan) (p : Pair) (x : Piece) (place b : ℕ) → KeepsReceives own log v → Member p (own_pairs own log) → (a : LiveOf own log p) → a.recv.number ≡ l.recv
    → Spares v d l → carried_by (own_pairs own log) p.message.life p.message.no.0 d ≡ Some x → l.offset ≤ place → place < l.offset + l.len → byte_in x place ≡ Some b → ⊥
unfolding carried_by
spared own (Took from item) log v l p x place b k m a number spares carries low high is =
    let parts = some_cond (same_life from p.message.life) (piece_by (own_pairs own log) p.message.life p.message.no.0 item) x carries in
    let brings = item_brings own log v from item p x k m a (same_life-true from p.message.life parts.0) parts.1 in
    let apart = spares (piece_range a.recv x) brings in
    let meets = one_shares (piece_range a.recv x) l place number (byte_starts x place b is) (byte_ends x place b is) low high in
    let wrong : true ≡ false = sym meets ∙ apart in
    cc
spared own _ log v l p x place b k m a number spares carries low high is = cc

-- so no byte of it comes
none_comes : (own : Own) (d : Deed) (log : List Deed) (v : Kept) (l : Loan) (p : Pair) (place : ℕ) → KeepsReceives own log v → Member p (own_pairs own log) → (a : LiveOf own log p) → a.recv.number ≡ l.recv
    → Spares v d l → l.offset ≤ place → place < l.offset + l.len → byte_by (carried_by (own_pairs own log) p.message.life p.message.no.0 d) place ≡ None
unfolding byte_by
none_comes own d log v l p place k m a number spares low high =
    let carried = carried_by (own_pairs own log) p.message.life p.message.no.0 d in
    (elim carried as (λ o. carried ≡ o → byte_by o place ≡ None) [
      | None ↦ λ e. refl
      | Some x ↦ λ e. (elim (byte_in x place) as (λ o. byte_in x place ≡ o → o ≡ None) [
        | None ↦ λ h. refl
        | Some b ↦ λ h. absurd (spared own d log v l p x place b k m a number spares e low high h)
      ]) refl
    ]) refl

-- a range that is missing is missing after a deed that spares it
pub still_missing : (own : Own) (d : Deed) (log : List Deed) (v : Kept) (l : Loan) (m : IsMissing v l) (a : LentOf own log v l m) (place : ℕ) → KeepsReceives own log v → Spares v d l
    → l.offset ≤ place → place < l.offset + l.len → is_some (byte_came own (d ∷ log) a.pair.message.life a.pair.message.no.0 place) ≡ false
unfolding or_else
still_missing own d log v l m a place k spares low high =
    let p = a.pair in
    let was : is_some (byte_came own log p.message.life p.message.no.0 place) ≡ false = sym (ap (λ (x : Matched). x.came place) a.message_is) ∙ m.missing place low high in
    let none = none_there (byte_came own log p.message.life p.message.no.0 place) was in
    let new = none_comes own d log v l p place k a.paired a.of a.number_is spares low high in
    ap is_some (came_after own d log p.message.life p.message.no.0 place
    ∙ ap (λ (o : Option ℕ). or_else o (byte_by (carried_by (own_pairs own log) p.message.life p.message.no.0 d) place)) none
    ∙ new)
