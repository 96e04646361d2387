-- What each change of the regions shows of the record.
use Rattle.std.specs.Prelude.{◌≡◌, ◌<◌, ◌≤◌, ℕ, ◌||◌, Bool, not, List, [], ◌∷◌, ◌++◌, length, filter, get_or, Some, None}
use Rattle.std.specs.List.{list_any}
use denote.RawPtr.{Ptr}
use Rattle.rdm_lists.specs.Lists.{Member}
use Rattle.rdm_num.specs.declared.parts.Span.{Span}
use Rattle.rdm_mr.specs.Part.{Piece}
use Rattle.rdm_regions.specs.Registry.{Registry, nothing, with_region, with_lease, after_lease_back, hold_refusal, lease_refusal, bytes_at, IsLeased}
use Rattle.rdm_regions.specs.Holds.{refusal_of, parts_refusal, with_holds, without_holds}
use Rattle.rdm_regions.specs.Survival.{IsSound}
use Rattle.rdm_model.specs.Beginnings.{Own}
use Rattle.rdm_model.specs.Matches.{Receive}
use Rattle.rdm_model.specs.Answers.{has_no_region, is_out_of_range}
use Rattle.rdm_life.specs.Kept.{Kept, LiveSend, LiveReceive, nothing_kept, is_send, is_receive, change_where, receive_numbered, send_numbered}
use Rattle.rdm_life.specs.Memory.{after_reg, bytes_home, part_of, with_back}
use Rattle.rdm_life.specs.Receiving.{with_live}
use Rattle.rdm_life.specs.Facts.{facts_in, meets_receive_in, meets_send_in}
use Rattle.rdm_shown.specs.Grounds.{IsGround, AreFound, range_of}

-- before any deed nothing is registered
abbrev pub NothingShows : Type 0
NothingShows = (own : Own) → IsGround nothing (nothing_kept own)

-- a block that is registered is one more region
abbrev pub RegShows : Type 0
RegShows = (r : Registry) (v : Kept) (block : Ptr) (bytes : List ℕ) → IsGround r v → IsGround (with_region r block bytes) (after_reg bytes v)

-- a range that goes out for a new receive goes out with it
abbrev pub LeaseShows : Type 0
LeaseShows =
    (r : Registry) (v : Kept) (receive : Receive)
    → IsGround r v → receive_numbered v receive.number ≡ None → lease_refusal r (range_of receive.req) ≡ None
    → IsGround (with_lease r receive.number (range_of receive.req)) (with_live receive v)

-- its part has the bytes that go out
abbrev pub PartIsOut : Type 0
PartIsOut =
    (r : Registry) (v : Kept) (receive : Receive) (piece : Piece)
    → IsSound r → IsGround r v → lease_refusal r (range_of receive.req) ≡ None → IsLeased r (range_of receive.req) piece
    → (length piece.bytes ≡ receive.req.len) × ((k : ℕ) → k < receive.req.len → part_of v receive.req k ≡ get_or piece.bytes k 0)

-- the live receives but that one, whose range is at home with these bytes
abbrev pub back_home : LiveReceive → Kept → Kept
back_home l v = record v { home = with_back (l ∷ []) v.home; receives = filter (λ (q : LiveReceive). not (is_receive l.receive.number q)) v.receives }

-- a part that comes back brings its range home with its bytes
abbrev pub BackShows : Type 0
BackShows =
    (r : Registry) (v : Kept) (live back : LiveReceive) (piece : Piece)
    → IsSound r → IsGround r v → receive_numbered v back.receive.number ≡ Some live → live.receive ≡ back.receive
    → length piece.bytes ≡ back.receive.req.len
    → ((k : ℕ) → k < back.receive.req.len → back.part k ≡ get_or piece.bytes k 0)
    → IsGround (after_lease_back r back.receive.number piece) (back_home back v)

-- one more live send
abbrev pub one_more_send : LiveSend → Kept → Kept
one_more_send s v = record v { sends = v.sends ++ s ∷ [] }

-- the live sends but that one
abbrev pub one_send_fewer : (number : ℕ) → Kept → Kept
one_send_fewer number v = record v { sends = filter (λ (s : LiveSend). not (is_send number s)) v.sends }

-- ranges that are held for a new send are those of its request
abbrev pub HoldShows : Type 0
HoldShows =
    (r : Registry) (v : Kept) (s : LiveSend)
    → IsGround r v → send_numbered v s.sent.number ≡ None
    → IsGround (with_holds r s.sent.number s.sent.req.parts) (one_more_send s v)

-- a send that is over holds nothing; it had at most four ranges
abbrev pub DropShows : Type 0
DropShows =
    (r : Registry) (v : Kept) (number : ℕ)
    → IsGround r v → ((s : LiveSend) → send_numbered v number ≡ Some s → length s.sent.req.parts ≤ 4)
    → IsGround (without_holds r number 4) (one_send_fewer number v)

-- of live receives and sends their numbers and ranges alone count: others may change
abbrev pub NamesCount : Type 0
NamesCount =
    (r : Registry) (v : Kept) → IsGround r v
    → ((test : LiveReceive → Bool) (change : LiveReceive → LiveReceive) → ((l : LiveReceive) → (change l).receive ≡ l.receive)
    → IsGround r (record v { receives = change_where test change v.receives }))
    × ((test : LiveSend → Bool) (change : LiveSend → LiveSend) → ((s : LiveSend) → (change s).sent ≡ s.sent)
    → IsGround r (record v { sends = change_where test change v.sends }))

-- ranges of a send are refused as the facts say
abbrev pub HoldRefusals : Type 0
HoldRefusals =
    (r : Registry) (v : Kept) (parts : List Span) → IsGround r v → AreFound v
    → parts_refusal r parts
    ≡ refusal_of (list_any (λ (p : Span). has_no_region (facts_in v) p.region.0) parts) (list_any (λ (p : Span). is_out_of_range (facts_in v) p.region.0 p.at p.len) parts)
    (list_any (λ (p : Span). meets_receive_in v p.region.0 p.at p.len) parts)

-- so is the range of a receive
abbrev pub LeaseRefusals : Type 0
LeaseRefusals =
    (r : Registry) (v : Kept) (x : Span) → IsGround r v → AreFound v
    → lease_refusal r x
    ≡ refusal_of (has_no_region (facts_in v) x.region.0) (is_out_of_range (facts_in v) x.region.0 x.at x.len)
    (meets_receive_in v x.region.0 x.at x.len || meets_send_in v x.region.0 x.at x.len)

-- a range that may be read has the record's bytes
abbrev pub BytesShow : Type 0
BytesShow =
    (r : Registry) (v : Kept) (x : Span) → IsSound r → IsGround r v → hold_refusal r x ≡ None
    → bytes_at r x ≡ bytes_home v (x ∷ [])

-- the bytes that live sends hold stay as ranges of receives go out and come home
abbrev pub BytesStay : Type 0
BytesStay =
    (r : Registry) (v : Kept) (s : LiveSend) → IsSound r → IsGround r v → Member s v.sends → send_numbered v s.sent.number ≡ Some s
    → ((receive : Receive) → lease_refusal r (range_of receive.req) ≡ None → bytes_home (with_live receive v) s.sent.req.parts ≡ bytes_home v s.sent.req.parts)
    × ((l : LiveReceive) → receive_numbered v l.receive.number ≡ Some l → bytes_home (back_home l v) s.sent.req.parts ≡ bytes_home v s.sent.req.parts)
    × ((content : List ℕ) → bytes_home (after_reg content v) s.sent.req.parts ≡ bytes_home v s.sent.req.parts)
