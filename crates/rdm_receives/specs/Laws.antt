-- What each call comes to, in the words of what an endpoint keeps.
use Rattle.std.specs.Prelude.{◌≡◌, ◌↔◌, ◌⊎◌, ℕ, ◌+◌, ◌-◌, ◌<◌, ◌≤◌, min, Bool, true, false, if◌then◌else◌, Option, None, Some, List, [], ◌++◌, map, take, length, get_or}
use Rattle.std.specs.Option.{IsSomeAnd}
use Rattle.rdm_lists.specs.Lists.{below, each_below}
use Rattle.rdm_num.specs.declared.numbers.Life.{Life}
use Rattle.rdm_num.specs.declared.numbers.MsgNo.{MsgNo}
use Rattle.rdm_num.specs.declared.numbers.OpId.{OpId}
use Rattle.rdm_num.specs.declared.head.Head.{Head}
use Rattle.rdm_num.specs.declared.request.RecvReq.{RecvReq}
use Rattle.rdm_gaps.specs.Places.{Missing, AreMissing}
use Rattle.rdm_mr.specs.Part.{Piece}
use Rattle.rdm_mr.specs.Tiles.{AreBytes, IsAll}
use Rattle.rdm_land.specs.Landed.{MayLend, IsPartOf, IsLent, capacity, with_lent}
use Rattle.rdm_land.specs.Arrivals.{IsFree}
use Rattle.rdm_match.specs.Matcher.{Pair}
use Rattle.rdm_model.specs.Beginnings.{Own}
use Rattle.rdm_model.specs.Deeds.{Asks}
use Rattle.rdm_model.specs.Matches.{Receive}
use Rattle.rdm_life.specs.Kept.{LiveReceive, EarlyMessage, Matched}
use Rattle.rdm_life.specs.Landing.{with_message, with_piece, with_window, items_of, has_all, is_full as all_came}
use Rattle.rdm_life.specs.Forgetting.{zeroed}
use Rattle.rdm_receives.specs.Answers.{IsMissing, is_full, has_landed, after_grant, asks_owed, grant_owed, end_owed, excess, AreZeros, unlent, landed}
use Rattle.rdm_receives.specs.View.{ReceiveView, IsReceive, posted, met, with_room, filled}
use Rattle.rdm_receives.specs.Shows.{Shows, IsEarly}

-- a new receive shows one that has the bytes of its part and no message
abbrev pub NewShows : Type 0
NewShows =
    (number : OpId) (named : Option Life) (req : RecvReq) (piece : Piece) (receive : Receive) (part : ℕ → ℕ)
    → number.0 ≡ receive.number → req ≡ receive.req → named ≡ receive.posted.from
    → length piece.bytes ≡ req.len → ((k : ℕ) → k < req.len → part k ≡ get_or piece.bytes k 0)
    → Shows (posted number named req piece) (record { receive = receive; part = part; matched = None })

-- one that took a message shows the match with that early message
abbrev pub MessageShows : Type 0
MessageShows =
    (r : ReceiveView) (l : LiveReceive) (p : Pair) (head : Head) (gaps : Missing) (bytes : List ℕ) (first_part : ℕ) (e : EarlyMessage)
    → IsReceive r → r.message ≡ None → Shows r l → length bytes ≡ length gaps.places → IsEarly head gaps.places bytes first_part e
    → Shows (met r p.message.life p.message.no head gaps bytes first_part) (with_message p (Some e) l)

-- room shows nothing
abbrev pub RoomShows : Type 0
RoomShows = (r : ReceiveView) (l : LiveReceive) → Shows r l → Shows (with_room r) l

-- bytes that came show that piece
abbrev pub FillShows : Type 0
FillShows =
    (r : ReceiveView) (l : LiveReceive) (at : ℕ) (bytes : List ℕ)
    → IsReceive r → Shows r l → AreMissing at (length bytes) r.landed.missing
    → Shows (filled r at bytes) (with_piece (record { offset = at; bytes = bytes }) l)

-- ---- answers

-- no place of a range that is missing came, and a range of the message of which none came is missing
abbrev pub MissingShows : Type 0
MissingShows =
    (r : ReceiveView) (l : LiveReceive) (at len : ℕ)
    → IsReceive r → Shows r l
    → IsMissing r at len ↔ IsSomeAnd l.matched (λ (m : Matched). (at + len ≤ m.head.length) × ((k : ℕ) → at ≤ k → k < at + len → m.came k ≡ false))

-- it is full where the record's is
abbrev pub FullShows : Type 0
FullShows = (r : ReceiveView) (l : LiveReceive) → Shows r l → is_full r.landed r.message ≡ all_came l.matched

-- all that is granted has landed where the record says so
abbrev pub LandedShows : Type 0
LandedShows =
    (r : ReceiveView) (l : LiveReceive) (m : Matched) → Shows r l → l.matched ≡ Some m → has_landed r.landed r.message ≡ each_below m.came m.granted

-- the next window is granted
abbrev pub GrantShows : Type 0
GrantShows = (r : ReceiveView) (l : LiveReceive) (own : Own) → Shows r l → Shows (after_grant own.limits r) (with_window own l)

-- its asks, its grant and its end are what the record says that it owes
abbrev pub OwesShow : Type 0
OwesShow =
    (r : ReceiveView) (l : LiveReceive) (m : Matched) (own : Own) (is_new : Bool)
    → IsReceive r → Shows r l → l.matched ≡ Some m
    → items_of own is_new r.number m
    ≡ (if is_new then map Asks (asks_owed r.message) else []) ++ grant_owed own own.limits r.landed r.message ++ end_owed own r.landed r.message

-- ---- what comes back

-- the bytes of a full receive are those that complete it
abbrev pub BytesShow : Type 0
BytesShow =
    (r : ReceiveView) (l : LiveReceive) (m : Matched) (bytes : List ℕ)
    → IsReceive r → Shows r l → l.matched ≡ Some m → has_all m ≡ true
    → length bytes ≡ min (length r.landed.missing) r.req.len → AreBytes 0 bytes r.landed.tiles.cells
    → bytes ≡ map l.part (below (min l.receive.req.len m.head.length))

-- so is what lies past its range
abbrev pub ExcessShows : Type 0
ExcessShows = (r : ReceiveView) (l : LiveReceive) (m : Matched) → IsReceive r → Shows r l → l.matched ≡ Some m → excess r ≡ m.head.length - l.receive.req.len

-- the part of a receive that waits for its message, or of a full one, has the record's bytes
abbrev pub PartShows : Type 0
PartShows =
    (r : ReceiveView) (l : LiveReceive) (p : Piece)
    → IsReceive r → Shows r l → (r.message ≡ None) ⊎ (is_full r.landed r.message ≡ true) → IsAll r.landed.tiles p
    → (length p.bytes ≡ l.receive.req.len) × ((k : ℕ) → k < length p.bytes → l.part k ≡ get_or p.bytes k 0)

-- and zeros are those of one that is gone
abbrev pub ZerosShow : Type 0
ZerosShow =
    (r : ReceiveView) (l : LiveReceive) (p : Piece)
    → IsReceive r → Shows r l → AreZeros r.landed.tiles p
    → (length p.bytes ≡ l.receive.req.len) × ((k : ℕ) → k < length p.bytes → (zeroed l).part k ≡ get_or p.bytes k 0)

-- ---- loans

-- a range of its message that waits, and of which nothing is lent, is missing, so it may be filled
abbrev pub FreeIsMissing : Type 0
FreeIsMissing = (r : ReceiveView) (at len : ℕ) → IsMissing r at len → IsFree r.landed at len → AreMissing at len r.landed.missing

-- a loan changes nothing of the record
abbrev pub LendShows : Type 0
LendShows =
    (r : ReceiveView) (l : LiveReceive) (at len : ℕ) (part : Piece)
    → Shows r l → MayLend r.landed at len → IsPartOf r.landed at len part
    → Shows (record r { landed = with_lent r.landed at len part }) l

-- nor does one that is given back
abbrev pub UnlendShows : Type 0
UnlendShows =
    (r : ReceiveView) (l : LiveReceive) (at len : ℕ) (part : Piece)
    → IsReceive r → Shows r l → IsLent r.landed at len part → Shows (unlent r at len part) l

-- a part that comes back with the bytes of its range that fit shows that piece
abbrev pub LandShows : Type 0
LandShows =
    (r : ReceiveView) (l : LiveReceive) (at : ℕ) (bytes : List ℕ) (part : Piece)
    → IsReceive r → Shows r l → IsLent r.landed at (length bytes) part → part.bytes ≡ take (capacity r.landed - at) bytes
    → Shows (landed r at (length bytes) part) (with_piece (record { offset = at; bytes = bytes }) l)
