-- Each call of what holds early messages makes what a deed makes of the record.
use Rattle.std.specs.Prelude.{◌≡◌, ◌↔◌, ◌+◌, ◌≤◌, ℕ, false, nat_le, [], ◌∷◌, Option, Some, None, length, unwrap_or, is_some, IsSome}
use Rattle.std.specs.Option.{IsSomeAnd}
use Rattle.std.specs.FinMap as map
use Rattle.rdm_num.specs.Pieces.{Piece}
use Rattle.rdm_num.specs.declared.numbers.Life.{Life}
use Rattle.rdm_num.specs.declared.numbers.MsgNo.{MsgNo}
use Rattle.rdm_pkt.specs.declared.Form.{Form}
use Rattle.rdm_pkt.specs.Heads.{piece_of}
use Rattle.rdm_match.specs.Matcher.{Pair}
use Rattle.rdm_model.specs.Beginnings.{Own}
use Rattle.rdm_model.specs.Grants.{first_part_in}
use Rattle.rdm_window.specs.Message.{Message, opened, filled, Awaits, with_room, with_spent}
use Rattle.rdm_window.specs.Early.{Held, none_held, message_at, is_full, with_message, changed, without_message, without_life}
use Rattle.rdm_window.specs.declared.message.Opening.{Opening}
use Rattle.rdm_life.specs.Kept.{Kept, EarlyMessage, nothing_kept}
use Rattle.rdm_life.specs.Facts.{came_or_outside}
use Rattle.rdm_life.specs.Forgetting.{forget}
use Rattle.rdm_life.specs.Handling.{opened_by, with_more}
use Rattle.rdm_life.specs.Landing.{meet}
use Rattle.rdm_life.specs.Receiving.{hear, with_early}
use Rattle.rdm_held.specs.Held.{IsEarly, IsHeldIn}

-- Before any deed nothing is held.
abbrev pub NoneHeld : Type 0
NoneHeld = (own : Own) (size : ℕ) → IsHeldIn (none_held size) (nothing_kept own)

-- A message is the one that its packet opens, with the packet's piece or without one.
abbrev pub Opens : Type 0
Opens =
    (o : Opening) (form : Form)
    → o.first_part ≡ unwrap_or (first_part_in form) 0
    → piece_of form ≡ None
    → IsEarly (opened o) (opened_by o.head form)

-- the same with a piece
abbrev pub OpensWith : Type 0
OpensWith =
    (o : Opening) (form : Form) (p : Piece)
    → o.first_part ≡ unwrap_or (first_part_in form) 0
    → piece_of form ≡ Some p
    → p.offset + length p.bytes ≤ o.len
    → IsEarly (filled (opened o) p.offset p.bytes) (opened_by o.head form)

-- To hold a message is to hear of it.
abbrev pub Hears : Type 0
Hears =
    (h : Held) (v : Kept) (source : Life) (number : MsgNo) (m : Message) (e : EarlyMessage)
    → IsHeldIn h v
    → message_at h source number ≡ None
    → IsEarly m e
    → IsHeldIn (with_message h source number m) (hear source number.0 e v)

-- To add a piece that is awaited is to have more of the message, whether a reservation is spent or not.
abbrev pub Adds : Type 0
Adds =
    (h : Held) (v : Kept) (source : Life) (number : MsgNo) (p : Piece)
    → IsHeldIn h v
    → IsSomeAnd (message_at h source number) (Awaits p.offset (length p.bytes))
    → IsHeldIn (changed h source number (λ m. filled m p.offset p.bytes)) (with_early source number.0 (with_more (Some p)) v)

-- the same where a reservation is spent
abbrev pub AddsReserved : Type 0
AddsReserved =
    (h : Held) (v : Kept) (source : Life) (number : MsgNo) (p : Piece)
    → IsHeldIn h v
    → IsSomeAnd (message_at h source number) (Awaits p.offset (length p.bytes))
    → IsHeldIn (changed h source number (λ m. with_spent (filled m p.offset p.bytes))) (with_early source number.0 (with_more (Some p)) v)

-- The record knows of no reservation.
abbrev pub Reserves : Type 0
Reserves = (h : Held) (v : Kept) (source : Life) (number : MsgNo) → IsHeldIn h v → IsHeldIn (changed h source number with_room) v

-- To take a message that a receive was paired with is to have them meet.
abbrev pub Meets : Type 0
Meets =
    (h : Held) (v : Kept) (p : Pair)
    → IsHeldIn h v
    → IsSome (message_at h p.message.life p.message.no)
    → IsHeldIn (without_message h p.message.life p.message.no) (meet (p ∷ []) v)

-- To forget a life's messages is to forget the life.
abbrev pub Forgets : Type 0
Forgets = (h : Held) (v : Kept) (life : Life) → IsHeldIn h v → IsHeldIn (without_life h life) (forget (life ∷ []) v)

-- how many bytes the packets of a message bring that is held
abbrev pub size_of : Option Message → ℕ
size_of None = 0
size_of (Some m) = length m.bytes

-- A message awaits a range exactly where the record has the message, and none of the range's bytes came. A bound will do for
-- the message's size where the range lies within both or neither.
abbrev pub AwaitsAsKept : Type 0
AwaitsAsKept =
    (h : Held) (v : Kept) (source : Life) (number : MsgNo) (at len bound : ℕ)
    → IsHeldIn h v
    → (at + len ≤ bound) ↔ (at + len ≤ size_of (message_at h source number))
    → IsSomeAnd (message_at h source number) (Awaits at len) ↔ IsSomeAnd (v.early source number.0) (λ e. came_or_outside (λ place. is_some (e.came place)) bound at len ≡ false)

-- All places are taken exactly where the record says so.
abbrev pub FullAsKept : Type 0
FullAsKept = (h : Held) (v : Kept) → IsHeldIn h v → map.len h.messages ≤ h.size → is_full h ≡ nat_le h.size v.early_count
