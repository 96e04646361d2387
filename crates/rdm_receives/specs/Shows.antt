-- That a receive shows a live receive of what an endpoint keeps.
use Rattle.std.specs.Prelude.{◌≡◌, ℕ, ◌<◌, Bool, true, false, if◌then◌else◌, List, length, get_or, Option, Some, None, slice_get}
use Rattle.rdm_num.specs.declared.head.Head.{Head}
use Rattle.rdm_land.specs.Landed.{Landed}
use Rattle.rdm_land.specs.Arrivals.{waits, has_come}
use Rattle.rdm_rx.specs.Receiving.{ReceivingView}
use Rattle.rdm_life.specs.Kept.{LiveReceive, Matched, EarlyMessage}
use Rattle.rdm_receives.specs.View.{ReceiveView}

-- its message and what is granted of it agree, and the places that came are those that have come
pub record ShowsMessage (l : Landed) (r : ReceivingView) (m : Matched) : Type 0 where
  pub source : r.source ≡ m.source
  pub number : r.number.0 ≡ m.number
  pub head : r.head ≡ m.head
  pub granted : r.granted ≡ m.granted
  pub came : (k : ℕ) → m.came k ≡ has_come l k

-- both have a message, and it agrees, or none has
abbrev pub ShowMatch : Landed → Option ReceivingView → Option Matched → Type 0
ShowMatch l None None = Unit {0}
ShowMatch l None (Some m) = ⊥
ShowMatch l (Some r) None = ⊥
ShowMatch l (Some r) (Some m) = ShowsMessage l r m

-- what it asks for and its message agree, and each place that waits for no byte is at home with the byte that stands there
pub record Shows (r : ReceiveView) (l : LiveReceive) : Type 0 where
  pub number : r.number.0 ≡ l.receive.number
  pub req : r.req ≡ l.receive.req
  pub named : r.named ≡ l.receive.posted.from
  pub cells : (k : ℕ) → k < r.req.len → waits r.landed k ≡ false → get_or r.landed.tiles.cells k None ≡ Some (l.part k)
  pub matched : ShowMatch r.landed r.message l.matched

-- the byte at a place that came of a message
abbrev pub byte_came : (missing : List Bool) → (bytes : List ℕ) → ℕ → Option ℕ
byte_came missing bytes k = if get_or missing k true then None else slice_get bytes k

-- an early message is of this head, and all but the missing places came with these bytes
pub record IsEarly (head : Head) (missing : List Bool) (bytes : List ℕ) (first_part : ℕ) (e : EarlyMessage) : Type 0 where
  pub head_is : head ≡ e.head
  pub came : (k : ℕ) → e.came k ≡ byte_came missing bytes k
  pub first_is : first_part ≡ e.first_part
