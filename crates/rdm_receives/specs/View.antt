-- What a clause sees of a receive, and what its calls leave.
use Rattle.std.specs.Prelude.{◌≡◌, ℕ, List, [], length, Option, Some, None}
use Rattle.rdm_num.specs.declared.numbers.Life.{Life}
use Rattle.rdm_num.specs.declared.numbers.MsgNo.{MsgNo}
use Rattle.rdm_num.specs.declared.numbers.OpId.{OpId}
use Rattle.rdm_num.specs.declared.head.Head.{Head}
use Rattle.rdm_num.specs.declared.request.RecvReq.{RecvReq}
use Rattle.rdm_gaps.specs.Places.{Missing}
use Rattle.rdm_mr.specs.Part.{Piece}
use Rattle.rdm_land.specs.declared.landing.Placed.TheVariants.{Placed}
use Rattle.rdm_land.specs.Landed as Landed
use Rattle.rdm_land.specs.Landed.{Landed as Landing, awaiting, capacity, after_fill}
use Rattle.rdm_land.specs.Inside.{Agrees}
use Rattle.rdm_land.specs.Arrivals.{arrived}
use Rattle.rdm_rx.specs.Asking.{HeadFits}
use Rattle.rdm_rx.specs.Receiving.{ReceivingView}

-- its number, the life that it names, what it asks for, what landed in its range, and its message once it was matched
pub record ReceiveView : Type 0 where
  pub number : OpId
  pub named : Option Life
  pub req : RecvReq
  pub landed : Landing
  pub message : Option ReceivingView

-- what lands is the message that it was matched to, or nothing
abbrev pub IsOfMessage : OpId → Landing → Option ReceivingView → Type 0
IsOfMessage number l None = (l.missing ≡ []) × (l.lent ≡ [])
IsOfMessage number l (Some m) = (m.recv ≡ number) × (length l.missing ≡ m.head.length)

-- what is true of each receive
pub record IsReceive (r : ReceiveView) : Type 0 where
  pub places : capacity r.landed ≡ r.req.len
  pub message : IsOfMessage r.number r.landed r.message
  pub agrees : Agrees r.landed.missing r.landed.tiles.cells r.landed.lent

-- a receive that waits for its message
abbrev pub posted : OpId → (named : Option Life) → RecvReq → Piece → ReceiveView
posted number named req part = record { number = number; named = named; req = req; landed = awaiting part 0; message = None }

-- it was matched to a message, of which all but the missing places came before, with these bytes
abbrev pub met : ReceiveView → (source : Life) → MsgNo → Head → Missing → List ℕ → (first_part : ℕ) → ReceiveView
met r source number head gaps bytes first_part =
    record r {
      landed = arrived r.landed gaps bytes;
      message = Some (record { source = source; number = number; recv = r.number; head = head; granted = first_part });
    }

-- there is room to fill a range
abbrev pub with_room : ReceiveView → ReceiveView
with_room r = record r { landed = Landed.with_room r.landed 1 }

-- bytes of its message came, for which there was room
abbrev pub filled : ReceiveView → ℕ → List ℕ → ReceiveView
filled r at bytes = record r { landed = after_fill r.landed at bytes Placed }
