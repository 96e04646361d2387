-- What a send begins as.
use Rattle.std.specs.Prelude.{ℕ, min, List, [], ◌∷◌, Option, Some, None, is_some}
use Rattle.rdm_num.specs.declared.limits.EpLimits.{EpLimits}
use Rattle.rdm_num.specs.declared.lists.IovEntry.{IovEntry}
use Rattle.rdm_num.specs.declared.parts.Span.{Span as Range}
use Rattle.rdm_num.specs.declared.request.SendReq.{SendReq}
use Rattle.rdm_pkt.specs.declared.Kind.{Kind}
use Rattle.rdm_pkt.specs.declared.Kind.TheVariants.{LongCts, LongRead, Runt}
use Rattle.rdm_pkt.specs.declared.Packet.TheVariants.{Rtm}
use Rattle.rdm_pkt.specs.declared.Form.TheVariants as F
use Rattle.rdm_pkt.specs.Choice.{choose}
use Rattle.rdm_pkt.specs.Openings.{room_in}
use Rattle.rdm_model.specs.Sends.{opt_for, wants_raw, read_list}
use Rattle.rdm_tx.specs.Asks.{all_unasked}
use Rattle.rdm_tx.specs.Granting.{ungranted}
use Rattle.rdm_tx.specs.declared.spans.Span.{Span}
use Rattle.rdm_tx.specs.declared.message.Message.{Message}
use Rattle.rdm_sends.specs.declared.begin.Own.{Own}
use Rattle.rdm_sends.specs.declared.begin.Place.{Place}
use Rattle.rdm_sends.specs.declared.protocol.Protocol.{Protocol}
use Rattle.rdm_sends.specs.declared.protocol.Protocol.TheVariants.{Whole, Granted, Read}
use Rattle.rdm_sends.specs.Sending.{SendingView, range_bytes}

-- a list that has a range, where an empty range stands for none
unfoldable pub some_range : List IovEntry → List IovEntry
some_range [] = record { offset = 0; length = 0; key = 0 } ∷ []
some_range (e ∷ es) = e ∷ es

-- the read list that is kept of ranges; one without a byte is in no packet
abbrev pub kept_list : List Range → List IovEntry
kept_list parts = some_range (read_list parts)

-- what the packets of a new send say, by what is known of the life that it goes to
abbrev pub new_message : Own → Place → SendReq → (total : ℕ) → Message
new_message own place req total =
    record {
      no = place.no;
      tag = req.tag;
      confirm = req.confirm;
      opt = opt_for own.life (wants_raw place.known) req.cq_data;
      send_id = place.number;
      iov = kept_list req.parts;
      kind = choose total (is_some req.tag) (is_some req.cq_data) (wants_raw place.known) own.features place.known own.limits;
    }

-- how many bytes open a message that is granted: as many as have room beside the headers
abbrev pub first_part : EpLimits → Message → (total : ℕ) → ℕ
first_part limits m total = min total (room_in limits (Rtm m.no m.tag m.confirm m.opt (F.LongCts total m.send_id limits.credits [])))

-- how many bytes a packet has, and none where there is no packet
unfoldable pub span_length : Option Span → ℕ
span_length None = 0
span_length (Some s) = s.length

-- before anything came for a message of that kind
unfoldable pub protocol_of : EpLimits → Message → (total : ℕ) → Kind → Protocol
protocol_of limits m total LongCts = Granted (ungranted total (first_part limits m total))
protocol_of limits m total LongRead = Read (all_unasked 0 total m.iov)
protocol_of limits m total (Runt runt) = Read (all_unasked runt total m.iov)
protocol_of limits m total _ = Whole

-- a send of which nothing was pushed, and for which nothing came
abbrev pub new_sending : Own → Place → SendReq → SendingView
new_sending own place req =
    let total : ℕ = range_bytes req.parts in
    let m : Message = new_message own place req total in
    record { to = place.to; message = m; parts = req.parts; total = total; given = 0; protocol = protocol_of own.limits m total m.kind }
