-- The deeds that the built calls of an endpoint reach: messages in one packet each, no life forgotten, none closed, and
-- receives cancelled while they wait.
use Rattle.std.specs.Prelude.{◌≡◌, ◌≤◌, Bool, true, false, nat_le, List, [], ◌∷◌, is_some, find}
use Rattle.rdm_match.specs.Matcher.{is_recv}
use Rattle.rdm_num.specs.declared.numbers.Life.{Life}
use Rattle.rdm_hdr.specs.Fields.{has_bit}
use Rattle.rdm_pkt.specs.declared.Packet.TheVariants.{Rtm, Handshake}
use Rattle.rdm_pkt.specs.declared.Form.TheVariants.{Eager}
use Rattle.rdm_pkt.specs.Choice.{eager_room}
use Rattle.rdm_num.specs.declared.request.SendReq.{SendReq}
use Rattle.rdm_model.specs.declared.job.Instr.{Instr}
use Rattle.rdm_model.specs.declared.job.Instr.TheVariants.{OpenLife, Insert, Send, Cancel, CloseLife}
use Rattle.rdm_model.specs.Beginnings.{Own}
use Rattle.rdm_model.specs.Jobs.{spans_length}
use Rattle.rdm_model.specs.Deeds.{Deed, Did, Took, Item, Spelled}
use Rattle.rdm_model.specs.Currents.{forgotten_by}
use Rattle.rdm_model.specs.Heard.{is_heard}
use Rattle.rdm_model.specs.Matches.{matching}
use Rattle.rdm_model.specs.Replies.{confirm_feature}
use Rattle.rdm_model.specs.Local.{heads_by}

-- the message has room in one packet, whatever its headers, and asks for no receipt
abbrev pub FitsOnePacket : Own → SendReq → Type 0
FitsOnePacket own req = (req.confirm ≡ false) × ((raw : Bool) → nat_le (spans_length req.parts) (eager_room (is_some req.tag) (is_some req.cq_data) raw own.limits) ≡ true)

-- an instruction that is built: a life that can confirm greets at an insert, which is not
abbrev pub IsEagerInstr : Own → List Deed → Instr → Type 0
IsEagerInstr own before (OpenLife connid) = ⊥
IsEagerInstr own before (Insert life) = (forgotten_by before (Did (Insert life)) ≡ []) × (has_bit confirm_feature own.features ≡ false)
IsEagerInstr own before (Send req) = FitsOnePacket own req
IsEagerInstr own before (Cancel recv) = is_some (find (is_recv recv.0) (matching own.limits.first (heads_by before) before).posted) ≡ true
IsEagerInstr own before CloseLife = ⊥
IsEagerInstr own before _ = Unit {0}

-- a message in one packet that was not heard of and asks for no receipt, or a handshake
abbrev pub IsEagerItem : Own → List Deed → Life → Item → Type 0
IsEagerItem own before from (Spelled (Rtm number tag confirm opt (Eager bytes))) = (confirm ≡ false) × (own.limits.first ≤ number.0) × (is_heard before from number.0 ≡ false)
IsEagerItem own before from (Spelled (Handshake words connid raw)) = Unit {0}
IsEagerItem own before from _ = ⊥

-- a deed that is built
abbrev pub IsEagerDeed : Own → List Deed → Deed → Type 0
IsEagerDeed own before (Did instr) = IsEagerInstr own before instr
IsEagerDeed own before (Took from item) = IsEagerItem own before from item
IsEagerDeed own before _ = Unit {0}

-- all deeds of a life are built
abbrev pub IsEager : Own → List Deed → Type 0
IsEager own [] = Unit {0}
IsEager own (d ∷ before) = IsEager own before × IsEagerDeed own before d
