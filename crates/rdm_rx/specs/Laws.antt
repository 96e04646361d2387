-- What is known of the heads that packets carry, and of the grants of one receive, as statements.
use Rattle.std.specs.Prelude.{◌≡◌, ℕ, ◌+◌, ◌^◌, ◌<◌, ◌≤◌, Bool, IsTrue, List, [], ◌∷◌, sum_by, Option, Some, unwrap_or}
use Rattle.rdm_num.specs.declared.numbers.Connid.{Connid}
use Rattle.rdm_num.specs.declared.numbers.MsgNo.{MsgNo}
use Rattle.rdm_num.specs.declared.limits.EpLimits.{EpLimits}
use Rattle.rdm_hdr.specs.declared.Opt.{Opt}
use Rattle.rdm_pkt.specs.declared.Form.{Form}
use Rattle.rdm_pkt.specs.declared.Packet.{Packet}
use Rattle.rdm_pkt.specs.declared.Packet.TheVariants.{Rtm, Cts}
use Rattle.rdm_pkt.specs.Grammar.{packet_fits}
use Rattle.rdm_pkt.specs.Heads.{size_of, head_of}
use Rattle.rdm_model.specs.Grants.{first_part_in}
use Rattle.rdm_model.specs.Replies.{grant_for}
use Rattle.rdm_rx.specs.Asking.{HeadFits}
use Rattle.rdm_rx.specs.Owing.{IsOnlyPacket}
use Rattle.rdm_rx.specs.Receiving.{ReceivingView, window_if, granted_if}

-- the head of each packet that opens a message is one that packets carry
abbrev pub PacketHeadsFit : Type 0
PacketHeadsFit =
    (number : MsgNo) (tag : Option ℕ) (confirm : Bool) (opt : Opt) (form : Form)
    → IsTrue (packet_fits (Rtm number tag confirm opt form))
    → size_of form < 2 ^ 64
    → HeadFits (head_of tag confirm opt form)

-- the first part of a message that is granted is not longer than it
abbrev pub FirstPartsFit : Type 0
FirstPartsFit =
    (number : MsgNo) (tag : Option ℕ) (confirm : Bool) (opt : Opt) (form : Form)
    → IsTrue (packet_fits (Rtm number tag confirm opt form))
    → unwrap_or (first_part_in form) 0 ≤ (head_of tag confirm opt form).length

-- how many bytes a packet grants, if there is one that does
unfoldable pub size_granted : Option Packet → ℕ
size_granted (Some (Cts send recv size connid)) = size
size_granted _ = 0

-- a call that grants: whether all that was granted had landed, and the packet that it gave
pub record GrantCall : Type 0 where
  pub landed : Bool
  pub packet : Option Packet

-- calls one after another, from a first state to a last one
abbrev pub AreGrants : Connid → EpLimits → ReceivingView → List GrantCall → ReceivingView → Type 0
AreGrants own limits r [] last = last ≡ r
AreGrants own limits r (c ∷ cs) last =
    IsOnlyPacket own c.packet (λ life. grant_for life r.head.shape r.recv (window_if c.landed limits r))
    × AreGrants own limits (granted_if c.landed limits r) cs last

-- windows stand in a row: what the packets of any calls grant begins where the granted bytes end, and nothing else changes
abbrev pub WindowsFollow : Type 0
WindowsFollow =
    (own : Connid) (limits : EpLimits) (r : ReceivingView) (calls : List GrantCall) (last : ReceivingView)
    → AreGrants own limits r calls last
    → last ≡ record r { granted = r.granted + sum_by (λ (c : GrantCall). size_granted c.packet) calls }

-- no calls grant more than the message has
abbrev pub GrantsStayWithin : Type 0
GrantsStayWithin =
    (own : Connid) (limits : EpLimits) (r : ReceivingView) (calls : List GrantCall) (last : ReceivingView)
    → AreGrants own limits r calls last
    → r.granted ≤ r.head.length
    → last.granted ≤ r.head.length
