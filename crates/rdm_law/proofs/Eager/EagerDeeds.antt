-- Deeds of eager lives: each port has one life alone, and what goes between them is messages in one packet each, and handshakes.
use Rattle.std.proofs.Common.{◌≡◌, ◌≤◌, ℕ, Bool, true, false, nat_le, List, [], ◌∷◌, is_some, Some, inl, inr, subst}
use Rattle.rdm_num.specs.declared.limits.EpLimits.{EpLimits}
use Rattle.rdm_num.specs.declared.numbers.Connid.{Connid}
use Rattle.rdm_num.specs.declared.numbers.Life.{Life}
use Rattle.rdm_num.specs.declared.request.SendReq.{SendReq}
use Rattle.rdm_pkt.specs.declared.Packet.{Packet}
use Rattle.rdm_pkt.specs.declared.Packet.TheVariants.{Rtm, Handshake}
use Rattle.rdm_pkt.specs.declared.Form.TheVariants.{Eager}
use Rattle.rdm_pkt.specs.Choice.{eager_room}
use Rattle.rdm_model.specs.declared.job.Instr.{Instr}
use Rattle.rdm_model.specs.declared.job.Instr.TheVariants.{OpenLife, Insert, Send}
use Rattle.rdm_model.specs.Jobs.{spans_length}
use Rattle.rdm_model.specs.Beginnings.{Own, with_pools}
use Rattle.rdm_model.specs.Deeds.{Deed, Did, PushedNote, Pushed, TookNote, Took, Polled, Nothing, Item, Spelled}
use Rattle.rdm_model.specs.Currents.{inserted_by, last_inserted, seen_by, first_seen, current}
use Rattle.rdm_model.specs.Heard.{is_heard}
use Rattle.rdm_lists.proofs.Options.{or_else_cases, then_some_parts}

-- the message has room in one packet, whatever its headers, and asks for no receipt
abbrev pub FitsOnePacket : EpLimits → SendReq → Type 0
FitsOnePacket limits req = (req.confirm ≡ false) × ((raw : Bool) → nat_le (spans_length req.parts) (eager_room (is_some req.tag) (is_some req.cq_data) raw limits) ≡ true)

-- a message in one packet that was not heard of and asks for no receipt, or a handshake
abbrev pub IsEagerItem : Own → List Deed → Life → Item → Type 0
IsEagerItem own before from (Spelled (Rtm number tag confirm opt (Eager bytes))) = (confirm ≡ false) × (own.limits.first ≤ number.0) × (is_heard before from number.0 ≡ false)
IsEagerItem own before from (Spelled (Handshake words connid raw)) = Unit {0}
IsEagerItem own before from _ = ⊥

-- a message of a life in one packet that asks for no receipt, or a handshake
abbrev pub IsEagerPacket : (first : ℕ) → Packet → Type 0
IsEagerPacket first (Rtm number tag confirm opt (Eager bytes)) = (confirm ≡ false) × (first ≤ number.0)
IsEagerPacket first (Handshake words connid raw) = Unit {0}
IsEagerPacket first _ = ⊥

-- so of what a datagram is read as
abbrev pub IsEagerLoad : (first : ℕ) → Item → Type 0
IsEagerLoad first (Spelled p) = IsEagerPacket first p
IsEagerLoad first _ = ⊥

-- the life is the one that its port opens
abbrev pub IsTheLife : (lives : ℕ → Connid) → Life → Type 0
IsTheLife lives l = l.connid ≡ lives l.port.0

-- an instruction of a program opens the one life of its port, and sends what has room in one packet
abbrev pub IsEagerOp : EpLimits → Connid → Instr → Type 0
IsEagerOp limits connid (OpenLife c) = c ≡ connid
IsEagerOp limits connid (Send req) = FitsOnePacket limits req
IsEagerOp limits connid _ = Unit {0}

-- an instruction that did names the one life of a port, and sends what has room in one packet
abbrev pub IsEagerDid : EpLimits → (lives : ℕ → Connid) → Instr → Type 0
IsEagerDid limits lives (Insert life) = IsTheLife lives life
IsEagerDid limits lives (Send req) = FitsOnePacket limits req
IsEagerDid limits lives _ = Unit {0}

-- a deed has to do with the one life of a port, by eager instructions and packets
abbrev pub IsEagerDeed : EpLimits → (lives : ℕ → Connid) → Deed → Type 0
IsEagerDeed limits lives (Did instr) = IsEagerDid limits lives instr
IsEagerDeed limits lives (Took from item) = IsTheLife lives from × IsEagerLoad limits.first item
IsEagerDeed limits lives PushedNote = Unit {0}
IsEagerDeed limits lives Pushed = Unit {0}
IsEagerDeed limits lives (TookNote from note) = Unit {0}
IsEagerDeed limits lives Polled = Unit {0}
IsEagerDeed limits lives Nothing = Unit {0}

-- all deeds of a life have
abbrev pub AreEagerDeeds : EpLimits → (lives : ℕ → Connid) → List Deed → Type 0
AreEagerDeeds limits lives [] = Unit {0}
AreEagerDeeds limits lives (d ∷ before) = AreEagerDeeds limits lives before × IsEagerDeed limits lives d

-- an instruction is eager by limits with other pools, since pools are nothing to a packet
did_with_pools : (limits pools : EpLimits) (lives : ℕ → Connid) (instr : Instr) → IsEagerDid limits lives instr → IsEagerDid (with_pools limits pools) lives instr
unfolding eager_room
did_with_pools limits pools lives (Insert life) h = h
did_with_pools limits pools lives (Send req) h = h
did_with_pools limits pools lives _ h = tt

-- so is a deed
deed_with_pools : (limits pools : EpLimits) (lives : ℕ → Connid) (d : Deed) → IsEagerDeed limits lives d → IsEagerDeed (with_pools limits pools) lives d
deed_with_pools limits pools lives (Did instr) h = did_with_pools limits pools lives instr h
deed_with_pools limits pools lives (Took from item) h = h
deed_with_pools limits pools lives _ h = tt

-- so are all deeds
pub deeds_with_pools : (limits pools : EpLimits) (lives : ℕ → Connid) (log : List Deed) → AreEagerDeeds limits lives log → AreEagerDeeds (with_pools limits pools) lives log
deeds_with_pools limits pools lives [] h = tt
deeds_with_pools limits pools lives (d ∷ before) h = (deeds_with_pools limits pools lives before h.0, deed_with_pools limits pools lives d h.1)

-- what a deed inserts is the one life of its port
inserted_the : (limits : EpLimits) (lives : ℕ → Connid) (port : ℕ) (d : Deed) (l : Life) → IsEagerDeed limits lives d → inserted_by port d ≡ Some l → IsTheLife lives l
unfolding inserted_by
inserted_the limits lives port (Did (Insert life)) l h is = subst (IsTheLife lives) (then_some_parts _ life l is).1 h
inserted_the limits lives port _ l h is = cc

-- so is what a deed takes from
seen_the : (limits : EpLimits) (lives : ℕ → Connid) (port : ℕ) (d : Deed) (l : Life) → IsEagerDeed limits lives d → seen_by port d ≡ Some l → IsTheLife lives l
unfolding seen_by
seen_the limits lives port (Took from item) l h is = subst (IsTheLife lives) (then_some_parts _ from l is).1 h.0
seen_the limits lives port _ l h is = cc

-- so is what was inserted last
last_inserted_the : (limits : EpLimits) (lives : ℕ → Connid) (port : ℕ) (log : List Deed) (l : Life) → AreEagerDeeds limits lives log
    → last_inserted log port ≡ Some l → IsTheLife lives l
unfolding last_inserted
last_inserted_the limits lives port [] l h is = cc
last_inserted_the limits lives port (d ∷ before) l h is =
    elim (or_else_cases (inserted_by port d) (last_inserted before port) l is) [
      | inl a ↦ inserted_the limits lives port d l h.1 a
      | inr a ↦ last_inserted_the limits lives port before l h.0 a.1
    ]

-- so is what was taken from first
first_seen_the : (limits : EpLimits) (lives : ℕ → Connid) (port : ℕ) (log : List Deed) (l : Life) → AreEagerDeeds limits lives log
    → first_seen log port ≡ Some l → IsTheLife lives l
unfolding first_seen
first_seen_the limits lives port [] l h is = cc
first_seen_the limits lives port (d ∷ before) l h is =
    elim (or_else_cases (first_seen before port) (seen_by port d) l is) [
      | inl a ↦ first_seen_the limits lives port before l h.0 a
      | inr a ↦ seen_the limits lives port d l h.1 a.1
    ]

-- so is the current life of any port
pub current_the : (limits : EpLimits) (lives : ℕ → Connid) (port : ℕ) (log : List Deed) (l : Life) → AreEagerDeeds limits lives log
    → current log port ≡ Some l → IsTheLife lives l
unfolding current
current_the limits lives port log l h is =
    elim (or_else_cases (last_inserted log port) (first_seen log port) l is) [
      | inl a ↦ last_inserted_the limits lives port log l h a
      | inr a ↦ first_seen_the limits lives port log l h a.1
    ]
