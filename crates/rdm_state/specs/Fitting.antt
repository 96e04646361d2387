-- The heads of messages are heads that packets carry.
use Rattle.std.specs.Prelude.{◌≡◌, ℕ, Some}
use Rattle.rdm_lists.specs.Lists.{Member}
use Rattle.rdm_num.specs.declared.numbers.Life.{Life}
use Rattle.rdm_pkt.specs.declared.Packet.TheVariants.{Rtm}
use Rattle.rdm_pkt.specs.Heads.{head_of}
use Rattle.rdm_rx.specs.Asking.{HeadFits}
use Rattle.rdm_model.specs.Beginnings.{Own}
use Rattle.rdm_model.specs.Deeds.{Deed, Took, Spelled}
use Rattle.rdm_life.specs.Handling.{after}
use Rattle.rdm_life.specs.Kept.{Kept, EarlyMessage, LiveReceive, Matched, nothing_kept}
use Rattle.rdm_sound.specs.Orders.{IsAllowed}
use Rattle.rdm_sound.specs.Premises.{IsOrderly}

-- those of early messages, and of messages that live receives take
pub record HaveHeads (v : Kept) : Type 0 where
  pub early : (life : Life) (number : ℕ) (e : EarlyMessage) → v.early life number ≡ Some e → HeadFits e.head
  pub taken : (r : LiveReceive) (m : Matched) → Member r v.receives → r.matched ≡ Some m → HeadFits m.head

-- a packet that opens a message carries such a head
abbrev pub OpensFitting : Deed → Type 0
OpensFitting (Took from (Spelled (Rtm number tag confirm opt form))) = HeadFits (head_of tag confirm opt form)
OpensFitting _ = Unit {0}

-- So it is before any deed,
abbrev pub BeginsFitting : Type 0
BeginsFitting = (own : Own) → HaveHeads (nothing_kept own)

-- and it stays so by each deed that may be done.
abbrev pub StaysFitting : Type 0
StaysFitting = (d : Deed) (v : Kept) → IsOrderly v → HaveHeads v → IsAllowed v d → OpensFitting d → HaveHeads (after d v)
