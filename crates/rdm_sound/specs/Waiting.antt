-- Receives that wait for a message are live, and have none.
use Rattle.std.specs.Prelude.{◌≡◌, ℕ, Bool, false, List, Some, None, find}
use Rattle.rdm_lists.specs.Lists.{Member}
use Rattle.rdm_num.specs.Pieces.{Piece}
use Rattle.rdm_num.specs.declared.numbers.Connid.{Connid}
use Rattle.rdm_num.specs.declared.numbers.Life.{Life}
use Rattle.rdm_num.specs.declared.request.RecvReq.{RecvReq}
use Rattle.rdm_match.specs.declared.PostedRecv.{PostedRecv}
use Rattle.rdm_match.specs.declared.Arrived.{Arrived}
use Rattle.rdm_match.specs.Matcher.{accepts}
use Rattle.rdm_model.specs.declared.job.Job.{Job}
use Rattle.rdm_model.specs.declared.entry.Entry.{Entry}
use Rattle.rdm_model.specs.Beginnings.{Own, own_of, life_at}
use Rattle.rdm_model.specs.Deeds.{Deed, of_life}
use Rattle.rdm_model.specs.Local.{Local}
use Rattle.rdm_model.specs.Scenes.{deeds_at}
use Rattle.rdm_life.specs.Facts.{meets_receive_in}
use Rattle.rdm_life.specs.Forgetting.{forget}
use Rattle.rdm_life.specs.Handling.{kept, after}
use Rattle.rdm_life.specs.Kept.{Kept, LiveReceive, nothing_kept, receive_numbered}
use Rattle.rdm_life.specs.Receiving.{receive_in, with_live, after_cancel}
use Rattle.rdm_sound.specs.Premises.{IsOrderly}
use Rattle.rdm_sound.specs.Orders.{IsAllowed}
use Rattle.rdm_sound.specs.Steps.{settle_one, land_one, post_one, enter_one}

-- a receive is live as it was posted, and has no message
pub record Waits (rs : List LiveReceive) (p : PostedRecv) : Type 0 where
  pub receive : LiveReceive
  pub live : Member receive rs
  pub posted : receive.receive.posted ≡ p
  pub unmatched : receive.matched ≡ None

-- each that waits is live without a message, and what is live was posted under its number
pub record AreWaiting (v : Kept) : Type 0 where
  pub waits : (p : PostedRecv) → Member p v.posted → Waits v.receives p
  pub numbers : (r : LiveReceive) → Member r v.receives → r.receive.posted.id.0 ≡ r.receive.number

-- So it is before any deed.
abbrev pub BeginsWaiting : Type 0
BeginsWaiting = (own : Own) → AreWaiting (nothing_kept own)

-- It stays so by each deed that may be done.
abbrev pub StaysWaiting : Type 0
StaysWaiting = (d : Deed) (v : Kept) → IsOrderly v → AreWaiting v → IsAllowed v d → AreWaiting (after d v)

-- It stays so by each step of which deeds are made.
pub record StepsStayWaiting (v : Kept) : Type 0 where
  pub settles : (is_new : Bool) (number : ℕ) → AreWaiting (settle_one is_new number v)
  pub lands : (number : ℕ) (p : Piece) → AreWaiting (land_one number p v)
  pub receives : (req : RecvReq) → meets_receive_in v req.region.0 req.at req.len ≡ false → AreWaiting (post_one (receive_in v req).posted (with_live (receive_in v req) v))
  pub cancels : (number : ℕ) → AreWaiting (after_cancel number v)
  pub enters : (source : Life) → AreWaiting (enter_one source v)
  pub forgets : (lives : List Life) → AreWaiting (forget lives v)

-- By each of them, where the record is orderly.
abbrev pub StaysWaitingInSteps : Type 0
StaysWaitingInSteps = (v : Kept) → IsOrderly v → AreWaiting v → StepsStayWaiting v

-- So it is of what is kept of the deeds of a life.
abbrev pub KeptIsWaiting : Type 0
KeptIsWaiting =
    (job : Job) (port : ℕ) (connid : Connid) (log : List Entry)
    → Local job port log
    → AreWaiting (kept (own_of job (life_at port (Some connid))) (of_life connid (deeds_at job port log)))

-- the live receive of a number is there, as it was posted, and has no message
pub record IsFree (v : Kept) (p : PostedRecv) : Type 0 where
  pub receive : LiveReceive
  pub found : receive_numbered v p.id.0 ≡ Some receive
  pub posted : receive.receive.posted ≡ p
  pub unmatched : receive.matched ≡ None

-- So the receive that accepts a message is live under its number, and may take it.
abbrev pub AcceptsFree : Type 0
AcceptsFree = (a : Arrived) (p : PostedRecv) (v : Kept) → IsOrderly v → AreWaiting v → find (λ q. accepts q a) v.posted ≡ Some p → IsFree v p
