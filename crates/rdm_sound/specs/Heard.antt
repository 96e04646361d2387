-- What was heard of and did not enter is early, and so is what entered and waits for a receive.
use Rattle.std.specs.Prelude.{◌≡◌, ◌<◌, ◌≤◌, ℕ, ◌+◌, Bool, true, false, List, map, filter, length, Option, Some, is_some}
use Rattle.rdm_lists.specs.Lists.{Member}
use Rattle.rdm_num.specs.Lives.{same_life}
use Rattle.rdm_num.specs.Pieces.{Piece}
use Rattle.rdm_num.specs.declared.numbers.Life.{Life}
use Rattle.rdm_num.specs.declared.numbers.Connid.{Connid}
use Rattle.rdm_num.specs.declared.request.RecvReq.{RecvReq}
use Rattle.rdm_match.specs.declared.PostedRecv.{PostedRecv}
use Rattle.rdm_match.specs.declared.Arrived.{Arrived}
use Rattle.rdm_model.specs.declared.job.Job.{Job}
use Rattle.rdm_model.specs.declared.entry.Entry.{Entry}
use Rattle.rdm_model.specs.Beginnings.{Own, own_of, life_at}
use Rattle.rdm_model.specs.Completions.{Name}
use Rattle.rdm_model.specs.Deeds.{Deed, of_life}
use Rattle.rdm_model.specs.Local.{Local}
use Rattle.rdm_model.specs.Scenes.{deeds_at}
use Rattle.rdm_life.specs.Handling.{kept, after}
use Rattle.rdm_life.specs.Kept.{Kept, EarlyMessage, LiveSend, LiveReceive, nothing_kept}
use Rattle.rdm_life.specs.Receiving.{receive_in, with_live, entering_in, enter, hear}
use Rattle.rdm_sound.specs.Premises.{AreOnce, IsOrderly}
use Rattle.rdm_sound.specs.Steps.{times, settle_one, land_one, post_one, enter_one}
use Rattle.rdm_sound.specs.Forgets.{lose_receive, lose_send, lose_life}
use Rattle.rdm_sound.specs.Orders.{IsAllowed}

-- a message by its life and number
abbrev pub named : Life → ℕ → Name
named life number = record { life = life; number = number }

-- the messages that wait for a receive
abbrev pub arrived_names : List Arrived → List Name
arrived_names as' = map (λ (a : Arrived). named a.life a.no.0) as'

-- the early messages are these, each once, and they are counted, also by their lives
pub record EarlyAre (v : Kept) (names : List Name) : Type 0 where
  pub once : AreOnce names
  pub early : (m : Name) → Member m names → is_some (v.early m.life m.number) ≡ true
  pub all : (life : Life) (number : ℕ) → is_some (v.early life number) ≡ true → Member (named life number) names
  pub count : v.early_count ≡ length names
  pub counts : (life : Life) → v.early_of life ≡ length (filter (λ (m : Name). same_life m.life life) names)

-- what is early was heard of; each message that was heard of and did not enter is early; and those that wait for a receive have
-- entered, are early, and wait once
pub record IsHeardEarly (v : Kept) : Type 0 where
  pub names : List Name
  pub are : EarlyAre v names
  pub heard : (life : Life) (number : ℕ) → is_some (v.early life number) ≡ true → (v.peers life).heard number ≡ true
  pub waits : (life : Life) (number : ℕ) → (v.peers life).heard number ≡ true → (v.peers life).next ≤ number → is_some (v.early life number) ≡ true
  pub arrived_once : AreOnce (arrived_names v.arrived)
  pub arrived_before : (a : Arrived) → Member a v.arrived → a.no.0 < (v.peers a.life).next
  pub arrived_early : (a : Arrived) → Member a v.arrived → is_some (v.early a.life a.no.0) ≡ true

-- So it is before any deed.
abbrev pub BeginsHeard : Type 0
BeginsHeard = (own : Own) → IsHeardEarly (nothing_kept own)

-- It stays so by each deed that may be done.
abbrev pub StaysHeard : Type 0
StaysHeard = (d : Deed) (v : Kept) → IsOrderly v → IsHeardEarly v → IsAllowed v d → IsHeardEarly (after d v)

-- the next message of a life was heard of
abbrev pub is_next_heard : Life → Kept → Bool
is_next_heard source v = (v.peers source).heard (v.peers source).next

-- It stays so by each step: a message is heard of that was not, and one enters that was.
pub record StepsStayHeard (v : Kept) : Type 0 where
  pub settles : (is_new : Bool) (number : ℕ) → IsHeardEarly (settle_one is_new number v)
  pub lands : (number : ℕ) (p : Piece) → IsHeardEarly (land_one number p v)
  pub accepts : (req : RecvReq) → IsHeardEarly (with_live (receive_in v req) v)
  pub posts : (r : PostedRecv) → IsHeardEarly (post_one r v)
  pub hears : (source : Life) (number : ℕ) (e : EarlyMessage) → (v.peers source).heard number ≡ false → IsHeardEarly (hear source number e v)
  pub enters : (source : Life) → is_next_heard source v ≡ true → IsHeardEarly (enter_one source v)
  pub loses_receives : (r : Option LiveReceive) → IsHeardEarly (lose_receive r v)
  pub loses_sends : (s : Option LiveSend) → IsHeardEarly (lose_send s v)
  pub loses : (life : Life) → IsHeardEarly (lose_life life v)

-- By each of them, where it was so.
abbrev pub StaysHeardInSteps : Type 0
StaysHeardInSteps = (v : Kept) → IsHeardEarly v → StepsStayHeard v

-- So it is of what is kept of the deeds of a life.
abbrev pub KeptIsHeard : Type 0
KeptIsHeard =
    (job : Job) (port : ℕ) (connid : Connid) (log : List Entry)
    → Local job port log
    → IsHeardEarly (kept (own_of job (life_at port (Some connid))) (of_life connid (deeds_at job port log)))

-- A message that enters next is early, where it was heard of.
abbrev pub EntersEarly : Type 0
EntersEarly = (source : Life) (v : Kept) → IsHeardEarly v → is_next_heard source v ≡ true → (e : EarlyMessage) × (v.early source (v.peers source).next ≡ Some e)

-- Messages of a life enter one after another while the next was heard of,
abbrev pub EntersWhile : Type 0
EntersWhile = (source : Life) (v : Kept) (n : ℕ) → n < entering_in v source → is_next_heard source (times n (enter_one source) v) ≡ true

-- and then it was not.
abbrev pub EntersUntil : Type 0
EntersUntil = (source : Life) (v : Kept) → IsHeardEarly v → is_next_heard source (times (entering_in v source) (enter_one source) v) ≡ false

-- Where the next message of a life was heard of, it enters before the others, which are then one fewer;
abbrev pub EntersNext : Type 0
EntersNext =
    (source : Life) (v : Kept) → IsOrderly v → IsHeardEarly v → is_next_heard source v ≡ true
    → (enter source v ≡ enter source (enter_one source v)) × (entering_in v source ≡ entering_in (enter_one source v) source + 1)

-- where it was not, none enters.
abbrev pub EntersNone : Type 0
EntersNone = (source : Life) (v : Kept) → IsOrderly v → is_next_heard source v ≡ false → enter source v ≡ v
