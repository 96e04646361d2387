-- What a handle of a port does, after it fetched.
use Rattle.std.specs.Prelude.{◌≡◌, ◌⊎◌, ◌<◌, ◌≤◌, ℕ, Bool, true, false, [], ◌%◌, max, if◌then◌else◌, List, length, remove, Option, Some, None, slice_get}
use Rattle.rdm_wire.specs.declared.Datagram.{Datagram}
use Rattle.rdm_wire.specs.Flights.{InFlight, Fetches, Moves, IsEmptyAt}
use Rattle.rdm_model.specs.declared.job.Job.{Job}
use Rattle.rdm_model.specs.declared.entry.Act.TheVariants as Act
use Rattle.rdm_model.specs.declared.answer.Handled.{Handled}
use Rattle.rdm_model.specs.declared.answer.Handled.TheVariants.{Took, Dropped, AgainEarly, Empty, Worn, Memory}
use Rattle.rdm_model.specs.Classes.{class_of}
use Rattle.rdm_model.specs.Takes.{handled_answer, is_again_early}
use Rattle.rdm_model.specs.Settled.{is_worn_by}
use Rattle.rdm_port.specs.Views.{PortView, IsPortOf, scene_at, logged, stashed}
use Rattle.rdm_port.specs.Built.{IsBuiltDatagram}

-- the answer to the datagram that is looked at, want of memory aside
unfoldable pub answer_to : Job → PortView → Option Datagram → Handled
answer_to job v None = Empty
answer_to job v (Some d) =
    if is_again_early class_of (scene_at job v) d
    then AgainEarly
    else (if is_worn_by job v.log d then Worn else handled_answer class_of (scene_at job v) d)

-- such an answer is an entry
unfoldable pub is_handling : Handled → Bool
is_handling (Took entered) = true
is_handling (Dropped class') = true
is_handling _ = false

-- the place in the stash that a pick names
abbrev pub place_of : PortView → ℕ → ℕ
place_of v pick = pick % max 1 (length v.stash)

-- the port after an answer to the datagram at a place, which leaves the stash where the answer is an entry
unfoldable pub after_answer : Job → PortView → ℕ → Option Datagram → Handled → PortView
after_answer job v place None answer = v
after_answer job v place (Some d) answer =
    if is_handling answer then record (logged job v (Act.Handle d answer)) { stash = remove v.stash place } else v

-- the datagram at the place that a pick names
abbrev pub picked : PortView → ℕ → Option Datagram
picked v pick = slice_get v.stash (place_of v pick)

-- the answer is that to the datagram at the pick, or memory was wanted; the port is as the answer says
pub record Answers (old new : PortView) (pick : ℕ) (answer : Handled) : Type 0 where
  pub exact : (job : Job) → IsPortOf job old → ((d : Datagram) → picked old pick ≡ Some d → IsBuiltDatagram job old d)
      → (answer ≡ Memory) ⊎ (answer ≡ answer_to job old (picked old pick))
  pub after : (job : Job) → IsPortOf job old → new ≡ after_answer job old (place_of old pick) (picked old pick) answer

-- the first datagrams of the port went into its stash, as many as the inbox holds or all
pub record Fetched (in_order : Bool) (port inbox : ℕ) (got : List Datagram) (before after : Option InFlight) : Type 0 where
  pub fetches : Moves (Fetches in_order port got) before after
  pub at_most : length got ≤ inbox
  pub all : length got < inbox → IsEmptyAt port after

-- what a handle does: it fetches, and then answers to the datagram at the pick; where it had no room to fetch, it answers Memory
pub record DoesHandle (in_order : Bool) (old new : PortView) (pick : ℕ) (answer : Handled) (before after : Option InFlight) : Type 0 where
  pub got : List Datagram
  pub fetched : Fetched in_order old.number old.inbox got before after ⊎ ((answer ≡ Memory) × (got ≡ []) × (after ≡ before))
  pub answers : Answers (stashed old got) new pick answer
