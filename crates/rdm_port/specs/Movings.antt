-- What each step of a port does with datagrams: those of its log and its stash, and those of which a wire tells. It speaks of no job.
use Rattle.std.specs.Prelude.{◌≡◌, ◌⊎◌, ◌<◌, ℕ, List, [], ◌∷◌, ◌++◌, length, remove, Option, Some, slice_get, option_map}
use Rattle.rdm_lists.specs.Lists.{Member}
use Rattle.rdm_wire.specs.declared.Datagram.{Datagram}
use Rattle.rdm_wire.specs.Accounts.{Account, after_push, after_fetches}
use Rattle.rdm_wire.specs.Counts.{Rose}
use Rattle.rdm_wire.specs.Queues.{IsFor}
use Rattle.rdm_model.specs.declared.entry.Entry.{Entry}
use Rattle.rdm_model.specs.declared.entry.Act.{Act}
use Rattle.rdm_model.specs.declared.answer.Push.{Push}
use Rattle.rdm_model.specs.declared.answer.Push.TheVariants.{Pushed}
use Rattle.rdm_model.specs.declared.answer.Handled.{Handled}
use Rattle.rdm_model.specs.declared.answer.Handled.TheVariants.{Took, Dropped, Empty, Memory}
use Rattle.rdm_port.specs.Views.{PortView}

-- the log has one entry more, of that act
pub record Logs (before after : List Entry) (act : Act) : Type 0 where
  pub entry : Entry
  pub longer : after ≡ entry ∷ before
  pub act_is : entry.act ≡ act

-- such an act moves no datagram
abbrev pub MovesNone : Act → Type 0
MovesNone (Act.Next index op answer) = Unit {0}
MovesNone (Act.Push d) = ⊥
MovesNone (Act.Handle d answer) = ⊥
MovesNone (Act.Poll c) = Unit {0}

-- the log is the same, or has one entry more that moves no datagram
abbrev pub LogsNone : (before after : List Entry) → Type 0
LogsNone before after = (after ≡ before) ⊎ ((act : Act) × MovesNone act × Logs before after act)

-- a datagram that was pushed is the log's and the account's newest, and any other answer leaves both
abbrev pub PushMoves : (before after : List Entry) → Push → (told now : Option Account) → Type 0
PushMoves before after (Pushed number) told now = (d : Datagram) × Logs before after (Act.Push d) × (now ≡ option_map (after_push d) told)
PushMoves before after answer told now = (after ≡ before) × (now ≡ told)

-- what a wire tells of fetches at a port of so many: these datagrams, each for the port and from one of them; and fewer than might be only where it counted
-- that it found none
pub record FetchMoves (ports port inbox : ℕ) (got : List Datagram) (told now : Option Account) (counted count : ℕ) : Type 0 where
  pub account : now ≡ option_map (after_fetches port got) told
  pub came : (d : Datagram) → Member d got → IsFor port ports d
  pub few : length got < inbox → Rose counted count
  pub all : length got ≡ inbox → count ≡ counted

-- the datagram at a place of the stash went into the log with that answer
pub record TakesOut (before after : List Entry) (stash left : List Datagram) (answer : Handled) : Type 0 where
  pub datagram : Datagram
  pub place : ℕ
  pub there : slice_get stash place ≡ Some datagram
  pub left_is : left ≡ remove stash place
  pub logged : Logs before after (Act.Handle datagram answer)

-- a datagram that was taken or dropped went from the stash into the log, and any other answer leaves both. Where it is Empty, the stash was empty
abbrev pub AnswerMoves : (before after : List Entry) → (stash left : List Datagram) → Handled → Type 0
AnswerMoves before after stash left (Took entered) = TakesOut before after stash left (Took entered)
AnswerMoves before after stash left (Dropped class') = TakesOut before after stash left (Dropped class')
AnswerMoves before after stash left Empty = (after ≡ before) × (left ≡ stash) × (stash ≡ [])
AnswerMoves before after stash left answer = (after ≡ before) × (left ≡ stash)

-- what a handle does: what it fetched joined the stash, of which one went into the log by its answer. Where it had no room to fetch, it answers Memory
pub record HandleMoves (old new : PortView) (answer : Handled) (told now : Option Account) (counted count : ℕ) : Type 0 where
  pub got : List Datagram
  pub fetched : FetchMoves old.ports old.number old.inbox got told now counted count ⊎ ((answer ≡ Memory) × (got ≡ []) × (now ≡ told) × (count ≡ counted))
  pub answered : AnswerMoves old.log new.log (old.stash ++ got) new.stash answer
