-- What a port keeps of its log.
use Rattle.std.specs.Prelude.{◌≡◌, ◌<◌, ◌≤◌, ℕ, ◌+◌, ◌-◌, Bool, not, ◌&&◌, ◌==◌, List, [], ◌∷◌, map, length, drop, Option, Some, None}
use Rattle.std.specs.List.{list_any}
use Rattle.rdm_lists.specs.Lists.{Member}
use Rattle.rdm_num.specs.Lives.{same_life}
use Rattle.rdm_num.specs.declared.numbers.Connid.{Connid}
use Rattle.rdm_num.specs.declared.numbers.Life.{Life}
use Rattle.rdm_wire.specs.declared.Datagram.{Datagram}
use Rattle.rdm_model.specs.declared.entry.Entry.{Entry}
use Rattle.rdm_model.specs.declared.entry.Act.{Act}
use Rattle.rdm_model.specs.Beginnings.{Own}
use Rattle.rdm_model.specs.Deeds.{Deed, deeds, open_life, of_life, deed_count}
use Rattle.rdm_model.specs.Notes.{OwedNote, notes, note_pushes_by, knows_open, was_told}
use Rattle.rdm_model.specs.Steps.{count, nexts_by, pushes_by}
use Rattle.rdm_model.specs.Reports.{drops_to_other, drops_from_other}
use Rattle.rdm_ep.specs.View.{EndpointView, cq_in}
use Rattle.rdm_ep.specs.Keeps.{Keeps}
use Rattle.rdm_port.specs.declared.kept.QueuedNote.{QueuedNote}
use Rattle.rdm_port.specs.declared.kept.Told.{Told}
use Rattle.rdm_port.specs.Views.{PortView}
use Rattle.rdm_port.specs.Built.{AreBuilt}

-- what a port keeps beside its log and its stash
pub record Kept : Type 0 where
  -- the instructions that were done or refused, what the clock shows, and the pushes
  pub done : ℕ
  pub clock : ℕ
  pub pushed : ℕ
  -- the notes that were not pushed, the lives of which it knows that they were opened, and the words that it was told
  pub notes : List QueuedNote
  pub opened : List Life
  pub told : List Told
  -- the endpoint of the open life
  pub endpoint : Option EndpointView
  -- the datagrams that were dropped, by class
  pub to_other : ℕ
  pub from_other : ℕ

-- before any step
abbrev pub new_kept : (clock : ℕ) → Kept
new_kept clock = record { done = 0; clock = clock; pushed = 0; notes = []; opened = []; told = []; endpoint = None; to_other = 0; from_other = 0 }

-- what the clock shows after these entries
unfoldable pub clock_in : (start : ℕ) → List Entry → ℕ
clock_in start [] = start
clock_in start (e ∷ before) = e.stamp.0

-- the deeds of the port
unfoldable pub deeds_of : PortView → List Deed
deeds_of v = deeds v.rank.ops v.log

-- what the endpoint of a life of the port begins with
unfoldable pub own_at : PortView → Connid → Own
own_at v connid = record { life = record { port = record { 0 = v.number }; connid = connid }; features = v.rank.features; limits = v.limits }

-- a note as the port queues it
abbrev pub queued_of : OwedNote → QueuedNote
queued_of n = record { to = n.to; body = n.body }

-- the life is among those
unfoldable pub is_opened : List Life → Life → Bool
is_opened lives life = list_any (same_life life) lives

-- the word of that port is among those
unfoldable pub is_told : List Told → (from what : ℕ) → Bool
is_told words from what = list_any (λ (t : Told). t.from.0 == from && t.what == what) words

-- the endpoint of the open life keeps its deeds
abbrev pub KeepsLife : List Deed → Option Connid → Option EndpointView → Type 0
KeepsLife log None None = Unit {0}
KeepsLife log (Some connid) (Some e) = Keeps (of_life connid log) e
KeepsLife log _ _ = ⊥

-- the lives that an endpoint names are of the ports
pub record NamesPorts (ports : ℕ) (e : EndpointView) : Type 0 where
  pub currents : (l : Life) → Member l e.currents → l.port.0 < ports
  pub owed : (l : Life) → Member l e.owed → l.port.0 < ports

-- an identifier that is open was opened, and one that was not opened has no deeds
abbrev pub is_new_life : List Life → PortView → Connid → Bool
is_new_life opened v connid = not (is_opened opened (record { port = record { 0 = v.number }; connid = connid }))

-- the endpoint is the one of the open life
abbrev pub IsOpen : PortView → Option Connid → Option EndpointView → Type 0
IsOpen v None None = Unit {0}
IsOpen v (Some connid) (Some e) = e.own ≡ own_at v connid
IsOpen v _ _ = ⊥

-- what the port keeps is what its log says, whose deeds are all built
pub record IsKept (v : PortView) (k : Kept) : Type 0 where
  pub done : k.done ≡ count nexts_by v.log
  pub clock : k.clock ≡ clock_in v.start v.log
  pub pushed : k.pushed ≡ count pushes_by v.log
  pub to_other : k.to_other ≡ count drops_to_other v.log
  pub from_other : k.from_other ≡ count drops_from_other v.log
  -- the notes that were not pushed are the last ones
  pub notes_within : deed_count note_pushes_by (deeds_of v) ≤ length (notes v.ports v.number (deeds_of v))
  pub notes_are : k.notes ≡ map queued_of (drop (deed_count note_pushes_by (deeds_of v)) (notes v.ports v.number (deeds_of v)))
  pub opened_are : (l : Life) → is_opened k.opened l ≡ knows_open v.number (deeds_of v) l
  pub told_are : (from what : ℕ) → is_told k.told from what ≡ was_told (deeds_of v) from what
  pub built : AreBuilt (own_at v) (deeds_of v)
  pub open_is : IsOpen v (open_life (deeds_of v)) k.endpoint
  pub keeps : KeepsLife (deeds_of v) (open_life (deeds_of v)) k.endpoint
  -- no count passes the clock
  pub few_done : k.done ≤ k.clock
  pub few_pushed : k.pushed ≤ k.clock
  pub few_to_other : k.to_other ≤ k.clock
  pub few_from_other : k.from_other ≤ k.clock

-- an entry of the port
abbrev pub entry_of : PortView → (stamp : ℕ) → Act → Entry
entry_of v stamp act = record { stamp = record { 0 = stamp }; port = record { 0 = v.number }; act = act }

-- the port with that log
abbrev pub with_log : PortView → List Entry → PortView
with_log v log = record v { log = log }

-- the same with that stash too
abbrev pub with_stash : PortView → List Entry → List Datagram → PortView
with_stash v log stash = record v { log = log; stash = stash }

-- how many places for completions are taken
unfoldable pub places_of : Option EndpointView → ℕ
places_of None = 0
places_of (Some e) = cq_in e

-- the log has room for all completions that may still be polled, and for the instructions that are left of so many
abbrev pub HasRoom : (all room : ℕ) → Kept → Type 0
HasRoom all room k = places_of k.endpoint + (all - k.done) ≤ room

-- what is true of each port: it keeps what its log says, and neither the entry of an instruction nor that of a poll wants memory
pub record IsSoundPort (v : PortView) (k : Kept) (room : ℕ) : Type 0 where
  pub kept : IsKept v k
  pub roomy : HasRoom (length v.rank.ops) room k
