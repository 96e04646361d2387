-- What a source and a sink in memory keep, and how a call changes it.
use Rattle.std.specs.Prelude.{ℕ, ◌-◌, ◌≡◌, ◌⊎◌, min, List, length, drop, ◌++◌, Contains}
use Rattle.rdm_io.specs.Faults.{next_count}

-- a source in memory
pub record SourceState : Type 0 where
  -- what is left to read
  pub left : List ℕ
  -- the most bytes that one call moves
  pub step : ℕ
  -- the numbers of the calls that fail
  pub fails : List ℕ
  -- the calls so far
  pub calls : ℕ
  -- the calls that failed
  pub faults : ℕ

-- a sink in memory
pub record SinkState : Type 0 where
  -- what was given
  pub given : List ℕ
  -- the most bytes that it holds
  pub room : ℕ
  -- the most bytes that one call moves
  pub step : ℕ
  -- the numbers of the calls that fail
  pub fails : List ℕ
  -- the calls so far
  pub calls : ℕ
  -- the calls that failed
  pub faults : ℕ

-- the next call fails, by its number
abbrev pub SourceFails : SourceState → Type 0
SourceFails s = Contains s.fails s.calls

-- the next call fails, by its number or since the sink is full
abbrev pub SinkFails : SinkState → Type 0
SinkFails s = Contains s.fails s.calls ⊎ (length s.given ≡ s.room)

-- how many bytes a call moves that is handed room for this many
abbrev pub source_moves : SourceState → ℕ → ℕ
source_moves s room = min s.step (min room (length s.left))

-- how many bytes a call moves that is handed a piece of this length
abbrev pub sink_moves : SinkState → ℕ → ℕ
sink_moves s len = min s.step (min len (s.room - length s.given))

-- the state after a call that moved so many bytes
abbrev pub source_after : SourceState → ℕ → SourceState
source_after s count = record s { left = drop count s.left; calls = next_count s.calls }

-- the state after a call that took these bytes
abbrev pub sink_after : SinkState → List ℕ → SinkState
sink_after s moved = record s { given = s.given ++ moved; calls = next_count s.calls }

-- the state after a call that failed
abbrev pub source_failed : SourceState → SourceState
source_failed s = record s { calls = next_count s.calls; faults = next_count s.faults }

-- the state after a call that failed
abbrev pub sink_failed : SinkState → SinkState
sink_failed s = record s { calls = next_count s.calls; faults = next_count s.faults }
