-- The rule of the table. The word of a place is 0 where nobody has the place, and 1 where one seat has it.
use Rattle.std.specs.Prelude.{◌≡◌, ◌≢◌, ◌⊎◌, ℕ, ◌+◌, ◌<◌, List, [], ◌∷◌, length, slice_index, Option, Some, None}
use mathlib.Core.Option.{none, some}
use mathlib.Core.Option as maybe
use lib.ListN.{get_elem?}
use Rattle.atomic_table.specs.Table.{State}
use Rattle.rdm_turn.specs.declared.rule.Stand.{Stand}
use Rattle.rdm_turn.specs.Knowing.{Stage, not_mine, empty, full, out, says}

-- the view says of each place that the seat does not have it
abbrev pub HasNone : Stand → Type 0
HasNone v = (i : ℕ) → says v i ≡ not_mine

-- no view has the place
abbrev pub NobodyHas : List Stand → ℕ → Type 0
NobodyHas views i = (j : ℕ) (v : Stand) → get_elem? views j ≡ some v → says v i ≡ not_mine

-- the view of this seat says so of the place, and no other view has the place
pub record OneHas (views : List Stand) (i seat : ℕ) (stage : Stage) : Type 0 where
  pub view : Stand
  pub there : get_elem? views seat ≡ some view
  pub own : says view i ≡ stage
  pub others : (j : ℕ) (v : Stand) → get_elem? views j ≡ some v → j ≢ seat → says v i ≡ not_mine

-- the parts of all views together
abbrev pub total_parts : List Stand → ℕ
total_parts [] = 0
total_parts (v ∷ views) = v.parts + total_parts views

module _ {V : Type 0} (fits : V → ℕ → Type 0) where
  -- the slot is at home with a value that fits the place
  abbrev pub HasFitting : List (maybe.Option (Option V)) → ℕ → Type 0
  HasFitting homes i = (x : V) × (get_elem? homes i ≡ some (some (Some x))) × fits x i

  -- the slot is as a view that has the place says
  abbrev pub IsAsSaid : List (maybe.Option (Option V)) → ℕ → Stage → Type 0
  IsAsSaid homes i not_mine = ⊥
  IsAsSaid homes i empty = get_elem? homes i ≡ some (some None)
  IsAsSaid homes i full = HasFitting homes i
  IsAsSaid homes i out = get_elem? homes i ≡ some none

  -- the place is free: its word is 0, no view has it, and its slot is at home with a value that fits
  pub record IsFree (s : State (Option V) Stand) (i : ℕ) : Type 0 where
    pub word : slice_index s.words i ≡ 0
    pub nobody : NobodyHas s.views i
    pub slot : HasFitting s.homes i

  -- the place is taken: its word is 1, exactly one view has it, and its slot is as that view says
  pub record IsTaken (s : State (Option V) Stand) (i : ℕ) : Type 0 where
    pub word : slice_index s.words i ≡ 1
    pub seat : ℕ
    pub stage : Stage
    pub alone : OneHas s.views i seat stage
    pub slot : IsAsSaid s.homes i stage

  -- There is one word for each slot. Each place is free or taken, the parts of all views are as many as the seats, and a view without parts has no place
  pub record Turning (seats : ℕ) (s : State (Option V) Stand) : Type 0 where
    pub sized : length s.words ≡ length s.homes
    pub places : (i : ℕ) → i < length s.homes → IsFree s i ⊎ IsTaken s i
    pub parts : total_parts s.views ≡ seats
    pub idle : (j : ℕ) (v : Stand) → get_elem? s.views j ≡ some v → v.parts ≡ 0 → HasNone v
