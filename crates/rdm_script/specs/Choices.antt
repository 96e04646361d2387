-- The choices.
use Rattle.std.specs.Prelude.{ℕ, ◌+◌, bytes_eq, nat_lt, List, [], ◌∷◌, codes, if◌then◌else◌, Result, Ok, Err}
use Rattle.serde_json.specs.Data.{Data}
use Rattle.rdm_model.specs.declared.job.Choice.{Choice}
use Rattle.rdm_model.specs.declared.job.Choice.TheVariants as choice
use Rattle.rdm_json.specs.declared.place.Place.TheVariants as place
use Rattle.rdm_json.specs.declared.refusal.BadScript.{BadScript}
use Rattle.rdm_json.specs.declared.refusal.Reason.{Reason}
use Rattle.rdm_json.specs.declared.refusal.Reason.TheVariants.{Shape, NoRank}
use Rattle.rdm_json.specs.Results.{◌>>=◌, ◌>>◌, tested, placed}
use Rattle.rdm_json.specs.Values.{number_of, text_of, array_of}

-- the rank is one of so many
abbrev pub as_rank : (ports rank : ℕ) → Result ℕ Reason
as_rank ports rank = do
  tested NoRank (nat_lt rank ports)
  Ok rank

-- a choice of a rank alone
abbrev pub eager_choice : (ports : ℕ) → (word : List ℕ) → (rank : ℕ) → Result Choice Reason
eager_choice ports word rank =
    if bytes_eq word (codes "next") then (as_rank ports rank >>= λ r. Ok (choice.Next r))
    else if bytes_eq word (codes "push") then (as_rank ports rank >>= λ r. Ok (choice.Push r))
    else if bytes_eq word (codes "poll") then (as_rank ports rank >>= λ r. Ok (choice.Poll r))
    else Err Shape

-- a choice of a rank and of a place in its stash
abbrev pub picking_choice : (ports : ℕ) → (word : List ℕ) → (rank pick : ℕ) → Result Choice Reason
picking_choice ports word rank pick = if bytes_eq word (codes "handle") then (as_rank ports rank >>= λ r. Ok (choice.Handle r pick)) else Err Shape

-- the choice that the elements of an array say
abbrev pub choice_in : (ports : ℕ) → List Data → Result Choice Reason
choice_in ports (word ∷ rank ∷ []) = do
  w ← text_of word
  r ← number_of rank
  eager_choice ports w r
choice_in ports (word ∷ rank ∷ pick ∷ []) = do
  w ← text_of word
  r ← number_of rank
  p ← number_of pick
  picking_choice ports w r p
choice_in ports _ = Err Shape

-- a choice, whose rank is one of so many
abbrev pub choice_of : (ports : ℕ) → Data → Result Choice Reason
choice_of ports d = array_of d >>= choice_in ports

-- the choices from one on, one after the other
abbrev pub choices_of : (index ports : ℕ) → List Data → Result (List Choice) BadScript
choices_of index ports [] = Ok []
choices_of index ports (d ∷ ds) = do
  c ← placed (place.Choice index) (choice_of ports d)
  cs ← choices_of (index + 1) ports ds
  Ok (c ∷ cs)
