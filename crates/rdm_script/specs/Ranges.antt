-- The ranges that a send says.
use Rattle.std.specs.Prelude.{ℕ, nat_le, List, [], ◌∷◌, length, codes, if◌then◌else◌, Result, Ok, Err}
use Rattle.serde_json.specs.Data.{Data}
use Rattle.rdm_num.specs.declared.parts.Span.{Span}
use Rattle.rdm_model.specs.Jobs.{is_u32, is_within, len_max, spans_length}
use Rattle.rdm_json.specs.declared.refusal.Reason.{Reason}
use Rattle.rdm_json.specs.declared.refusal.Reason.TheVariants.{Shape, Limit}
use Rattle.rdm_json.specs.declared.value.Form.TheVariants as form
use Rattle.rdm_json.specs.Results.{◌>>=◌, ◌>>◌, tested}
use Rattle.rdm_json.specs.Values.{keys_known, known, number_of, array_of, number, array}
use Rattle.rdm_script.specs.declared.fields.Version.{Version}
use Rattle.rdm_script.specs.declared.fields.Version.TheVariants.{One, Two}
use Rattle.rdm_script.specs.declared.ranges.Written.{Written}
use Rattle.rdm_script.specs.Contents.{as_length}

-- the number is below 2^32
abbrev pub as_u32 : ℕ → Result ℕ Reason
as_u32 n = do
  tested Limit (is_u32 n)
  Ok n

-- the one range of a send
abbrev pub one_written : Data → Result (List Written) Reason
one_written d = do
  known form.Send d
  region ← number (codes "region") d
  place ← number (codes "at") d
  len ← number (codes "len") d
  Ok (record { region = region; at = place; len = len } ∷ [])

-- a range is an array of its three numbers
abbrev pub written_in : List Data → Result Written Reason
written_in (region ∷ place ∷ len ∷ []) = do
  r ← number_of region
  a ← number_of place
  l ← number_of len
  Ok (record { region = r; at = a; len = l })
written_in _ = Err Shape

-- the ranges that values say, one after the other
abbrev pub each_written : List Data → Result (List Written) Reason
each_written [] = Ok []
each_written (d ∷ ds) = do
  values ← array_of d
  w ← written_in values
  ws ← each_written ds
  Ok (w ∷ ws)

-- an array of 1 to 4 ranges
abbrev pub parts_written : Data → Result (List Written) Reason
parts_written d = do
  values ← array (codes "parts") d
  tested Shape (is_within 1 4 (length values))
  each_written values

-- the ranges of a send as they are written: one by its keys, or from version 2 on an array of them in place of those keys
abbrev pub written_of : Version → Data → Result (List Written) Reason
written_of One d = one_written d
written_of Two d = if keys_known form.SendOfParts d then parts_written d else one_written d

-- the numbers of a range are in their limits
abbrev pub as_span : Written → Result Span Reason
as_span w = do
  region ← as_u32 w.region
  len ← as_length w.len
  Ok (record { region = record { 0 = region }; at = w.at; len = len })

-- the numbers of ranges are, one after the other
abbrev pub as_spans : List Written → Result (List Span) Reason
as_spans [] = Ok []
as_spans (w ∷ ws) = do
  s ← as_span w
  ss ← as_spans ws
  Ok (s ∷ ss)

-- the ranges of a send have no more bytes together than one may have
abbrev pub as_parts : List Written → Result (List Span) Reason
as_parts ws = do
  spans ← as_spans ws
  tested Limit (nat_le (spans_length spans) len_max)
  Ok spans
