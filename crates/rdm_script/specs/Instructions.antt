-- What each instruction object says.
use Rattle.std.specs.Prelude.{ℕ, bytes_eq, List, codes, if◌then◌else◌, Option, Some, None, Result, Ok, Err}
use Rattle.serde_json.specs.Data.{Data}
use Rattle.rdm_num.specs.declared.numbers.PortNo.{PortNo}
use Rattle.rdm_num.specs.declared.request.Want.{Want}
use Rattle.rdm_model.specs.declared.answer.OpName.{OpName}
use Rattle.rdm_model.specs.declared.answer.OpName.TheVariants as op
use Rattle.rdm_model.specs.declared.job.Instr.{Instr}
use Rattle.rdm_model.specs.declared.job.Instr.TheVariants as instr
use Rattle.rdm_json.specs.declared.refusal.Reason.{Reason}
use Rattle.rdm_json.specs.declared.refusal.Reason.TheVariants.{Shape}
use Rattle.rdm_json.specs.declared.value.Form.TheVariants as form
use Rattle.rdm_json.specs.Results.{◌>>=◌, ◌>>◌, present}
use Rattle.rdm_json.specs.Values.{known, number, optional, text, is_set}
use Rattle.rdm_script.specs.declared.fields.Version.{Version}
use Rattle.rdm_script.specs.Contents.{as_length, content_of}
use Rattle.rdm_script.specs.Ranges.{as_u32, written_of, as_parts}

-- a port that may be absent
abbrev pub as_port : Option ℕ → Result (Option PortNo) Reason
as_port None = Ok None
as_port (Some n) = do
  port ← as_u32 n
  Ok (Some (record { 0 = port }))

abbrev pub open_of : Data → Result Instr Reason
open_of d = do
  known form.Open d
  connid ← number (codes "connid") d
  connid ← as_u32 connid
  Ok (instr.OpenLife (record { 0 = connid }))

abbrev pub insert_of : Data → Result Instr Reason
insert_of d = do
  known form.Insert d
  port ← number (codes "port") d
  connid ← number (codes "connid") d
  port ← as_u32 port
  connid ← as_u32 connid
  Ok (instr.Insert (record { port = record { 0 = port }; connid = record { 0 = connid } }))

abbrev pub reg_of : Data → Result Instr Reason
reg_of d = do
  content ← content_of d
  Ok (instr.Reg content)

abbrev pub send_of : Version → Data → Result Instr Reason
send_of version d = do
  written ← written_of version d
  to ← number (codes "to") d
  tag ← optional (codes "tag") d
  cq_data ← optional (codes "data") d
  confirm ← is_set (codes "confirm") d
  to ← as_u32 to
  parts ← as_parts written
  Ok (instr.Send (record { to = record { 0 = to }; parts = parts; tag = tag; cq_data = cq_data; confirm = confirm }))

-- bits are ignored only of a tag, and none where that is not said
abbrev pub want_of : (tag ignore : Option ℕ) → Result (Option Want) Reason
want_of None None = Ok None
want_of None (Some ignore) = Err Shape
want_of (Some tag) None = Ok (Some (record { tag = tag; ignore = 0 }))
want_of (Some tag) (Some ignore) = Ok (Some (record { tag = tag; ignore = ignore }))

abbrev pub recv_of : Data → Result Instr Reason
recv_of d = do
  known form.Recv d
  from ← optional (codes "from") d
  region ← number (codes "region") d
  place ← number (codes "at") d
  len ← number (codes "len") d
  tag ← optional (codes "tag") d
  ignore ← optional (codes "ignore") d
  want ← want_of tag ignore
  from ← as_port from
  region ← as_u32 region
  len ← as_length len
  Ok (instr.Recv (record { from = from; region = record { 0 = region }; at = place; len = len; want = want }))

abbrev pub cancel_of : Data → Result Instr Reason
cancel_of d = do
  known form.Cancel d
  recv ← number (codes "recv") d
  Ok (instr.Cancel (record { 0 = recv }))

abbrev pub note_of : Data → Result Instr Reason
note_of d = do
  known form.Note d
  to ← number (codes "to") d
  what ← number (codes "what") d
  to ← as_u32 to
  Ok (instr.Note (record { 0 = to }) what)

abbrev pub await_of : Data → Result Instr Reason
await_of d = do
  known form.Await d
  from ← number (codes "from") d
  what ← number (codes "what") d
  from ← as_u32 from
  Ok (instr.Await (record { 0 = from }) what)

abbrev pub wait_of : Data → Result Instr Reason
wait_of d = do
  known form.Wait d
  count ← number (codes "count") d
  Ok (instr.Wait count)

abbrev pub close_of : Data → Result Instr Reason
close_of d = do
  known form.Close d
  Ok instr.CloseLife

-- the words of instructions
abbrev pub word_of : List ℕ → Option OpName
word_of word =
    if bytes_eq word (codes "open") then Some op.Open
    else if bytes_eq word (codes "insert") then Some op.Insert
    else if bytes_eq word (codes "reg") then Some op.Reg
    else if bytes_eq word (codes "send") then Some op.Send
    else if bytes_eq word (codes "recv") then Some op.Recv
    else if bytes_eq word (codes "cancel") then Some op.Cancel
    else if bytes_eq word (codes "note") then Some op.Note
    else if bytes_eq word (codes "await") then Some op.Await
    else if bytes_eq word (codes "wait") then Some op.Wait
    else if bytes_eq word (codes "close") then Some op.Close
    else None

-- what an object says, whose word is this
abbrev pub said : Version → OpName → Data → Result Instr Reason
said version op.Open d = open_of d
said version op.Insert d = insert_of d
said version op.Reg d = reg_of d
said version op.Send d = send_of version d
said version op.Recv d = recv_of d
said version op.Cancel d = cancel_of d
said version op.Note d = note_of d
said version op.Await d = await_of d
said version op.Wait d = wait_of d
said version op.Close d = close_of d

-- the instruction of an object: it has the keys of its word, with values of their kinds, and then its numbers are in their limits
abbrev pub instr_of : Version → Data → Result Instr Reason
instr_of version d = do
  written ← text (codes "op") d
  word ← present Shape (word_of written)
  said version word d
