-- Datagrams that were pushed.
use Rattle.std.specs.Prelude.{ℕ, List, ◌++◌, length, codes, decimal}
use Rattle.rdm_wire.specs.declared.NoteBody.{NoteBody}
use Rattle.rdm_wire.specs.declared.NoteBody.TheVariants as note
use Rattle.rdm_wire.specs.declared.ReadAsk.{ReadAsk}
use Rattle.rdm_wire.specs.declared.ReadData.{ReadData}
use Rattle.rdm_wire.specs.declared.Load.{Load}
use Rattle.rdm_wire.specs.declared.Load.TheVariants as load
use Rattle.rdm_wire.specs.declared.Body.{Body}
use Rattle.rdm_wire.specs.declared.Body.TheVariants as body
use Rattle.rdm_wire.specs.declared.Datagram.{Datagram}
use Rattle.rdm_report.specs.Shown.{shown}

-- a note
abbrev pub note_text : NoteBody → List ℕ
note_text (note.Opened connid) = codes "note opened " ++ decimal connid.0
note_text (note.Said what) = codes "note " ++ decimal what

-- the operations and the key of a read
abbrev pub operations_text : ReadAsk → List ℕ
operations_text a = codes "send " ++ decimal a.send_id.0 ++ codes " recv " ++ decimal a.recv_id.0 ++ codes " key " ++ decimal a.key

-- the range that is read
abbrev pub range_text : ReadAsk → List ℕ
range_text a = codes "offset " ++ decimal a.offset ++ codes " length " ++ decimal a.length ++ codes " at " ++ decimal a.at

-- a read ask
abbrev pub ask_text : ReadAsk → List ℕ
ask_text a = codes "ask " ++ operations_text a ++ codes " " ++ range_text a

-- read data
abbrev pub data_text : ReadData → List ℕ
data_text g = codes "data recv " ++ decimal g.recv_id.0 ++ codes " at " ++ decimal g.at ++ codes " length " ++ decimal (length g.bytes) ++ codes " " ++ shown g.bytes

-- what goes between lives
abbrev pub load_text : Load → List ℕ
load_text (load.Packet bytes) = codes "packet " ++ decimal (length bytes) ++ codes " " ++ shown bytes
load_text (load.Ask ask) = ask_text ask
load_text (load.Given read) = data_text read

-- the destination and the content: notes go to a port, all else to a life
abbrev pub body_text : (dst : ℕ) → Body → List ℕ
body_text dst (body.Note note) = decimal dst ++ codes " " ++ note_text note
body_text dst (body.Between from to load) = decimal dst ++ codes "." ++ decimal to.0 ++ codes " " ++ load_text load

-- a datagram with its number
abbrev pub push_text : Datagram → List ℕ
push_text d = codes "push " ++ decimal d.number.0 ++ codes " to " ++ body_text d.dst.0 d.body
