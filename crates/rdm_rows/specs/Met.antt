-- How most histories begin: ports 0 and 1 open a life each, and hear of each other's.
use Rattle.std.specs.Prelude.{List, [], ◌∷◌, None}
use Rattle.rdm_wire.specs.declared.Datagram.{Datagram}
use Rattle.rdm_wire.specs.declared.Body.TheVariants as Body
use Rattle.rdm_wire.specs.declared.NoteBody.TheVariants as NoteBody
use Rattle.rdm_model.specs.declared.entry.Entry.{Entry}
use Rattle.rdm_model.specs.declared.entry.Act.TheVariants as Act
use Rattle.rdm_model.specs.declared.answer.OpName.TheVariants as Op
use Rattle.rdm_model.specs.declared.answer.Next.TheVariants as Next
use Rattle.rdm_model.specs.declared.answer.DidWhat.TheVariants as Did
use Rattle.rdm_model.specs.declared.answer.Handled.TheVariants as Handled

-- port 0 tells port 1 of its life
abbrev pub datagram_0_0 : Datagram
datagram_0_0 = record { src = record { 0 = 0 }; number = record { 0 = 0 }; stamp = record { 0 = 2 }; dst = record { 0 = 1 }; body = Body.Note (NoteBody.Opened (record { 0 = 5 })) }

-- port 1 tells port 0 of its own
abbrev pub datagram_1_0 : Datagram
datagram_1_0 = record { src = record { 0 = 1 }; number = record { 0 = 0 }; stamp = record { 0 = 2 }; dst = record { 0 = 0 }; body = Body.Note (NoteBody.Opened (record { 0 = 7 })) }

-- the entries of both ports in order, the newest first
abbrev pub met : List Entry
met =
    record { stamp = record { 0 = 3 }; port = record { 0 = 1 }; act = Act.Handle datagram_0_0 (Handled.Took None) }
    ∷ record { stamp = record { 0 = 3 }; port = record { 0 = 0 }; act = Act.Handle datagram_1_0 (Handled.Took None) }
    ∷ record { stamp = record { 0 = 2 }; port = record { 0 = 1 }; act = Act.Push datagram_1_0 }
    ∷ record { stamp = record { 0 = 2 }; port = record { 0 = 0 }; act = Act.Push datagram_0_0 }
    ∷ record { stamp = record { 0 = 1 }; port = record { 0 = 1 }; act = Act.Next 0 Op.Open (Next.Did Did.Plain) }
    ∷ record { stamp = record { 0 = 1 }; port = record { 0 = 0 }; act = Act.Next 0 Op.Open (Next.Did Did.Plain) }
    ∷ []
