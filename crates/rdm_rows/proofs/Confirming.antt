-- Rank 0 sends `hello` to rank 1 and asks for a receipt: the whole history.
use Rattle.std.proofs.Common.{◌≡◌, List, [], ◌∷◌, refl}
use Rattle.std.specs.Prelude.{Some, None, replicate, false, true}
use Rattle.rdm_num.specs.declared.completion.Outcome.TheVariants.{Took}
use Rattle.rdm_num.specs.declared.completion.Completion.{Completion}
use Rattle.rdm_wire.specs.declared.Datagram.{Datagram}
use Rattle.rdm_wire.specs.declared.Body.TheVariants as Body
use Rattle.rdm_wire.specs.declared.Load.TheVariants as Load
use Rattle.rdm_model.specs.declared.job.Job.{Job}
use Rattle.rdm_model.specs.declared.job.Instr.{Instr}
use Rattle.rdm_model.specs.declared.job.Instr.TheVariants.{OpenLife, Insert, Reg, Wait}
use Rattle.rdm_model.specs.declared.entry.Entry.{Entry}
use Rattle.rdm_model.specs.declared.entry.Act.TheVariants as Act
use Rattle.rdm_model.specs.declared.answer.OpName.TheVariants as Op
use Rattle.rdm_model.specs.declared.answer.Next.TheVariants as Next
use Rattle.rdm_model.specs.declared.answer.DidWhat.TheVariants as Did
use Rattle.rdm_model.specs.declared.answer.Handled.TheVariants as Handled
use Rattle.rdm_model.specs.Deeds.{log_of}
use Rattle.rdm_model.specs.Played.{played_world}
use Rattle.rdm_rows.specs.Jobs.{zero_five, one_seven, recv, two_ranks_with, send_with}
use Rattle.rdm_rows.specs.Limits.{default_limits}
use Rattle.rdm_rows.specs.Met.{met}
use Rattle.rdm_rows.specs.Words.{every_word}

-- both ranks can confirm
abbrev pub job_ops_0 : List Instr
job_ops_0 =
    OpenLife (record { 0 = 5 })
    ∷ Insert one_seven
    ∷ Reg (104 ∷ 101 ∷ 108 ∷ 108 ∷ 111 ∷ [])
    ∷ send_with true 1 0 5 7
    ∷ Wait 1
    ∷ []

abbrev pub job_ops_1 : List Instr
job_ops_1 =
    OpenLife (record { 0 = 7 })
    ∷ Reg (replicate 8 0)
    ∷ recv 0 8 7
    ∷ Wait 1
    ∷ []

abbrev pub job : Job
job = two_ranks_with 27 27 default_limits job_ops_0 job_ops_1

-- The datagrams after those that tell of the lives: the handshakes, the message, and its receipt.

abbrev pub datagram_0_1 : Datagram
datagram_0_1 = record { src = record { 0 = 0 }; number = record { 0 = 1 }; stamp = record { 0 = 5 }; dst = record { 0 = 1 }; body = Body.Between (record { 0 = 5 }) (record { 0 = 7 }) (Load.Packet (9 ∷ 4 ∷ 1 ∷ 0 ∷ 4 ∷ 0 ∷ 0 ∷ 0 ∷ 27 ∷ 0 ∷ 0 ∷ 0 ∷ 0 ∷ 0 ∷ 0 ∷ 0 ∷ 32 ∷ 0 ∷ 0 ∷ 0 ∷ 0 ∷ 0 ∷ 0 ∷ 0 ∷ 0 ∷ 0 ∷ 0 ∷ 0 ∷ 0 ∷ 0 ∷ 0 ∷ 0 ∷ 0 ∷ 0 ∷ 0 ∷ 0 ∷ 1 ∷ 0 ∷ 0 ∷ 0 ∷ 5 ∷ 0 ∷ 0 ∷ 0 ∷ 0 ∷ 0 ∷ 0 ∷ 0 ∷ 0 ∷ 0 ∷ 0 ∷ 0 ∷ [])) }

abbrev pub datagram_1_1 : Datagram
datagram_1_1 = record { src = record { 0 = 1 }; number = record { 0 = 1 }; stamp = record { 0 = 7 }; dst = record { 0 = 0 }; body = Body.Between (record { 0 = 7 }) (record { 0 = 5 }) (Load.Packet (9 ∷ 4 ∷ 0 ∷ 128 ∷ 4 ∷ 0 ∷ 0 ∷ 0 ∷ 27 ∷ 0 ∷ 0 ∷ 0 ∷ 0 ∷ 0 ∷ 0 ∷ 0 ∷ 7 ∷ 0 ∷ 0 ∷ 0 ∷ [])) }

abbrev pub datagram_0_2 : Datagram
datagram_0_2 = record { src = record { 0 = 0 }; number = record { 0 = 2 }; stamp = record { 0 = 10 }; dst = record { 0 = 1 }; body = Body.Between (record { 0 = 5 }) (record { 0 = 7 }) (Load.Packet (201 ∷ 4 ∷ 8 ∷ 128 ∷ 0 ∷ 0 ∷ 0 ∷ 0 ∷ 7 ∷ 0 ∷ 0 ∷ 0 ∷ 0 ∷ 0 ∷ 0 ∷ 0 ∷ 5 ∷ 0 ∷ 0 ∷ 0 ∷ 104 ∷ 101 ∷ 108 ∷ 108 ∷ 111 ∷ [])) }

abbrev pub datagram_1_2 : Datagram
datagram_1_2 = record { src = record { 0 = 1 }; number = record { 0 = 2 }; stamp = record { 0 = 14 }; dst = record { 0 = 0 }; body = Body.Between (record { 0 = 7 }) (record { 0 = 5 }) (Load.Packet (10 ∷ 4 ∷ 0 ∷ 128 ∷ 0 ∷ 0 ∷ 0 ∷ 0 ∷ 7 ∷ 0 ∷ 0 ∷ 0 ∷ [])) }

-- The entries of both ports in order, the newest first:

-- up to the send, which comes after both handshakes
abbrev pub before_opening : List Entry
before_opening =
    record { stamp = record { 0 = 9 }; port = record { 0 = 0 }; act = Act.Next 3 Op.Send (Next.Did (Did.Sent (record { 0 = 0 }) (record { 0 = 0 }))) }
    ∷ record { stamp = record { 0 = 8 }; port = record { 0 = 0 }; act = Act.Handle datagram_1_1 (Handled.Took None) }
    ∷ record { stamp = record { 0 = 7 }; port = record { 0 = 1 }; act = Act.Push datagram_1_1 }
    ∷ record { stamp = record { 0 = 6 }; port = record { 0 = 1 }; act = Act.Handle datagram_0_1 (Handled.Took None) }
    ∷ record { stamp = record { 0 = 6 }; port = record { 0 = 0 }; act = Act.Next 2 Op.Reg (Next.Did (Did.Region (record { 0 = 0 }))) }
    ∷ record { stamp = record { 0 = 5 }; port = record { 0 = 1 }; act = Act.Next 2 Op.Recv (Next.Did (Did.Posted (record { 0 = 0 }))) }
    ∷ record { stamp = record { 0 = 5 }; port = record { 0 = 0 }; act = Act.Push datagram_0_1 }
    ∷ record { stamp = record { 0 = 4 }; port = record { 0 = 1 }; act = Act.Next 1 Op.Reg (Next.Did (Did.Region (record { 0 = 0 }))) }
    ∷ record { stamp = record { 0 = 4 }; port = record { 0 = 0 }; act = Act.Next 1 Op.Insert (Next.Did Did.Plain) }
    ∷ met

-- up to the push of `hello`
abbrev pub before_hello : List Entry
before_hello =
    record { stamp = record { 0 = 10 }; port = record { 0 = 0 }; act = Act.Push datagram_0_2 }
    ∷ before_opening

-- up to the receive of it, and the end of the program of rank 1
abbrev pub before_push : List Entry
before_push =
    record { stamp = record { 0 = 13 }; port = record { 0 = 1 }; act = Act.Next 3 Op.Wait (Next.Did Did.Plain) }
    ∷ record { stamp = record { 0 = 12 }; port = record { 0 = 1 }; act = Act.Poll (Completion.Recv (record { 0 = 0 }) (Took zero_five (Some 7) None (104 ∷ 101 ∷ 108 ∷ 108 ∷ 111 ∷ []) 0)) }
    ∷ record { stamp = record { 0 = 11 }; port = record { 0 = 1 }; act = Act.Handle datagram_0_2 (Handled.Took (Some (record { first = record { 0 = 0 }; count = 1 }))) }
    ∷ before_hello

-- up to the push of the receipt
abbrev pub before_receipt : List Entry
before_receipt =
    record { stamp = record { 0 = 14 }; port = record { 0 = 1 }; act = Act.Push datagram_1_2 }
    ∷ before_push

-- up to its handling
abbrev pub after_receipt : List Entry
after_receipt =
    record { stamp = record { 0 = 15 }; port = record { 0 = 0 }; act = Act.Handle datagram_1_2 (Handled.Took None) }
    ∷ before_receipt

-- the send completes, and is waited for
abbrev pub history : List Entry
history =
    record { stamp = record { 0 = 17 }; port = record { 0 = 0 }; act = Act.Next 4 Op.Wait (Next.Did Did.Plain) }
    ∷ record { stamp = record { 0 = 16 }; port = record { 0 = 0 }; act = Act.Poll (Completion.Send (record { 0 = 0 }) false) }
    ∷ after_receipt

-- what rank 0 did up to the handling of the receipt
abbrev pub own_after_receipt : List Entry
own_after_receipt = log_of 0 after_receipt

played_0 : (played_world job).logs 0 ≡ log_of 0 history
unfolding every_word
played_0 = refl

played_1 : (played_world job).logs 1 ≡ log_of 1 history
unfolding every_word
played_1 = refl
