-- Rank 0 sends two ranges of a region to rank 1 as one message: the whole history, which is lawful.
use Rattle.std.proofs.Common.{◌≡◌, ℕ, List, [], ◌∷◌, refl, inl, inr, arith, map}
use Rattle.std.specs.Prelude.{Some, None, replicate, false}
use Rattle.rdm_num.specs.declared.completion.Completion.{Completion}
use Rattle.rdm_num.specs.declared.completion.Outcome.TheVariants.{Took}
use Rattle.rdm_num.specs.Pieces.{Piece}
use Rattle.rdm_wire.specs.declared.Datagram.{Datagram}
use Rattle.rdm_wire.specs.declared.Body.TheVariants as Body
use Rattle.rdm_wire.specs.declared.NoteBody.TheVariants as NoteBody
use Rattle.rdm_wire.specs.declared.Load.TheVariants as Load
use Rattle.rdm_pkt.specs.declared.Packet.TheVariants.{Rtm, Handshake}
use Rattle.rdm_pkt.specs.declared.Form.TheVariants as Form
use Rattle.rdm_model.specs.declared.job.Job.{Job}
use Rattle.rdm_model.specs.declared.job.Instr.{Instr}
use Rattle.rdm_model.specs.declared.job.Instr.TheVariants.{OpenLife, Insert, Reg, Send, Wait}
use Rattle.rdm_model.specs.declared.entry.Entry.{Entry}
use Rattle.rdm_model.specs.declared.entry.Act.TheVariants as Act
use Rattle.rdm_model.specs.declared.answer.OpName.TheVariants as Op
use Rattle.rdm_model.specs.declared.answer.Next.TheVariants as Next
use Rattle.rdm_model.specs.declared.answer.DidWhat.TheVariants as Did
use Rattle.rdm_model.specs.declared.answer.Handled.TheVariants as Handled
use Rattle.rdm_model.specs.Deeds.{Spelled, log_of}
use Rattle.rdm_model.specs.Scenes.{Scene}
use Rattle.rdm_model.specs.Going.{GoesNote, Goes}
use Rattle.rdm_model.specs.Played.{played_world}
use Rattle.rdm_model.specs.Sends.{Sent, sends}
use Rattle.rdm_model.specs.Completions.{completions}
use Rattle.rdm_model.specs.Lawful.{Lawful, sent_scene}
use Rattle.rdm_rows.proofs.Apart.{nothing, nothing_either, port_apart, number_apart}
use Rattle.rdm_rows.proofs.Greeted.{plain_ends, opened, IsSent, carries}
use Rattle.rdm_rows.specs.Jobs.{zero_five, one_seven, recv, two_ranks}
use Rattle.rdm_rows.specs.Limits.{default_limits}
use Rattle.rdm_rows.specs.Met.{met}
use Rattle.rdm_rows.specs.Words.{every_word}

-- `hello` and `world`, without what stands between them
abbrev pub job_ops_0 : List Instr
job_ops_0 =
    OpenLife (record { 0 = 5 })
    ∷ Insert one_seven
    ∷ Reg (104 ∷ 101 ∷ 108 ∷ 108 ∷ 111 ∷ 32 ∷ 119 ∷ 111 ∷ 114 ∷ 108 ∷ 100 ∷ [])
    ∷ Send (record { to = record { 0 = 1 }; parts = record { region = record { 0 = 0 }; at = 0; len = 5 } ∷ record { region = record { 0 = 0 }; at = 6; len = 5 } ∷ []; tag = (Some 7); cq_data = None; confirm = false })
    ∷ Wait 1
    ∷ []

abbrev pub job_ops_1 : List Instr
job_ops_1 =
    OpenLife (record { 0 = 7 })
    ∷ Reg (replicate 10 0)
    ∷ recv 0 10 7
    ∷ Wait 1
    ∷ []

abbrev pub job : Job
job = two_ranks default_limits job_ops_0 job_ops_1

abbrev pub datagram_0_1 : Datagram
datagram_0_1 = record { src = record { 0 = 0 }; number = record { 0 = 1 }; stamp = record { 0 = 7 }; dst = record { 0 = 1 }; body = Body.Between (record { 0 = 5 }) (record { 0 = 7 }) (Load.Packet (65 ∷ 4 ∷ 9 ∷ 0 ∷ 0 ∷ 0 ∷ 0 ∷ 0 ∷ 7 ∷ 0 ∷ 0 ∷ 0 ∷ 0 ∷ 0 ∷ 0 ∷ 0 ∷ 32 ∷ 0 ∷ 0 ∷ 0 ∷ 0 ∷ 0 ∷ 0 ∷ 0 ∷ 0 ∷ 0 ∷ 0 ∷ 0 ∷ 0 ∷ 0 ∷ 0 ∷ 0 ∷ 0 ∷ 0 ∷ 0 ∷ 0 ∷ 1 ∷ 0 ∷ 0 ∷ 0 ∷ 5 ∷ 0 ∷ 0 ∷ 0 ∷ 0 ∷ 0 ∷ 0 ∷ 0 ∷ 0 ∷ 0 ∷ 0 ∷ 0 ∷ 104 ∷ 101 ∷ 108 ∷ 108 ∷ 111 ∷ 119 ∷ 111 ∷ 114 ∷ 108 ∷ 100 ∷ [])) }

abbrev pub datagram_1_1 : Datagram
datagram_1_1 = record { src = record { 0 = 1 }; number = record { 0 = 1 }; stamp = record { 0 = 11 }; dst = record { 0 = 0 }; body = Body.Between (record { 0 = 7 }) (record { 0 = 5 }) (Load.Packet (9 ∷ 4 ∷ 0 ∷ 128 ∷ 4 ∷ 0 ∷ 0 ∷ 0 ∷ 25 ∷ 0 ∷ 0 ∷ 0 ∷ 0 ∷ 0 ∷ 0 ∷ 0 ∷ 7 ∷ 0 ∷ 0 ∷ 0 ∷ [])) }

abbrev pub datagram_0_2 : Datagram
datagram_0_2 = record { src = record { 0 = 0 }; number = record { 0 = 2 }; stamp = record { 0 = 13 }; dst = record { 0 = 1 }; body = Body.Between (record { 0 = 5 }) (record { 0 = 7 }) (Load.Packet (9 ∷ 4 ∷ 0 ∷ 128 ∷ 4 ∷ 0 ∷ 0 ∷ 0 ∷ 25 ∷ 0 ∷ 0 ∷ 0 ∷ 0 ∷ 0 ∷ 0 ∷ 0 ∷ 5 ∷ 0 ∷ 0 ∷ 0 ∷ [])) }

-- The entries of both ports in order, the newest first:

-- up to the push of the message
abbrev pub before_words : List Entry
before_words =
    record { stamp = record { 0 = 7 }; port = record { 0 = 0 }; act = Act.Push datagram_0_1 }
    ∷ record { stamp = record { 0 = 6 }; port = record { 0 = 0 }; act = Act.Next 3 Op.Send (Next.Did (Did.Sent (record { 0 = 0 }) (record { 0 = 0 }))) }
    ∷ record { stamp = record { 0 = 5 }; port = record { 0 = 1 }; act = Act.Next 2 Op.Recv (Next.Did (Did.Posted (record { 0 = 0 }))) }
    ∷ record { stamp = record { 0 = 5 }; port = record { 0 = 0 }; act = Act.Next 2 Op.Reg (Next.Did (Did.Region (record { 0 = 0 }))) }
    ∷ record { stamp = record { 0 = 4 }; port = record { 0 = 1 }; act = Act.Next 1 Op.Reg (Next.Did (Did.Region (record { 0 = 0 }))) }
    ∷ record { stamp = record { 0 = 4 }; port = record { 0 = 0 }; act = Act.Next 1 Op.Insert (Next.Did Did.Plain) }
    ∷ met

-- up to its handling, which is left out
abbrev pub before_handling : List Entry
before_handling =
    record { stamp = record { 0 = 8 }; port = record { 0 = 0 }; act = Act.Poll (Completion.Send (record { 0 = 0 }) false) }
    ∷ before_words

-- the whole of it
abbrev pub history : List Entry
history =
    record { stamp = record { 0 = 14 }; port = record { 0 = 1 }; act = Act.Handle datagram_0_2 (Handled.Took None) }
    ∷ record { stamp = record { 0 = 13 }; port = record { 0 = 0 }; act = Act.Push datagram_0_2 }
    ∷ record { stamp = record { 0 = 12 }; port = record { 0 = 0 }; act = Act.Handle datagram_1_1 (Handled.Took None) }
    ∷ record { stamp = record { 0 = 11 }; port = record { 0 = 1 }; act = Act.Push datagram_1_1 }
    ∷ record { stamp = record { 0 = 10 }; port = record { 0 = 1 }; act = Act.Next 3 Op.Wait (Next.Did Did.Plain) }
    ∷ record { stamp = record { 0 = 9 }; port = record { 0 = 1 }; act = Act.Poll (Completion.Recv (record { 0 = 0 }) (Took zero_five (Some 7) None (104 ∷ 101 ∷ 108 ∷ 108 ∷ 111 ∷ 119 ∷ 111 ∷ 114 ∷ 108 ∷ 100 ∷ []) 0)) }
    ∷ record { stamp = record { 0 = 9 }; port = record { 0 = 0 }; act = Act.Next 4 Op.Wait (Next.Did Did.Plain) }
    ∷ record { stamp = record { 0 = 8 }; port = record { 0 = 1 }; act = Act.Handle datagram_0_1 (Handled.Took (Some (record { first = record { 0 = 0 }; count = 1 }))) }
    ∷ before_handling

played_0 : (played_world job).logs 0 ≡ log_of 0 history
unfolding every_word
played_0 = refl

played_1 : (played_world job).logs 1 ≡ log_of 1 history
unfolding every_word
played_1 = refl

abbrev words : List ℕ
words = 104 ∷ 101 ∷ 108 ∷ 108 ∷ 111 ∷ 119 ∷ 111 ∷ 114 ∷ 108 ∷ 100 ∷ []

abbrev sender_scene : Scene
sender_scene = sent_scene job 0 before_words

-- the bytes of the message are those of its ranges, one after the other
words_are_sent : map (λ (t : Sent). t.message.bytes) (sends sender_scene.own sender_scene.ms sender_scene.log) ≡ words ∷ []
unfolding every_word
words_are_sent = refl

abbrev receiver_scene : Scene
receiver_scene = sent_scene job 1 history

-- and those are what the receive completes with
words_are_received : completions receiver_scene.own receiver_scene.ms receiver_scene.log ≡ Completion.Recv (record { 0 = 0 }) (Took zero_five (Some 7) None words 0) ∷ []
unfolding every_word
words_are_received = refl

abbrev words_piece : Piece
words_piece = record { offset = 0; bytes = words }

abbrev words_scene : Scene
words_scene = sent_scene job 1 before_handling

all_is_sent : IsSent words_scene zero_five 0 words_piece
unfolding every_word
all_is_sent = (refl, λ q m. elim m [ ])

history_is_lawful : Lawful job history
unfolding every_word
history_is_lawful =
    (((((((((((((((((((((tt, tt, tt, (refl, omega arith, (refl, (OpenLife (record { 0 = 5 }), refl, refl, refl), refl)), λ source n p e. nothing p e, λ t m c f. elim m [ ]), inr (refl, omega arith), tt, (refl, omega arith, (refl, (OpenLife (record { 0 = 7 }), refl, refl, refl), refl)), λ source n p e. nothing p e, λ t m c f. elim m [ ]), inl (omega arith), tt, (refl, omega arith, (refl, refl, refl, (GoesNote (record { to = record { 0 = 1 }; body = NoteBody.Opened (record { 0 = 5 }) }), refl, (refl, refl)))), λ source n p e. nothing p e, λ t m c f. elim m [ ]), inr (refl, omega arith), tt, (refl, omega arith, (refl, refl, refl, (GoesNote (record { to = record { 0 = 0 }; body = NoteBody.Opened (record { 0 = 7 }) }), refl, (refl, refl)))), λ source n p e. nothing p e, λ t m c f. elim m [ ]), inl (omega arith), (refl, inl refl, ((((tt, tt), tt), tt), tt)), (refl, omega arith, (refl, refl)), λ source n p e. nothing p e, λ t m c f. elim m [ ]), inr (refl, omega arith), (refl, inr (inl refl), (((((tt, tt), tt), tt), tt), λ s n. omega (arith, port_apart _ _ s))), (refl, omega arith, (refl, refl)), λ source n p e. nothing p e, λ t m c f. elim m [ ]), inl (omega arith), tt, (refl, omega arith, (refl, (Insert one_seven, refl, refl, refl), refl)), λ source n p e. nothing p e, λ t m c f. elim m [ ]), inr (refl, omega arith), tt, (refl, omega arith, (refl, (Reg (replicate 10 0), refl, refl, refl), refl)), λ source n p e. nothing p e, λ t m c f. elim m [ ]), inl (omega arith), tt, (refl, omega arith, (refl, (Reg (104 ∷ 101 ∷ 108 ∷ 108 ∷ 111 ∷ 32 ∷ 119 ∷ 111 ∷ 114 ∷ 108 ∷ 100 ∷ []), refl, refl, refl), refl)), λ source n p e. nothing p e, λ t m c f. elim m [ ]), inr (refl, omega arith), tt, (refl, omega arith, (refl, (recv 0 10 7, refl, refl, refl), refl)), λ source n p e. nothing p e, λ t m c f. elim m [ ]), inl (omega arith), tt, (refl, omega arith, (refl, (Send (record { to = record { 0 = 1 }; parts = record { region = record { 0 = 0 }; at = 0; len = 5 } ∷ record { region = record { 0 = 0 }; at = 6; len = 5 } ∷ []; tag = (Some 7); cq_data = None; confirm = false }), refl, refl, refl), refl)), λ source n p e. nothing p e, λ t m c f. elim m [ ]), inl (omega arith), tt, (refl, omega arith, (refl, refl, refl, (Goes one_seven (Spelled (Rtm (record { 0 = 0 }) (Some 7) false (record { raw = Some (0, 5); cq_data = None; connid = None }) (Form.Eager (104 ∷ 101 ∷ 108 ∷ 108 ∷ 111 ∷ 119 ∷ 111 ∷ 114 ∷ 108 ∷ 100 ∷ [])))), refl, (refl, (Load.Packet (65 ∷ 4 ∷ 9 ∷ 0 ∷ 0 ∷ 0 ∷ 0 ∷ 0 ∷ 7 ∷ 0 ∷ 0 ∷ 0 ∷ 0 ∷ 0 ∷ 0 ∷ 0 ∷ 32 ∷ 0 ∷ 0 ∷ 0 ∷ 0 ∷ 0 ∷ 0 ∷ 0 ∷ 0 ∷ 0 ∷ 0 ∷ 0 ∷ 0 ∷ 0 ∷ 0 ∷ 0 ∷ 0 ∷ 0 ∷ 0 ∷ 0 ∷ 1 ∷ 0 ∷ 0 ∷ 0 ∷ 5 ∷ 0 ∷ 0 ∷ 0 ∷ 0 ∷ 0 ∷ 0 ∷ 0 ∷ 0 ∷ 0 ∷ 0 ∷ 0 ∷ 104 ∷ 101 ∷ 108 ∷ 108 ∷ 111 ∷ 119 ∷ 111 ∷ 114 ∷ 108 ∷ 100 ∷ []), refl, (refl, refl)))))), λ source n p e. nothing p e, λ t m c f. plain_ends _ t m refl c), inl (omega arith), tt, (refl, omega arith, refl), λ source n p e. nothing p e, λ t m c f. elim m [ ]), inr (refl, omega arith), (refl, inr (inl refl), (((((((((((((tt, tt), tt), tt), tt), λ s n. omega (arith, port_apart _ _ s)), λ s n. omega (arith, number_apart _ _ n)), tt), tt), tt), tt), tt), tt), tt)), (refl, omega arith, (refl, refl)), λ source n p e. carries words_scene words_piece all_is_sent source n p (opened source n _ p e), λ t m c f. elim m [ ]), inl (omega arith), tt, (refl, omega arith, (refl, (Wait 1, refl, refl, refl), refl)), λ source n p e. nothing p e, λ t m c f. elim m [ ]), inr (refl, omega arith), tt, (refl, omega arith, refl), λ source n p e. nothing p e, λ t m c f. elim m [ ]), inl (omega arith), tt, (refl, omega arith, (refl, (Wait 1, refl, refl, refl), refl)), λ source n p e. nothing p e, λ t m c f. elim m [ ]), inl (omega arith), tt, (refl, omega arith, (refl, refl, refl, (Goes zero_five (Spelled (Handshake (25 ∷ []) (record { 0 = 7 }) None)), refl, (refl, (Load.Packet (9 ∷ 4 ∷ 0 ∷ 128 ∷ 4 ∷ 0 ∷ 0 ∷ 0 ∷ 25 ∷ 0 ∷ 0 ∷ 0 ∷ 0 ∷ 0 ∷ 0 ∷ 0 ∷ 7 ∷ 0 ∷ 0 ∷ 0 ∷ []), refl, (refl, refl)))))), λ source n p e. nothing p e, λ t m c f. elim m [ ]), inl (omega arith), (refl, inl refl, ((((((((((((((((((tt, tt), tt), tt), tt), λ s n. omega (arith, number_apart _ _ n)), λ s n. omega (arith, port_apart _ _ s)), tt), tt), tt), tt), tt), tt), tt), λ s n. omega (arith, port_apart _ _ s)), tt), tt), tt), tt)), (refl, omega arith, (refl, refl)), λ source n p e. nothing_either _ p e, λ t m c f. elim m [ ]), inl (omega arith), tt, (refl, omega arith, (refl, refl, refl, (Goes one_seven (Spelled (Handshake (25 ∷ []) (record { 0 = 5 }) None)), refl, (refl, (Load.Packet (9 ∷ 4 ∷ 0 ∷ 128 ∷ 4 ∷ 0 ∷ 0 ∷ 0 ∷ 25 ∷ 0 ∷ 0 ∷ 0 ∷ 0 ∷ 0 ∷ 0 ∷ 0 ∷ 5 ∷ 0 ∷ 0 ∷ 0 ∷ []), refl, (refl, refl)))))), λ source n p e. nothing p e, λ t m c f. elim m [ ]), inl (omega arith), (refl, inl refl, ((((((((((((((((((((tt, tt), tt), tt), tt), λ s n. omega (arith, port_apart _ _ s)), λ s n. omega (arith, number_apart _ _ n)), tt), tt), tt), tt), tt), tt), tt), λ s n. omega (arith, number_apart _ _ n)), tt), tt), tt), tt), λ s n. omega (arith, port_apart _ _ s)), tt)), (refl, omega arith, (refl, refl)), λ source n p e. nothing_either _ p e, λ t m c f. elim m [ ])
