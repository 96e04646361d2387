-- What the ranges of a send may be, and how a receiver reads them.
use Rattle.std.proofs.Common.{◌≡◌, List, [], ◌∷◌, ◌++◌, refl, ℕ}
use Rattle.std.specs.Prelude.{false, true, Some, None, replicate}
use Rattle.rdm_num.specs.declared.parts.Span.{Span}
use Rattle.rdm_num.specs.declared.completion.Completion.{Completion}
use Rattle.rdm_num.specs.declared.completion.Outcome.TheVariants.{Took}
use Rattle.rdm_pkt.specs.declared.Packet.TheVariants.{Rtm, Eor, Handshake}
use Rattle.rdm_pkt.specs.declared.Form.TheVariants as Form
use Rattle.rdm_model.specs.declared.job.Job.{Job}
use Rattle.rdm_model.specs.declared.job.Instr.{Instr}
use Rattle.rdm_model.specs.declared.job.Instr.TheVariants.{OpenLife, Insert, Reg, Send, Wait}
use Rattle.rdm_model.specs.declared.job.Choice.TheVariants as Choice
use Rattle.rdm_model.specs.declared.answer.Next.TheVariants as Next
use Rattle.rdm_model.specs.declared.answer.DidWhat.TheVariants as Did
use Rattle.rdm_model.specs.declared.answer.Why.TheVariants as Why
use Rattle.rdm_model.specs.Deeds.{Spelled, Asks, Gives}
use Rattle.rdm_model.specs.Played.{played_world}
use Rattle.rdm_model.specs.Worlds.{after_choices, new_world}
use Rattle.rdm_rows.specs.Shown.{pushed_items, polls, answers}
use Rattle.rdm_rows.specs.Jobs.{zero_five, one_seven, recv, one_rank, two_ranks_with}
use Rattle.rdm_rows.specs.Limits.{default_limits}
use Rattle.rdm_rows.specs.Words.{every_word}

-- a range
abbrev span : (region at len : ℕ) → Span
span region at len = record { region = record { 0 = region }; at = at; len = len }

-- a send to the own life
abbrev to_itself : List Span → Instr
to_itself parts = Send (record { to = record { 0 = 0 }; parts = parts; tag = Some 2; cq_data = None; confirm = false })

-- a receive of one byte
abbrev byte_at_place : ℕ → Instr
byte_at_place at = recv at 1 1

-- a region of 4 bytes, of which a receive has the third
abbrev tried_ops : List Instr
tried_ops =
    OpenLife (record { 0 = 5 })
    ∷ Insert zero_five
    ∷ Reg (replicate 4 0)
    ∷ byte_at_place 2
    ∷ to_itself (span 0 0 2 ∷ span 0 1 2 ∷ [])
    ∷ to_itself (span 0 0 2 ∷ span 0 4 1 ∷ [])
    ∷ to_itself (span 0 4 1 ∷ span 1 0 0 ∷ [])
    ∷ to_itself (span 0 0 2 ∷ span 0 0 2 ∷ span 0 2 0 ∷ span 0 4 0 ∷ [])
    ∷ byte_at_place 1
    ∷ byte_at_place 3
    ∷ []

abbrev tried : Job
tried = record (one_rank default_limits tried_ops) { choices = replicate 10 (Choice.Next 0) }

-- refused are ranges of which one meets the receive, one passes the end, or one is of no region, which comes first. The same range
-- twice and empty ones are not. Then a receive is refused that meets one of the ranges
tried_answers : answers ((after_choices tried new_world tried.choices).logs 0) ≡
    Next.Did Did.Plain
    ∷ Next.Did Did.Plain
    ∷ Next.Did (Did.Region (record { 0 = 0 }))
    ∷ Next.Did (Did.Posted (record { 0 = 0 }))
    ∷ Next.Refused Why.Busy
    ∷ Next.Refused Why.Range
    ∷ Next.Refused Why.NoRegion
    ∷ Next.Did (Did.Sent (record { 0 = 0 }) (record { 0 = 0 }))
    ∷ Next.Refused Why.Busy
    ∷ Next.Did (Did.Posted (record { 0 = 1 }))
    ∷ []
unfolding every_word
tried_answers = refl

-- 200 bytes of one region, none, and 120 of another one
abbrev read_ops_0 : List Instr
read_ops_0 =
    OpenLife (record { 0 = 5 })
    ∷ Insert one_seven
    ∷ Reg (replicate 200 1)
    ∷ Reg (replicate 220 2)
    ∷ Send (record { to = record { 0 = 1 }; parts = span 0 0 200 ∷ span 0 150 0 ∷ span 1 100 120 ∷ []; tag = Some 1; cq_data = None; confirm = true })
    ∷ Wait 1
    ∷ []

abbrev read_ops_1 : List Instr
read_ops_1 =
    OpenLife (record { 0 = 7 })
    ∷ Reg (replicate 320 0)
    ∷ recv 0 320 1
    ∷ Wait 1
    ∷ []

-- the message is read, and asks for a receipt
abbrev read : Job
read = two_ranks_with 27 27 (record default_limits { mtu = 256; read_limit = 280 }) read_ops_0 read_ops_1

-- the read list has the ranges that are not empty, and says nothing of a receipt
read_pushed_0 : pushed_items ((played_world read).logs 0) ≡
    Spelled (Handshake (27 ∷ []) (record { 0 = 5 }) (Some (record { 0 = 0 })))
    ∷ Spelled (Rtm (record { 0 = 0 }) (Some 1) false (record { raw = None; cq_data = None; connid = Some 5 })
    (Form.LongRead 320 (record { 0 = 0 }) (record { offset = 0; length = 200; key = 0 } ∷ record { offset = 100; length = 120; key = 1 } ∷ [])))
    ∷ Gives (record { recv_id = record { 0 = 0 }; at = 0; bytes = replicate 200 1 })
    ∷ Gives (record { recv_id = record { 0 = 0 }; at = 200; bytes = replicate 120 2 })
    ∷ []
unfolding every_word
read_pushed_0 = refl

-- each range is asked for, and the end of the read stands for the receipt
read_pushed_1 : pushed_items ((played_world read).logs 1) ≡
    Spelled (Handshake (27 ∷ []) (record { 0 = 7 }) None)
    ∷ Asks (record { send_id = record { 0 = 0 }; recv_id = record { 0 = 0 }; key = 0; offset = 0; length = 200; at = 0 })
    ∷ Asks (record { send_id = record { 0 = 0 }; recv_id = record { 0 = 0 }; key = 1; offset = 100; length = 120; at = 200 })
    ∷ Spelled (Eor (record { 0 = 0 }) (record { 0 = 0 }) (record { 0 = 7 }))
    ∷ []
unfolding every_word
read_pushed_1 = refl

read_polled_0 : polls ((played_world read).logs 0) ≡ Completion.Send (record { 0 = 0 }) false ∷ []
unfolding every_word
read_polled_0 = refl

read_polled_1 : polls ((played_world read).logs 1) ≡
    Completion.Recv (record { 0 = 0 }) (Took zero_five (Some 1) None (replicate 200 1 ++ replicate 120 2) 0) ∷ []
unfolding every_word
read_polled_1 = refl
