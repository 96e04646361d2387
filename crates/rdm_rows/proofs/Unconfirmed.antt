-- Which confirmed sends are refused, and which wait until it is known whether their receiver can confirm.
use Rattle.std.proofs.Common.{◌≡◌, ℕ, List, [], ◌∷◌, refl}
use Rattle.std.specs.Prelude.{Bool, true, false, replicate}
use Rattle.rdm_num.specs.declared.limits.EpLimits.{EpLimits}
use Rattle.rdm_model.specs.declared.job.Job.{Job}
use Rattle.rdm_model.specs.declared.job.Instr.{Instr}
use Rattle.rdm_model.specs.declared.job.Instr.TheVariants.{OpenLife, Insert, Reg, Wait}
use Rattle.rdm_model.specs.declared.job.Choice.{Choice}
use Rattle.rdm_model.specs.declared.entry.Act.{Act}
use Rattle.rdm_model.specs.declared.answer.Next.TheVariants as Next
use Rattle.rdm_model.specs.declared.answer.DidWhat.TheVariants as Did
use Rattle.rdm_model.specs.declared.answer.Why.TheVariants as Why
use Rattle.rdm_model.specs.declared.answer.Yet.TheVariants as Yet
use Rattle.rdm_model.specs.Played.{played_world}
use Rattle.rdm_model.specs.Worlds.{after_choices, new_world}
use Rattle.rdm_model.specs.Answers.{answer_of}
use Rattle.rdm_model.specs.declared.answer.Next.{Next as Answer}
use Rattle.rdm_rows.specs.Shown.{answers, ends, is_handle_of, left_at, is_next_of, scene_then}
use Rattle.rdm_rows.specs.Jobs.{one_seven, recv, send_with, two_ranks_with}
use Rattle.rdm_rows.specs.Limits.{default_limits}
use Rattle.rdm_rows.specs.Words.{every_word}

-- a send of `hello` to rank 1, with or without a receipt
abbrev hello : (confirm : Bool) → Instr
hello confirm = send_with confirm 1 0 5 7

abbrev receiver_ops : List Instr
receiver_ops =
    OpenLife (record { 0 = 7 })
    ∷ Reg (replicate 8 0)
    ∷ recv 0 8 7
    ∷ Wait 1
    ∷ []

-- the features of both ranks, the limits, and what rank 0 does after its first three instructions
abbrev job_of : (own peer : ℕ) → EpLimits → List Instr → List Choice → Job
job_of own peer limits ops choices =
    record (two_ranks_with own peer limits (OpenLife (record { 0 = 5 }) ∷ Insert one_seven ∷ Reg (104 ∷ 101 ∷ 108 ∷ 108 ∷ 111 ∷ []) ∷ ops) receiver_ops) { choices = choices }

-- one send that is confirmed
abbrev job : (own peer : ℕ) → Job
job own peer = job_of own peer default_limits (hello true ∷ Wait 1 ∷ []) []

-- what rank 0 would answer to a send when its newest entry was one that passes
abbrev answer : (own peer : ℕ) → (Act → Bool) → (confirm : Bool) → Answer
answer own peer test confirm =
    answer_of (scene_then (job own peer) 0 test) (hello confirm)

-- Rank 1 was inserted, and no handshake of it has come:

-- both could confirm, but only the own features are known
nothing_is_known : answer 27 27 (is_next_of 2) true ≡ Next.NotYet Yet.Handshake
unfolding every_word
nothing_is_known = refl

-- nor is it known that the other one cannot
nothing_is_known_of_other : answer 27 25 (is_next_of 2) true ≡ Next.NotYet Yet.Handshake
unfolding every_word
nothing_is_known_of_other = refl

-- the own life cannot, whatever the other one can
own_cannot : answer 25 27 (is_next_of 2) true ≡ Next.Refused Why.NoConfirm
unfolding every_word
own_cannot = refl

neither_can : answer 25 25 (is_next_of 2) true ≡ Next.Refused Why.NoConfirm
unfolding every_word
neither_can = refl

-- a send without a receipt asks for nothing of this
without_receipt : answer 25 27 (is_next_of 2) false ≡ Next.Did (Did.Sent (record { 0 = 0 }) (record { 0 = 0 }))
unfolding every_word
without_receipt = refl

without_receipt_at_once : answer 27 27 (is_next_of 2) false ≡ Next.Did (Did.Sent (record { 0 = 0 }) (record { 0 = 0 }))
unfolding every_word
without_receipt_at_once = refl

-- The handshake of rank 1 has come:

both_can : answer 27 27 (is_handle_of 1 1) true ≡ Next.Did (Did.Sent (record { 0 = 0 }) (record { 0 = 0 }))
unfolding every_word
both_can = refl

other_cannot : answer 27 25 (is_handle_of 1 1) true ≡ Next.Refused Why.NoConfirm
unfolding every_word
other_cannot = refl

without_receipt_to_other : answer 27 25 (is_handle_of 1 1) false ≡ Next.Did (Did.Sent (record { 0 = 0 }) (record { 0 = 0 }))
unfolding every_word
without_receipt_to_other = refl

-- Whole jobs:

-- all that rank 0 does before its send, which is refused
abbrev send_refused : List Answer
send_refused = Next.Did Did.Plain ∷ Next.Did Did.Plain ∷ Next.Did (Did.Region (record { 0 = 0 })) ∷ Next.Refused Why.NoConfirm ∷ []

-- the send is refused once the handshake has told, and both ranks wait in vain
other_cannot_answers : answers ((played_world (job 27 25)).logs 0) ≡ send_refused
unfolding every_word
other_cannot_answers = refl

other_cannot_ends : ends (job 27 25) (played_world (job 27 25)) ≡ left_at 4 5 (Next.NotYet (Yet.Wait 0 1)) ∷ left_at 3 4 (Next.NotYet (Yet.Wait 0 1)) ∷ []
unfolding every_word
other_cannot_ends = refl

own_cannot_answers : answers ((played_world (job 25 27)).logs 0) ≡ send_refused
unfolding every_word
own_cannot_answers = refl

-- up to the two sends of rank 0, before it pushes a packet
abbrev up_to_sends : List Choice
up_to_sends =
    Choice.Next 0 ∷ Choice.Push 0 ∷ Choice.Next 1 ∷ Choice.Push 1 ∷ Choice.Handle 0 0 ∷ Choice.Next 0 ∷ Choice.Next 0 ∷ Choice.Next 0 ∷ Choice.Next 0 ∷ []

-- a send without a receipt has the one place for sends: the confirmed one waits for the handshake first
abbrev one_place : Job
one_place = job_of 27 27 (record default_limits { tx = 1 }) (hello false ∷ hello true ∷ []) up_to_sends

one_place_ends : ends one_place (after_choices one_place new_world one_place.choices) ≡
    left_at 4 5 (Next.NotYet Yet.Handshake)
    ∷ left_at 1 4 (Next.Did (Did.Region (record { 0 = 0 })))
    ∷ []
unfolding every_word
one_place_ends = refl

-- it has the one number too: that is refused before all that concerns receipts
abbrev one_number : Job
one_number = job_of 25 27 (record default_limits { first = 4294967295 }) (hello false ∷ hello true ∷ []) up_to_sends

one_number_answers : answers ((after_choices one_number new_world one_number.choices).logs 0) ≡
    Next.Did Did.Plain
    ∷ Next.Did Did.Plain
    ∷ Next.Did (Did.Region (record { 0 = 0 }))
    ∷ Next.Did (Did.Sent (record { 0 = 0 }) (record { 0 = 4294967295 }))
    ∷ Next.Refused Why.Numbers
    ∷ []
unfolding every_word
one_number_answers = refl
