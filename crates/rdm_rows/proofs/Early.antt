-- Receipts that no port of the job pushed come to a live send: which of them it takes.
use Rattle.std.proofs.Common.{◌≡◌, ℕ, List, [], ◌∷◌, refl}
use Rattle.std.specs.Prelude.{Bool, true, false, Option, None, replicate}
use Rattle.rdm_num.specs.declared.limits.EpLimits.{EpLimits}
use Rattle.rdm_wire.specs.declared.Datagram.{Datagram}
use Rattle.rdm_wire.specs.declared.Body.TheVariants as Body
use Rattle.rdm_wire.specs.declared.Load.TheVariants as Load
use Rattle.rdm_model.specs.declared.job.Job.{Job}
use Rattle.rdm_model.specs.declared.job.Instr.{Instr}
use Rattle.rdm_model.specs.declared.job.Instr.TheVariants.{OpenLife, Insert, Reg, Wait}
use Rattle.rdm_model.specs.declared.entry.Act.{Act}
use Rattle.rdm_model.specs.declared.answer.Class.{Class}
use Rattle.rdm_model.specs.declared.answer.Entered.{Entered}
use Rattle.rdm_model.specs.declared.answer.Handled.{Handled}
use Rattle.rdm_model.specs.Targets.{live_message}
use Rattle.rdm_model.specs.ClassFacts.{is_early_receipt}
use Rattle.rdm_model.specs.Classes.{class_of}
use Rattle.rdm_model.specs.Takes.{handled_answer}
use Rattle.rdm_model.specs.Steps.{Does}
use Rattle.rdm_rows.proofs.Apart.{took_is_no_drop}
use Rattle.rdm_rows.specs.Shown.{is_push_of, is_handle_of, is_next_of, scene_then}
use Rattle.rdm_rows.specs.Jobs.{one_seven, recv, send_with, two_ranks_with}
use Rattle.rdm_rows.specs.Limits.{default_limits}
use Rattle.rdm_rows.specs.Words.{every_word}

-- one message of that length goes from rank 0 to rank 1, with or without a receipt
abbrev pub ops_0 : (confirm : Bool) → (len : ℕ) → List Instr
ops_0 confirm len =
    OpenLife (record { 0 = 5 })
    ∷ Insert one_seven
    ∷ Reg (replicate len 0)
    ∷ send_with confirm 1 0 len 1
    ∷ Wait 1
    ∷ []

abbrev pub ops_1 : (len : ℕ) → List Instr
ops_1 len =
    OpenLife (record { 0 = 7 })
    ∷ Reg (replicate len 0)
    ∷ recv 0 len 1
    ∷ Wait 1
    ∷ []

-- both ranks can confirm
abbrev pub job_of : EpLimits → (confirm : Bool) → (len : ℕ) → Job
job_of limits confirm len = two_ranks_with 27 27 limits (ops_0 confirm len) (ops_1 len)

-- a packet has it all
abbrev pub eager : Bool → Job
eager confirm = job_of default_limits confirm 5

-- two segments have it
abbrev pub segmented : Job
segmented = job_of (record default_limits { mtu = 256 }) true 240

-- a first part and one more packet, once its bytes are granted
abbrev pub granted : Job
granted = job_of (record default_limits { mtu = 256; medium = 0 }) true 240

-- the receiver reads it
abbrev pub read : Job
read = job_of (record default_limits { mtu = 256; read_limit = 240 }) true 240

-- a receipt of the message with that number, from life 1.7
abbrev receipt : ℕ → Datagram
receipt number =
    record {
      src = record { 0 = 1 };
      number = record { 0 = 99 };
      stamp = record { 0 = 1 };
      dst = record { 0 = 0 };
      body = Body.Between (record { 0 = 7 }) (record { 0 = 5 }) (Load.Packet (10 ∷ 4 ∷ 0 ∷ 128 ∷ number ∷ 0 ∷ 0 ∷ 0 ∷ 7 ∷ 0 ∷ 0 ∷ 0 ∷ []));
    }

abbrev answer : Job → (Act → Bool) → (number : ℕ) → Handled
answer job test number = handled_answer class_of (scene_then job 0 test) (receipt number)

-- Rank 0, whose message goes in one packet:

-- the send is accepted, and nothing of it was pushed
before_packet : answer (eager true) (is_next_of 3) 0 ≡ Handled.Dropped Class.Mismatch
unfolding every_word
before_packet = refl

-- the packet was pushed
after_packet : answer (eager true) (is_push_of 2) 0 ≡ Handled.Took None
unfolding every_word
after_packet = refl

-- a receipt of a message that was not sent
of_other_message : answer (eager true) (is_push_of 2) 1 ≡ Handled.Dropped Class.NoOp
unfolding every_word
of_other_message = refl

-- the send asks for no receipt
not_asked_for : answer (eager false) (is_next_of 3) 0 ≡ Handled.Dropped Class.NoOp
unfolding every_word
not_asked_for = refl

-- Rank 0, whose message goes in two segments:

-- one was pushed
after_first_segment : answer segmented (is_push_of 2) 0 ≡ Handled.Dropped Class.Mismatch
unfolding every_word
after_first_segment = refl

-- since the receipt is early
is_early : is_early_receipt (scene_then segmented 0 (is_push_of 2)) (live_message (scene_then segmented 0 (is_push_of 2)) one_seven 0) ≡ true
unfolding every_word
is_early = refl

-- so a log that takes it is refused
early_receipt_is_refused : (entered : Option Entered)
    → Does segmented class_of (scene_then segmented 0 (is_push_of 2)) []
    (record { stamp = record { 0 = 11 }; port = record { 0 = 0 }; act = Act.Handle (receipt 0) (Handled.Took entered) })
    (Act.Handle (receipt 0) (Handled.Took entered))
    → ⊥
unfolding every_word
early_receipt_is_refused entered e = took_is_no_drop _ entered e.0

-- both were pushed
after_both_segments : answer segmented (is_push_of 3) 0 ≡ Handled.Took None
unfolding every_word
after_both_segments = refl

-- Rank 0, whose message goes by grants:

-- its first part was pushed
after_first_part : answer granted (is_push_of 2) 0 ≡ Handled.Dropped Class.Mismatch
unfolding every_word
after_first_part = refl

-- the rest is granted
after_grant : answer granted (is_handle_of 1 2) 0 ≡ Handled.Dropped Class.Mismatch
unfolding every_word
after_grant = refl

-- and was pushed
after_granted_bytes : answer granted (is_push_of 3) 0 ≡ Handled.Took None
unfolding every_word
after_granted_bytes = refl

-- Rank 0, whose message is read: its end completes it, and no receipt does
of_read_message : answer read (is_push_of 2) 0 ≡ Handled.Dropped Class.NoOp
unfolding every_word
of_read_message = refl
