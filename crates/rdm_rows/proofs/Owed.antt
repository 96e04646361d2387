-- Which receives owe a receipt, what it frees, and a confirmed send whose receiver is gone.
use Rattle.std.proofs.Common.{◌≡◌, List, [], ◌∷◌, refl}
use Rattle.std.specs.Prelude.{false, true, Some, None, replicate}
use Rattle.rdm_num.specs.declared.completion.Completion.{Completion}
use Rattle.rdm_num.specs.declared.completion.Outcome.TheVariants.{Took, Cancelled}
use Rattle.rdm_wire.specs.declared.Body.TheVariants as Body
use Rattle.rdm_wire.specs.declared.Load.TheVariants as Load
use Rattle.rdm_pkt.specs.declared.Packet.TheVariants.{Rtm, Handshake, Receipt}
use Rattle.rdm_pkt.specs.declared.Form.TheVariants as Form
use Rattle.rdm_model.specs.declared.job.Job.{Job}
use Rattle.rdm_model.specs.declared.job.Instr.{Instr}
use Rattle.rdm_model.specs.declared.job.Instr.TheVariants.{OpenLife, Insert, Reg, Cancel, Note, Await, Wait, CloseLife}
use Rattle.rdm_model.specs.declared.answer.Next.TheVariants as Next
use Rattle.rdm_model.specs.declared.answer.DidWhat.TheVariants as Did
use Rattle.rdm_model.specs.declared.answer.Why.TheVariants as Why
use Rattle.rdm_model.specs.declared.answer.Yet.TheVariants as Yet
use Rattle.rdm_model.specs.declared.answer.Class.TheVariants as Class
use Rattle.rdm_model.specs.declared.answer.Handled.TheVariants as Handled
use Rattle.rdm_model.specs.Deeds.{Item, Spelled}
use Rattle.rdm_model.specs.Scenes.{deeds_at}
use Rattle.rdm_model.specs.Local.{own_scene}
use Rattle.rdm_model.specs.Takes.{handled_answer}
use Rattle.rdm_model.specs.Classes.{class_of}
use Rattle.rdm_model.specs.Played.{played_world}
use Rattle.rdm_rows.specs.Shown.{pushed_items, polls, answers, ends, finished, left_at}
use Rattle.rdm_rows.specs.Jobs.{zero_five, one_seven, send_with, recv, two_ranks_with}
use Rattle.rdm_rows.specs.Limits.{default_limits}
use Rattle.rdm_rows.specs.Words.{every_word}

-- two ranks that can confirm; rank 0 sends `hello` with a receipt, and then does this
abbrev job_of : (sender receiver : List Instr) → Job
job_of sender receiver =
    two_ranks_with 27 27 default_limits
    (OpenLife (record { 0 = 5 }) ∷ Insert one_seven ∷ Reg (104 ∷ 101 ∷ 108 ∷ 108 ∷ 111 ∷ []) ∷ send_with true 1 0 5 7 ∷ sender)
    (OpenLife (record { 0 = 7 }) ∷ Reg (replicate 8 0) ∷ receiver)

-- what rank 1 pushes: its handshake, and the receipt
abbrev with_receipt : List Item
with_receipt = Spelled (Handshake (27 ∷ []) (record { 0 = 7 }) None) ∷ Spelled (Receipt (record { 0 = 0 }) (record { 0 = 7 })) ∷ []

-- or the handshake alone
abbrev without_receipt : List Item
without_receipt = Spelled (Handshake (27 ∷ []) (record { 0 = 7 }) None) ∷ []

-- the receive is posted once the message has come
abbrev late : Job
late = job_of (Note (record { 0 = 1 }) 1 ∷ Wait 1 ∷ []) (Await (record { 0 = 0 }) 1 ∷ recv 0 8 7 ∷ Wait 1 ∷ [])

late_pushes : pushed_items ((played_world late).logs 1) ≡ with_receipt
unfolding every_word
late_pushes = refl

late_completes : polls ((played_world late).logs 0) ≡ Completion.Send (record { 0 = 0 }) false ∷ []
unfolding every_word
late_completes = refl

-- the receive has room for 3 bytes
abbrev short : Job
short = job_of (Wait 1 ∷ []) (recv 0 3 7 ∷ Wait 1 ∷ [])

short_takes : polls ((played_world short).logs 1) ≡ Completion.Recv (record { 0 = 0 }) (Took zero_five (Some 7) None (104 ∷ 101 ∷ 108 ∷ []) 2) ∷ []
unfolding every_word
short_takes = refl

short_pushes : pushed_items ((played_world short).logs 1) ≡ with_receipt
unfolding every_word
short_pushes = refl

-- the receive is taken back before the message comes, and no other one takes it
abbrev cancelled : Job
cancelled = job_of (Wait 1 ∷ []) (recv 0 8 7 ∷ Cancel (record { 0 = 0 }) ∷ Wait 1 ∷ [])

cancelled_takes : polls ((played_world cancelled).logs 1) ≡ Completion.Recv (record { 0 = 0 }) Cancelled ∷ []
unfolding every_word
cancelled_takes = refl

cancelled_pushes : pushed_items ((played_world cancelled).logs 1) ≡ without_receipt
unfolding every_word
cancelled_pushes = refl

-- so the send never completes
cancelled_ends : ends cancelled (played_world cancelled) ≡ left_at 4 5 (Next.NotYet (Yet.Wait 0 1)) ∷ finished 5 ∷ []
unfolding every_word
cancelled_ends = refl

-- a receive into the range of the send: it is refused though all was pushed, and accepted once the receipt has come
abbrev in_use : Job
in_use = job_of (recv 4 1 9 ∷ Wait 1 ∷ recv 4 1 9 ∷ []) (recv 0 8 7 ∷ Wait 1 ∷ [])

in_use_answers : answers ((played_world in_use).logs 0) ≡
    Next.Did Did.Plain
    ∷ Next.Did Did.Plain
    ∷ Next.Did (Did.Region (record { 0 = 0 }))
    ∷ Next.Did (Did.Sent (record { 0 = 0 }) (record { 0 = 0 }))
    ∷ Next.Refused Why.Busy
    ∷ Next.Did Did.Plain
    ∷ Next.Did (Did.Posted (record { 0 = 0 }))
    ∷ []
unfolding every_word
in_use_answers = refl

-- rank 1 closes its life, with the message unmatched, and opens another one, which rank 0 inserts
abbrev gone : Job
gone =
    job_of (Note (record { 0 = 1 }) 1 ∷ Insert (record { port = record { 0 = 1 }; connid = record { 0 = 8 } }) ∷ Wait 1 ∷ [])
    (Await (record { 0 = 0 }) 1 ∷ CloseLife ∷ OpenLife (record { 0 = 8 }) ∷ [])

-- the send completes as gone, without a receipt
gone_completes : polls ((played_world gone).logs 0) ≡ Completion.Send (record { 0 = 0 }) true ∷ []
unfolding every_word
gone_completes = refl

-- and each life of rank 1 is greeted at its insert
gone_pushes : pushed_items ((played_world gone).logs 0) ≡
    Spelled (Handshake (27 ∷ []) (record { 0 = 5 }) (Some (record { 0 = 0 })))
    ∷ Spelled (Rtm (record { 0 = 0 }) (Some 7) true (record { raw = None; cq_data = None; connid = Some 5 }) (Form.Eager (104 ∷ 101 ∷ 108 ∷ 108 ∷ 111 ∷ [])))
    ∷ Spelled (Handshake (27 ∷ []) (record { 0 = 5 }) (Some (record { 0 = 0 })))
    ∷ []
unfolding every_word
gone_pushes = refl

-- a receipt of the life that is gone
gone_receipt_is_other :
    handled_answer class_of (own_scene gone 0 (deeds_at gone 0 ((played_world gone).logs 0)))
    (record {
      src = record { 0 = 1 };
      number = record { 0 = 99 };
      stamp = record { 0 = 1 };
      dst = record { 0 = 0 };
      body = Body.Between (record { 0 = 7 }) (record { 0 = 5 }) (Load.Packet (10 ∷ 4 ∷ 0 ∷ 128 ∷ 0 ∷ 0 ∷ 0 ∷ 0 ∷ 7 ∷ 0 ∷ 0 ∷ 0 ∷ []));
    }) ≡ Handled.Dropped Class.FromOther
unfolding every_word
gone_receipt_is_other = refl
