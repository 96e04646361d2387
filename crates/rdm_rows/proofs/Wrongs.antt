-- Steps that a wrong endpoint would make, each refused.
use Rattle.std.proofs.Common.{◌≡◌, ℕ, List, [], ◌∷◌, ap, arith}
use Rattle.std.specs.Prelude.{Option, Some, None, get_or, replicate}
use Rattle.rdm_num.specs.declared.completion.Completion.{Completion}
use Rattle.rdm_num.specs.declared.completion.Outcome.TheVariants.{Took}
use Rattle.rdm_wire.specs.declared.Datagram.{Datagram}
use Rattle.rdm_model.specs.declared.job.Job.{Job}
use Rattle.rdm_model.specs.declared.job.Instr.{Instr}
use Rattle.rdm_model.specs.declared.job.Instr.TheVariants.{OpenLife, Insert, Reg, Recv}
use Rattle.rdm_model.specs.declared.entry.Act.{Act}
use Rattle.rdm_model.specs.declared.answer.Entered.{Entered}
use Rattle.rdm_model.specs.declared.answer.Handled.{Handled}
use Rattle.rdm_model.specs.Classes.{class_of}
use Rattle.rdm_model.specs.Local.{own_scene}
use Rattle.rdm_model.specs.Scenes.{Scene, deeds_at}
use Rattle.rdm_model.specs.Steps.{Does}
use Rattle.rdm_rows.proofs.Apart.{nothing, took_is_no_drop}
use Rattle.rdm_rows.specs.Shown.{is_push_of, is_handle_of, is_next_of, scene_then}
use Rattle.rdm_rows.specs.Jobs.{zero_five, one_seven, send, recv, two_ranks}
use Rattle.rdm_rows.specs.Limits.{default_limits}
use Rattle.rdm_rows.specs.Words.{every_word}
use Rattle.rdm_rows.proofs.Asked as Read
use Rattle.rdm_rows.proofs.Segments as Segments
use Rattle.rdm_rows.proofs.Strangers as Strangers

abbrev sender_ops : List Instr
sender_ops =
    OpenLife (record { 0 = 5 })
    ∷ Insert one_seven
    ∷ Reg (97 ∷ [])
    ∷ send 1 0 1 257
    ∷ []

-- two receives of tags 256 to 511, and between them one of tag 257
abbrev receiver_ops : List Instr
receiver_ops =
    OpenLife (record { 0 = 7 })
    ∷ Reg (replicate 3 0)
    ∷ Recv (record { from = None; region = record { 0 = 0 }; at = 0; len = 1; want = Some (record { tag = 256; ignore = 255 }) })
    ∷ recv 1 1 257
    ∷ Recv (record { from = None; region = record { 0 = 0 }; at = 2; len = 1; want = Some (record { tag = 256; ignore = 255 }) })
    ∷ []

abbrev job : Job
job = two_ranks default_limits sender_ops receiver_ops

-- the port does that in the scene
abbrev DoesIn : Job → ℕ → Scene → Act → Type 0
DoesIn job port s act = Does job class_of s [] (record { stamp = record { 0 = 0 }; port = record { 0 = port }; act = act }) act

recv_of : Option Completion → ℕ
recv_of (Some (Completion.Recv recv outcome)) = recv.0
recv_of _ = 3

-- the message that all three receives take
abbrev taken_by : ℕ → Completion
taken_by n = Completion.Recv (record { 0 = n }) (Took zero_five (Some 257) None (97 ∷ []) 0)

first_takes : (n : ℕ) → Some (taken_by 0) ≡ Some (taken_by n) → 0 ≡ n
unfolding recv_of
first_takes n e = ap recv_of e

-- where masked bits are compared, the receive of the very tag takes the message
masked_bits_are_refused : DoesIn job 1 (scene_then job 1 (is_handle_of 0 1)) (Act.Poll (taken_by 1)) → ⊥
unfolding every_word
masked_bits_are_refused e = omega (arith, first_takes 1 e)

-- the newest receive takes the message
newest_is_refused : DoesIn job 1 (scene_then job 1 (is_handle_of 0 1)) (Act.Poll (taken_by 2)) → ⊥
unfolding every_word
newest_is_refused e = omega (arith, first_takes 2 e)

-- a send that is read completes when the last of its bytes was pushed, before its end came
read_ends_early_is_refused : (c : Completion) → DoesIn Read.job 0 (scene_then Read.job 0 (is_push_of 5)) (Act.Poll c) → ⊥
unfolding every_word
read_ends_early_is_refused c e = nothing c e

-- bytes that were asked for are asked for once more
second_reading_is_refused : (d : Datagram) → DoesIn Read.job 1 (scene_then Read.job 1 (is_push_of 3)) (Act.Push d) → ⊥
unfolding every_word
second_reading_is_refused d e = nothing e.3.0 e.3.1

first_byte : Option Completion → ℕ
first_byte (Some (Completion.Recv recv (Took from tag cq_data bytes excess))) = get_or bytes 0 0
first_byte _ = 0

-- the segmented message with these bytes
abbrev segmented : List ℕ → Completion
segmented bytes = Completion.Recv (record { 0 = 0 }) (Took zero_five (Some 1) None bytes 0)

begins_otherwise : (bytes rest : List ℕ) → Some (segmented (0 ∷ bytes)) ≡ Some (segmented (105 ∷ rest)) → ⊥
unfolding first_byte
begins_otherwise bytes rest e = omega (arith, ap first_byte e)

-- segments are placed as they come, so that the third one, which begins with 105, stands first
placed_as_they_come_is_refused : (rest : List ℕ) → DoesIn Segments.job 1 (scene_then Segments.job 1 (is_next_of 2)) (Act.Poll (segmented (105 ∷ rest))) → ⊥
unfolding every_word
placed_as_they_come_is_refused rest e = begins_otherwise _ rest e

-- the identifier of the source is ignored, and a message of another life of its port is taken
other_identifier_is_refused : (entered : Option Entered)
    → DoesIn Strangers.job 1 (own_scene Strangers.job 1 (deeds_at Strangers.job 1 Strangers.greeted)) (Act.Handle Strangers.successor_hello (Handled.Took entered)) → ⊥
unfolding every_word
other_identifier_is_refused entered e = took_is_no_drop _ entered e.0
