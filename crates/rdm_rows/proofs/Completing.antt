-- A confirmed message of each kind: what goes each way until its send completes.
use Rattle.std.proofs.Common.{◌≡◌, ℕ, [], ◌∷◌, refl}
use Rattle.std.specs.Prelude.{true, false, Some, None, replicate}
use Rattle.rdm_num.specs.declared.completion.Completion.{Completion}
use Rattle.rdm_wire.specs.declared.Body.TheVariants as Body
use Rattle.rdm_wire.specs.declared.Load.TheVariants as Load
use Rattle.rdm_pkt.specs.declared.Packet.TheVariants.{Rtm, Cts, CtsData, Handshake, Receipt}
use Rattle.rdm_pkt.specs.declared.Form.TheVariants as Form
use Rattle.rdm_model.specs.declared.answer.Class.TheVariants as Class
use Rattle.rdm_model.specs.declared.answer.Handled.{Handled}
use Rattle.rdm_model.specs.Deeds.{Item, Spelled}
use Rattle.rdm_model.specs.Scenes.{Scene}
use Rattle.rdm_model.specs.Classes.{class_of}
use Rattle.rdm_model.specs.Takes.{handled_answer}
use Rattle.rdm_model.specs.Going.{going}
use Rattle.rdm_model.specs.Completions.{completions}
use Rattle.rdm_model.specs.Played.{played_world}
use Rattle.rdm_rows.specs.Shown.{pushed_items, polls, is_push_of, is_handle_of, scene_then}
use Rattle.rdm_rows.specs.Words.{every_word}
use Rattle.rdm_rows.proofs.Early.{eager, segmented, granted}

-- the handshakes of both ranks, each to the other one
abbrev greeting_0 : Item
greeting_0 = Spelled (Handshake (27 ∷ []) (record { 0 = 5 }) (Some (record { 0 = 0 })))

abbrev greeting_1 : Item
greeting_1 = Spelled (Handshake (27 ∷ []) (record { 0 = 7 }) None)

abbrev receipt : Item
receipt = Spelled (Receipt (record { 0 = 0 }) (record { 0 = 7 }))

abbrev completed : Completion
completed = Completion.Send (record { 0 = 0 }) false

-- Without a receipt, between ranks that could confirm:

abbrev plain_scene : Scene
plain_scene = scene_then (eager false) 0 (is_push_of 2)

-- the send completes when it is pushed
plain_completes : completions plain_scene.own plain_scene.ms plain_scene.log ≡ completed ∷ []
unfolding every_word
plain_completes = refl

plain_pushed_1 : pushed_items ((played_world (eager false)).logs 1) ≡ greeting_1 ∷ []
unfolding every_word
plain_pushed_1 = refl

-- In two segments, which both ask for the receipt:

segmented_pushed_0 : pushed_items ((played_world segmented).logs 0) ≡
    greeting_0
    ∷ Spelled (Rtm (record { 0 = 0 }) (Some 1) true (record { raw = None; cq_data = None; connid = Some 5 }) (Form.Medium 240 0 (replicate 220 0)))
    ∷ Spelled (Rtm (record { 0 = 0 }) (Some 1) true (record { raw = None; cq_data = None; connid = Some 5 }) (Form.Medium 240 220 (replicate 20 0)))
    ∷ []
unfolding every_word
segmented_pushed_0 = refl

segmented_pushed_1 : pushed_items ((played_world segmented).logs 1) ≡ greeting_1 ∷ receipt ∷ []
unfolding every_word
segmented_pushed_1 = refl

segmented_polled_0 : polls ((played_world segmented).logs 0) ≡ completed ∷ []
unfolding every_word
segmented_polled_0 = refl

-- By grants: the first part asks for the receipt, which comes after the last of the granted bytes

granted_pushed_0 : pushed_items ((played_world granted).logs 0) ≡
    greeting_0
    ∷ Spelled (Rtm (record { 0 = 0 }) (Some 1) true (record { raw = None; cq_data = None; connid = Some 5 }) (Form.LongCts 240 (record { 0 = 0 }) 32 (replicate 220 0)))
    ∷ Spelled (CtsData (record { 0 = 0 }) 220 (record { 0 = 5 }) (replicate 20 0))
    ∷ []
unfolding every_word
granted_pushed_0 = refl

granted_pushed_1 : pushed_items ((played_world granted).logs 1) ≡
    greeting_1 ∷ Spelled (Cts (record { 0 = 0 }) (record { 0 = 0 }) 20 (record { 0 = 7 })) ∷ receipt ∷ []
unfolding every_word
granted_pushed_1 = refl

granted_polled_0 : polls ((played_world granted).logs 0) ≡ completed ∷ []
unfolding every_word
granted_polled_0 = refl

-- once all was pushed nothing goes, and the send is not complete
abbrev granted_scene : Scene
granted_scene = scene_then granted 0 (is_push_of 3)

granted_waits : going granted_scene ≡ None
unfolding every_word
granted_waits = refl

granted_is_live : completions granted_scene.own granted_scene.ms granted_scene.log ≡ []
unfolding every_word
granted_is_live = refl

-- Rank 1, which has taken the first of the two segments:

-- its answer to the second one, in a packet of that type
abbrev answer : (type' : ℕ) → Handled
answer type' =
    handled_answer class_of (scene_then segmented 1 (is_handle_of 0 2))
    (record {
      src = record { 0 = 0 };
      number = record { 0 = 99 };
      stamp = record { 0 = 1 };
      dst = record { 0 = 1 };
      body =
          Body.Between (record { 0 = 5 }) (record { 0 = 7 })
          (Load.Packet
          (type' ∷ 4 ∷ 8 ∷ 128 ∷ 0 ∷ 0 ∷ 0 ∷ 0 ∷ 240 ∷ 0 ∷ 0 ∷ 0 ∷ 0 ∷ 0 ∷ 0 ∷ 0 ∷ 220 ∷ 0 ∷ 0 ∷ 0 ∷ 0 ∷ 0 ∷ 0 ∷ 0 ∷ 1 ∷ 0 ∷ 0 ∷ 0 ∷ 0 ∷ 0 ∷ 0 ∷ 0
          ∷ 5 ∷ 0 ∷ 0 ∷ 0 ∷ replicate 20 0));
    })

-- one that asks for the receipt, as the first one did
same_confirm : answer 203 ≡ Handled.Took None
unfolding every_word
same_confirm = refl

-- one that does not
other_confirm : answer 67 ≡ Handled.Dropped Class.Mismatch
unfolding every_word
other_confirm = refl
