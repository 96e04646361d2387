-- Histories that differ from that of the confirmed send in one entry, and are not lawful.
use Rattle.std.proofs.Common.{◌≡◌, List, [], ◌∷◌, refl, inl}
use Rattle.std.specs.Prelude.{Option, Some, None, true, false, replicate}
use Rattle.rdm_num.specs.declared.completion.Completion.{Completion}
use Rattle.rdm_num.specs.declared.completion.Completion.TheVariants as Completions
use Rattle.rdm_wire.specs.declared.Datagram.{Datagram}
use Rattle.rdm_pkt.specs.declared.Packet.{Packet}
use Rattle.rdm_pkt.specs.declared.Kind.{Kind}
use Rattle.rdm_pkt.specs.declared.Packet.TheVariants.{Receipt, Eor}
use Rattle.rdm_model.specs.declared.entry.Entry.{Entry}
use Rattle.rdm_model.specs.declared.report.End.{End}
use Rattle.rdm_model.specs.declared.entry.Act.TheVariants as Act
use Rattle.rdm_model.specs.declared.answer.Handled.{Handled}
use Rattle.rdm_model.specs.declared.answer.Class.{Class}
use Rattle.rdm_model.specs.declared.answer.Entered.{Entered}
use Rattle.rdm_model.specs.Deeds.{Spelled, Took}
use Rattle.rdm_model.specs.Scenes.{Scene, deeds_at}
use Rattle.rdm_model.specs.Local.{own_scene}
use Rattle.rdm_model.specs.Sends.{Sent}
use Rattle.rdm_model.specs.Dues.{is_pushed, is_complete, is_over, live_sends, progress}
use Rattle.rdm_model.specs.Completions.{completions}
use Rattle.rdm_model.specs.Going.{going, Goes}
use Rattle.rdm_model.specs.Targets.{live_message, is_confirmed_send}
use Rattle.rdm_model.specs.Classes.{class_of}
use Rattle.rdm_model.specs.Steps.{Does}
use Rattle.rdm_model.specs.Played.{played_world}
use Rattle.rdm_model.specs.Lawful.{Lawful, Confirms, sent_scene}
use Rattle.rdm_law.specs.Headline.{SaysRight}
use Rattle.rdm_rows.proofs.Confirming.{job, before_hello, before_push, before_receipt, after_receipt, own_after_receipt, datagram_1_2}
use Rattle.rdm_rows.proofs.Confirmed.{confirmed_send, hello}
use Rattle.rdm_rows.proofs.Early.{read}
use Rattle.rdm_rows.proofs.Apart.{nothing, took_is_no_drop}
use Rattle.rdm_rows.specs.Shown.{log_at, is_push_of, told}
use Rattle.rdm_rows.specs.Jobs.{zero_five, one_seven}
use Rattle.rdm_rows.specs.Words.{every_word}

-- Rank 0 has pushed `hello`, and no receipt has come:

abbrev pushed_scene : Scene
pushed_scene = sent_scene job 0 before_hello

abbrev pushed_packets : List Packet
pushed_packets = (progress pushed_scene.own pushed_scene.ms pushed_scene.log).packets 0

-- the whole message was pushed
hello_is_pushed : is_pushed hello pushed_packets ≡ true
unfolding every_word
hello_is_pushed = refl

-- and the send is not complete, so it is live
hello_is_not_over : is_over pushed_scene.log pushed_packets hello ≡ false
unfolding every_word
hello_is_not_over = refl

hello_is_live : live_sends pushed_scene.own pushed_scene.ms pushed_scene.log ≡ hello ∷ []
unfolding every_word
hello_is_live = refl

-- the same send without a receipt would be complete
unconfirmed_is_complete : is_complete pushed_scene.log pushed_packets (record hello { message = record hello.message { confirm = false } }) ≡ true
unfolding every_word
unconfirmed_is_complete = refl

nothing_completes : completions pushed_scene.own pushed_scene.ms pushed_scene.log ≡ []
unfolding every_word
nothing_completes = refl

-- a confirmed send that completes at its push
completion_at_push_is_refused : (c : Completion) → Lawful job (record { stamp = record { 0 = 11 }; port = record { 0 = 0 }; act = Act.Poll c } ∷ before_hello) → ⊥
unfolding every_word
completion_at_push_is_refused c h = nothing c h.3.2

-- a receipt that is taken before the message was received, however it came to be there
receipt_before_receive_is_refused : Confirms job before_hello pushed_scene (Took one_seven (Spelled (Receipt (record { 0 = 0 }) (record { 0 = 7 })))) → ⊥
unfolding every_word
receipt_before_receive_is_refused confirms = elim (confirms hello (inl refl) refl refl).1 [ ]

-- so is a report of it
receipt_first : Entry
receipt_first = record { stamp = record { 0 = 11 }; port = record { 0 = 0 }; act = Act.Handle datagram_1_2 (Handled.Took None) }

report_of_receipt_first_is_refused : (ends : List End) → SaysRight job (told (receipt_first ∷ before_hello) ends) → ⊥
unfolding every_word receipt_first
report_of_receipt_first_is_refused ends s = receipt_before_receive_is_refused (s.confirmed [] receipt_first before_hello refl)

-- and one in which the send was polled at its push
polled_at_push : Entry
polled_at_push = record { stamp = record { 0 = 11 }; port = record { 0 = 0 }; act = Act.Poll (Completions.Send (record { 0 = 0 }) false) }

report_of_completion_at_push_is_refused : (ends : List End) → SaysRight job (told (polled_at_push ∷ before_hello) ends) → ⊥
unfolding every_word polled_at_push
report_of_completion_at_push_is_refused ends s =
    elim (s.confirmed_polls [] polled_at_push before_hello (record { 0 = 0 }) (record { 0 = 5 }) hello refl refl refl (inl refl) refl refl).1 [ ]

-- so is the end of a read that is taken before the message was received, where the send is confirmed
abbrev read_log : List Entry
read_log = log_at (is_push_of 2) ((played_world read).logs 0)

abbrev read_scene : Scene
read_scene = sent_scene read 0 read_log

-- the send of the message that is read, as it was accepted
abbrev read_send : Sent
read_send = confirmed_send Kind.LongRead 1 240 (replicate 240 0)

end_before_receive_is_refused : Confirms read read_log read_scene (Took one_seven (Spelled (Eor (record { 0 = 0 }) (record { 0 = 0 }) (record { 0 = 7 })))) → ⊥
unfolding every_word
end_before_receive_is_refused confirms = elim (confirms read_send (inl refl) refl refl).1 [ ]

-- Rank 1 owes the receipt once the message is received, and owes nothing once it was pushed:

receipt_goes : going (sent_scene job 1 before_push) ≡ Some (Goes zero_five (Spelled (Receipt (record { 0 = 0 }) (record { 0 = 7 }))))
unfolding every_word
receipt_goes = refl

-- a receipt that is pushed twice, as anything else
second_push_is_refused : (d : Datagram) → Lawful job (record { stamp = record { 0 = 15 }; port = record { 0 = 1 }; act = Act.Push d } ∷ before_receipt) → ⊥
unfolding every_word
second_push_is_refused d h = nothing h.3.2.3.0 h.3.2.3.1

-- Rank 0 has taken the receipt:

abbrev receipt_scene : Scene
receipt_scene = sent_scene job 0 after_receipt

receipt_completes : completions receipt_scene.own receipt_scene.ms receipt_scene.log ≡ Completion.Send (record { 0 = 0 }) false ∷ []
unfolding every_word
receipt_completes = refl

no_send_is_live : live_sends receipt_scene.own receipt_scene.ms receipt_scene.log ≡ []
unfolding every_word
no_send_is_live = refl

-- the datagram of the receipt comes again, be it taken or dropped
second_coming_is_refused : (answer : Handled) → Lawful job (record { stamp = record { 0 = 16 }; port = record { 0 = 0 }; act = Act.Handle datagram_1_2 answer } ∷ after_receipt) → ⊥
unfolding every_word
second_coming_is_refused answer h = h.2.2.1 refl refl

-- another datagram with the same receipt
abbrev receipt_again : Datagram
receipt_again = record { src = record { 0 = 1 }; number = record { 0 = 3 }; stamp = record { 0 = 15 }; dst = record { 0 = 0 }; body = datagram_1_2.body }

-- the scene of rank 0 by what it took itself
abbrev own_receipt_scene : Scene
own_receipt_scene = own_scene job 0 (deeds_at job 0 own_after_receipt)

-- it names no live send
nothing_to_confirm : is_confirmed_send (live_message own_receipt_scene one_seven 0) ≡ false
unfolding every_word
nothing_to_confirm = refl

second_receipt_is_no_op : class_of own_receipt_scene receipt_again ≡ Some Class.NoOp
unfolding every_word
second_receipt_is_no_op = refl

-- so a log that takes it is refused
second_receipt_is_refused : (entered : Option Entered)
    → Does job class_of own_receipt_scene [] (record { stamp = record { 0 = 16 }; port = record { 0 = 0 }; act = Act.Handle receipt_again (Handled.Took entered) }) (Act.Handle receipt_again (Handled.Took entered))
    → ⊥
unfolding every_word
second_receipt_is_refused entered e = took_is_no_drop _ entered e.0
