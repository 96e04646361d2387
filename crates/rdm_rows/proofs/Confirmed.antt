-- The whole history of the confirmed send is lawful, in all that a right report says of it.
use Rattle.std.proofs.Common.{◌≡◌, ℕ, List, [], ◌∷◌, refl, inl, inr, arith, subst}
use Rattle.std.specs.Prelude.{Some, None, replicate, true, ◌⊎◌}
use Rattle.rdm_num.specs.Pieces.{Piece}
use Rattle.rdm_wire.specs.declared.NoteBody.TheVariants as NoteBody
use Rattle.rdm_wire.specs.declared.Load.TheVariants as Load
use Rattle.rdm_pkt.specs.declared.Packet.TheVariants.{Rtm, Handshake, Receipt}
use Rattle.rdm_pkt.specs.declared.Form.TheVariants as Form
use Rattle.rdm_pkt.specs.declared.Kind.{Kind}
use Rattle.rdm_match.specs.Matcher.{Pair}
use Rattle.rdm_model.specs.declared.job.Instr.TheVariants.{OpenLife, Insert, Reg, Wait}
use Rattle.rdm_model.specs.declared.report.Report.{Report}
use Rattle.rdm_model.specs.Deeds.{Spelled, log_of}
use Rattle.rdm_model.specs.Scenes.{Scene}
use Rattle.rdm_model.specs.Going.{GoesNote, Goes}
use Rattle.rdm_model.specs.Local.{Local}
use Rattle.rdm_model.specs.Sends.{Sent}
use Rattle.rdm_model.specs.Jobs.{is_fair, law_ops}
use Rattle.rdm_model.specs.Lawful.{Lawful, IsReceived, sent_scene}
use Rattle.rdm_model.specs.Reports.{RightReport}
use Rattle.rdm_law.specs.Headline.{SaysRight}
use Rattle.rdm_law.proofs.Central.TheLaw.{the_headline}
use Rattle.rdm_rows.proofs.Apart.{nothing, nothing_either, port_apart, number_apart}
use Rattle.rdm_rows.proofs.Greeted.{opened, IsSent, carries}
use Rattle.rdm_rows.proofs.Confirming.{job, history, before_hello, before_receipt}
use Rattle.rdm_rows.specs.Jobs.{zero_five, one_seven, send_with, recv}
use Rattle.rdm_rows.specs.Shown.{finished, told}
use Rattle.rdm_rows.specs.Words.{every_word}

-- the confirmed send of bytes to 1.7, as it was accepted
abbrev pub confirmed_send : Kind → (tag len : ℕ) → List ℕ → Sent
confirmed_send kind tag len bytes =
    record {
      number = 0;
      to = one_seven;
      req = record { to = record { 0 = 1 }; parts = record { region = record { 0 = 0 }; at = 0; len = len } ∷ []; tag = Some tag; cq_data = None; confirm = true };
      kind = kind;
      message = record {
        no = record { 0 = 0 };
        tag = Some tag;
        confirm = true;
        opt = record { raw = None; cq_data = None; connid = Some 5 };
        send = record { 0 = 0 };
        iov = record { offset = 0; length = len; key = 0 } ∷ [];
        bytes = bytes;
      };
    }

-- that of `hello`
abbrev pub hello : Sent
hello = confirmed_send Kind.Eager 7 5 (104 ∷ 101 ∷ 108 ∷ 108 ∷ 111 ∷ [])

-- the receive that takes it
abbrev pub hello_pair : Pair
hello_pair =
    record {
      recv = record { id = record { 0 = 0 }; from = None; want = Some (record { tag = 7; ignore = 0 }) };
      message = record { life = zero_five; no = record { 0 = 0 }; tag = Some 7 };
    }

abbrev hello_piece : Piece
hello_piece = record { offset = 0; bytes = 104 ∷ 101 ∷ 108 ∷ 108 ∷ 111 ∷ [] }

abbrev hello_scene : Scene
hello_scene = sent_scene job 1 before_hello

hello_is_sent : IsSent hello_scene zero_five 0 hello_piece
unfolding every_word
hello_is_sent = (refl, λ q m. elim m [ ])

-- the send that the receipt completes was received before the receipt is handled
received : (t : Sent) → (hello ≡ t) ⊎ ⊥ → IsReceived job before_receipt t.to zero_five t.message.no
unfolding every_word
received t m =
    elim m [
      | inl e ↦ subst (λ (x : Sent). IsReceived job before_receipt x.to zero_five x.message.no) e (hello_pair, inl refl, refl, refl)
      | inr never ↦ elim never [ ]
    ]

pub history_is_lawful : Lawful job history
unfolding every_word
history_is_lawful =
    (((((((((((((((((((((((tt, tt, tt, (refl, omega arith, (refl, (OpenLife (record { 0 = 5 }), refl, refl, refl), refl)), λ source n p e. nothing p e, λ t m c f. elim m [ ]), inr (refl, omega arith), tt, (refl, omega arith, (refl, (OpenLife (record { 0 = 7 }), refl, refl, refl), refl)), λ source n p e. nothing p e, λ t m c f. elim m [ ]), inl (omega arith), tt, (refl, omega arith, (refl, refl, refl, (GoesNote (record { to = record { 0 = 1 }; body = NoteBody.Opened (record { 0 = 5 }) }), refl, (refl, refl)))), λ source n p e. nothing p e, λ t m c f. elim m [ ]), inr (refl, omega arith), tt, (refl, omega arith, (refl, refl, refl, (GoesNote (record { to = record { 0 = 0 }; body = NoteBody.Opened (record { 0 = 7 }) }), refl, (refl, refl)))), λ source n p e. nothing p e, λ t m c f. elim m [ ]), inl (omega arith), (refl, inl refl, ((((tt, tt), tt), tt), tt)), (refl, omega arith, (refl, refl)), λ source n p e. nothing p e, λ t m c f. elim m [ ]), inr (refl, omega arith), (refl, inr (inl refl), (((((tt, tt), tt), tt), tt), λ s n. omega (arith, port_apart _ _ s))), (refl, omega arith, (refl, refl)), λ source n p e. nothing p e, λ t m c f. elim m [ ]), inl (omega arith), tt, (refl, omega arith, (refl, (Insert one_seven, refl, refl, refl), refl)), λ source n p e. nothing p e, λ t m c f. elim m [ ]), inr (refl, omega arith), tt, (refl, omega arith, (refl, (Reg (replicate 8 0), refl, refl, refl), refl)), λ source n p e. nothing p e, λ t m c f. elim m [ ]), inl (omega arith), tt, (refl, omega arith, (refl, refl, refl, (Goes one_seven (Spelled (Handshake (27 ∷ []) (record { 0 = 5 }) (Some (record { 0 = 0 })))), refl, (refl, (Load.Packet (9 ∷ 4 ∷ 1 ∷ 0 ∷ 4 ∷ 0 ∷ 0 ∷ 0 ∷ 27 ∷ 0 ∷ 0 ∷ 0 ∷ 0 ∷ 0 ∷ 0 ∷ 0 ∷ 32 ∷ 0 ∷ 0 ∷ 0 ∷ 0 ∷ 0 ∷ 0 ∷ 0 ∷ 0 ∷ 0 ∷ 0 ∷ 0 ∷ 0 ∷ 0 ∷ 0 ∷ 0 ∷ 0 ∷ 0 ∷ 0 ∷ 0 ∷ 1 ∷ 0 ∷ 0 ∷ 0 ∷ 5 ∷ 0 ∷ 0 ∷ 0 ∷ 0 ∷ 0 ∷ 0 ∷ 0 ∷ 0 ∷ 0 ∷ 0 ∷ 0 ∷ []), refl, (refl, refl)))))), λ source n p e. nothing p e, λ t m c f. elim m [ ]), inr (refl, omega arith), tt, (refl, omega arith, (refl, (recv 0 8 7, refl, refl, refl), refl)), λ source n p e. nothing p e, λ t m c f. elim m [ ]), inl (omega arith), tt, (refl, omega arith, (refl, (Reg (104 ∷ 101 ∷ 108 ∷ 108 ∷ 111 ∷ []), refl, refl, refl), refl)), λ source n p e. nothing p e, λ t m c f. elim m [ ]), inr (refl, omega arith), (refl, inr (inl refl), (((((((((((tt, tt), tt), tt), tt), λ s n. omega (arith, port_apart _ _ s)), λ s n. omega (arith, number_apart _ _ n)), tt), tt), tt), tt), tt)), (refl, omega arith, (refl, refl)), λ source n p e. nothing_either _ p e, λ t m c f. elim m [ ]), inl (omega arith), tt, (refl, omega arith, (refl, refl, refl, (Goes zero_five (Spelled (Handshake (27 ∷ []) (record { 0 = 7 }) None)), refl, (refl, (Load.Packet (9 ∷ 4 ∷ 0 ∷ 128 ∷ 4 ∷ 0 ∷ 0 ∷ 0 ∷ 27 ∷ 0 ∷ 0 ∷ 0 ∷ 0 ∷ 0 ∷ 0 ∷ 0 ∷ 7 ∷ 0 ∷ 0 ∷ 0 ∷ []), refl, (refl, refl)))))), λ source n p e. nothing p e, λ t m c f. elim m [ ]), inl (omega arith), (refl, inl refl, (((((((((((((tt, tt), tt), tt), tt), λ s n. omega (arith, number_apart _ _ n)), λ s n. omega (arith, port_apart _ _ s)), tt), tt), tt), tt), tt), λ s n. omega (arith, port_apart _ _ s)), tt)), (refl, omega arith, (refl, refl)), λ source n p e. nothing_either _ p e, λ t m c f. elim m [ ]), inl (omega arith), tt, (refl, omega arith, (refl, (send_with true 1 0 5 7, refl, refl, refl), refl)), λ source n p e. nothing p e, λ t m c f. elim m [ ]), inl (omega arith), tt, (refl, omega arith, (refl, refl, refl, (Goes one_seven (Spelled (Rtm (record { 0 = 0 }) (Some 7) true (record { raw = None; cq_data = None; connid = Some 5 }) (Form.Eager (104 ∷ 101 ∷ 108 ∷ 108 ∷ 111 ∷ [])))), refl, (refl, (Load.Packet (201 ∷ 4 ∷ 8 ∷ 128 ∷ 0 ∷ 0 ∷ 0 ∷ 0 ∷ 7 ∷ 0 ∷ 0 ∷ 0 ∷ 0 ∷ 0 ∷ 0 ∷ 0 ∷ 5 ∷ 0 ∷ 0 ∷ 0 ∷ 104 ∷ 101 ∷ 108 ∷ 108 ∷ 111 ∷ []), refl, (refl, refl)))))), λ source n p e. nothing p e, λ t m c f. elim m [ ]), inl (omega arith), (refl, inl refl, ((((((((((((((((tt, tt), tt), tt), tt), λ s n. omega (arith, port_apart _ _ s)), λ s n. omega (arith, number_apart _ _ n)), tt), tt), tt), tt), tt), λ s n. omega (arith, number_apart _ _ n)), tt), λ s n. omega (arith, port_apart _ _ s)), tt), tt)), (refl, omega arith, (refl, refl)), λ source n p e. carries hello_scene hello_piece hello_is_sent source n p (opened source n _ p e), λ t m c f. elim m [ ]), inl (omega arith), tt, (refl, omega arith, refl), λ source n p e. nothing p e, λ t m c f. elim m [ ]), inl (omega arith), tt, (refl, omega arith, (refl, (Wait 1, refl, refl, refl), refl)), λ source n p e. nothing p e, λ t m c f. elim m [ ]), inl (omega arith), tt, (refl, omega arith, (refl, refl, refl, (Goes zero_five (Spelled (Receipt (record { 0 = 0 }) (record { 0 = 7 }))), refl, (refl, (Load.Packet (10 ∷ 4 ∷ 0 ∷ 128 ∷ 0 ∷ 0 ∷ 0 ∷ 0 ∷ 7 ∷ 0 ∷ 0 ∷ 0 ∷ []), refl, (refl, refl)))))), λ source n p e. nothing p e, λ t m c f. elim m [ ]), inl (omega arith), (refl, inl refl, ((((((((((((((((((((tt, tt), tt), tt), tt), λ s n. omega (arith, number_apart _ _ n)), λ s n. omega (arith, port_apart _ _ s)), tt), tt), tt), tt), tt), λ s n. omega (arith, port_apart _ _ s)), tt), λ s n. omega (arith, number_apart _ _ n)), tt), tt), λ s n. omega (arith, port_apart _ _ s)), tt), tt), tt)), (refl, omega arith, (refl, refl)), λ source n p e. nothing_either _ p e, λ t m c f. received t m), inl (omega arith), tt, (refl, omega arith, refl), λ source n p e. nothing p e, λ t m c f. elim m [ ]), inl (omega arith), tt, (refl, omega arith, (refl, (Wait 1, refl, refl, refl), refl)), λ source n p e. nothing p e, λ t m c f. elim m [ ])

-- the report of this history
abbrev pub report : Report
report = told history (finished 5 ∷ finished 4 ∷ [])

pub report_is_right : RightReport job report
unfolding every_word
report_is_right = record { lawful = history_is_lawful; settled = refl; stuck = refl; ends = refl }

is_fair_job : is_fair law_ops job ≡ true
unfolding every_word
is_fair_job = refl

report_says : SaysRight job report
report_says = the_headline job report is_fair_job report_is_right

-- each of the logs is right by itself
local_0 : Local job 0 (log_of 0 history)
unfolding every_word
local_0 =
    ((((((((((((tt, refl, (refl, omega arith, (refl, (OpenLife (record { 0 = 5 }), refl, refl, refl), refl))), refl, (refl, omega arith, (refl, refl, refl, (GoesNote (record { to = record { 0 = 1 }; body = NoteBody.Opened (record { 0 = 5 }) }), refl, (refl, refl))))), refl, (refl, omega arith, (refl, refl))), refl, (refl, omega arith, (refl, (Insert one_seven, refl, refl, refl), refl))), refl, (refl, omega arith, (refl, refl, refl, (Goes one_seven (Spelled (Handshake (27 ∷ []) (record { 0 = 5 }) (Some (record { 0 = 0 })))), refl, (refl, (Load.Packet (9 ∷ 4 ∷ 1 ∷ 0 ∷ 4 ∷ 0 ∷ 0 ∷ 0 ∷ 27 ∷ 0 ∷ 0 ∷ 0 ∷ 0 ∷ 0 ∷ 0 ∷ 0 ∷ 32 ∷ 0 ∷ 0 ∷ 0 ∷ 0 ∷ 0 ∷ 0 ∷ 0 ∷ 0 ∷ 0 ∷ 0 ∷ 0 ∷ 0 ∷ 0 ∷ 0 ∷ 0 ∷ 0 ∷ 0 ∷ 0 ∷ 0 ∷ 1 ∷ 0 ∷ 0 ∷ 0 ∷ 5 ∷ 0 ∷ 0 ∷ 0 ∷ 0 ∷ 0 ∷ 0 ∷ 0 ∷ 0 ∷ 0 ∷ 0 ∷ 0 ∷ []), refl, (refl, refl))))))), refl, (refl, omega arith, (refl, (Reg (104 ∷ 101 ∷ 108 ∷ 108 ∷ 111 ∷ []), refl, refl, refl), refl))), refl, (refl, omega arith, (refl, refl))), refl, (refl, omega arith, (refl, (send_with true 1 0 5 7, refl, refl, refl), refl))), refl, (refl, omega arith, (refl, refl, refl, (Goes one_seven (Spelled (Rtm (record { 0 = 0 }) (Some 7) true (record { raw = None; cq_data = None; connid = Some 5 }) (Form.Eager (104 ∷ 101 ∷ 108 ∷ 108 ∷ 111 ∷ [])))), refl, (refl, (Load.Packet (201 ∷ 4 ∷ 8 ∷ 128 ∷ 0 ∷ 0 ∷ 0 ∷ 0 ∷ 7 ∷ 0 ∷ 0 ∷ 0 ∷ 0 ∷ 0 ∷ 0 ∷ 0 ∷ 5 ∷ 0 ∷ 0 ∷ 0 ∷ 104 ∷ 101 ∷ 108 ∷ 108 ∷ 111 ∷ []), refl, (refl, refl))))))), refl, (refl, omega arith, (refl, refl))), refl, (refl, omega arith, refl)), refl, (refl, omega arith, (refl, (Wait 1, refl, refl, refl), refl)))

local_1 : Local job 1 (log_of 1 history)
unfolding every_word
local_1 =
    (((((((((((tt, refl, (refl, omega arith, (refl, (OpenLife (record { 0 = 7 }), refl, refl, refl), refl))), refl, (refl, omega arith, (refl, refl, refl, (GoesNote (record { to = record { 0 = 0 }; body = NoteBody.Opened (record { 0 = 7 }) }), refl, (refl, refl))))), refl, (refl, omega arith, (refl, refl))), refl, (refl, omega arith, (refl, (Reg (replicate 8 0), refl, refl, refl), refl))), refl, (refl, omega arith, (refl, (recv 0 8 7, refl, refl, refl), refl))), refl, (refl, omega arith, (refl, refl))), refl, (refl, omega arith, (refl, refl, refl, (Goes zero_five (Spelled (Handshake (27 ∷ []) (record { 0 = 7 }) None)), refl, (refl, (Load.Packet (9 ∷ 4 ∷ 0 ∷ 128 ∷ 4 ∷ 0 ∷ 0 ∷ 0 ∷ 27 ∷ 0 ∷ 0 ∷ 0 ∷ 0 ∷ 0 ∷ 0 ∷ 0 ∷ 7 ∷ 0 ∷ 0 ∷ 0 ∷ []), refl, (refl, refl))))))), refl, (refl, omega arith, (refl, refl))), refl, (refl, omega arith, refl)), refl, (refl, omega arith, (refl, (Wait 1, refl, refl, refl), refl))), refl, (refl, omega arith, (refl, refl, refl, (Goes zero_five (Spelled (Receipt (record { 0 = 0 }) (record { 0 = 7 }))), refl, (refl, (Load.Packet (10 ∷ 4 ∷ 0 ∷ 128 ∷ 0 ∷ 0 ∷ 0 ∷ 0 ∷ 7 ∷ 0 ∷ 0 ∷ 0 ∷ []), refl, (refl, refl)))))))
