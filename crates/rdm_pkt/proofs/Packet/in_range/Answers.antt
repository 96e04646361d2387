use Rattle.std.proofs.Common.{◌≡◌, true, sym, subst, arith}
use Rattle.rdm_hdr.specs.Fields.{fields_fit}
use Rattle.rdm_pkt.specs.declared.Packet.{Packet}
use Rattle.rdm_pkt.specs.Grammar.{layout, packet_fits}
use Rattle.rdm_pkt.proofs.InRange.{fit_rtm, form_meets, fit_cts, fit_eor, fit_cts_data, fit_handshake, fit_receipt}
use Rattle.rdm_pkt.proofs.Packet.in_range.Goals as goal

pub form_in_range-requires : goal.form_in_range-requires
form_in_range-requires c = form_meets c.in-Rtm.no c.in-Rtm.tag c.in-Rtm.confirm c.in-Rtm.opt c.in-Rtm.form (subst (λ (p : Packet). packet_fits p ≡ true) c.in-Rtm.is c.requires)

pub returns-in-Rtm : goal.returns-in-Rtm
returns-in-Rtm c =
    subst (λ (p : Packet). fields_fit (layout p) ≡ true) (sym c.in-Rtm.is)
    (fit_rtm c.in-Rtm.no c.in-Rtm.tag c.in-Rtm.confirm c.in-Rtm.opt c.in-Rtm.form (omega arith) c.tag_in_range.ensures c.opt_in_range.ensures c.form_in_range.ensures.header c.form_in_range.ensures.last)

pub returns-in-Cts : goal.returns-in-Cts
returns-in-Cts c = subst (λ (p : Packet). fields_fit (layout p) ≡ true) (sym c.in-Cts.is) (fit_cts c.in-Cts.send_id c.in-Cts.recv_id c.in-Cts.recv_length c.in-Cts.connid (omega arith) (omega arith) (omega arith) (omega arith))

pub returns-in-CtsData : goal.returns-in-CtsData
returns-in-CtsData c =
    subst (λ (p : Packet). fields_fit (layout p) ≡ true) (sym c.in-CtsData.is)
    (fit_cts_data c.in-CtsData.recv_id c.in-CtsData.offset c.in-CtsData.connid c.in-CtsData.bytes (subst (λ (p : Packet). packet_fits p ≡ true) c.in-CtsData.is c.requires) (omega arith) (omega arith) (rw c.as_slice.ensures at c.bytes_in_range.ensures))

pub returns-in-Eor : goal.returns-in-Eor
returns-in-Eor c = subst (λ (p : Packet). fields_fit (layout p) ≡ true) (sym c.in-Eor.is) (fit_eor c.in-Eor.send_id c.in-Eor.recv_id c.in-Eor.connid (omega arith) (omega arith) (omega arith))

pub returns-in-Handshake : goal.returns-in-Handshake
returns-in-Handshake c =
    subst (λ (p : Packet). fields_fit (layout p) ≡ true) (sym c.in-Handshake.is)
    (fit_handshake c.in-Handshake.words c.in-Handshake.connid c.in-Handshake.raw (subst (λ (p : Packet). packet_fits p ≡ true) c.in-Handshake.is c.requires) (rw c.as_slice-in-Handshake.ensures at c.words_in_range.ensures) (rw c.sender_opt.ensures at c.opt_in_range-in-Handshake.ensures))

pub returns-in-Receipt : goal.returns-in-Receipt
returns-in-Receipt c = subst (λ (p : Packet). fields_fit (layout p) ≡ true) (sym c.in-Receipt.is) (fit_receipt c.in-Receipt.no c.in-Receipt.connid (omega arith) (omega arith))
