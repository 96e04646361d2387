use Rattle.std.proofs.Common.{length, subst, sym, Option}
use Rattle.std.proofs.lemmas.Result.{IfOk-weaker}
use Rattle.rdm_pkt.specs.declared.Packet.{Packet}
use Rattle.rdm_sends.specs.contracts.sending.Sending.{the_view}
use Rattle.rdm_sends.specs.Sending.{SendingView}
use Rattle.rdm_sends.specs.Pushing.{IsLengthNext, IsPacketNext}
use Rattle.rdm_sends.proofs.Pushing as lemmas
use Rattle.rdm_sends.proofs.sending.Sending.packet.Goals as goal

pub packet-requires-in-None : goal.packet-requires-in-None
packet-requires-in-None c =
    lemmas.length_second c.args.limits.now (the_view c.self.inside) (length c.args.piece.now) c.in-None.ensures.span
    (subst (λ (v : SendingView). IsLengthNext c.args.limits.now v (length c.args.piece.now)) (sym c.self.view_is) c.requires.length)

pub returns-in-Some : goal.returns-in-Some
returns-in-Some c =
    IfOk-weaker c.packet.result _ _
    (λ (p : Option Packet) w. subst (λ (v : SendingView). IsPacketNext c.args.own c.args.limits.now v c.args.piece.now p) c.self.view_is
    (lemmas.packet_first c.args.own c.args.limits.now (the_view c.self.inside) c.in-Some.field-0 c.args.piece.now p c.in-Some.ensures.span w))
    c.packet.ensures

pub returns-in-None : goal.returns-in-None
returns-in-None c =
    IfOk-weaker c.packet-in-None.result _ _
    (λ (p : Option Packet) w. subst (λ (v : SendingView). IsPacketNext c.args.own c.args.limits.now v c.args.piece.now p) c.self.view_is
    (lemmas.packet_second c.args.own c.args.limits.now (the_view c.self.inside) c.args.piece.now p c.in-None.ensures.span w))
    c.packet-in-None.ensures
