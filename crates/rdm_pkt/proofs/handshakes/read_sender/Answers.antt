use Rattle.std.proofs.Common.{◌∙◌}
use Rattle.rdm_pkt.proofs.Named.{sender-raw, sender-connid}
use Rattle.rdm_pkt.proofs.handshakes.read_sender.Goals as goal

pub returns-then-has_bit : goal.returns-then-has_bit
returns-then-has_bit c =
    c.read_raw.ensures ∙ sender-raw c.args.place c.u16_at.result c.args.bytes.now c.after-last.result.now c.has_bit.result c.after-last.ensures c.u16_at.ensures (cc) c.if-has_bit.true

pub returns-else-has_bit : goal.returns-else-has_bit
returns-else-has_bit c =
    c.read_connid.ensures ∙ sender-connid c.args.place c.u16_at.result c.args.bytes.now c.after-last.result.now c.has_bit.result c.after-last.ensures c.u16_at.ensures (cc) c.if-has_bit.false
