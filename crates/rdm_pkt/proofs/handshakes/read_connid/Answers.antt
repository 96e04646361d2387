use Rattle.std.proofs.Common.{sym}
use Rattle.rdm_pkt.proofs.Named.{connid-none, connid-is}
use Rattle.rdm_pkt.proofs.handshakes.read_connid.Goals as goal

pub returns-then-bytes-ne4 : goal.returns-then-bytes-ne4
returns-then-bytes-ne4 c = sym (connid-none c.args.bytes.now c.if-bytes-ne4.true)

pub returns : goal.returns
returns c = rw c.u32_at.ensures (sym (connid-is c.args.bytes.now c.if-bytes-ne4.false))
