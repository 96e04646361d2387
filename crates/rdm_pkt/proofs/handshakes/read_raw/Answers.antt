use Rattle.std.proofs.Common.{sym, ◌∙◌}
use Rattle.rdm_pkt.proofs.Named.{raw-none, raw-short, raw-there, raw-is}
use Rattle.rdm_pkt.proofs.handshakes.read_raw.Goals as goal

pub returns-in_err-opt : goal.returns-in_err-opt
returns-in_err-opt c = c.from_residual.ensures ∙ sym (raw-none c.args.bytes.now (sym c.read_opt.ensures ∙ c.in_err-opt.was))

pub returns-then-bytes-size : goal.returns-then-bytes-size
returns-then-bytes-size c = sym (raw-short c.in_ok-opt.opt c.in_ok-opt.size c.args.bytes.now (sym c.read_opt.ensures ∙ c.in_ok-opt.was) c.if-bytes-size.true)

pub returns-in_err-port : goal.returns-in_err-port
returns-in_err-port c = absurd (raw-there c.in_ok-opt.opt c.in_ok-opt.size c.args.bytes.now (sym c.read_opt.ensures ∙ c.in_ok-opt.was) c.in_err-port.was)

pub returns : goal.returns
returns c = sym (raw-is c.in_ok-opt.opt c.in_ok-opt.size c.in_ok-port.port c.in_ok-port.connid c.args.bytes.now (sym c.read_opt.ensures ∙ c.in_ok-opt.was) c.if-bytes-size.false c.in_ok-port.was)
