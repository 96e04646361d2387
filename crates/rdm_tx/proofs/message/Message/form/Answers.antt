use Rattle.rdm_tx.specs.Sends.{opened}
use Rattle.rdm_tx.proofs.Numbered as lemmas
use Rattle.rdm_tx.proofs.message.Message.form.Goals as goal

-- a whole message
pub returns-in_ok-bytes-in-Eager : goal.returns-in_ok-bytes-in-Eager
returns-in_ok-bytes-in-Eager c = λ bytes n s l e o p.
    rw (c.in-Eager.is, c.in_ok-bytes-in-Eager.ensures)
    (lemmas.eager_packet c.args.limits.now (opened c.args.self.now bytes) n s c.args.piece.now (rw c.in-Eager.is at e) p)

-- a segment
pub returns-in_ok-bytes-in-Medium : goal.returns-in_ok-bytes-in-Medium
returns-in_ok-bytes-in-Medium c = λ bytes n s l e o p.
    rw (c.in-Medium.is, c.in_ok-bytes-in-Medium.ensures, ← l, ← o)
    (lemmas.medium_packet c.args.limits.now (opened c.args.self.now bytes) n s c.args.piece.now c.requires.mtu (rw c.in-Medium.is at e) p)

-- a first part
pub returns-in_ok-bytes-in-LongCts : goal.returns-in_ok-bytes-in-LongCts
returns-in_ok-bytes-in-LongCts c = λ bytes n s l e o p.
    rw (c.in-LongCts.is, c.in_ok-bytes-in-LongCts.ensures, ← l)
    (lemmas.long_cts_packet c.args.limits.now (opened c.args.self.now bytes) n s c.args.piece.now (rw c.in-LongCts.is at e) p)

-- a read list
pub returns-in_ok-iov-in-LongRead : goal.returns-in_ok-iov-in-LongRead
returns-in_ok-iov-in-LongRead c = λ bytes n s l e o p.
    rw (c.in-LongRead.is, c.in_ok-iov-in-LongRead.ensures.cases, ← l)
    (lemmas.long_read_packet c.args.limits.now (opened c.args.self.now bytes) n s (rw c.in-LongRead.is at e))

-- a segment of a first part
pub returns-in_ok-bytes-in-Runt : goal.returns-in_ok-bytes-in-Runt
returns-in_ok-bytes-in-Runt c = λ bytes n s l e o p.
    rw (c.in-Runt.is, c.in_ok-iov-in-Runt.ensures.cases, c.in_ok-bytes-in-Runt.ensures, ← l, ← o)
    (lemmas.runt_packet c.args.limits.now (opened c.args.self.now bytes) c.in-Runt.runt_length n s c.args.piece.now c.requires.mtu c.requires.ranges (rw c.in-Runt.is at e) p)
