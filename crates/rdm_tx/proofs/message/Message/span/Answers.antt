use Rattle.rdm_tx.specs.Sends.{opened}
use Rattle.rdm_tx.proofs.Numbered as lemmas
use Rattle.rdm_tx.proofs.message.Message.span.Goals as goal

-- a whole message
pub returns-in-Eager-clause-span : goal.returns-in-Eager-clause-span
returns-in-Eager-clause-span c = λ bytes l.
    rw (c.in-Eager.is, c.alone.ensures.span, ← l) (lemmas.eager_span c.args.limits.now (opened c.args.self.now bytes) c.args.number)

-- a segment
pub returns-in-Medium-clause-span : goal.returns-in-Medium-clause-span
returns-in-Medium-clause-span c = λ bytes l.
    rw (c.in-Medium.is, c.piece.ensures.span, ← l)
    (lemmas.medium_span c.args.limits.now (opened c.args.self.now bytes) c.args.number c.room.result c.room.ensures.some c.room.ensures.value)

-- a first part
pub returns-in-LongCts-clause-span : goal.returns-in-LongCts-clause-span
returns-in-LongCts-clause-span c = λ bytes l.
    rw (c.in-LongCts.is, c.alone-in-LongCts.ensures.span, c.min.ensures, ← l)
    (lemmas.long_cts_span c.args.limits.now (opened c.args.self.now bytes) c.args.number c.room-in-LongCts.result c.room-in-LongCts.ensures.value)

-- a read list
pub returns-in-LongRead-clause-span : goal.returns-in-LongRead-clause-span
returns-in-LongRead-clause-span c = λ bytes l.
    rw (c.in-LongRead.is, c.alone-in-LongRead.ensures.span) (lemmas.long_read_span c.args.limits.now (opened c.args.self.now bytes) c.args.number)

-- a segment of a first part
pub returns-in-Runt-clause-span : goal.returns-in-Runt-clause-span
returns-in-Runt-clause-span c = λ bytes l.
    rw (c.in-Runt.is, c.piece-in-Runt.ensures.span, c.min-in-Runt.ensures, ← l)
    (lemmas.runt_span c.args.limits.now (opened c.args.self.now bytes) c.in-Runt.runt_length c.args.number c.room-in-Runt.result c.room-in-Runt.ensures.some
    (rw c.as_slice.ensures.items at c.room-in-Runt.ensures.value))
