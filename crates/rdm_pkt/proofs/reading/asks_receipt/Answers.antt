use Rattle.rdm_pkt.proofs.FirstByte.{first-by, confirm-above, confirm-below, confirm-empty}
use Rattle.rdm_pkt.proofs.reading.asks_receipt.Goals as goal

pub returns-then-kind-ge200 : goal.returns-then-kind-ge200
returns-then-kind-ge200 c =
    let first = c.in-Some.ensures in
    confirm-above c.args.bytes.now c.in-Some.kind.now (first-by c.args.bytes.now c.in-Some.kind.now first.value) c.if-kind-ge200.true

pub returns-else-kind-ge200 : goal.returns-else-kind-ge200
returns-else-kind-ge200 c =
    let first = c.in-Some.ensures in
    confirm-below c.args.bytes.now c.in-Some.kind.now (first-by c.args.bytes.now c.in-Some.kind.now first.value) c.if-kind-ge200.false

pub returns-in-None : goal.returns-in-None
returns-in-None c = let first = c.in-None.ensures in confirm-empty c.args.bytes.now first.value
