use Rattle.rdm_pkt.proofs.Rows.{fit-data}
use Rattle.rdm_pkt.proofs.ranges.bytes_in_range.Goals as goal

pub returns : goal.returns
returns c = fit-data c.args.bytes.now (λ i. (c.type_inv.bytes i).fits)
