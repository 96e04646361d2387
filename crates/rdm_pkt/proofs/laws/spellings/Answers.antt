use Rattle.rdm_pkt.proofs.ReadRtm.{one_packet}
use Rattle.rdm_pkt.proofs.laws.spellings.Goals as goal

pub returns-clause-packet : goal.returns-clause-packet
returns-clause-packet c = one_packet
