use denote.Param.Send.{IsSend}
use Rattle.rdm_mr.specs.contracts.block.Owner.{the_row as Owner}
use Rattle.rdm_mr.proofs.Sending.{owner_send}

pub send : IsSend Owner
send = owner_send
