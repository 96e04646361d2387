use denote.Param.Send.{IsSync}
use Rattle.rdm_mr.specs.contracts.block.Owner.{the_row as Owner}
use Rattle.rdm_mr.proofs.Sending.{owner_sync}

pub sync : IsSync Owner
sync = owner_sync
