use Rattle.rdm_pool.proofs.Law.{numbers_come_once}
use Rattle.rdm_pool.proofs.numbers_law.Goals as goal

pub returns : goal.returns
returns g c = numbers_come_once
