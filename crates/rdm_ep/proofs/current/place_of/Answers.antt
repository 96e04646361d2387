use Rattle.std.proofs.Common.{◌==◌}
use Rattle.rdm_num.specs.declared.numbers.Life.{Life}
use Rattle.rdm_ep.proofs.Places.{place_of_search}
use Rattle.rdm_ep.proofs.current.place_of.Goals as goal

pub returns : goal.returns
returns c = place_of_search (λ (l : Life). l.port.0 == c.args.port.0) c.args.currents.now c.search.result c.search.ensures
