use Rattle.rdm_ep.specs.Receiving.{takes}
use Rattle.rdm_ep.proofs.Places.{place_of_search}
use Rattle.rdm_ep.proofs.receiving.place_of_arrived.Goals as goal

pub returns : goal.returns
returns c = place_of_search (takes c.args.posted.now) c.args.arrived.now c.search_arrived.result c.search_arrived.ensures
