use Rattle.rdm_ep.specs.Cancelling.{has_number}
use Rattle.rdm_ep.proofs.Places.{place_of_search}
use Rattle.rdm_ep.proofs.cancelling.place_of.Goals as goal

pub returns : goal.returns
returns c = place_of_search (has_number c.args.recv.0) c.args.posted.now c.search.result c.search.ensures
