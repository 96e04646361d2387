use Rattle.rdm_ep.specs.Entering.{is_message}
use Rattle.rdm_ep.proofs.Places.{place_of_search}
use Rattle.rdm_ep.proofs.holding.place_of_held.Goals as goal

pub returns : goal.returns
returns c = place_of_search (is_message c.args.from c.args.number) c.args.held.now c.search.result c.search.ensures
