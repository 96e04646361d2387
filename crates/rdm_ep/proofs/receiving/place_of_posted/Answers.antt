use Rattle.rdm_ep.specs.declared.state.Posted.{Posted}
use Rattle.rdm_ep.specs.Receiving.{takes}
use Rattle.rdm_ep.proofs.Places.{place_of_search}
use Rattle.rdm_ep.proofs.receiving.place_of_posted.Goals as goal

pub returns : goal.returns
returns c = place_of_search (λ (p : Posted). takes p c.args.inbound.now) c.args.posted.now c.search_posted.result c.search_posted.ensures
