use Rattle.std.proofs.Common.{ap, ◌∙◌, Option}
use Rattle.rdm_ep.specs.View.{EndpointView}
use Rattle.rdm_port.specs.Kept.{places_of}
use Rattle.rdm_port.proofs.HandleLeaves.{takes_places, takes_done}
use Rattle.rdm_port.proofs.kept.State.handle.Goals as goal

pub returns-in-Between-clause-places : goal.returns-in-Between-clause-places
returns-in-Between-clause-places c =
    ap (λ (o : Option EndpointView). places_of o) c.count_drop.ensures.same ∙ takes_places c.args.self.now c.take_in-answer.new.self c.args.d.now c.take_in-answer.result c.take_in-answer.ensures

pub returns-in-Between-clause-done : goal.returns-in-Between-clause-done
returns-in-Between-clause-done c = c.count_drop.ensures.done ∙ takes_done c.args.self.now c.take_in-answer.new.self c.args.d.now c.take_in-answer.result c.take_in-answer.ensures
