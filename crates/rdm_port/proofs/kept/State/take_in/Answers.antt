use Rattle.rdm_port.specs.contracts.kept.State.{the_view}
use Rattle.rdm_port.proofs.EndpointTakes.{none_takes, endpoint_takes}
use Rattle.rdm_port.proofs.kept.State.take_in.Goals as goal

pub returns-in_default : goal.returns-in_default
returns-in_default c = rw (← c.self.view_is) (none_takes (the_view c.self.inside) c.args.d.now c.in_default.is)

pub returns : goal.returns
returns c =
    rw (← c.self.view_is, c.handled_of.ensures)
    (endpoint_takes (the_view c.self.inside) c.args.d.now c.in-Some.endpoint c.handle.new.self c.handle.result c.in-Some.is c.handle.ensures)
