use Rattle.std.proofs.lemmas.Bool.{ltb-true}
use Rattle.std.proofs.lemmas.List.{length-map}
use Rattle.rdm_wire.proofs.InMemory.{fetched, unfetched}
use Rattle.rdm_wire.proofs.mem_wire.MemWireWire.fetch.Goals as goal

pub returns-else-is_none-clause-held : goal.returns-else-is_none-clause-held
returns-else-is_none-clause-held c =
    rw (← c.self.view_is) (fetched c.self.inside.size c.self.inside.queues.items c.args.port.0 c.index_mut.result.now c.pop-found.new.self c.pop-found.result (ltb-true _ _ (simp length-map at (rw (← c.self.view_is) at c.requires))) c.index_mut.ensures.value c.pop-found.ensures.list)

pub returns-then-is_none-clause-same : goal.returns-then-is_none-clause-same
returns-then-is_none-clause-same c =
    rw (← c.self.view_is) (unfetched c.self.inside.size c.self.inside.queues.items c.args.port.0 c.index_mut.result.now c.pop-found.new.self c.pop-found.result c.index_mut.ensures.value c.pop-found.ensures.list)
