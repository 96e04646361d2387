use Rattle.std.proofs.Common.{ap}
use Rattle.std.proofs.lemmas.List.{length-map}
use Rattle.rdm_wire.specs.Queues.{QueueState}
use Rattle.rdm_wire.proofs.InMemory.{pushed}
use Rattle.rdm_wire.proofs.mem_wire.MemWireWire.push.Goals as goal

pub returns-clause-held : goal.returns-clause-held
returns-clause-held c =
    rw (← c.self.view_is) (pushed c.self.inside.size c.self.inside.queues.items c.args.d c.index_mut-queue.result.now c.push.new.self (simp length-map at (rw (← c.self.view_is) at c.requires.target)) c.index_mut-queue.ensures.value (ap (λ (q : QueueState). q.list) c.push.ensures))
