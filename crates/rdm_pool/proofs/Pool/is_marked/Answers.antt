use Rattle.rdm_pool.proofs.Pool.is_marked.Goals as goal

pub has_mark-requires : goal.has_mark-requires
has_mark-requires g c = rw c.deref.ensures.value c.self.invariant.rises

pub returns : goal.returns
returns g c = rw (← c.self.view_is, ← c.deref.ensures.value) c.has_mark.ensures
