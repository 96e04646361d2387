use Rattle.rdm_window.proofs.Messages.{held_with, one_more_fits, fewer_entries}
use Rattle.rdm_window.proofs.early.Early.place.Goals as goal

pub invariant_of-self-2 : goal.invariant_of-self-2
invariant_of-self-2 c = one_more_fits _ _ _ _ c.in_ok-insert.ensures.len (fewer_entries _ _ _ c.self.view_is c.insert.ensures.was_ordered c.requires)

pub returns-clause-ok : goal.returns-clause-ok
returns-clause-ok c = held_with _ _ _ c.self.view_is _ c.args.life c.args.no _ (rw c.key.ensures at c.in_ok-insert.ensures.updates.0)
