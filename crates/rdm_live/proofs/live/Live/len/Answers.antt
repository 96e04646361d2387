use Rattle.std.proofs.Common.{sym, ◌∙◌}
use Rattle.rdm_live.proofs.Standing.{length_at}
use Rattle.rdm_live.proofs.live.Live.len.Goals as goal

pub returns : goal.returns
returns c = rw (← c.self.view_is) (c.len.ensures ∙ sym (length_at c.self.inside.slots c.self.inside.places.list c.self.invariant.stand))
