use Rattle.rdm_live.proofs.Nobody.{nobody_kept}
use Rattle.rdm_live.proofs.live.Live.new.Goals as goal

pub invariant_of-result : goal.invariant_of-result
invariant_of-result c = rw (c.in_ok-places.ensures, c.in_ok-slots.ensures.places, c.new-3.ensures) (nobody_kept c.args.size)
