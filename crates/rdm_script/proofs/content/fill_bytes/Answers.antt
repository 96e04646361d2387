use Rattle.std.proofs.Common.{◌∙◌, arith}
use Rattle.rdm_script.proofs.Lengths.{fill_bytes-next, fill_bytes-end}
use Rattle.rdm_script.proofs.content.fill_bytes.Goals as goal

pub loop-place-preserved : goal.loop-place-preserved
loop-place-preserved c = rw (c.in_ok-push.ensures.items, c.fill_byte.ensures) (fill_bytes-next _ _ _ _ (omega arith) ∙ c.loop-place.invariant)

pub returns : goal.returns
returns c = fill_bytes-end _ _ _ c.loop-place.place c.args.count (omega arith) c.loop-place.invariant
