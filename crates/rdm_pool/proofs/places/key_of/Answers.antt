use Rattle.std.proofs.Common.{sym, ◌∙◌}
use Rattle.rdm_pool.proofs.Search.{key_at, no_key}
use Rattle.rdm_pool.proofs.places.key_of.Goals as goal

pub returns : goal.returns
returns c = key_at 0 c.args.places.now c.args.id.0 c.in_ok-at.at _ c.requires c.in_ok-at.ensures.found

pub returns-in_err-at : goal.returns-in_err-at
returns-in_err-at c = c.from_residual.ensures ∙ sym (no_key c.args.places.now c.args.id.0 c.in_err-at.ensures.absent)
