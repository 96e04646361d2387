use Rattle.std.proofs.Common.{ℕ, subst, ◌∙◌}
use Rattle.rdm_tx.specs.Sends.{IsSpanAfter}
use Rattle.rdm_sends.proofs.Begins.{first_is}
use Rattle.rdm_sends.proofs.begin.first_length.Goals as goal

pub returns-clause-first : goal.returns-clause-first
returns-clause-first c =
    c.length_of.ensures.length
    ∙ first_is c.args.limits.now c.args.message.now c.args.total c.span-span.result c.requires.long
    (subst (λ (n : ℕ). IsSpanAfter c.args.limits.now c.args.message.now c.args.total n c.span-span.result) c.new-cursor.ensures c.span-span.ensures.span)

pub returns-clause-within : goal.returns-clause-within
returns-clause-within c = c.length_of.ensures.within c.args.total c.span-span.ensures.within
