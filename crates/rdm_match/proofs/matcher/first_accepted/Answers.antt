use Rattle.std.proofs.Common.{rules, tests, ◌∙◌}
use Rattle.std.proofs.lemmas.Iterator.{YieldsList-from_slice}
use Rattle.std.proofs.lemmas.Iterator.Search.{find_from_yields_List}
use Rattle.rdm_match.specs.Matcher.{accepts}
use Rattle.rdm_match.proofs.matcher.first_accepted.Goals as goal

pub returns : goal.returns
returns c =
    c.copied.ensures
    ∙ find_from_yields_List (accepts c.args.r.now) _ _ _ c.find.ensures.ran (YieldsList-from_slice c.args.arrived.now cc) (λ x b q k. search (rules, tests))
