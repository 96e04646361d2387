use Rattle.std.proofs.Common.{rules, tests, ◌∙◌}
use Rattle.std.proofs.lemmas.Iterator.{YieldsList-from_slice}
use Rattle.std.proofs.lemmas.Iterator.Search.{find_from_yields_List}
use Rattle.rdm_match.specs.declared.PostedRecv.{PostedRecv}
use Rattle.rdm_match.specs.Matcher.{accepts}
use Rattle.rdm_match.proofs.matcher.first_taker.Goals as goal

pub returns : goal.returns
returns c =
    c.copied.ensures
    ∙ find_from_yields_List (λ (r : PostedRecv). accepts r c.args.a.now) _ _ _ c.find.ensures.ran (YieldsList-from_slice c.args.posted.now cc) (λ x b q k. search (rules, tests))
