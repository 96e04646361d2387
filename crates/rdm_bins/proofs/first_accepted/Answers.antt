use Rattle.std.proofs.Common.{sym, ap, ◌∙◌, option_map}
use Rattle.rdm_match.specs.Matcher.{accepts}
use Rattle.rdm_bins.specs.Shelf.{entries_on}
use Rattle.rdm_bins.proofs.Taken.{find_values}
use Rattle.rdm_bins.proofs.first_accepted.Goals as goal

pub returns-in-None : goal.returns-in-None
returns-in-None c = sym (find_values (accepts c.args.r) (entries_on c.args.arrived.now) ∙ ap (option_map (λ e. e.1)) (sym c.first_message.ensures ∙ c.in-None.is))

pub returns-in-Some : goal.returns-in-Some
returns-in-Some c = sym (find_values (accepts c.args.r) (entries_on c.args.arrived.now) ∙ ap (option_map (λ e. e.1)) (sym c.first_message.ensures ∙ c.in-Some.is))
