use Rattle.std.proofs.Common.{sym, ap, ◌∙◌, option_map, arith}
use Rattle.std.specs.Map.{values_of}
use Rattle.rdm_bins.specs.Shelf.{entries_from, entries_on}
use Rattle.rdm_bins.proofs.Items.{places_rise, entries_without}
use Rattle.rdm_bins.proofs.Taken.{find_values, none_without, first_without}
use Rattle.rdm_bins.proofs.shelf.Shelf.take.Goals as goal

pub returns-in-None-clause-answer : goal.returns-in-None-clause-answer
returns-in-None-clause-answer g c = λ p first. sym (find_values p (entries_on c.args.self.now) ∙ ap (option_map (λ e. e.1)) (sym first ∙ c.in-None.is))

pub returns-in-None-clause-after : goal.returns-in-None-clause-after
returns-in-None-clause-after g c = λ p first. none_without p (entries_on c.args.self.now) (sym first ∙ c.in-None.is)

pub returns-in-Some-clause-answer : goal.returns-in-Some-clause-answer
returns-in-Some-clause-answer g c = λ p first. sym (find_values p (entries_on c.args.self.now) ∙ ap (option_map (λ e. e.1)) (sym first ∙ c.in-Some.is))

pub returns-in-Some-clause-after : goal.returns-in-Some-clause-after
returns-in-Some-clause-after g c = λ p first.
    let items = c.args.self.now.items in
    ap (λ l. values_of (entries_from 0 l)) c.remove.ensures.items
    ∙ ap values_of (entries_without 0 c.in-Some.entry.0 c.in-Some.entry.0 items (omega arith))
    ∙ first_without p (entries_on c.args.self.now) c.in-Some.entry (places_rise 0 items) (sym first ∙ c.in-Some.is)
