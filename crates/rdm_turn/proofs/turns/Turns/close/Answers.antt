use Rattle.std.proofs.Common.{rules, ◌≡◌, ap, sym, subst, ◌∙◌, length}
use Rattle.std.specs.Slots.{slots_items, slots_counts, slots_len}
use Rattle.rdm_turn.specs.Slots.{EachFits}
use Rattle.rdm_turn.proofs.Values.{all_fit}
use Rattle.rdm_turn.proofs.Seats.{ends}
use Rattle.rdm_turn.proofs.turns.Turns.close.Goals as goal

pub returns : goal.returns
returns g c =
    let slots = slots_items c.close_with.result.slots in
    let all = all_fit g.V.Tagged.fits slots (ends g.V.Tagged.fits c.self.inside.table.shared.key _ slots _ _ (search rules) (search rules) (search rules) c.close_with.ensures.values.2) in
    let is = c.refill.ensures.values in
    let count : slots_len c.close_with.result.slots ≡ c.args.self.count = search rules in
    record {
      fits = subst (EachFits g.V.Tagged.fits) (sym is) all.1;
      count = c.refill.result.ok.0 ∙ (ap (λ l. length l) is ∙ (all.0 ∙ (sym (slots_counts c.close_with.result.slots).0 ∙ count)));
      refilled = search rules;
    }
