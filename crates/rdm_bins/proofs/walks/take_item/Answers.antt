use Rattle.std.proofs.Common.{sym, ap, ◌∙◌, rules, length, ◌<◌}
use Rattle.std.proofs.Math.ListN.{set}
use Rattle.rdm_bins.proofs.Items.{without_past, set_without, item_read}
use Rattle.rdm_bins.proofs.walks.take_item.Goals as goal

pub returns-in-None-clause-after : goal.returns-in-None-clause-after
returns-in-None-clause-after g c = without_past c.args.items.now.items c.args.place c.in-None.ensures.item.3

pub returns-in-Some-clause-answer : goal.returns-in-Some-clause-answer
returns-in-Some-clause-answer g c =
    let below : c.args.place < length c.args.items.now.items = search rules in
    c.take.ensures.value ∙ sym (item_read c.args.items.now.items c.args.place _ below c.in-Some.ensures.value)

pub returns-in-Some-clause-after : goal.returns-in-Some-clause-after
returns-in-Some-clause-after g c = ap (set c.args.items.now.items c.args.place) c.take.ensures.after ∙ set_without c.args.items.now.items c.args.place
