use Rattle.std.proofs.Common.{sym, ◌∙◌, subst}
use Rattle.std.proofs.lemmas.List.{with_items_is}
use Rattle.rdm_inbox.specs.Queues.{seen_by}
use Rattle.rdm_inbox.specs.Sharing.{AreLeft, AreClosed}
use Rattle.rdm_inbox.proofs.Sharings.{are_closed}
use Rattle.rdm_inbox.proofs.queues.Queues.close.Goals as goal

pub returns : goal.returns
returns g c =
    let all = c.args.all in
    subst (λ l. AreClosed c.args.self all.items (seen_by c.args.self l)) (sym (with_items_is all c.gather.new.all (c.gather.auto.all ∙ c.as_mut_slice.ensures.len)))
    (are_closed c.args.self all.items c.gather.new.all c.requires c.gather.ensures.gathered (subst (λ l. AreLeft l c.gather.new.all) c.as_mut_slice.ensures.value c.gather.ensures.left))
