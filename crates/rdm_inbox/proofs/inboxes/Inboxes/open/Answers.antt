use Rattle.std.proofs.Common.{sym, ◌∙◌, subst}
use Rattle.std.proofs.lemmas.List.{with_items_is}
use Rattle.rdm_inbox.specs.Sharing.{AreDealt, AreOpened}
use Rattle.rdm_inbox.proofs.Sharings.{are_opened}
use Rattle.rdm_inbox.proofs.inboxes.Inboxes.open.Goals as goal

pub returns-clause-ok : goal.returns-clause-ok
returns-clause-ok g c =
    let q = c.self.inside.queues in let all = c.self.inside.all in
    subst (λ l. AreOpened c.args.self q l) (sym (with_items_is all c.deal.new.all (c.deal.ensures.count ∙ c.as_mut_slice.ensures.len)))
    (subst (λ w. AreOpened w q c.deal.new.all) c.self.view_is (are_opened q all.items c.deal.new.all c.self.invariant (subst (λ l. AreDealt l 0 c.deal.new.all) c.as_mut_slice.ensures.value c.deal.ensures)))
