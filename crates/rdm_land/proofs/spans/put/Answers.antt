use Rattle.std.proofs.Common.{◌<◌, ◌≤◌, length, subst, ◌∙◌}
use Rattle.std.specs.List.{AllWithin}
use Rattle.rdm_land.specs.declared.spans.Span.{Span}
use Rattle.rdm_land.proofs.Order.{insert_is}
use Rattle.rdm_land.proofs.spans.put.Goals as goal

pub returns-clause-items : goal.returns-clause-items
returns-clause-items c =
    let i = c.find-i.result in
    let is = c.deref.ensures.value in
    c.in-Ok.ensures.items
    ∙ insert_is c.args.span i c.args.spans.now.items (subst (λ l. i ≤ length l) is c.find-i.ensures.within) (subst (λ l. AllWithin (λ (s : Span). s.end ≤ c.args.span.start) l 0 i) is c.find-i.ensures.before)
    (subst (λ l. AllWithin (λ (s : Span). c.args.span.start < s.end) l i (length l)) is c.find-i.ensures.after)
