use Rattle.std.proofs.Common.{◌<◌, ◌≤◌, length, subst, ◌∙◌, arith}
use Rattle.std.specs.List.{AllWithin}
use Rattle.rdm_land.specs.declared.spans.Span.{Span}
use Rattle.rdm_land.proofs.Changed.{have_contained, contained_bounds}
use Rattle.rdm_land.proofs.Order.{remove_is, stops_at}
use Rattle.rdm_land.proofs.spans.remove.Goals as goal

pub remove-requires : goal.remove-requires
remove-requires c =
    let s = c.args.span in
    let b = contained_bounds _ _ _ s c.args.spans.now.items c.requires.order.2 c.requires.there in
    let lt = stops_at s.start c.find-i.result _ c.args.spans.now.items c.deref.ensures.value c.find-i.ensures.before (have_contained s c.args.spans.now.items s.start c.requires.there (omega arith) b.1) in
    omega (arith, lt, c.args.spans.now.ok.0)

pub returns-clause-items : goal.returns-clause-items
returns-clause-items c =
    let s = c.args.span in
    let i = c.find-i.result in
    let is = c.deref.ensures.value in
    let b = contained_bounds _ _ _ s c.args.spans.now.items c.requires.order.2 c.requires.there in
    let lt = stops_at s.start i _ c.args.spans.now.items is c.find-i.ensures.before (have_contained s c.args.spans.now.items s.start c.requires.there (omega arith) b.1) in
    c.remove.ensures.items
    ∙ remove_is _ _ _ s i c.args.spans.now.items c.requires.order.2 b.1 c.requires.there lt (subst (λ l. AllWithin (λ (t : Span). t.end ≤ s.start) l 0 i) is c.find-i.ensures.before)
    (subst (λ l. AllWithin (λ (t : Span). s.start < t.end) l i (length l)) is c.find-i.ensures.after)
