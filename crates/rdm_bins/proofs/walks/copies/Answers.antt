use Rattle.std.proofs.Common.{◌≡◌, ◌+◌, ◌<◌, ◌≤◌, sym, ap, subst, ◌∙◌, length, rules}
use Rattle.rdm_bins.specs.Shelf.{item_at}
use Rattle.rdm_bins.proofs.Items.{item_read}
use Rattle.rdm_bins.proofs.Gathered.{IsKept, one_kept, one_dropped, none_kept, all_kept}
use Rattle.rdm_bins.proofs.walks.copies.Goals.{in-Some+then-passes+in_ok-push, in-Some+else-passes, in_default}
use Rattle.rdm_bins.proofs.walks.copies.Goals as goal

pub loop-place-preserved : goal.loop-place-preserved
loop-place-preserved g c =
    let items = c.args.items.now.items in
    let place = c.loop-place.place in
    let p = g.P.Criterion.test c.args.test.now in
    let done = c.loop-place.copies.items in
    let below : place < length items = search rules in
    let read : item_at items place ≡ c.index.result.now = item_read items place _ below c.index.ensures in
    let kept : IsKept p items c.match-index.copies.items (place + 1) = elim c.match-index.branch [
      | in-Some+then-passes+in_ok-push w ↦ subst (λ l. IsKept p items l (place + 1)) (sym (ap (λ v. v.items) w.copies-is ∙ w.in_ok-push.ensures.items)) (one_kept p items done place w.in-Some.item (read ∙ w.in-Some.is) (sym w.passes.ensures ∙ w.if-passes.true) c.loop-place.invariant)
      | in-Some+else-passes w ↦ subst (λ l. IsKept p items l (place + 1)) (sym (ap (λ v. v.items) w.copies-is)) (one_dropped p items done place w.in-Some.item (read ∙ w.in-Some.is) (sym w.passes.ensures ∙ w.if-passes.false) c.loop-place.invariant)
      | in_default w ↦ subst (λ l. IsKept p items l (place + 1)) (sym (ap (λ v. v.items) w.copies-is)) (none_kept p items done place (read ∙ w.in_default.is) c.loop-place.invariant)
    ] in
    kept

pub returns : goal.returns
returns g c =
    let end : length c.args.items.now.items ≤ c.loop-place.place = search rules in
    all_kept (g.P.Criterion.test c.args.test.now) c.args.items.now.items c.loop-place.copies.items c.loop-place.place end c.loop-place.invariant
