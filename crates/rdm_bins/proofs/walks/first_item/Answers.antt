use Rattle.std.proofs.Common.{◌≡◌, ◌<◌, ◌≤◌, sym, ap, ◌∙◌, length, rules, arith, Some}
use Rattle.rdm_bins.specs.Shelf.{item_at, passes}
use Rattle.rdm_bins.proofs.Places.{by_order}
use Rattle.rdm_bins.proofs.Items.{item_read, item_past, one_found, none_found}
use Rattle.rdm_bins.proofs.Along.{up_to_here}
use Rattle.rdm_bins.proofs.walks.first_item.Goals.{in-Some+else-passes, in_default}
use Rattle.rdm_bins.proofs.walks.first_item.Goals as goal

pub returns-then-passes : goal.returns-then-passes
returns-then-passes g c =
    let items = c.args.items.now.items in
    let place = c.loop-place.place in
    let below : place < length items = search rules in
    let there : item_at items place ≡ Some c.in-Some.item = item_read items place _ below c.index.ensures ∙ c.in-Some.is in
    sym (one_found 0 place place (g.P.Criterion.test c.args.test.now) c.in-Some.item items (omega arith) there (sym c.passes.ensures ∙ c.if-passes.true) c.loop-place.invariant)

pub loop-place-preserved : goal.loop-place-preserved
loop-place-preserved g c =
    let items = c.args.items.now.items in
    let place = c.loop-place.place in
    let p = g.P.Criterion.test c.args.test.now in
    let below : place < length items = search rules in
    let read : item_at items place ≡ c.index.result.now = item_read items place _ below c.index.ensures in
    up_to_here (λ k. passes p (item_at items k)) place c.loop-place.invariant
    (elim c.match-index.branch [
      | in-Some+else-passes w ↦ ap (passes p) (read ∙ w.in-Some.is) ∙ sym w.passes.ensures ∙ w.if-passes.false
      | in_default w ↦ ap (passes p) (read ∙ w.in_default.is)
    ])

pub returns : goal.returns
returns g c =
    let items = c.args.items.now.items in
    let p = g.P.Criterion.test c.args.test.now in
    let end : length items ≤ c.loop-place.place = search rules in
    sym (none_found 0 p items (λ k. by_order k c.loop-place.place (c.loop-place.invariant k) (λ more. ap (passes p) (item_past items k (omega arith)))))
