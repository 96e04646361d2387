use Rattle.std.proofs.Common.{◌≡◌, ◌+◌, ◌<◌, ◌≤◌, true, refl, sym, ap, subst, ◌∙◌, length, ◌++◌, [], ◌∷◌, rules}
use Rattle.std.specs.Map.{values_of}
use Rattle.rdm_bins.specs.Shelf.{item_at, entries_from, values_on}
use Rattle.rdm_bins.proofs.Items.{item_read}
use Rattle.rdm_bins.proofs.Gathered.{IsKept, one_kept, none_kept, all_kept, all_stay}
use Rattle.rdm_bins.proofs.shelf.renewed.Goals.{in-Some+in_ok-set_room, in_default}
use Rattle.rdm_bins.proofs.shelf.renewed.Goals as goal

pub loop-place-preserved : goal.loop-place-preserved
loop-place-preserved g c =
    let items = c.args.items.now.items in
    let place = c.loop-place.place in
    let p = λ (x : g.row.T.Denot). true in
    let done = values_on c.loop-place.shelf in
    let below : place < length items = search rules in
    let read : item_at items place ≡ c.index.result.now = item_read items place _ below c.index.ensures in
    let kept : IsKept p items (values_on c.match-index.shelf) (place + 1) = elim c.match-index.branch [
      | in-Some+in_ok-set_room w ↦
          subst (λ l. IsKept p items l (place + 1)) (sym (ap values_on w.shelf-is ∙ w.push_reserved.ensures.values ∙ ap (λ l. values_of (entries_from 0 l) ++ w.in-Some.item ∷ []) w.set_room.ensures.items))
          (one_kept p items done place w.in-Some.item (read ∙ w.in-Some.is) refl c.loop-place.invariant)
      | in_default w ↦ subst (λ l. IsKept p items l (place + 1)) (sym (ap values_on w.shelf-is)) (none_kept p items done place (read ∙ w.in_default.is) c.loop-place.invariant)
    ] in
    kept

pub returns-clause-values : goal.returns-clause-values
returns-clause-values g c =
    let items = c.args.items.now.items in
    let end : length items ≤ c.loop-place.place = search rules in
    ap (λ l. values_of (entries_from 0 l)) c.set_room-2.ensures.items
    ∙ all_kept (λ x. true) items (values_on c.loop-place.shelf) c.loop-place.place end c.loop-place.invariant
    ∙ all_stay (values_of (entries_from 0 items))
