use Rattle.std.proofs.Common.{◌≤◌, sym, ap, ◌∙◌, length, rules, arith}
use Rattle.std.specs.Prelude.{not, filter}
use Rattle.std.specs.Map.{values_of}
use Rattle.rdm_bins.specs.Shelf.{item_at, entries_from, passes}
use Rattle.rdm_bins.proofs.Places.{by_order}
use Rattle.rdm_bins.proofs.Items.{item_past}
use Rattle.rdm_bins.proofs.Dropped.{as_many, rest_stays, gone_up_to, none_dropped}
use Rattle.rdm_bins.proofs.shelf.Shelf.drop_passing.Goals as goal

pub loop-place-preserved : goal.loop-place-preserved
loop-place-preserved g c =
    let p = g.P.Criterion.test c.args.test.now in
    let items = c.loop-place.self.items in
    let place = c.loop-place.place in
    let held = c.loop-place.invariant in
    let now = c.remove_passing.ensures.items in
    record {
      places = ap length now ∙ as_many p items place ∙ held.places;
      kept = ap (λ l. filter (λ x. not (p x)) (values_of (entries_from 0 l))) now ∙ rest_stays p items place ∙ held.kept;
      gone = λ k less. ap (λ l. passes p (item_at l k)) now ∙ gone_up_to p items place held.gone k less;
      room = c.remove_passing.ensures.room ∙ held.room;
    }

pub returns-clause-values : goal.returns-clause-values
returns-clause-values g c =
    let p = g.P.Criterion.test c.args.test.now in
    let items = c.loop-place.self.items in
    let held = c.loop-place.invariant in
    let places = held.places in
    let end : length items ≤ c.loop-place.place = search rules in
    sym (none_dropped p 0 items (λ k. by_order k c.loop-place.place (held.gone k) (λ more. ap (passes p) (item_past items k (omega arith))))) ∙ held.kept
