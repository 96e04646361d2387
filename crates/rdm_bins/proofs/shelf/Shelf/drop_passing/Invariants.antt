use Rattle.std.proofs.Common.{◌≡◌, ℕ, ◌<◌, false, length}
use Rattle.std.specs.Prelude.{not, filter}
use Rattle.rdm_bins.specs.Shelf.{item_at, values_on, passes}
use Rattle.rdm_bins.proofs.shelf.Shelf.drop_passing.Given as goal

-- no place so far holds an item that passes, and those that do not are all there
abbrev pub invariant-loop-place : goal.invariant-loop-place
invariant-loop-place g l =
    let p = g.P.Criterion.test l.test in
    record {
      places : length l.self.items ≡ length l.fn.self.items;
      kept : filter (λ x. not (p x)) (values_on l.self) ≡ filter (λ x. not (p x)) (values_on l.fn.self);
      gone : (k : ℕ) → k < l.place → passes p (item_at l.self.items k) ≡ false;
      room : l.self.room ≡ l.fn.self.room;
    }
