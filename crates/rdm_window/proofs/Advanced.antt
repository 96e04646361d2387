-- A ring that begins later, number by number.
use Rattle.std.proofs.Common.{◌≡◌, refl, sym, ap, ◌∙◌, true, arith, inl, inr}
use Rattle.std.specs.Prelude.{not, ◌&&◌}
use Rattle.std.specs.Cmp.{nat_cmp_total, unsigned_tied}
use Rattle.std.specs.FinSet as set
use Rattle.std.proofs.lemmas.Bool.{cases_lt, ne_eqb}
use Rattle.rdm_window.specs.Marks.{Marks, IsAdvanced, passed}

-- nothing was passed
pub advanced_none : (m : Marks) → IsAdvanced m m
advanced_none m = record { from = omega arith; room = refl; passed = λ k from to. absurd (omega arith); left = λ k from. refl }

-- one more number was passed
pub advanced_more : (old m : Marks) → IsAdvanced old m → set.contains m.marked m.next ≡ true → IsAdvanced old (passed m)
advanced_more old m so_far first =
    record {
      from = omega arith;
      room = so_far.room;
      passed = λ k from to. elim (cases_lt k m.next) [
        | inl below ↦ so_far.passed k from below
        | inr above ↦ let here : k ≡ m.next = omega arith in sym (so_far.left k above) ∙ ap (set.contains m.marked) here ∙ first
      ];
      left = λ k from.
          (set.contains-remove nat_cmp_total m.marked m.next k
          ∙ (λ i. not ((unsigned_tied k m.next ∙ ne_eqb k m.next (omega arith)) i) && set.contains m.marked k)
          ∙ so_far.left k (omega arith));
    }
