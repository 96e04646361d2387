use Rattle.std.proofs.Common.{◌<◌, arith, ap, sym, subst, eqb, length}
use Rattle.std.specs.List.{count_by}
use Rattle.std.specs.List.Sorted.{IsNonDecreasing}
use Rattle.std.proofs.lemmas.List.Sorted.{searched}
use Rattle.std.specs.Prelude.{Err}
use Rattle.rdm_regions.proofs.Counts.{not_missed, rising_without}
use Rattle.rdm_regions.proofs.rising.remove.Goals as goal

pub unreachable-requires : goal.unreachable-requires
unreachable-requires c =
    let xs = c.deref.result.now in
    let is = sym c.deref.ensures.value in
    let rise : IsNonDecreasing xs = subst IsNonDecreasing is c.requires.rising in
    let found = searched xs c.args.number (Err c.in-Err.field-0) c.in-Err.ensures.position (λ i j le lt. rise i j 0 le lt) in
    not_missed c.args.number c.in-Err.field-0 xs (subst (λ ys. 0 < count_by (eqb c.args.number) ys) is c.requires.there) found.1 found.2

pub returns-clause-rising : goal.returns-clause-rising
returns-clause-rising c =
    let xs = c.args.numbers.now.items in
    subst IsNonDecreasing (sym c.remove.ensures.items) (rising_without xs c.in-Ok.i (omega (arith, c.in-Ok.ensures.bound, ap length c.deref.ensures.value)) c.requires.rising)
