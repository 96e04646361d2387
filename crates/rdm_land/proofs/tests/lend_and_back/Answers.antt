use Rattle.std.proofs.Common.{sym, subst}
use Rattle.rdm_land.specs.Landed.{Landed, IsLent}
use Rattle.rdm_land.proofs.tests.lend_and_back.Goals as goal

pub unlend-requires : goal.unlend-requires
unlend-requires c =
    let lent = rw c.in-Ok-Some.field-0-is at c.in-Ok-Some.ensures in
    let part = c.in-Ok-Some.part in
    subst (λ (l : Landed). IsLent l c.args.off c.args.len part) (sym lent.after) (c.lending_law.ensures.lent c.args.landing.now c.args.off c.args.len part lent.answer.0 lent.answer.1)
