use Rattle.std.proofs.Common.{arith}
use Rattle.rdm_land.proofs.Waiting.{run_fits, run_waits}
use Rattle.rdm_land.proofs.loans.waiting_until.Goals as goal

pub overflow_add-result : goal.overflow_add-result
overflow_add-result c = let f = run_fits c.args.at c.missing_from-missing.result _ c.missing_from-missing.ensures c.if-missing-gt0.true in record { fits = omega (arith, f, c.requires.fits) }

pub returns-then-missing-gt0 : goal.returns-then-missing-gt0
returns-then-missing-gt0 c = (omega (arith, c.if-missing-gt0.true), run_waits c.args.at c.missing_from-missing.result _ c.args.lent.now c.missing_from-missing.ensures c.if-missing-gt0.true)
