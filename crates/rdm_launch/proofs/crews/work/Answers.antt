use Rattle.std.proofs.Common.{ℕ, sym, subst}
use Rattle.rdm_launch.specs.Fitting.{FitsPlace}
use Rattle.rdm_launch.proofs.crews.work.Goals as goal

pub turn-station-requires-clause-fits : goal.turn-station-requires-clause-fits
turn-station-requires-clause-fits g c =
    let fits = c.take-station.ensures.fits in
    subst (λ (i : ℕ). FitsPlace g.J.Naming.tables g.J.Naming.starts c.take-station.result.port c.take-station.result.passes i) (sym fits.0.number) fits

pub give-requires-clause-fits : goal.give-requires-clause-fits
give-requires-clause-fits g c =
    let number = c.take-station.ensures.fits.0.number in
    subst (λ (i : ℕ). FitsPlace g.J.Naming.tables g.J.Naming.starts c.turn-station.result.0.port c.turn-station.result.0.passes i) number c.turn-station.ensures
