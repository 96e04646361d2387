use Rattle.rdm_launch.proofs.Packings.{each_same}
use Rattle.rdm_launch.proofs.launching.run.Goals as goal

pub unpack-requires-in-Err-clause-fits : goal.unpack-requires-in-Err-clause-fits
unpack-requires-in-Err-clause-fits g c = each_same _ _ _ c.in-Err.ensures.err.0 c.in_ok-stations.ensures.fits.0
