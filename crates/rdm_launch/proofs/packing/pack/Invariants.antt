use Rattle.std.proofs.Common.{◌≡◌, ◌+◌, ◌≤◌, vec_len, vec_capacity}
use Rattle.rdm_launch.specs.Fitting.{FitsPlace}
use Rattle.rdm_launch.specs.Packing.{AllFit}
use Rattle.rdm_launch.proofs.Packings.{FitBack}
use Rattle.rdm_launch.proofs.packing.pack.Given as goal

abbrev pub invariant-loop-ports : goal.invariant-loop-ports
invariant-loop-ports g l = record {
  others : AllFit g.J.Naming.tables g.J.Naming.starts l.ports.items l.all.items;
  packed : FitBack (λ s i. FitsPlace g.J.Naming.tables g.J.Naming.starts s.port s.passes i) (vec_len l.fn.ports) l.stations.items;
  both : vec_len l.all ≡ vec_len l.ports;
  count : vec_len l.ports + vec_len l.stations ≡ vec_len l.fn.ports;
  room : vec_len l.fn.ports ≤ vec_capacity l.stations;
  same : (vec_capacity l.ports ≡ vec_capacity l.fn.ports) × (vec_capacity l.all ≡ vec_capacity l.fn.all);
}

abbrev pub decreases-loop-ports : goal.decreases-loop-ports
decreases-loop-ports g l = vec_len l.ports
