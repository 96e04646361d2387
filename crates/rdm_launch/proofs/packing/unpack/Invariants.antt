use Rattle.std.proofs.Common.{◌≡◌, ◌+◌, ◌≤◌, vec_len, vec_capacity}
use Rattle.rdm_turn.specs.Slots.{EachFits}
use Rattle.rdm_launch.specs.Fitting.{FitsPlace}
use Rattle.rdm_launch.proofs.Packings.{BothBack}
use Rattle.rdm_launch.proofs.packing.unpack.Given as goal

abbrev pub invariant-loop-station : goal.invariant-loop-station
invariant-loop-station g l = record {
  others : EachFits (λ s i. FitsPlace g.J.Naming.tables g.J.Naming.starts s.port s.passes i) l.stations.items;
  unpacked : BothBack g.J.Naming.tables g.J.Naming.starts (vec_len l.fn.stations) l.ports.items l.all.items;
  both : vec_len l.all ≡ vec_len l.ports;
  count : vec_len l.ports + vec_len l.stations ≡ vec_len l.fn.stations;
  room : (vec_len l.fn.stations ≤ vec_capacity l.ports) × (vec_len l.fn.stations ≤ vec_capacity l.all);
}

abbrev pub decreases-loop-station : goal.decreases-loop-station
decreases-loop-station g l = vec_len l.stations
