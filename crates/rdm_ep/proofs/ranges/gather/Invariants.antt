use Rattle.std.proofs.Common.{◌≡◌, map, take, Vec, Global, ℕ}
use Rattle.rdm_model.specs.Sends.{bytes_of}
use Rattle.rdm_ep.proofs.ranges.gather.Given as goal

abbrev pub invariant-loop-part : goal.invariant-loop-part
invariant-loop-part l = l.bytes.items ≡ bytes_of (map (λ (r : Vec ℕ Global). r.items) l.regions) (take l.part-index l.part-items)
