use Rattle.std.proofs.Common.{◌≡◌, take}
use Rattle.rdm_sends.specs.Sending.{range_bytes}
use Rattle.rdm_sends.proofs.begin.count_bytes.Given as goal

abbrev pub invariant-loop-part : goal.invariant-loop-part
invariant-loop-part l = l.total ≡ range_bytes (take l.part-index l.parts)
