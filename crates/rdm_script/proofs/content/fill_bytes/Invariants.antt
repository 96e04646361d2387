use Rattle.std.proofs.Common.{◌≡◌, ◌++◌, ◌-◌}
use Rattle.rdm_script.specs.Contents.{fill_bytes}
use Rattle.rdm_script.proofs.content.fill_bytes.Given as goal

abbrev pub invariant-loop-place : goal.invariant-loop-place
invariant-loop-place l = l.bytes.items ++ fill_bytes l.seed l.place (l.count - l.place) ≡ fill_bytes l.seed 0 l.count
