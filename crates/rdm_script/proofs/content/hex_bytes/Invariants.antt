use Rattle.std.proofs.Common.{◌≡◌, ◌*◌, ◌++◌, drop}
use Rattle.rdm_script.specs.Contents.{hex_bytes}
use Rattle.rdm_script.proofs.content.hex_bytes.Given as goal

abbrev pub invariant-loop-i : goal.invariant-loop-i
invariant-loop-i l = l.bytes.items ++ hex_bytes (drop (2 * l.i) l.digits) ≡ hex_bytes l.digits
