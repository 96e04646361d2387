use Rattle.std.proofs.Common.{◌≡◌, ◌++◌, string_bytes, take}
use Rattle.rdm_report.specs.Text.{entries_text}
use Rattle.rdm_report.proofs.entry.put_entries.Given as goal

abbrev pub invariant-loop-e : goal.invariant-loop-e
invariant-loop-e l = string_bytes l.out ≡ string_bytes l.fn.out ++ entries_text (take l.e-index l.es)
