use Rattle.std.proofs.Common.{◌≡◌, ◌++◌, string_bytes, drop}
use Rattle.rdm_report.specs.Text.{ends_text}
use Rattle.rdm_report.proofs.report.put_ends.Given as goal

abbrev pub invariant-loop-rank : goal.invariant-loop-rank
invariant-loop-rank l = string_bytes l.out ++ ends_text l.rank (drop l.rank l.ends) ≡ string_bytes l.fn.out ++ ends_text 0 l.ends
