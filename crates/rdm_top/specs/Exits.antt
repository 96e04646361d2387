-- How the program ends: its exit status, and the line that it prints.
use Rattle.std.specs.Prelude.{ℕ, Bool, true, false, List, ◌++◌, codes}
use Rattle.rdm_json.specs.Words.{bad_text}
use Rattle.rdm_top.specs.declared.status.Status.{Status}
use Rattle.rdm_top.specs.declared.status.Status.TheVariants as status

-- a number for each way to end
abbrev pub exit_code : Status → ℕ
exit_code status.Done = 0
exit_code status.Stuck = 1
exit_code status.Usage = 2
exit_code (status.BadScript bad) = 3
exit_code status.ReadFault = 4
exit_code status.WriteFault = 5
exit_code status.Memory = 6

-- a report says by itself how its job ended; every other end is told in a line
abbrev pub has_line : Status → Bool
has_line status.Done = false
has_line status.Stuck = false
has_line _ = true

-- what is printed of each end
abbrev pub status_text : Status → List ℕ
status_text status.Done = codes "done"
status_text status.Stuck = codes "stuck"
status_text status.Usage = codes "usage: rdm replay"
status_text (status.BadScript bad) = codes "bad script: " ++ bad_text bad
status_text status.ReadFault = codes "read fault"
status_text status.WriteFault = codes "write fault"
status_text status.Memory = codes "out of memory"
