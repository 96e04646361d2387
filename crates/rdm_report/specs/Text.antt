-- The lines of a report.
use Rattle.std.specs.Prelude.{ℕ, ◌+◌, Bool, List, [], ◌∷◌, ◌++◌, length, reverse, flat_map, codes, decimal, if◌then◌else◌, Option, Some, None}
use Rattle.rdm_model.specs.declared.answer.Next.{Next as Answer}
use Rattle.rdm_model.specs.declared.entry.Entry.{Entry}
use Rattle.rdm_model.specs.declared.entry.Act.{Act}
use Rattle.rdm_model.specs.declared.entry.Act.TheVariants.{Next, Push, Handle, Poll}
use Rattle.rdm_model.specs.declared.report.End.{End}
use Rattle.rdm_model.specs.declared.report.Report.{Report}
use Rattle.rdm_report.specs.Words.{op_word}
use Rattle.rdm_report.specs.Answers.{answer_text, handled_text}
use Rattle.rdm_report.specs.Pushes.{push_text}
use Rattle.rdm_report.specs.Polls.{completion_text}

-- what an entry did
abbrev pub act_text : Act → List ℕ
act_text (Next index op answer) = codes "next " ++ decimal index ++ codes " " ++ op_word op ++ codes " " ++ answer_text answer
act_text (Push d) = push_text d
act_text (Handle d answer) = codes "handle " ++ decimal d.src.0 ++ codes " " ++ decimal d.number.0 ++ codes " " ++ handled_text answer
act_text (Poll completion) = completion_text completion

-- the line of an entry: its stamp, its port and its act
abbrev pub entry_text : Entry → List ℕ
entry_text e = decimal e.stamp.0 ++ codes " " ++ decimal e.port.0 ++ codes " " ++ act_text e.act ++ codes "\n"

-- a line for each entry
abbrev pub entries_text : List Entry → List ℕ
entries_text es = flat_map entry_text es

-- how many instructions of a program were done, and what it waits for, where any is left
abbrev pub left_text : (done all : ℕ) → Option Answer → List ℕ
left_text done all None = codes "done " ++ decimal done ++ codes " of " ++ decimal all
left_text done all (Some answer) = codes "stuck " ++ decimal done ++ codes " of " ++ decimal all ++ codes " " ++ answer_text answer

-- how many datagrams were dropped, and how many wait
abbrev pub counts_text : End → List ℕ
counts_text e = codes "dropped " ++ decimal e.to_other ++ codes " " ++ decimal e.from_other ++ codes " waiting " ++ decimal e.waiting

-- the line of a rank
abbrev pub end_text : (rank : ℕ) → End → List ℕ
end_text rank e = codes "rank " ++ decimal rank ++ codes " " ++ left_text e.done e.all e.left ++ codes " " ++ counts_text e ++ codes "\n"

-- a line for each rank, from a number on
abbrev pub ends_text : (rank : ℕ) → List End → List ℕ
ends_text rank [] = []
ends_text rank (e ∷ es) = end_text rank e ++ ends_text (rank + 1) es

-- whether any program has instructions left
abbrev pub status_word : (stuck : Bool) → List ℕ
status_word stuck = if stuck then codes "stuck" else codes "done"

-- a heading, the entries from the oldest to the newest, the ranks, and an end
unfoldable pub report_text : Report → List ℕ
report_text r =
    codes "rdm report 1\nstatus " ++ status_word r.stuck ++ codes "\nentries " ++ decimal (length r.history) ++ codes "\n"
    ++ entries_text (reverse r.history) ++ ends_text 0 r.ends ++ codes "end\n"
