-- Completions that were polled.
use Rattle.std.specs.Prelude.{ℕ, ◌==◌, Bool, List, [], ◌++◌, length, codes, decimal, if◌then◌else◌, Option}
use Rattle.rdm_num.specs.declared.numbers.Life.{Life}
use Rattle.rdm_num.specs.declared.completion.Outcome.{Outcome}
use Rattle.rdm_num.specs.declared.completion.Outcome.TheVariants as outcome
use Rattle.rdm_num.specs.declared.completion.Completion.{Completion}
use Rattle.rdm_num.specs.declared.completion.Completion.TheVariants as completion
use Rattle.rdm_report.specs.Shown.{shown, number_text}

-- where a message came from, with its tag and its CQ data
abbrev pub source_text : Life → (tag cq_data : Option ℕ) → List ℕ
source_text from tag cq_data =
    codes " from " ++ decimal from.port.0 ++ codes "." ++ decimal from.connid.0 ++ codes " tag " ++ number_text tag ++ codes " data " ++ number_text cq_data

-- how many bytes were cut off, where any were
abbrev pub excess_text : ℕ → List ℕ
excess_text excess = if excess == 0 then [] else codes "excess " ++ decimal excess ++ codes " "

-- whether the message was cut off
abbrev pub outcome_word : (excess : ℕ) → List ℕ
outcome_word excess = if excess == 0 then codes "ok" else codes "truncated"

-- how a receive ended
abbrev pub outcome_text : Outcome → List ℕ
outcome_text (outcome.Took from tag cq_data bytes excess) =
    outcome_word excess ++ source_text from tag cq_data ++ codes " length " ++ decimal (length bytes) ++ codes " " ++ excess_text excess ++ shown bytes
outcome_text outcome.Cancelled = codes "cancelled"
outcome_text outcome.Gone = codes "gone"

-- how a send ended
abbrev pub gone_word : Bool → List ℕ
gone_word gone = if gone then codes "gone" else codes "ok"

-- the end of a send or a receive
abbrev pub completion_text : Completion → List ℕ
completion_text (completion.Send send gone) = codes "poll send " ++ decimal send.0 ++ codes " " ++ gone_word gone
completion_text (completion.Recv recv outcome) = codes "poll recv " ++ decimal recv.0 ++ codes " " ++ outcome_text outcome
