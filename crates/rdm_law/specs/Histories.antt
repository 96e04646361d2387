-- What holds of each lawful history of a fair job, before it is settled.
use Rattle.std.specs.Prelude.{ℕ, IsTrue, List}
use Rattle.rdm_model.specs.declared.job.Job.{Job}
use Rattle.rdm_model.specs.declared.entry.Entry.{Entry}
use Rattle.rdm_model.specs.Deeds.{log_of}
use Rattle.rdm_model.specs.Jobs.{is_fair, law_ops}
use Rattle.rdm_model.specs.Local.{Local}
use Rattle.rdm_model.specs.Lawful.{Lawful}
use Rattle.rdm_law.specs.Matched.{EnterInOrder, MatchedOnce, ComeAsSent}
use Rattle.rdm_law.specs.Polled.{PolledWasSent, PolledAsEnded, PolledOnce, MessagePolledOnce}

-- Each sender's messages come to a matcher in the order of their sending, with none left out.
abbrev pub EnterInOrderAlways : Type 0
EnterInOrderAlways = (job : Job) (history : List Entry) → EnterInOrder job history

-- Each receive and each message is matched once at most.
abbrev pub MatchedOnceAlways : Type 0
MatchedOnceAlways = (job : Job) (history : List Entry) → MatchedOnce job history

-- Each receive that completed has what was sent, or its first bytes and the count of the others.
abbrev pub PolledWasSentAlways : Type 0
PolledWasSentAlways = (job : Job) (history : List Entry) → IsTrue (is_fair law_ops job) → Lawful job history → PolledWasSent job history

-- What came of each sender is the front of what it sent to that life.
abbrev pub ComeAsSentAlways : Type 0
ComeAsSentAlways = (job : Job) (history : List Entry) → IsTrue (is_fair law_ops job) → Lawful job history → ComeAsSent job history

-- Each polled receive ended as was polled: with the message that it was matched to, cancelled, or gone with a life.
abbrev pub PolledAsEndedAlways : Type 0
PolledAsEndedAlways = (job : Job) (history : List Entry) → IsTrue (is_fair law_ops job) → Lawful job history → PolledAsEnded job history

-- No receive and no message is polled twice.
abbrev pub PolledOnceAlways : Type 0
PolledOnceAlways = (job : Job) (history : List Entry) → IsTrue (is_fair law_ops job) → Lawful job history → PolledOnce job history × MessagePolledOnce job history

-- The logs of a lawful history are right by themselves: the central law the other way round.
abbrev pub LogsAreLocal : Type 0
LogsAreLocal = (job : Job) (history : List Entry) → IsTrue (is_fair law_ops job) → Lawful job history → (port : ℕ) → Local job port (log_of port history)
