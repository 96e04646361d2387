-- What instructions and datagrams were answered.
use Rattle.std.specs.Prelude.{ℕ, List, ◌++◌, codes, decimal, Option, Some, None}
use Rattle.rdm_model.specs.declared.answer.DidWhat.{DidWhat}
use Rattle.rdm_model.specs.declared.answer.DidWhat.TheVariants as did
use Rattle.rdm_model.specs.declared.answer.Yet.{Yet}
use Rattle.rdm_model.specs.declared.answer.Yet.TheVariants as yet
use Rattle.rdm_model.specs.declared.answer.Next.{Next}
use Rattle.rdm_model.specs.declared.answer.Next.TheVariants as next
use Rattle.rdm_model.specs.declared.answer.Entered.{Entered}
use Rattle.rdm_model.specs.declared.answer.Handled.{Handled}
use Rattle.rdm_model.specs.declared.answer.Handled.TheVariants as handled
use Rattle.rdm_report.specs.Words.{why_word, pool_word, class_word}

-- an instruction that was done, with the numbers that it made
abbrev pub did_text : DidWhat → List ℕ
did_text did.Plain = codes "did"
did_text (did.Region region) = codes "did " ++ decimal region.0
did_text (did.Sent send msg) = codes "did " ++ decimal send.0 ++ codes " msg " ++ decimal msg.0
did_text (did.Posted recv) = codes "did " ++ decimal recv.0

-- what an instruction waits for
abbrev pub yet_text : Yet → List ℕ
yet_text (yet.Wait have need) = codes "NotYet Wait " ++ decimal have ++ codes " " ++ decimal need
yet_text yet.Await = codes "NotYet Await"
yet_text yet.Opened = codes "NotYet Opened"
yet_text yet.Handshake = codes "NotYet Handshake"
yet_text (yet.Parts parts) = codes "NotYet Parts " ++ decimal parts

-- the answer of an instruction; those that make no entry stand for what a program waits for
abbrev pub answer_text : Next → List ℕ
answer_text (next.Did what) = did_text what
answer_text (next.Refused why) = codes "refused " ++ why_word why
answer_text (next.NotYet yet) = yet_text yet
answer_text (next.Again pool) = codes "Again " ++ pool_word pool
answer_text next.Ended = codes "Ended"
answer_text next.Worn = codes "Worn"
answer_text next.Memory = codes "Memory"

-- the message numbers that a datagram let in: the least one and their count
abbrev pub numbers_text : Entered → List ℕ
numbers_text entered = codes "enters " ++ decimal entered.first.0 ++ codes " " ++ decimal entered.count

-- a datagram that was taken
abbrev pub entered_text : Option Entered → List ℕ
entered_text None = codes "took"
entered_text (Some numbers) = codes "took " ++ numbers_text numbers

-- the answer to a datagram
abbrev pub handled_text : Handled → List ℕ
handled_text (handled.Took entered) = entered_text entered
handled_text (handled.Dropped class) = codes "dropped " ++ class_word class
handled_text handled.AgainEarly = codes "AgainEarly"
handled_text handled.AgainCopy = codes "AgainCopy"
handled_text handled.Empty = codes "Empty"
handled_text handled.Worn = codes "Worn"
handled_text handled.Memory = codes "Memory"
