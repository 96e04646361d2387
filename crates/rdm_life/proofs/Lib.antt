-- Proofs.
-- what one deed makes of the pairs
pub mod Made
-- tests that are joined
pub mod Tests
-- packets that are taken meet their conditions
pub mod TakenRead
-- Lives, regions and counts:
-- which steps leave them
pub mod LivesLeft
pub mod LivesLight
-- which life of a port is the current one
pub mod LivesCurrent
pub mod LivesPeers
pub mod Regions
pub mod Counted
-- so they are kept
pub mod LivesKept
-- Messages and the matcher:
-- what enters with a deed
pub mod Pairs
pub mod EnteringRow
pub mod Entered
pub mod NewMessage
pub mod NewEntered
pub mod MadePairs
-- which deeds leave what waits
pub mod MatchingQuiet
pub mod MatchingStill
pub mod MatchingSteps
pub mod MatchingSilent
-- what is early
pub mod EarlyWords
pub mod EarlyCounts
-- what an insert, a cancel, a receive and a packet make of them
pub mod MatchingCancel
pub mod MatchingInsert
pub mod MatchingMeets
pub mod MatchingTaken
pub mod MatchingOpened
-- so they are kept
pub mod MatchingStep
pub mod MessagesKept
-- Live sends:
-- what the definitions say of each
pub mod OwnSends
pub mod SendLists
pub mod SendWords
pub mod SendTargets
pub mod NewSends
pub mod SendAnswers
-- what each deed makes of them
pub mod SendsQuiet
pub mod SendsForgotten
pub mod SendsEnded
pub mod SendsGranted
pub mod SendsMade
pub mod SendPackets
pub mod SendsAnswered
pub mod SendsPushed
-- so they are kept
pub mod KeepsSends
-- and what goes out next is what is due
pub mod GoesSends
pub mod Goes
-- Live receives and memory, but for the deeds that make pairs or bring bytes:
-- what came within grants, and that no window is left when all of it came
pub mod CameWithin
pub mod Windows
pub mod NoWindows
-- that ranges are apart
pub mod Apart
pub mod Places
-- what a deed leaves of receives and of regions
pub mod Stays
pub mod EndSteps
pub mod LiveLeft
pub mod Back
-- what ends write
pub mod Writes
pub mod EndBytes
pub mod EndsWritten
-- what the deeds make of them
pub mod ReceivesStart
pub mod ReceivesQuiet
pub mod ReceivesReg
pub mod ReceivesCancel
pub mod ReceivesInsert
pub mod ReceivesSteps
-- Deeds that make pairs or bring bytes:
-- which pairs they are of, and what is kept once the bytes landed
pub mod Settling
-- the receive of each such pair, and what is so of it
pub mod SettledPairs
-- what those pairs complete, and what they make owed
pub mod SettledDone
pub mod SettledOwed
-- what came lies within its message
pub mod TakenWithin
-- which receives they fill, what that writes, and what is kept of the others
pub mod SettledEnds
pub mod SettledBytes
pub mod SettledReceives
-- receives and messages that meet
pub mod Meets
pub mod MeetsReceive
pub mod MeetsPacket
-- a piece that lands in its receive
pub mod LandedPiece
-- granted bytes and read bytes
pub mod LandedBytes
-- and more of a message that was heard of
pub mod LandedMore
-- What is owed and the completions, but for the same deeds:
pub mod Owing
pub mod Idle
pub mod OwedIdle
pub mod Completing
pub mod CompletedIdle
pub mod CompletedGone
pub mod CompletedPushed
pub mod KeepsOwed
-- What answers depend on:
pub mod FactsKept
-- and the numbers that enter
pub mod EnteredKept
-- What the class of an item depends on:
pub mod SendFacts
pub mod AskFacts
pub mod AskedPlaces
pub mod GrantFacts
pub mod TakenBy
pub mod MessageFacts
pub mod MessageStands
pub mod CameFacts
pub mod ReceiveFacts
pub mod EndFacts
pub mod SentWhole
-- so an item has the class that what is kept says
pub mod Classed
-- and it needs a place where what is kept says so
pub mod Placed
-- So all of it is kept after every local log, and answers as the definitions do.
pub mod LandedKept
pub mod MeetsKept
pub mod RecordKept
pub mod FactsLaw
-- What is lent:
-- the live receive of a missing range, which stays missing and live by what spares it
pub mod LoanPairs
pub mod LoanPlaces
pub mod LoanEnds
-- so a loan lasts
pub mod LoansLast
-- what a datagram brings that no class fits, and that it stays such a one
pub mod LoansMatched
pub mod LoansBrought
pub mod LoansStay
pub mod LoansTaken
-- so it is in a log
pub mod LoansLaw
-- and what is out stands
pub mod LoansStand
