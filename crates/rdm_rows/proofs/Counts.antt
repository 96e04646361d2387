-- Reports that are refused by what a right report says of drops, of pools, of what was sent, and of the end.
use Rattle.std.proofs.Common.{◌≡◌, ℕ, ◌≤◌, List, [], ◌∷◌, refl, sym, arith}
use Rattle.std.specs.Prelude.{Some, None}
use Rattle.rdm_match.specs.declared.Arrived.{Arrived}
use Rattle.rdm_model.specs.declared.job.Job.{Job}
use Rattle.rdm_model.specs.declared.job.Instr.{Instr}
use Rattle.rdm_model.specs.declared.job.Instr.TheVariants.{OpenLife, CloseLife}
use Rattle.rdm_model.specs.declared.entry.Entry.{Entry}
use Rattle.rdm_model.specs.declared.entry.Act.TheVariants as Act
use Rattle.rdm_model.specs.declared.answer.OpName.TheVariants as Op
use Rattle.rdm_model.specs.declared.answer.Next.TheVariants as Next
use Rattle.rdm_model.specs.declared.answer.DidWhat.TheVariants as Did
use Rattle.rdm_model.specs.declared.answer.PoolName.TheVariants.{Tx}
use Rattle.rdm_model.specs.declared.answer.Handled.TheVariants as Handled
use Rattle.rdm_model.specs.declared.answer.Class.TheVariants as Class
use Rattle.rdm_model.specs.declared.report.End.{End}
use Rattle.rdm_law.specs.Matched.{merge_in, arrivals_from, arrivals_in, sent_messages}
use Rattle.rdm_law.specs.Headline.{SaysRight}
use Rattle.rdm_rows.proofs.Greeting as Greeting
use Rattle.rdm_rows.proofs.Greeting.{before_hello, before_poll, datagram_0_1}
use Rattle.rdm_rows.specs.Jobs.{one_seven, two_ranks, zero_five}
use Rattle.rdm_rows.specs.Limits.{default_limits}
use Rattle.rdm_rows.specs.Met.{met}
use Rattle.rdm_rows.specs.Shown.{left_at, told}
use Rattle.rdm_rows.specs.Words.{every_word}

abbrev closing_ops : List Instr
closing_ops = OpenLife (record { 0 = 7 }) ∷ CloseLife ∷ []

-- the greeting, to a life that is closed before the message comes
abbrev closing : Job
closing = two_ranks default_limits Greeting.job_ops_0 closing_ops

abbrev closed : List Entry
closed =
    record { stamp = record { 0 = 8 }; port = record { 0 = 1 }; act = Act.Handle datagram_0_1 (Handled.Dropped Class.ToOther) }
    ∷ record { stamp = record { 0 = 7 }; port = record { 0 = 0 }; act = Act.Push datagram_0_1 }
    ∷ record { stamp = record { 0 = 6 }; port = record { 0 = 0 }; act = Act.Next 3 Op.Send (Next.Did (Did.Sent (record { 0 = 0 }) (record { 0 = 0 }))) }
    ∷ record { stamp = record { 0 = 5 }; port = record { 0 = 0 }; act = Act.Next 2 Op.Reg (Next.Did (Did.Region (record { 0 = 0 }))) }
    ∷ record { stamp = record { 0 = 4 }; port = record { 0 = 1 }; act = Act.Next 1 Op.Close (Next.Did Did.Plain) }
    ∷ record { stamp = record { 0 = 4 }; port = record { 0 = 0 }; act = Act.Next 1 Op.Insert (Next.Did Did.Plain) }
    ∷ met

-- an end of a port that has nothing left, with so many drops of either kind
abbrev ended : ℕ → ℕ → ℕ → End
ended done to_other from_other = record { done = done; all = done; left = None; to_other = to_other; from_other = from_other; waiting = 0 }

-- other numbers than those of the log
none_is_one : (n m : ℕ) → n ≡ m → 0 ≡ n → 1 ≡ m → ⊥
none_is_one n m e a b = omega arith

-- a drop that the report does not count
uncounted_is_refused : SaysRight closing (told closed (ended 4 0 0 ∷ ended 2 0 0 ∷ [])) → ⊥
unfolding every_word
uncounted_is_refused s = none_is_one 0 1 (s.counted.to_other 1 (ended 2 0 0) refl) refl refl

-- a drop that is counted as one of the other kind
miscounted_is_refused : SaysRight closing (told closed (ended 4 0 0 ∷ ended 2 1 1 ∷ [])) → ⊥
unfolding every_word
miscounted_is_refused s = none_is_one 0 1 (sym (s.counted.from_other 1 (ended 2 1 1) refl)) refl refl

-- fewer ends than ports
one_is_two : (n m : ℕ) → n ≡ m → 1 ≡ n → 2 ≡ m → ⊥
one_is_two n m e a b = omega arith

-- a report that leaves out a port
short_report_is_refused : SaysRight closing (told closed (ended 4 0 0 ∷ [])) → ⊥
short_report_is_refused s = one_is_two 1 2 s.counted.each_port refl refl

-- a drop of what is to the open life
open_drop_is_refused : (ends : List End)
    → SaysRight Greeting.job (told (record { stamp = record { 0 = 8 }; port = record { 0 = 1 }; act = Act.Handle datagram_0_1 (Handled.Dropped Class.ToOther) } ∷ before_hello) ends) → ⊥
unfolding every_word
open_drop_is_refused ends s =
    (s.drops [] (record { stamp = record { 0 = 8 }; port = record { 0 = 1 }; act = Act.Handle datagram_0_1 (Handled.Dropped Class.ToOther) }) before_hello datagram_0_1 Class.ToOther refl refl).of_other refl

-- an instruction that is to be tried again, where no place of its pool is taken
again_is_refused : (rest : List End)
    → SaysRight Greeting.job (told Greeting.history (left_at 4 5 (Next.Again Tx) ∷ rest)) → ⊥
unfolding every_word
again_is_refused rest s =
    (let full : 64 ≤ 0 = s.again.left 0 (left_at 4 5 (Next.Again Tx)) Tx refl refl in omega arith)

-- the message comes, and nobody sent it
abbrev unsent : List Entry
unsent =
    record { stamp = record { 0 = 8 }; port = record { 0 = 1 }; act = Act.Handle datagram_0_1 (Handled.Took (Some (record { first = record { 0 = 0 }; count = 1 }))) }
    ∷ record { stamp = record { 0 = 7 }; port = record { 0 = 0 }; act = Act.Push datagram_0_1 }
    ∷ met

-- one message is not none
one_is_none : (a : Arrived) → a ∷ [] ≡ [] → ⊥
one_is_none a e = absurd cc

-- a message that was not sent
unsent_is_refused : (ends : List End) → SaysRight Greeting.job (told unsent ends) → ⊥
unfolding every_word merge_in arrivals_in arrivals_from sent_messages
unsent_is_refused ends s = one_is_none _ (s.matched.come one_seven zero_five)

-- a datagram that is handled twice
second_handling_is_refused : (ends : List End)
    → SaysRight Greeting.job (told (record { stamp = record { 0 = 9 }; port = record { 0 = 1 }; act = Act.Handle datagram_0_1 (Handled.Took None) } ∷ before_poll) ends) → ⊥
second_handling_is_refused ends s = s.wire.1.2.0.1 refl refl

-- a completion that is not polled at the end
unpolled_is_refused : (ends : List End) → SaysRight Greeting.job (told before_poll ends) → ⊥
unfolding every_word
unpolled_is_refused ends s = (let none = s.ends.polled 1 (omega arith) (omega arith) in absurd cc)
