-- Histories and reports that are refused by what a right report says, each by one sentence of it.
use Rattle.std.proofs.Common.{◌≡◌, ℕ, ◌-◌, List, [], ◌∷◌, ◌++◌, length, take, Option, refl, ap, sym, subst, arith, inl, inr}
use Rattle.std.specs.Prelude.{Some, None, false, replicate}
use Rattle.rdm_num.specs.Lives.{life}
use Rattle.rdm_num.specs.declared.numbers.Connid.{Connid}
use Rattle.rdm_num.specs.declared.numbers.Life.{Life}
use Rattle.rdm_num.specs.declared.completion.Completion.{Completion}
use Rattle.rdm_num.specs.declared.completion.Outcome.{Outcome}
use Rattle.rdm_num.specs.declared.completion.Outcome.TheVariants.{Took, Gone}
use Rattle.rdm_match.specs.declared.Arrived.{Arrived}
use Rattle.rdm_match.specs.Matcher.{Pair}
use Rattle.rdm_model.specs.declared.job.Job.{Job}
use Rattle.rdm_model.specs.declared.job.Instr.{Instr}
use Rattle.rdm_model.specs.declared.job.Instr.TheVariants.{OpenLife, Reg}
use Rattle.rdm_model.specs.declared.entry.Entry.{Entry}
use Rattle.rdm_model.specs.declared.entry.Act.TheVariants as Act
use Rattle.rdm_model.specs.declared.answer.OpName.TheVariants as Op
use Rattle.rdm_model.specs.declared.answer.Next.TheVariants as Next
use Rattle.rdm_model.specs.declared.answer.DidWhat.TheVariants as Did
use Rattle.rdm_model.specs.declared.answer.Handled.TheVariants as Handled
use Rattle.rdm_model.specs.declared.report.End.{End}
use Rattle.rdm_model.specs.Deeds.{open_life}
use Rattle.rdm_model.specs.Currents.{is_forgotten}
use Rattle.rdm_model.specs.Matches.{Receive, receives}
use Rattle.rdm_model.specs.Receives.{receive_numbered}
use Rattle.rdm_model.specs.Lawful.{port_deeds, life_deeds}
use Rattle.rdm_law.specs.Matched.{merge_in, plain_pairs}
use Rattle.rdm_law.specs.Polled.{IsMatched, PollsMatched}
use Rattle.rdm_law.specs.Headline.{SaysRight}
use Rattle.rdm_law.proofs.Central.TheLaw.{the_headline}
use Rattle.rdm_rows.proofs.Greeting as Greeting
use Rattle.rdm_rows.proofs.Greeting.{before_poll, after_poll, datagram_0_1}
use Rattle.rdm_rows.proofs.Greeted as Greeted
use Rattle.rdm_rows.proofs.Fairness.{greeting_is_fair}
use Rattle.rdm_rows.specs.Jobs.{zero_five, recv, two_ranks}
use Rattle.rdm_rows.specs.Limits.{default_limits}
use Rattle.rdm_rows.specs.Met.{met}
use Rattle.rdm_rows.specs.Shown.{told}
use Rattle.rdm_rows.specs.Words.{every_word}

-- rank 1 polls its receive of that number
abbrev polls : ℕ → ℕ → Outcome → Entry
polls stamp recv o = record { stamp = record { 0 = stamp }; port = record { 0 = 1 }; act = Act.Poll (Completion.Recv (record { 0 = recv }) o) }

-- the message `hello`, as it was sent
abbrev hello : Outcome
hello = Took zero_five (Some 7) None (104 ∷ 101 ∷ 108 ∷ 108 ∷ 111 ∷ []) 0

-- the greeting with another outcome of its receive
abbrev greeting : Outcome → List Entry
greeting o = after_poll ++ polls 9 0 o ∷ before_poll

-- with `hello` it is the greeting
greeting_is : greeting hello ≡ Greeting.history
greeting_is = refl

-- and the report of the greeting says all of it
greeting_says : SaysRight Greeting.job Greeted.report
greeting_says = the_headline Greeting.job Greeted.report greeting_is_fair Greeted.report_is_right

-- the identifier that rank 1 has open
seven : (c : Connid) → Some (record { 0 = 7 }) ≡ Some c → record { 0 = 7 } ≡ c
seven c e = cc

-- how many bytes a receive asked for
asked : Option Receive → ℕ
asked None = 0
asked (Some r) = r.req.len

-- the receive of the greeting asked for 8
asked_8 : (c : Connid) (r : Receive) → open_life (port_deeds Greeting.job 1 before_poll) ≡ Some c
    → receive_numbered (receives (life_deeds Greeting.job before_poll (life (record { 0 = 1 }) c))) 0 ≡ Some r → 8 ≡ r.req.len
unfolding every_word asked
asked_8 c r open' is =
    ap asked (subst (λ (x : Connid). receive_numbered (receives (life_deeds Greeting.job before_poll (life (record { 0 = 1 }) x))) 0 ≡ Some r) (sym (seven c open')) is)

-- 8 first bytes that are none leave none to count
none_left : (xs : List ℕ) → [] ≡ take 8 xs → 5 ≡ length xs - 8 → ⊥
none_left [] b e = omega (arith, e)
none_left (x ∷ xs) b e = absurd cc

-- the greeting's receive of 8 bytes, polled as cut off to nothing
truncated_is_refused : (ends : List End) → SaysRight Greeting.job (told (greeting (Took zero_five (Some 7) None [] 5)) ends) → ⊥
truncated_is_refused ends s =
    let p = s.polled after_poll (polls 9 0 (Took zero_five (Some 7) None [] 5)) before_poll (record { 0 = 0 }) (Took zero_five (Some 7) None [] 5) refl refl in
    let eight = asked_8 p.connid p.receive p.is_open p.is_receive in
    none_left p.ended.send.message.bytes (subst (λ (n : ℕ). [] ≡ take n p.ended.send.message.bytes) (sym eight) p.ended.bytes_are)
    (subst (λ (n : ℕ). 5 ≡ length p.ended.send.message.bytes - n) (sym eight) p.ended.excess_is)

-- no life was forgotten before the poll
none_forgotten : (c : Connid) (lost : Life) → open_life (port_deeds Greeting.job 1 before_poll) ≡ Some c
    → is_forgotten (life_deeds Greeting.job before_poll (life (record { 0 = 1 }) c)) lost ≡ false
unfolding every_word
none_forgotten c lost open' = subst (λ (x : Connid). is_forgotten (life_deeds Greeting.job before_poll (life (record { 0 = 1 }) x)) lost ≡ false) (seven c open') refl

-- a receive that is gone, though no life was forgotten
gone_is_refused : (ends : List End) → SaysRight Greeting.job (told (greeting Gone) ends) → ⊥
gone_is_refused ends s =
    let p = s.polled after_poll (polls 9 0 Gone) before_poll (record { 0 = 0 }) Gone refl refl in
    let none = none_forgotten p.connid p.ended.lost p.is_open in
    let f = p.ended.forgotten in
    cc

-- a receive that is polled once more
second_poll_is_refused : (o : Outcome) (ends : List End) → SaysRight Greeting.job (told (polls 10 0 o ∷ polls 9 0 hello ∷ before_poll) ends) → ⊥
unfolding every_word
second_poll_is_refused o ends s = s.polled_once [] (polls 10 0 o) [] (polls 9 0 hello) before_poll (record { 0 = 0 }) o hello refl refl refl refl refl

-- the receive of the greeting, as it was accepted
abbrev greeting_receive : Receive
greeting_receive =
    record {
      number = 0;
      req = record { from = None; region = record { 0 = 0 }; at = 0; len = 8; want = Some (record { tag = 7; ignore = 0 }) };
      posted = record { id = record { 0 = 0 }; from = None; want = Some (record { tag = 7; ignore = 0 }) };
    }

-- the first message of rank 0, as it comes to rank 1
abbrev greeting_message : Arrived
greeting_message = record { life = zero_five; no = record { 0 = 0 }; tag = Some 7 }

-- it was matched to that receive, before and after the poll
first_polls : PollsMatched Greeting.job before_poll (polls 9 0 hello) (record { 0 = 7 }) greeting_message
unfolding every_word merge_in plain_pairs
first_polls = record { recv = record { 0 = 0 }; outcome = hello; act_is = refl; is_open = refl; receive = greeting_receive; is_receive = refl; matched = inl refl }

second_polls : (o : Outcome) → PollsMatched Greeting.job (polls 9 0 hello ∷ before_poll) (polls 10 0 o) (record { 0 = 7 }) greeting_message
unfolding every_word merge_in plain_pairs
second_polls o = record { recv = record { 0 = 0 }; outcome = o; act_is = refl; is_open = refl; receive = greeting_receive; is_receive = refl; matched = inl refl }

-- a message that is polled once more
message_again_is_refused : (o : Outcome) (ends : List End) → SaysRight Greeting.job (told (polls 10 0 o ∷ polls 9 0 hello ∷ before_poll) ends) → ⊥
message_again_is_refused o ends s =
    s.message_once [] (polls 10 0 o) [] (polls 9 0 hello) before_poll (record { 0 = 7 }) greeting_message refl refl (second_polls o) first_polls

abbrev twice_ops : List Instr
twice_ops =
    OpenLife (record { 0 = 7 })
    ∷ Reg (replicate 16 0)
    ∷ recv 0 8 7
    ∷ recv 8 8 7
    ∷ []

-- the greeting, with two receives for the one message
abbrev twice : Job
twice = two_ranks default_limits Greeting.job_ops_0 twice_ops

-- what comes before the polls: receive 0 takes the message
abbrev before_twice : List Entry
before_twice =
    record { stamp = record { 0 = 8 }; port = record { 0 = 1 }; act = Act.Handle datagram_0_1 (Handled.Took (Some (record { first = record { 0 = 0 }; count = 1 }))) }
    ∷ record { stamp = record { 0 = 8 }; port = record { 0 = 0 }; act = Act.Poll (Completion.Send (record { 0 = 0 }) false) }
    ∷ record { stamp = record { 0 = 7 }; port = record { 0 = 0 }; act = Act.Push datagram_0_1 }
    ∷ record { stamp = record { 0 = 6 }; port = record { 0 = 1 }; act = Act.Next 3 Op.Recv (Next.Did (Did.Posted (record { 0 = 1 }))) }
    ∷ record { stamp = record { 0 = 6 }; port = record { 0 = 0 }; act = Act.Next 3 Op.Send (Next.Did (Did.Sent (record { 0 = 0 }) (record { 0 = 0 }))) }
    ∷ record { stamp = record { 0 = 5 }; port = record { 0 = 1 }; act = Act.Next 2 Op.Recv (Next.Did (Did.Posted (record { 0 = 0 }))) }
    ∷ record { stamp = record { 0 = 5 }; port = record { 0 = 0 }; act = Act.Next 2 Op.Reg (Next.Did (Did.Region (record { 0 = 0 }))) }
    ∷ record { stamp = record { 0 = 4 }; port = record { 0 = 1 }; act = Act.Next 1 Op.Reg (Next.Did (Did.Region (record { 0 = 0 }))) }
    ∷ record { stamp = record { 0 = 4 }; port = record { 0 = 0 }; act = Act.Next 1 Op.Insert (Next.Did Did.Plain) }
    ∷ met

-- the number of a receive, as the matcher sees it
posted_number : Option Receive → ℕ
posted_number None = 0
posted_number (Some r) = r.posted.id.0

-- the history has receive 1 as its own, and one pair alone, which is of receive 0
abbrev PairedBefore : List Entry → Connid → Receive → Arrived → Type 0
PairedBefore before c r message =
    (receive_numbered (receives (life_deeds twice before (life (record { 0 = 1 }) c))) 1 ≡ Some r) × IsMatched twice before (life (record { 0 = 1 }) c) r message

-- a pair of receive 0 is none of receive 1
zero_is_not_one : (n : ℕ) → 1 ≡ n → 0 ≡ n → ⊥
zero_is_not_one n a b = omega arith

-- receive 1 is not matched, whether or not receive 0 was polled
one_is_unmatched : (c : Connid) (r : Receive) (message : Arrived) → open_life (port_deeds twice 1 before_twice) ≡ Some c → PairedBefore before_twice c r message → ⊥
unfolding every_word merge_in plain_pairs posted_number
one_is_unmatched c r message open' h =
    let p = subst (λ (x : Connid). PairedBefore before_twice x r message) (sym (seven c open')) h in
    elim p.1 [ inl e ↦ zero_is_not_one r.posted.id.0 (ap posted_number p.0) (ap (λ (x : Pair). x.recv.id.0) e) | inr never ↦ elim never [ ] ]

-- the same after the poll of receive 0
one_stays_unmatched : (c : Connid) (r : Receive) (message : Arrived) → open_life (port_deeds twice 1 (polls 9 0 hello ∷ before_twice)) ≡ Some c
    → PairedBefore (polls 9 0 hello ∷ before_twice) c r message → ⊥
unfolding every_word merge_in plain_pairs posted_number
one_stays_unmatched c r message open' h =
    let p = subst (λ (x : Connid). PairedBefore (polls 9 0 hello ∷ before_twice) x r message) (sym (seven c open')) h in
    elim p.1 [ inl e ↦ zero_is_not_one r.posted.id.0 (ap posted_number p.0) (ap (λ (x : Pair). x.recv.id.0) e) | inr never ↦ elim never [ ] ]

-- a pair that the plain matcher does not make: the newer receive has the message
newer_receive_is_refused : (ends : List End) → SaysRight twice (told (polls 9 1 hello ∷ before_twice) ends) → ⊥
newer_receive_is_refused ends s =
    let p = s.polled [] (polls 9 1 hello) before_twice (record { 0 = 1 }) hello refl refl in
    one_is_unmatched p.connid p.receive _ p.is_open (p.is_receive, p.ended.matched)

-- two receives that both have message 0
both_have_it_is_refused : (ends : List End) → SaysRight twice (told (polls 10 1 hello ∷ polls 9 0 hello ∷ before_twice) ends) → ⊥
both_have_it_is_refused ends s =
    let p = s.polled [] (polls 10 1 hello) (polls 9 0 hello ∷ before_twice) (record { 0 = 1 }) hello refl refl in
    one_stays_unmatched p.connid p.receive _ p.is_open (p.is_receive, p.ended.matched)
