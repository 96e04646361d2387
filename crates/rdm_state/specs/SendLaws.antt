-- Each step of the parts that changes a live send shows the record's step.
use Rattle.std.specs.Prelude.{◌≡◌, ◌≤◌, ℕ, true, false, IsTrue, ◌++◌, length, drop, Some, None}
use Rattle.rdm_lists.specs.Lists.{Member}
use Rattle.rdm_num.specs.declared.numbers.Life.{Life}
use Rattle.rdm_wire.specs.declared.ReadAsk.{ReadAsk}
use Rattle.rdm_model.specs.Replies.{Reply}
use Rattle.rdm_tx.specs.Asks as Asks
use Rattle.rdm_owed.specs.Owing.{Owing}
use Rattle.rdm_answers.specs.declared.answer.Answer.{Answer}
use Rattle.rdm_answers.specs.declared.answer.Answer.TheVariants as A
use Rattle.rdm_answers.specs.Answers.{replies_for}
use Rattle.rdm_answers.specs.Owing.{Becomes}
use Rattle.rdm_life.specs.Kept.{Kept, LiveSend, is_send, send_numbered}
use Rattle.rdm_life.specs.Sending.{after_grant, after_ask, end_sends, push_send, push_first}
use Rattle.rdm_pool.specs.Numbered.{value_at}
use Rattle.rdm_sends.specs.Sending.{SendingView}
use Rattle.rdm_sends.specs.Pushing.{IsPushed, EndsByPush}
use Rattle.rdm_sends.specs.Coming.{may_grant, with_grant, TakesAsk, OwesAnswer, with_asks}
use Rattle.rdm_sound.specs.Premises.{IsOrderly}
use Rattle.rdm_sound.specs.Forgets.{lose_send}
use Rattle.rdm_state.specs.State.{State}
use Rattle.rdm_state.specs.Shows.{Shows}
use Rattle.rdm_state.specs.Steps.{with_send, without_send, owing}

-- the live send of that number is this one
abbrev pub IsLiveSend : State → (number : ℕ) → SendingView → Type 0
IsLiveSend e number x = value_at e.sends.list number ≡ Some x

-- nothing that is owed gives bytes of the send
abbrev pub GivesNone : Kept → (number : ℕ) → Type 0
GivesNone v number = (r : Reply) → Member r v.owed → r.gives ≡ Some number → ⊥

-- A receive grants bytes of a send.
abbrev pub GrantsCome : Type 0
GrantsCome =
    (e : State) (v : Kept) (number recv size : ℕ) (x : SendingView)
    → Shows e v → IsOrderly v → IsLiveSend e number x → IsTrue (may_grant recv size x)
    → Shows (with_send number (with_grant recv size x) e) (after_grant number recv size v)

-- Bytes of a send are asked for, and an answer is owed that gives them.
abbrev pub AsksCome : Type 0
AsksCome =
    (e : State) (v : Kept) (from : Life) (ask : ReadAsk) (x : SendingView) (owed : Owing Answer)
    → Shows e v → IsOrderly v → IsLiveSend e ask.send_id.0 x → TakesAsk ask x.protocol
    → Becomes e.owed.owed owed.owed (λ own bytes_of before. before ++ replies_for own bytes_of from (A.Given ask))
    → Shows (owing owed (with_send ask.send_id.0 (with_asks (λ a. Asks.with_reserved_ask a ask) x) e)) (after_ask from ask v)

-- The first of what is owed goes out, an answer of that send.
abbrev pub AnswersGo : Type 0
AnswersGo =
    (e : State) (v : Kept) (number : ℕ) (r : Reply) (x : SendingView) (owed : Owing Answer)
    → Shows e v → IsOrderly v → r.gives ≡ Some number → IsLiveSend e number x → OwesAnswer x.protocol
    → Becomes e.owed.owed owed.owed (λ _ _ before. drop 1 before)
    → Shows (owing owed (with_send number (with_asks Asks.with_answer x) e)) (push_first (Some r) v)

-- A send is over of which no answer is owed: what its receiver ends, and what a receipt ends.
abbrev pub SendsEnd : Type 0
SendsEnd =
    (e : State) (v : Kept) (number : ℕ) (s : LiveSend)
    → Shows e v → IsOrderly v → send_numbered v number ≡ Some s → length s.sent.req.parts ≤ 4 → GivesNone v number
    → Shows (without_send number false e) (end_sends (is_send number) v)

-- So is one that is lost.
abbrev pub SendsLost : Type 0
SendsLost =
    (e : State) (v : Kept) (number : ℕ) (s : LiveSend)
    → Shows e v → IsOrderly v → send_numbered v number ≡ Some s → length s.sent.req.parts ≤ 4 → GivesNone v number
    → Shows (without_send number true e) (lose_send (send_numbered v number) v)

-- A packet of the first send that has something to push goes out: it has come further, or it is over.
abbrev pub PacketsGo : Type 0
PacketsGo =
    (e : State) (v : Kept) (number : ℕ) (x y : SendingView) (s : LiveSend)
    → Shows e v → IsOrderly v → IsLiveSend e number x → send_numbered v number ≡ Some s → IsPushed v.own.limits x y
    → (EndsByPush v.own.limits y false → Shows (with_send number y e) (push_send (Some s) v))
    × (EndsByPush v.own.limits y true → length s.sent.req.parts ≤ 4 → GivesNone v number → Shows (without_send number false e) (push_send (Some s) v))

-- The first of what is owed goes out, which gives bytes of no send.
abbrev pub RepliesGo : Type 0
RepliesGo =
    (e : State) (v : Kept) (r : Reply) (owed : Owing Answer)
    → Shows e v → r.gives ≡ None → Becomes e.owed.owed owed.owed (λ _ _ before. drop 1 before)
    → Shows (owing owed e) (push_first (Some r) v)
