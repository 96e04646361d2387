-- Each step of the parts in which a message comes, enters or is taken shows the record's step.
use Rattle.std.specs.Prelude.{◌≡◌, ◌++◌, ℕ, Bool, Some, None, ◌≤◌, length, IsSome}
use Rattle.rdm_lists.specs.Lists.{without_first}
use Rattle.rdm_match.specs.declared.PostedRecv.{PostedRecv}
use Rattle.rdm_match.specs.declared.Arrived.{Arrived}
use Rattle.rdm_match.specs.Matcher.{Pair, accepts}
use Rattle.rdm_match.specs.Waiting.{taken_by, taker_of}
use Rattle.rdm_match.specs.Kept.{kept_after_post, kept_after_arrive}
use Rattle.std.specs.Option.{IsSomeAnd}
use Rattle.rdm_num.specs.Pieces.{Piece}
use Rattle.rdm_num.specs.declared.numbers.Life.{Life}
use Rattle.rdm_num.specs.declared.numbers.MsgNo.{MsgNo}
use Rattle.rdm_held.specs.Held.{IsEarly}
use Rattle.rdm_peers.specs.Accounts.{with_heard}
use Rattle.rdm_peers.specs.Table.{account_at, account_of, changed}
use Rattle.rdm_window.specs.Window.{IsLeastMissing}
use Rattle.rdm_window.specs.Early as Early
use Rattle.rdm_window.specs.Message.{Message, Awaits, filled, with_spent}
use Rattle.rdm_window.specs.Early.{message_at, without_message}
use Rattle.rdm_owed.specs.Owing.{Owing}
use Rattle.rdm_answers.specs.declared.answer.Answer.{Answer}
use Rattle.rdm_answers.specs.declared.answer.Dues.{Dues}
use Rattle.rdm_answers.specs.Answers.{replies_of_dues}
use Rattle.rdm_answers.specs.Laws.{AreDues}
use Rattle.rdm_answers.specs.Owing.{Becomes}
use Rattle.rdm_life.specs.Handling.{with_more}
use Rattle.rdm_life.specs.Receiving.{hear, enter, entering_in, with_early}
use Rattle.rdm_life.specs.Kept.{Kept, LiveReceive, Matched, is_receive, receive_numbered, change_where, EarlyMessage, Peer}
use Rattle.rdm_life.specs.Landing.{with_message}
use Rattle.rdm_receives.specs.View.{ReceiveView, IsReceive, met}
use Rattle.rdm_sound.specs.Premises.{IsOrderly}
use Rattle.rdm_sound.specs.Steps.{post_found, arrive_found, arrive_one, enter_one, next_of, without_early, with_replies}
use Rattle.rdm_state.specs.State.{State}
use Rattle.rdm_state.specs.Shows.{Shows}
use Rattle.rdm_state.specs.Steps.{with_receive, owing}
use Rattle.rdm_state.specs.Laws.{IsLive}

-- A receive that no waiting message fits waits last,
abbrev pub Posts : Type 0
Posts = (e : State) (v : Kept) (p : PostedRecv) → Shows e v → taken_by e.matcher.waiting p ≡ None → Shows (record e { matcher = kept_after_post e.matcher p }) (post_found p None v)

-- and one that takes a message leaves the others.
abbrev pub Takes : Type 0
Takes =
    (e : State) (v : Kept) (p : PostedRecv) (a : Arrived) → Shows e v → taken_by e.matcher.waiting p ≡ Some a
    → Shows (record e { matcher = kept_after_post e.matcher p }) (record v { arrived = without_first (accepts p) v.arrived })

-- A message that no waiting receive accepts waits last,
abbrev pub Arrives : Type 0
Arrives = (e : State) (v : Kept) (a : Arrived) → Shows e v → taker_of e.matcher.waiting a ≡ None → Shows (record e { matcher = kept_after_arrive e.matcher a }) (arrive_found a None v)

-- and one that is taken leaves the other receives.
abbrev pub IsTaken : Type 0
IsTaken =
    (e : State) (v : Kept) (a : Arrived) (p : PostedRecv) → Shows e v → taker_of e.matcher.waiting a ≡ Some p
    → Shows (record e { matcher = kept_after_arrive e.matcher a }) (record v { posted = without_first (λ q. accepts q a) v.posted })

-- the receive of a number takes that early message, which is early no more
abbrev pub taken : (number : ℕ) → Pair → Message → State → State
taken number p m e =
    record (with_receive number (λ q. met q p.message.life p.message.no m.head m.gaps m.bytes m.first_part) e) { early = without_message e.early p.message.life p.message.no }

-- A receive takes the early message that it was paired with, and is a receive still.
abbrev pub Meets : Type 0
Meets =
    (e : State) (v : Kept) (p : Pair) (r : ReceiveView) (m : Message)
    → Shows e v → IsOrderly v → IsLive e p.recv.id.0 r → r.message ≡ None
    → message_at e.early p.message.life p.message.no ≡ Some m
    → IsReceive (met r p.message.life p.message.no m.head m.gaps m.bytes m.first_part)
    → Shows (taken p.recv.id.0 p m e)
    (record (without_early p.message.life p.message.no.0 v) {
      receives = change_where (is_receive p.recv.id.0) (with_message p (v.early p.message.life p.message.no.0)) v.receives;
    })

-- What a receive makes owed is owed.
abbrev pub Owes : Type 0
Owes =
    (e : State) (v : Kept) (is_new : Bool) (number : ℕ) (l : LiveReceive) (m : Matched) (dues : Dues) (owed : Owing Answer)
    → Shows e v → receive_numbered v number ≡ Some l → l.matched ≡ Some m
    → AreDues v.own is_new (record { 0 = number }) m dues
    → Becomes e.owed.owed owed.owed (λ own bytes_of before. before ++ replies_of_dues own bytes_of m.source dues)
    → Shows (owing owed e) (with_replies is_new l v)

-- A message is heard of: it is held, and the number of the next one to enter rises by as many as then enter, if no more enter than are
-- early.
abbrev pub Hears : Type 0
Hears =
    (e : State) (v : Kept) (source : Life) (number : MsgNo) (m : Message) (opened : EarlyMessage) (risen : ℕ)
    → Shows e v → message_at e.early source number ≡ None → IsEarly m opened → IsSome (account_at e.peers source)
    → IsLeastMissing (account_of (changed e.peers source (with_heard number.0 risen)) source).hearing
    → risen ≤ (hear source number.0 opened v).early_count
    → (risen ≡ entering_in (hear source number.0 opened v) source)
    × Shows (record e { early = Early.with_message e.early source number m; peers = changed e.peers source (with_heard number.0 risen) })
    (record (hear source number.0 opened v) { peers = (enter source (hear source number.0 opened v)).peers })

-- More of an early message comes, in room that was made, where none of it came.
abbrev pub Adds : Type 0
Adds =
    (e : State) (v : Kept) (source : Life) (number : MsgNo) (p : Piece)
    → Shows e v → IsSomeAnd (message_at e.early source number) (Awaits p.offset (length p.bytes))
    → Shows (record e { early = Early.changed e.early source number (λ m. with_spent (filled m p.offset p.bytes)) }) (with_early source number.0 (with_more (Some p)) v)

-- A message that enters comes to the matcher as if nothing else of its life changed: so the number of the next one may rise before, by all
-- that enter.
abbrev pub EntersAside : Type 0
EntersAside =
    (source : Life) (v : Kept) (peers : Life → Peer)
    → record (enter_one source v) { peers = peers } ≡ arrive_one (next_of v source) (record v { peers = peers })
