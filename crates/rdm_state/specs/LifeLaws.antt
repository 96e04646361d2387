-- Each step of the parts in which an operation is accepted or a life is met shows the record's step.
use Rattle.std.specs.Prelude.{◌≡◌, ◌++◌, ℕ, true, false, List, find, Option, Some, None, IsSome, is_some, [], ◌∷◌}
use Rattle.rdm_num.specs.declared.numbers.Life.{Life}
use Rattle.rdm_num.specs.declared.numbers.Connid.{Connid}
use Rattle.rdm_num.specs.declared.numbers.PortNo.{PortNo}
use Rattle.rdm_num.specs.declared.request.RecvReq.{RecvReq}
use Rattle.rdm_num.specs.declared.request.SendReq.{SendReq}
use Rattle.rdm_mr.specs.Part.{Piece}
use Rattle.rdm_pkt.specs.declared.Packet.TheVariants.{Handshake}
use Rattle.rdm_model.specs.Deeds.{Spelled}
use Rattle.rdm_peer.specs.Account.{has_number}
use Rattle.rdm_peers.specs.Accounts.{stranger, greeted, told, numbered}
use Rattle.rdm_peers.specs.Table.{account_at, account_of, with_account, changed}
use Rattle.rdm_owed.specs.Owing.{Owing}
use Rattle.rdm_answers.specs.declared.answer.Answer.{Answer}
use Rattle.rdm_answers.specs.declared.answer.Answer.TheVariants as A
use Rattle.rdm_answers.specs.Answers.{replies_for}
use Rattle.rdm_answers.specs.Owing.{Becomes}
use Rattle.rdm_regions.specs.Registry.{lease_refusal, IsLeased}
use Rattle.rdm_regions.specs.Survival.{IsSound}
use Rattle.rdm_life.specs.Kept.{Kept, LiveSend}
use Rattle.rdm_life.specs.Forgetting.{concerns, forget}
use Rattle.rdm_life.specs.Handling.{after_item}
use Rattle.rdm_life.specs.Lives.{greet, with_current}
use Rattle.rdm_av.specs.Lives.{is_superseded, with_spent, after_insert, reserved_answer}
use Rattle.rdm_model.specs.Currents.{other_life}
use Rattle.rdm_model.specs.Replies.{without_lives}
use Rattle.rdm_num.specs.Lives.{same_life}
use Rattle.rdm_life.specs.Receiving.{receive_in, with_live, named_in}
use Rattle.rdm_life.specs.Sending.{after_send}
use Rattle.rdm_receives.specs.View.{IsReceive, posted}
use Rattle.rdm_sends.specs.Beginning.{new_sending}
use Rattle.rdm_sent.specs.Laws.{sender, place_in}
use Rattle.rdm_shown.specs.Grounds.{range_of}
use Rattle.rdm_sound.specs.Premises.{IsOrderly}
use Rattle.rdm_state.specs.State.{State}
use Rattle.rdm_state.specs.Shows.{Shows}
use Rattle.rdm_state.specs.Steps.{accepted, begun, knowing, owing, inserted}
use Rattle.rdm_state.specs.SendLaws.{GivesNone}

-- A receive is accepted whose range may go out, with the part that is its range.
abbrev pub Accepts : Type 0
Accepts =
    (e : State) (v : Kept) (req : RecvReq) (piece : Piece)
    → Shows e v → IsSound e.regions → IsOrderly v
    → lease_refusal e.regions (range_of req) ≡ None → IsLeased e.regions (range_of req) piece
    → IsReceive (posted (record { 0 = v.receive_count }) (named_in v req.from) req piece)
    → Shows (accepted (posted (record { 0 = v.receive_count }) (named_in v req.from) req piece) (range_of req) e) (with_live (receive_in v req) v)

-- A send is accepted that goes to the current life of its port, which has a number left.
abbrev pub Begins : Type 0
Begins =
    (e : State) (v : Kept) (req : SendReq) (to : Life)
    → Shows e v → IsOrderly v → v.current req.to.0 ≡ Some to
    → IsSome (account_at e.peers to) → has_number (account_of e.peers to).peer ≡ true
    → GivesNone v v.send_count
    → Shows (begun (new_sending (sender v.own) (place_in v to) req) (changed e.peers to numbered) e) (after_send req v)

-- The account of a life is opened of which nothing is kept.
abbrev pub Knows : Type 0
Knows = (e : State) (v : Kept) (life : Life) → Shows e v → is_some (account_at e.peers life) ≡ false → Shows (knowing (with_account e.peers life (stranger e.peers.first)) e) v

-- A life is met and greeted that was not met before.
abbrev pub Greets : Type 0
Greets =
    (e : State) (v : Kept) (life : Life) (raw : Option PortNo) (owed : Owing Answer)
    → Shows e v → IsSome (account_at e.peers life) → (v.peers life).met ≡ false
    → Becomes e.owed.owed owed.owed (λ own bytes_of before. before ++ replies_for own bytes_of life (A.Greeting raw))
    → Shows (owing owed (knowing (changed e.peers life greeted) e)) (greet true life raw v)

-- One that was met is left as it is, and so is one that is not to be met.
abbrev pub Passes : Type 0
Passes =
    (e : State) (v : Kept) (life : Life) (raw : Option PortNo) → Shows e v
    → ((v.peers life).met ≡ true → Shows e (greet true life raw v)) × Shows e (greet false life raw v)

-- A life tells of its features.
abbrev pub Learns : Type 0
Learns =
    (e : State) (v : Kept) (life : Life) (words : List ℕ) (connid : Connid) (raw : Option PortNo)
    → Shows e v → IsSome (account_at e.peers life)
    → Shows (knowing (changed e.peers life (told words)) e) (after_item life (Spelled (Handshake words connid raw)) v)

-- The first life of a port is inserted, or the current one once more.
abbrev pub Inserts : Type 0
Inserts =
    (e : State) (v : Kept) (life : Life)
    → Shows e v → is_superseded e.lives life ≡ false → other_life life (v.current life.port.0) ≡ []
    → Shows (record e { lives = with_spent (after_insert e.lives life (reserved_answer e.lives life)) }) (with_current life v)

-- A life takes the place of another one, which no live operation concerns any more.
abbrev pub Supersedes : Type 0
Supersedes =
    (e : State) (v : Kept) (life old : Life) (owed : Owing Answer)
    → Shows e v → IsOrderly v → is_superseded e.lives life ≡ false → other_life life (v.current life.port.0) ≡ old ∷ []
    → find (concerns (old ∷ [])) v.receives ≡ None → find (λ (s : LiveSend). same_life s.sent.to old) v.sends ≡ None
    → Becomes e.owed.owed owed.owed (λ _ _ before. without_lives (old ∷ []) before)
    → Shows (inserted life old (with_spent (after_insert e.lives life (reserved_answer e.lives life))) owed e) (with_current life (forget (old ∷ []) v))
