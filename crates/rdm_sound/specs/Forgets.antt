-- A life is forgotten, one receive and one send at a time.
use Rattle.std.specs.Prelude.{◌≡◌, ℕ, ◌-◌, true, not, ◌||◌, if◌then◌else◌, List, [], ◌∷◌, ◌++◌, filter, find, Option, Some, None}
use Rattle.rdm_num.specs.Lives.{same_life, is_life}
use Rattle.rdm_num.specs.declared.numbers.Life.{Life}
use Rattle.rdm_num.specs.declared.completion.Completion.TheVariants.{Send, Recv}
use Rattle.rdm_num.specs.declared.completion.Outcome.TheVariants.{Gone}
use Rattle.rdm_match.specs.declared.PostedRecv.{PostedRecv}
use Rattle.rdm_match.specs.declared.Arrived.{Arrived}
use Rattle.rdm_model.specs.Replies.{Reply}
use Rattle.rdm_life.specs.Kept.{Kept, LiveSend, LiveReceive, is_send, is_receive, send_numbered, receive_numbered, stranger}
use Rattle.rdm_life.specs.Memory.{with_back}
use Rattle.rdm_life.specs.Forgetting.{concerns, zeroed, forget}
use Rattle.rdm_sound.specs.Premises.{IsOrderly, receive_numbers, send_numbers}

-- a live receive is gone: its range is at home again and holds zeros, and it completes
unfoldable pub lose_receive : Option LiveReceive → Kept → Kept
lose_receive None v = v
lose_receive (Some r) v =
    record v {
      home = with_back (zeroed r ∷ []) v.home;
      receives = filter (λ (q : LiveReceive). not (is_receive r.receive.number q)) v.receives;
      completions = v.completions ++ Recv (record { 0 = r.receive.number }) Gone ∷ [];
    }

-- the receives of these numbers are gone, one after another
unfoldable pub lose_receives : List ℕ → Kept → Kept
lose_receives [] v = v
lose_receives (number ∷ rest) v = lose_receives rest (lose_receive (receive_numbered v number) v)

-- a live send is gone, and completes
unfoldable pub lose_send : Option LiveSend → Kept → Kept
lose_send None v = v
lose_send (Some s) v =
    record v {
      sends = filter (λ (q : LiveSend). not (is_send s.sent.number q)) v.sends;
      completions = v.completions ++ Send (record { 0 = s.sent.number }) true ∷ [];
    }

-- the sends of these numbers are gone, one after another
unfoldable pub lose_sends : List ℕ → Kept → Kept
lose_sends [] v = v
lose_sends (number ∷ rest) v = lose_sends rest (lose_send (send_numbered v number) v)

-- no message of the life waits, no receive waits for one, nothing is owed to it, and nothing is known of it but that it was superseded
unfoldable pub lose_life : Life → Kept → Kept
lose_life life v =
    record v {
      superseded = λ other. v.superseded other || same_life other life;
      peers = λ other. if same_life other life then stranger v.own.limits.first else v.peers other;
      posted = filter (λ (r : PostedRecv). not (is_life r.from life)) v.posted;
      arrived = filter (λ (a : Arrived). not (same_life a.life life)) v.arrived;
      early = λ other number. if same_life other life then None else v.early other number;
      early_of = λ other. if same_life other life then 0 else v.early_of other;
      early_count = v.early_count - v.early_of life;
      owed = filter (λ (r : Reply). not (same_life r.to life)) v.owed;
    }

-- the numbers of the receives that concern a life
abbrev pub lost_receives : Life → Kept → List ℕ
lost_receives life v = receive_numbers (filter (concerns (life ∷ [])) v.receives)

-- and of the sends to it
abbrev pub lost_sends : Life → Kept → List ℕ
lost_sends life v = send_numbers (filter (λ (s : LiveSend). same_life s.sent.to life) v.sends)

-- A life is forgotten as the receives that concern it go, then the sends to it, and then what else is kept of it.
abbrev pub ForgetsEach : Type 0
ForgetsEach = (life : Life) (v : Kept) → IsOrderly v → forget (life ∷ []) v ≡ lose_life life (lose_sends (lost_sends life v) (lose_receives (lost_receives life v) v))

-- The first receive that concerns a life is lost before the others,
abbrev pub ForgetsReceive : Type 0
ForgetsReceive =
    (life : Life) (r : LiveReceive) (v : Kept) → IsOrderly v → find (concerns (life ∷ [])) v.receives ≡ Some r
    → forget (life ∷ []) v ≡ forget (life ∷ []) (lose_receive (Some r) v)

-- then the first send to it before the others,
abbrev pub ForgetsSend : Type 0
ForgetsSend =
    (life : Life) (s : LiveSend) (v : Kept) → IsOrderly v → find (concerns (life ∷ [])) v.receives ≡ None
    → find (λ (x : LiveSend). same_life x.sent.to life) v.sends ≡ Some s
    → forget (life ∷ []) v ≡ forget (life ∷ []) (lose_send (Some s) v)

-- and what else is kept of it where none is left.
abbrev pub ForgetsRest : Type 0
ForgetsRest =
    (life : Life) (v : Kept) → IsOrderly v → find (concerns (life ∷ [])) v.receives ≡ None → find (λ (x : LiveSend). same_life x.sent.to life) v.sends ≡ None
    → forget (life ∷ []) v ≡ lose_life life v

-- Where no life is forgotten, all stays.
abbrev pub ForgetsNone : Type 0
ForgetsNone = (v : Kept) → forget [] v ≡ v

-- It stays orderly by each of these steps.
pub record LossesStayOrderly (v : Kept) : Type 0 where
  pub receives : (r : Option LiveReceive) → IsOrderly (lose_receive r v)
  pub sends : (s : Option LiveSend) → IsOrderly (lose_send s v)
  pub lives : (life : Life) → IsOrderly (lose_life life v)

-- By each of them, where it was orderly.
abbrev pub StaysOrderlyByLosses : Type 0
StaysOrderlyByLosses = (v : Kept) → IsOrderly v → LossesStayOrderly v
