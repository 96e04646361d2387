-- What is kept once lives are forgotten.
use Rattle.std.specs.Prelude.{◌-◌, Bool, true, false, not, ◌||◌, if◌then◌else◌, List, ◌++◌, map, filter, sum_by, Option, Some, None}
use Rattle.std.specs.List.{list_any}
use Rattle.rdm_num.specs.Lives.{same_life}
use Rattle.rdm_num.specs.declared.numbers.Life.{Life}
use Rattle.rdm_num.specs.declared.completion.Completion.{Completion}
use Rattle.rdm_num.specs.declared.completion.Completion.TheVariants.{Send, Recv}
use Rattle.rdm_num.specs.declared.completion.Outcome.TheVariants.{Gone}
use Rattle.rdm_match.specs.declared.PostedRecv.{PostedRecv}
use Rattle.rdm_match.specs.declared.Arrived.{Arrived}
use Rattle.rdm_model.specs.Replies.{without_lives}
use Rattle.rdm_life.specs.Kept.{Kept, LiveSend, LiveReceive, Matched, stranger}
use Rattle.rdm_life.specs.Memory.{with_back}

-- the life is one of these
unfoldable pub is_among : List Life → Life → Bool
is_among lives life = list_any (same_life life) lives

-- the life is there, and is one of these
unfoldable pub names_one : List Life → Option Life → Bool
names_one lives None = false
names_one lives (Some life) = is_among lives life

-- the message is of one of these lives
unfoldable pub is_of_one : List Life → Option Matched → Bool
is_of_one lives None = false
is_of_one lives (Some m) = is_among lives m.source

-- the receive names one of these lives, or was matched to a message of one
unfoldable pub concerns : List Life → LiveReceive → Bool
concerns lives r = names_one lives r.receive.posted.from || is_of_one lives r.matched

-- its range holds zeros
abbrev pub zeroed : LiveReceive → LiveReceive
zeroed r = record r { part = λ k. 0 }

-- the completions of receives and sends that are gone
unfoldable pub gone_completions : List LiveReceive → List LiveSend → List Completion
gone_completions rs ss =
    map (λ (r : LiveReceive). Recv (record { 0 = r.receive.number }) Gone) rs ++ map (λ (s : LiveSend). Send (record { 0 = s.sent.number }) true) ss

-- messages of these lives, receives that concern them and sends to them are gone, and nothing is owed to them
unfoldable pub forget : List Life → Kept → Kept
forget lives v =
    let lost : List LiveReceive = filter (concerns lives) v.receives in
    record v {
      home = with_back (map zeroed lost) v.home;
      superseded = λ life. v.superseded life || is_among lives life;
      peers = λ life. if is_among lives life then stranger v.own.limits.first else v.peers life;
      posted = filter (λ (r : PostedRecv). not (names_one lives r.from)) v.posted;
      arrived = filter (λ (a : Arrived). not (is_among lives a.life)) v.arrived;
      early = λ life number. if is_among lives life then None else v.early life number;
      early_of = λ life. if is_among lives life then 0 else v.early_of life;
      early_count = v.early_count - sum_by v.early_of lives;
      sends = filter (λ (s : LiveSend). not (is_among lives s.sent.to)) v.sends;
      receives = filter (λ (r : LiveReceive). not (concerns lives r)) v.receives;
      owed = without_lives lives v.owed;
      completions = v.completions ++ gone_completions lost (filter (λ (s : LiveSend). is_among lives s.sent.to) v.sends);
    }
