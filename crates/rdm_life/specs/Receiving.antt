-- Receives that are posted and taken back, and messages that enter.
use Rattle.std.specs.Prelude.{ℕ, zero, suc, ◌+◌, Bool, not, ◌&&◌, ◌||◌, ◌==◌, if◌then◌else◌, List, [], ◌∷◌, ◌++◌, map, filter, Option, Some, None, option_map}
use Rattle.rdm_lists.specs.Lists.{below, without_first}
use Rattle.rdm_num.specs.Lives.{same_life}
use Rattle.rdm_num.specs.declared.numbers.Life.{Life}
use Rattle.rdm_num.specs.declared.numbers.PortNo.{PortNo}
use Rattle.rdm_num.specs.declared.request.RecvReq.{RecvReq}
use Rattle.rdm_num.specs.declared.completion.Completion.TheVariants.{Recv}
use Rattle.rdm_num.specs.declared.completion.Outcome.TheVariants.{Cancelled}
use Rattle.rdm_match.specs.Matcher.{Matching, Event, Post, Arrive, after, run, is_recv}
use Rattle.rdm_model.specs.Matches.{Receive}
use Rattle.rdm_life.specs.Kept.{Kept, Peer, EarlyMessage, LiveReceive, is_receive, with_peer}
use Rattle.rdm_life.specs.Memory.{part_of, without_range, with_back}
use Rattle.rdm_life.specs.Landing.{meet}

-- the matcher's lists, with no pair
abbrev pub lists_in : Kept → Matching
lists_in v = record { posted = v.posted; arrived = v.arrived; pairs = [] }

-- the matcher's lists are changed so, and the pairs that were made meet
abbrev pub with_matching : Matching → Kept → Kept
with_matching m v = meet m.pairs (record v { posted = m.posted; arrived = m.arrived })

-- the current life of the port that a receive names, if it names one
unfoldable pub named_in : Kept → Option PortNo → Option Life
named_in v None = None
named_in v (Some port) = v.current port.0

-- the next receive
abbrev pub receive_in : Kept → RecvReq → Receive
receive_in v req =
    record {
      number = v.receive_count;
      req = req;
      posted = record { id = record { 0 = v.receive_count }; from = named_in v req.from; want = req.want };
    }

-- its range goes out with it
abbrev pub with_live : Receive → Kept → Kept
with_live r v =
    record v {
      home = without_range r.req v.home;
      receives = v.receives ++ record { receive = r; part = part_of v r.req; matched = None } ∷ [];
      receive_count = v.receive_count + 1;
    }

-- after a receive was accepted, which takes the first message that it accepts or waits last
unfoldable pub after_recv : RecvReq → Kept → Kept
after_recv req v = with_matching (after (lists_in v) (Post (receive_in v req).posted)) (with_live (receive_in v req) v)

-- after a receive was taken back: it completes without a message, and its range is as it was
unfoldable pub after_cancel : (recv : ℕ) → Kept → Kept
after_cancel recv v =
    let back : List LiveReceive = filter (is_receive recv) v.receives in
    record v {
      home = with_back back v.home;
      posted = without_first (is_recv recv) v.posted;
      receives = filter (λ (r : LiveReceive). not (is_receive recv r)) v.receives;
      completions = v.completions ++ map (λ (r : LiveReceive). Recv (record { 0 = r.receive.number }) Cancelled) back;
    }

-- ---- messages that enter

-- the tag of an early message
unfoldable pub tag_of : Option EarlyMessage → Option ℕ
tag_of None = None
tag_of (Some e) = e.head.tag

-- the message of that number as it comes to the matcher
abbrev pub arrival_in : Kept → Life → (number : ℕ) → Event
arrival_in v source number = Arrive (record { life = source; no = record { 0 = number }; tag = tag_of (v.early source number) })

-- how many numbers from one on were heard of, one after another; at most so many
unfoldable pub heard_run : (most : ℕ) → (ℕ → Bool) → (from : ℕ) → ℕ
heard_run zero heard from = 0
heard_run (suc most) heard from = if heard from then suc (heard_run most heard (from + 1)) else 0

-- how many messages of a life enter
abbrev pub entering_in : Kept → Life → ℕ
entering_in v source = heard_run v.early_count (v.peers source).heard (v.peers source).next

-- their numbers
abbrev pub numbers_in : Kept → Life → List ℕ
numbers_in v source = map (λ k. (v.peers source).next + k) (below (entering_in v source))

-- the messages of a life enter that were heard of, up to the first number that was not
unfoldable pub enter : Life → Kept → Kept
enter source v =
    with_matching (run (lists_in v) (map (arrival_in v source) (numbers_in v source))) (with_peer source (λ (p : Peer). record p { next = p.next + entering_in v source }) v)

-- a message was heard of, and is early
unfoldable pub hear : Life → (number : ℕ) → EarlyMessage → Kept → Kept
hear source number e v =
    record (with_peer source (λ (p : Peer). record p { heard = λ n. p.heard n || n == number }) v) {
      early = λ life n. if same_life life source && n == number then Some e else v.early life n;
      early_of = λ life. if same_life life source then v.early_of life + 1 else v.early_of life;
      early_count = v.early_count + 1;
    }

-- an early message is changed so
unfoldable pub with_early : Life → (number : ℕ) → (EarlyMessage → EarlyMessage) → Kept → Kept
with_early source number change v = record v { early = λ life n. if same_life life source && n == number then option_map change (v.early life n) else v.early life n }
