-- What the answers to instructions depend on. A scene tells it; so does whatever keeps it.
use Rattle.std.specs.Prelude.{ℕ, Bool, ◌&&◌, ◌==◌, List, [], length, get_or, Option, find, is_some}
use Rattle.std.specs.List.{list_any}
use Rattle.rdm_num.specs.Pieces.{overlaps}
use Rattle.rdm_num.specs.declared.numbers.Life.{Life}
use Rattle.rdm_num.specs.declared.parts.Span.{Span}
use Rattle.rdm_match.specs.Matcher.{is_recv}
use Rattle.rdm_model.specs.Beginnings.{Own}
use Rattle.rdm_model.specs.Currents.{current, is_superseded}
use Rattle.rdm_model.specs.Notes.{knows_open, was_told}
use Rattle.rdm_model.specs.Matches.{Receive, receives, matching}
use Rattle.rdm_model.specs.Receives.{live_receives}
use Rattle.rdm_model.specs.Regions.{regions}
use Rattle.rdm_model.specs.Sends as Sends
use Rattle.rdm_model.specs.Sends.{sends, sends_to, known_word}
use Rattle.rdm_model.specs.Dues.{live_sends}
use Rattle.rdm_model.specs.Completions.{tx_count, rx_count, cq_count, poll_count}
use Rattle.rdm_model.specs.Scenes.{Scene}

-- of a life
pub record Facts : Type 0 where
  pub own : Own
  -- how many regions it registered, and the length of each
  pub region_count : ℕ
  pub region_size : (region : ℕ) → ℕ
  -- whether a range shares a place with that of a live receive, or with one of a live send
  pub meets_receive : (region at len : ℕ) → Bool
  pub meets_send : (region at len : ℕ) → Bool
  -- the current life of a port; what is known of a life's features, and whether it was superseded
  pub current : (port : ℕ) → Option Life
  pub known : Life → Option ℕ
  pub is_superseded : Life → Bool
  -- how many sends and receives were accepted, and how many messages went to a life
  pub sends : ℕ
  pub receives : ℕ
  pub messages_to : Life → ℕ
  -- how many completions were polled; live sends, live receives, and operations whose completion was not polled
  pub polls : ℕ
  pub tx : ℕ
  pub rx : ℕ
  pub cq : ℕ
  -- whether the receive of that number waits for its message
  pub is_posted : (recv : ℕ) → Bool

-- of a port: whether it knows that a life was opened, and whether a port told it a word
pub record PortFacts : Type 0 where
  pub knows_open : Life → Bool
  pub was_told : (from what : ℕ) → Bool

-- the regions of the open life
unfoldable pub regions_of : Scene → List (List ℕ)
regions_of s = regions s.own.limits.first s.ms s.log

-- the range shares a place with that of a live receive
unfoldable pub meets_receive : Scene → (region at len : ℕ) → Bool
meets_receive s region at len =
    list_any (λ (r : Receive). r.req.region.0 == region && overlaps at len r.req.at r.req.len) (live_receives s.own.limits.first s.ms.head s.log)

-- the range shares a place with one of a live send
unfoldable pub meets_send : Scene → (region at len : ℕ) → Bool
meets_send s region at len =
    list_any (λ (t : Sends.Sent). list_any (λ (p : Span). p.region.0 == region && overlaps at len p.at p.len) t.req.parts)
    (live_sends s.own s.ms s.log)

-- the receive is posted, and not matched yet
unfoldable pub is_unmatched : Scene → ℕ → Bool
is_unmatched s recv = is_some (find (is_recv recv) (matching s.own.limits.first s.ms.head s.log).posted)

-- the facts of the open life
abbrev pub facts_of : Scene → Facts
facts_of s =
    record {
      own = s.own;
      region_count = length (regions_of s);
      region_size = λ region. length (get_or (regions_of s) region []);
      meets_receive = λ region at len. meets_receive s region at len;
      meets_send = λ region at len. meets_send s region at len;
      current = current s.log;
      known = known_word s.log;
      is_superseded = is_superseded s.log;
      sends = length (sends s.own s.ms s.log);
      receives = length (receives s.log);
      messages_to = λ life. length (sends_to (sends s.own s.ms s.log) life);
      polls = poll_count s.log;
      tx = tx_count s.own s.ms s.log;
      rx = rx_count s.own s.ms.head s.log;
      cq = cq_count s.own s.ms s.log;
      is_posted = λ recv. is_unmatched s recv;
    }

-- the facts of its port
abbrev pub port_facts : Scene → PortFacts
port_facts s = record { knows_open = knows_open s.own.life.port.0 s.port_log; was_told = was_told s.port_log }
