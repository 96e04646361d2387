-- What each field is of the deeds of the life, by the definitions.
use Rattle.std.specs.Prelude.{◌≡◌, ℕ, ◌+◌, max, min, Bool, false, not, ◌&&◌, nat_lt, if◌then◌else◌, List, [], length, map, drop, filter, find, get_or, slice_get, Option, Some, None, option_map, unwrap_or, is_some, true}
use Rattle.std.specs.List.{list_any}
use Rattle.rdm_num.specs.Pieces.{byte_at, piece_bytes}
use Rattle.rdm_num.specs.Lives.{same_life}
use Rattle.rdm_num.specs.declared.numbers.Life.{Life}
use Rattle.rdm_pkt.specs.declared.Packet.{Packet}
use Rattle.rdm_pkt.specs.Openings.{openings}
use Rattle.rdm_match.specs.Matcher.{Matching, Pair, is_recv}
use Rattle.rdm_wire.specs.declared.ReadAsk.{ReadAsk}
use Rattle.rdm_model.specs.Beginnings.{Own, Messages}
use Rattle.rdm_model.specs.ClassFacts.{is_number}
use Rattle.rdm_model.specs.Completions.{Name, completions, poll_count, heard_names, is_matched, early_count}
use Rattle.rdm_model.specs.Currents.{current, is_superseded, is_forgotten}
use Rattle.rdm_model.specs.Deeds.{Deed}
use Rattle.rdm_model.specs.Dues.{Progress, pieces_in, progress, live_sends}
use Rattle.rdm_model.specs.Grants.{Grant, first_part, granted_bytes, grants, grant_bytes}
use Rattle.rdm_model.specs.Heard.{is_heard, is_next_message}
use Rattle.rdm_model.specs.Local.{heard_by}
use Rattle.rdm_model.specs.Matches.{Receive, receives, matching, pairs}
use Rattle.rdm_model.specs.Parts.{carried_pieces}
use Rattle.rdm_model.specs.Reads.{asks_of}
use Rattle.rdm_model.specs.Receives.{live_receives}
use Rattle.rdm_model.specs.Regions.{regions}
use Rattle.rdm_model.specs.Replies.{Reply, meets}
use Rattle.rdm_model.specs.Sends.{Sent, known_word, sends, sends_to}
use Rattle.rdm_life.specs.Kept.{Kept, EarlyMessage, LiveSend, LiveReceive, Matched}
use Rattle.rdm_life.specs.Memory.{is_place_of}
use Rattle.rdm_life.specs.Sending.{opening_bytes, is_asked}

-- the messages to the life, by what it took
abbrev pub told : Own → List Deed → Messages
told own log = heard_by own.limits.first log

-- the plain matcher's lists
abbrev pub own_matching : Own → List Deed → Matching
own_matching own log = matching own.limits.first (told own log).head log

-- its pairs
abbrev pub own_pairs : Own → List Deed → List Pair
own_pairs own log = pairs own.limits.first (told own log).head log

-- the regions
abbrev pub own_regions : Own → List Deed → List (List ℕ)
own_regions own log = regions own.limits.first (told own log) log

-- the receives that have not ended
abbrev pub own_live_receives : Own → List Deed → List Receive
own_live_receives own log = live_receives own.limits.first (told own log).head log

-- the accepted sends
abbrev pub own_sends : Own → List Deed → List Sent
own_sends own log = sends own (told own log) log

-- what was pushed, and what is owed
abbrev pub own_progress : Own → List Deed → Progress
own_progress own log = progress own (told own log) log

-- the byte at a place of a message, if it came
abbrev pub byte_came : Own → List Deed → Life → (number place : ℕ) → Option ℕ
byte_came own log source number place = byte_at (carried_pieces own.limits.first (told own log).head log source number) place

-- the place is in the range of a live receive
unfoldable pub is_out : Own → List Deed → (region place : ℕ) → Bool
is_out own log region place = list_any (λ (r : Receive). is_place_of r.req region place) (own_live_receives own log)

-- the byte of a region at a place, if the region has the place
abbrev pub region_byte : Own → List Deed → (region place : ℕ) → Option ℕ
region_byte own log region place = slice_get (get_or (own_regions own log) region []) place

-- a message that was heard of, and neither matched nor forgotten
abbrev pub waits_early : Own → List Deed → Name → Bool
waits_early own log m = not (is_matched (own_pairs own log) m) && not (is_forgotten log m.life)

-- the early message of that number
unfoldable pub early_message : Own → List Deed → Life → (number : ℕ) → Option EarlyMessage
early_message own log source number =
    if is_heard log source number && not (is_matched (own_pairs own log) (record { life = source; number = number }))
    then Some (record {
      head = (told own log).head source number;
      came = λ place. byte_came own log source number place;
      first_part = first_part log source number;
    })
    else None

-- a send as far as it has come
unfoldable pub kept_send : Own → List Deed → Sent → LiveSend
kept_send own log s =
    let packets : List Packet = (own_progress own log).packets s.number in
    record {
      sent = s;
      opened = min (length packets) (length (openings own.limits s.message s.kind));
      done = max (opening_bytes own s) (piece_bytes (pieces_in packets));
      allowed = opening_bytes own s + grant_bytes (grants log s.to s.number);
      granted_by = option_map (λ (g : Grant). g.recv) (slice_get (grants log s.to s.number) 0);
      was_asked = λ place. list_any (λ (a : ReadAsk). is_asked a place) (asks_of log s.to s.number);
      owes = length (filter (λ (r : Reply). same_life r.to s.to && is_number s.number r.gives) (own_progress own log).replies);
    }

-- the pair of a receive
abbrev pub pair_of : Own → List Deed → Receive → Option Pair
pair_of own log r = find (λ (p : Pair). is_recv r.number p.recv) (own_pairs own log)

-- the message of a pair as far as it came
abbrev pub matched_of : Own → List Deed → Pair → Matched
matched_of own log p =
    record {
      source = p.message.life;
      number = p.message.no.0;
      head = (told own log).head p.message.life p.message.no.0;
      came = λ place. is_some (byte_came own log p.message.life p.message.no.0 place);
      granted = first_part log p.message.life p.message.no.0 + granted_bytes own.limits (told own log).head log p;
    }

-- the byte at a place of the message of a pair, if there is one and it came
unfoldable pub byte_of_pair : Own → List Deed → Option Pair → (place : ℕ) → Option ℕ
byte_of_pair own log None place = None
byte_of_pair own log (Some p) place = byte_came own log p.message.life p.message.no.0 place

-- a receive with its range: the bytes of its message where they came, and those of the region elsewhere
unfoldable pub kept_receive : Own → List Deed → Receive → LiveReceive
kept_receive own log r =
    record {
      receive = r;
      part = λ k. if nat_lt k r.req.len
          then unwrap_or (byte_of_pair own log (pair_of own log r) k) (unwrap_or (region_byte own log r.req.region.0 (r.req.at + k)) 0)
          else 0;
      matched = option_map (matched_of own log) (pair_of own log r);
    }

-- ---- what each field is; of a life that was forgotten nothing is asked

-- counts, regions and lives
pub record KeepsLives (own : Own) (log : List Deed) (v : Kept) : Type 0 where
  pub own_is : v.own ≡ own
  pub region_count_is : v.region_count ≡ length (own_regions own log)
  pub region_size_is : (region : ℕ) → v.region_size region ≡ length (get_or (own_regions own log) region [])
  pub current_is : (port : ℕ) → v.current port ≡ current log port
  pub superseded_is : (life : Life) → v.superseded life ≡ is_superseded log life
  pub met_is : (life : Life) → is_forgotten log life ≡ false → (v.peers life).met ≡ list_any (meets own life) log
  pub known_is : (life : Life) → is_forgotten log life ≡ false → (v.peers life).known ≡ known_word log life
  pub messages_are : (life : Life) → is_forgotten log life ≡ false → (v.peers life).messages ≡ length (sends_to (own_sends own log) life)
  pub send_count_is : v.send_count ≡ length (own_sends own log)
  pub receive_count_is : v.receive_count ≡ length (receives log)
  pub poll_count_is : v.poll_count ≡ poll_count log

-- messages that were heard of, and the matcher's lists
pub record KeepsMatching (own : Own) (log : List Deed) (v : Kept) : Type 0 where
  pub heard_is : (life : Life) → is_forgotten log life ≡ false → (number : ℕ) → (v.peers life).heard number ≡ is_heard log life number
  pub next_is : (life : Life) → is_forgotten log life ≡ false → is_next_message own.limits.first log life (v.peers life).next ≡ true
  pub posted_is : v.posted ≡ (own_matching own log).posted
  pub arrived_is : v.arrived ≡ (own_matching own log).arrived
  pub early_is : (life : Life) → is_forgotten log life ≡ false → (number : ℕ) → v.early life number ≡ early_message own log life number
  pub early_of_is : (life : Life) → is_forgotten log life ≡ false
      → v.early_of life ≡ length (filter (λ (m : Name). waits_early own log m && same_life m.life life) (heard_names log))
  pub early_count_is : v.early_count ≡ early_count own (told own log).head log

-- live receives, and the bytes that are not out with them
pub record KeepsReceives (own : Own) (log : List Deed) (v : Kept) : Type 0 where
  pub home_is : (region place : ℕ) → v.home region place ≡ (if is_out own log region place then None else region_byte own log region place)
  pub receives_are : v.receives ≡ map (kept_receive own log) (own_live_receives own log)

-- live sends
pub record KeepsSends (own : Own) (log : List Deed) (v : Kept) : Type 0 where
  pub sends_are : v.sends ≡ map (kept_send own log) (live_sends own (told own log) log)

-- what goes out and what is polled
pub record KeepsOwed (own : Own) (log : List Deed) (v : Kept) : Type 0 where
  pub owed_is : v.owed ≡ (own_progress own log).replies
  pub completions_are : v.completions ≡ drop (poll_count log) (completions own (told own log) log)

-- all that is kept is what the definitions say
pub record Keeps (own : Own) (log : List Deed) (v : Kept) : Type 0 where
  pub lives : KeepsLives own log v
  pub matching : KeepsMatching own log v
  pub receives : KeepsReceives own log v
  pub sends : KeepsSends own log v
  pub owed : KeepsOwed own log v
