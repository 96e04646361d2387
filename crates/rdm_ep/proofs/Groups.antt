-- What an endpoint keeps, in groups: each one is of a few of its lists.
use Rattle.std.proofs.Common.{◌≡◌, ◌≤◌, ◌+◌, ℕ, Bool, false, List, map, length, drop, Option}
use Rattle.std.specs.Prelude.{◌==◌, ◌&&◌, ◌||◌, nat_le, nat_lt, find}
use Rattle.std.specs.List.{list_any}
use Rattle.rdm_lists.specs.Lists.{Member}
use Rattle.rdm_num.specs.declared.numbers.Life.{Life}
use Rattle.rdm_num.specs.declared.completion.Completion.{Completion}
use Rattle.rdm_model.specs.Deeds.{Deed}
use Rattle.rdm_model.specs.Beginnings.{Own}
use Rattle.rdm_model.specs.Currents.{current}
use Rattle.rdm_model.specs.Heard.{is_heard}
use Rattle.rdm_model.specs.Matches.{receives}
use Rattle.rdm_model.specs.Sends.{sends_to, known_word}
use Rattle.rdm_model.specs.Completions.{poll_count, heard_names}
use Rattle.rdm_model.specs.Local.{heads_by, bytes_by, heard_by}
use Rattle.rdm_ep.specs.declared.state.Peer.{Peer}
use Rattle.rdm_ep.specs.declared.state.Posted.{Posted}
use Rattle.rdm_ep.specs.declared.state.Inbound.{Inbound}
use Rattle.rdm_ep.specs.declared.state.Outbound.{Outbound}
use Rattle.rdm_ep.specs.View.{EndpointView, current_in}
use Rattle.rdm_ep.specs.Peers.{peer_in}
use Rattle.rdm_ep.specs.Receiving.{arrived_message}
use Rattle.rdm_ep.specs.Entering.{is_message, is_held_in, is_heard_in}
use Rattle.rdm_ep.specs.Handling.{inbound_head}
use Rattle.rdm_ep.specs.Eager.{IsEager}
use Rattle.rdm_ep.specs.Keeps.{posted_of, outbound_of, handshake_to, is_from, Keeps}
use Rattle.rdm_ep.proofs.Pairs.{own_matching}
use Rattle.rdm_ep.proofs.Live.{own_live, waiting_are}
use Rattle.rdm_ep.proofs.Pushes.{own_sends, own_progress, own_live_sends}
use Rattle.rdm_ep.proofs.Completed.{own_completions, own_regions}

-- the current life of a port, in the list of them
abbrev pub current_of : List Life → ℕ → Option Life
current_of currents port = find (λ (l : Life). l.port.0 == port) currents

-- the least number of a life that was not heard of, by what is known of it
abbrev pub next_of : (first : ℕ) → List Peer → Life → ℕ
next_of first peers life = first + (peer_in peers life).entered

-- the message is held
abbrev pub held_of : List Inbound → Life → ℕ → Bool
held_of held life number = list_any (is_message life number) held

-- the message was heard of: its number has entered, or it is held
abbrev pub heard_of : (first : ℕ) → List Peer → List Inbound → Life → ℕ → Bool
heard_of first peers held life number = (nat_le first number && nat_lt number (next_of first peers life)) || held_of held life number

-- which lives are current, and what was taken from them
pub record LivesKept (log : List Deed) (currents : List Life) (peers : List Peer) : Type 0 where
  pub currents_are : (port : ℕ) → current_of currents port ≡ current log port
  pub greeted_are : (life : Life) → (peer_in peers life).greeted ≡ list_any (is_from life) log
  pub known_are : (life : Life) → (peer_in peers life).known ≡ known_word log life

-- the sends, how many of them went to each life, and those that are live
pub record SendsKept (own : Own) (log : List Deed) (sends : ℕ) (peers : List Peer) (outgoing : List Outbound) : Type 0 where
  pub sent_are : (life : Life) → (peer_in peers life).sent ≡ length (sends_to (own_sends own log) life)
  pub sends_are : sends ≡ length (own_sends own log)
  pub outgoing_are : outgoing ≡ map outbound_of (own_live_sends own log)

-- the receives, and those that are live
pub record ReceivesKept (own : Own) (log : List Deed) (count : ℕ) (posted : List Posted) : Type 0 where
  pub receives_are : count ≡ length (receives log)
  pub posted_are : posted ≡ map posted_of (own_live own log)

-- the messages that wait
pub record MessagesKept (own : Own) (log : List Deed) (arrived : List Inbound) : Type 0 where
  pub arrived_are : map arrived_message arrived ≡ (own_matching own log).arrived
  pub heads_are : (i : Inbound) → Member i arrived → heads_by log i.life i.no.0 ≡ inbound_head i
  pub bytes_are : (i : Inbound) → Member i arrived → bytes_by own.limits.first log i.life i.no.0 ≡ i.bytes

-- the messages that are held, and the numbers that have entered
pub record HeldKept (own : Own) (log : List Deed) (peers : List Peer) (arrived held : List Inbound) : Type 0 where
  pub heads_are : (i : Inbound) → Member i held → heads_by log i.life i.no.0 ≡ inbound_head i
  pub bytes_are : (i : Inbound) → Member i held → bytes_by own.limits.first log i.life i.no.0 ≡ i.bytes
  pub heard_are : (life : Life) (number : ℕ) → heard_of own.limits.first peers held life number ≡ is_heard log life number
  pub next_are : (life : Life) → is_heard log life (next_of own.limits.first peers life) ≡ false
  pub within : (life : Life) → (peer_in peers life).entered + length held ≤ length log
  pub count : length arrived + length held + length (own_matching own log).pairs ≡ length (heard_names log)

-- the handshakes that are owed
abbrev pub OwedKept : Own → List Deed → List Life → Type 0
OwedKept own log owed = map (handshake_to own) owed ≡ (own_progress own log).replies

-- the regions
abbrev pub RegionsKept : Own → List Deed → List (List ℕ) → Type 0
RegionsKept own log regions = regions ≡ own_regions own log

-- the completions that were not polled
pub record CompletionsKept (own : Own) (log : List Deed) (polled : ℕ) (completions : List Completion) : Type 0 where
  pub polled_are : polled ≡ poll_count log
  pub polled_within : poll_count log ≤ length (own_completions own log)
  pub completions_are : completions ≡ drop (poll_count log) (own_completions own log)

-- all groups of an endpoint
pub record Kept (log : List Deed) (v : EndpointView) : Type 0 where
  pub lives : LivesKept log v.currents v.peers
  pub sends : SendsKept v.own log v.sends v.peers v.outgoing
  pub receives : ReceivesKept v.own log v.receives v.posted
  pub messages : MessagesKept v.own log v.arrived
  pub held : HeldKept v.own log v.peers v.arrived v.held
  pub owed : OwedKept v.own log v.owed
  pub regions : RegionsKept v.own log v.regions
  pub completions : CompletionsKept v.own log v.polled v.completions

-- what an endpoint keeps has its groups
pub kept_of : (log : List Deed) (v : EndpointView) → Keeps log v → Kept log v
unfolding current_in is_heard_in is_held_in heard_by
kept_of log v k =
    record {
      lives = record { currents_are = k.currents_are; greeted_are = k.greeted_are; known_are = k.known_are };
      sends = record { sent_are = k.sent_are; sends_are = k.sends_are; outgoing_are = k.outgoing_are };
      receives = record { receives_are = k.receives_are; posted_are = k.posted_are };
      messages = record {
        arrived_are = k.arrived_are;
        heads_are = λ i m. (k.told i m).0;
        bytes_are = λ i m. (k.told i m).1;
      };
      held = record {
        heads_are = λ i m. (k.held_told i m).0;
        bytes_are = λ i m. (k.held_told i m).1;
        heard_are = k.heard_are;
        next_are = k.next_are;
        within = k.entered_within;
        count = k.waiting_count;
      };
      owed = k.owed_are;
      regions = k.regions_are;
      completions = record { polled_are = k.polled_are; polled_within = k.polled_within; completions_are = k.completions_are };
    }

-- and is made of them
pub keeps_by : (log : List Deed) (v : EndpointView) → IsEager v.own log → Kept log v → Keeps log v
unfolding current_in is_heard_in is_held_in heard_by
keeps_by log v h k =
    record {
      regions_are = k.regions;
      currents_are = k.lives.currents_are;
      greeted_are = k.lives.greeted_are;
      known_are = k.lives.known_are;
      sent_are = k.sends.sent_are;
      sends_are = k.sends.sends_are;
      receives_are = k.receives.receives_are;
      polled_are = k.completions.polled_are;
      posted_are = k.receives.posted_are;
      waiting_are = waiting_are v.own log h;
      arrived_are = k.messages.arrived_are;
      told = λ i m. (k.messages.heads_are i m, k.messages.bytes_are i m);
      held_told = λ i m. (k.held.heads_are i m, k.held.bytes_are i m);
      heard_are = k.held.heard_are;
      next_are = k.held.next_are;
      entered_within = k.held.within;
      waiting_count = k.held.count;
      owed_are = k.owed;
      outgoing_are = k.sends.outgoing_are;
      polled_within = k.completions.polled_within;
      completions_are = k.completions.completions_are;
    }
