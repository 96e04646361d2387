-- What an endpoint keeps of the deeds of its life.
use Rattle.std.specs.Prelude.{None, ◌≡◌, ◌≤◌, ◌+◌, ℕ, Bool, false, List, [], ◌∷◌, map, length, drop}
use Rattle.std.specs.List.{list_any}
use Rattle.rdm_lists.specs.Lists.{Member}
use Rattle.rdm_num.specs.Lives.{same_life}
use Rattle.rdm_num.specs.declared.numbers.Life.{Life}
use Rattle.rdm_pkt.specs.declared.Form.TheVariants.{Eager}
use Rattle.rdm_pkt.specs.Openings.{rtm}
use Rattle.rdm_model.specs.Deeds.{Deed, Took}
use Rattle.rdm_model.specs.Beginnings.{Own, Messages}
use Rattle.rdm_model.specs.Local.{heard_by}
use Rattle.rdm_model.specs.Currents.{current}
use Rattle.rdm_model.specs.Heard.{is_heard}
use Rattle.rdm_model.specs.Matches.{Receive, receives, matching}
use Rattle.rdm_model.specs.Receives.{live_receives}
use Rattle.rdm_model.specs.Regions.{regions}
use Rattle.rdm_model.specs.Sends.{Sent, sends, sends_to, known_word}
use Rattle.rdm_model.specs.Replies.{Reply, reply, greeting}
use Rattle.rdm_model.specs.Dues.{progress, live_sends}
use Rattle.rdm_model.specs.Completions.{completions, poll_count, heard_names}
use Rattle.rdm_ep.specs.declared.state.Posted.{Posted}
use Rattle.rdm_ep.specs.declared.state.Inbound.{Inbound}
use Rattle.rdm_ep.specs.declared.state.Outbound.{Outbound}
use Rattle.rdm_ep.specs.View.{EndpointView, current_in}
use Rattle.rdm_ep.specs.Peers.{peer_in}
use Rattle.rdm_ep.specs.Receiving.{arrived_message}
use Rattle.rdm_ep.specs.Entering.{next_in, is_heard_in}
use Rattle.rdm_ep.specs.Handling.{inbound_head}

-- a receive of the life as the endpoint keeps it
abbrev pub posted_of : Receive → Posted
posted_of r = record { number = record { 0 = r.number }; req = r.req; from = r.posted.from }

-- a send of the life as the endpoint keeps it
abbrev pub outbound_of : Sent → Outbound
outbound_of s = record { number = record { 0 = s.number }; to = s.to; req = s.req; packet = rtm s.message (Eager s.message.bytes) }

-- the handshake that is owed to a life
abbrev pub handshake_to : Own → Life → Reply
handshake_to own life = reply life (greeting own None)

-- a datagram of that life was taken
unfoldable pub is_from : Life → Deed → Bool
is_from life (Took from item) = same_life from life
is_from life _ = false

-- the message that waits has the head and the bytes of that account
abbrev pub IsToldBy : Messages → Inbound → Type 0
IsToldBy ms i = (ms.head i.life i.no.0 ≡ inbound_head i) × (ms.bytes i.life i.no.0 ≡ i.bytes)

-- each list of the endpoint is what the definitions make of the deeds of its life
pub record Keeps (log : List Deed) (v : EndpointView) : Type 0 where
  pub regions_are : v.regions ≡ regions v.own.limits.first (heard_by v.own.limits.first log) log
  pub currents_are : (port : ℕ) → current_in v port ≡ current log port
  pub greeted_are : (life : Life) → (peer_in v.peers life).greeted ≡ list_any (is_from life) log
  pub known_are : (life : Life) → (peer_in v.peers life).known ≡ known_word log life
  pub sent_are : (life : Life) → (peer_in v.peers life).sent ≡ length (sends_to (sends v.own (heard_by v.own.limits.first log) log) life)
  pub sends_are : v.sends ≡ length (sends v.own (heard_by v.own.limits.first log) log)
  pub receives_are : v.receives ≡ length (receives log)
  pub polled_are : v.polled ≡ poll_count log
  pub posted_are : v.posted ≡ map posted_of (live_receives v.own.limits.first (heard_by v.own.limits.first log).head log)
  pub waiting_are : map (λ (r : Receive). r.posted) (live_receives v.own.limits.first (heard_by v.own.limits.first log).head log)
      ≡ (matching v.own.limits.first (heard_by v.own.limits.first log).head log).posted
  pub arrived_are : map arrived_message v.arrived ≡ (matching v.own.limits.first (heard_by v.own.limits.first log).head log).arrived
  pub told : (i : Inbound) → Member i v.arrived → IsToldBy (heard_by v.own.limits.first log) i
  pub held_told : (i : Inbound) → Member i v.held → IsToldBy (heard_by v.own.limits.first log) i
  pub heard_are : (life : Life) (number : ℕ) → is_heard_in v life number ≡ is_heard log life number
  pub next_are : (life : Life) → is_heard log life (next_in v life) ≡ false
  pub entered_within : (life : Life) → (peer_in v.peers life).entered + length v.held ≤ length log
  pub waiting_count : length v.arrived + length v.held + length (matching v.own.limits.first (heard_by v.own.limits.first log).head log).pairs ≡ length (heard_names log)
  pub owed_are : map (handshake_to v.own) v.owed ≡ (progress v.own (heard_by v.own.limits.first log) log).replies
  pub outgoing_are : v.outgoing ≡ map outbound_of (live_sends v.own (heard_by v.own.limits.first log) log)
  pub polled_within : poll_count log ≤ length (completions v.own (heard_by v.own.limits.first log) log)
  pub completions_are : v.completions ≡ drop (poll_count log) (completions v.own (heard_by v.own.limits.first log) log)
