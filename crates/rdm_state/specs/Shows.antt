-- That the parts of an endpoint show its record.
use Rattle.std.specs.Prelude.{◌≡◌, ℕ, ◌+◌, List, [], length, find, Option, Some, None}
use Rattle.rdm_life.specs.Kept.{Kept, LiveSend, is_send}
use Rattle.rdm_answers.specs.Answers.{BytesOf}
use Rattle.rdm_answers.specs.Owing.{owed_in}
use Rattle.rdm_held.specs.Held.{IsHeldAs}
use Rattle.rdm_peers.specs.Shown.{ShowsPeers}
use Rattle.rdm_receives.specs.Shows as Receive
use Rattle.rdm_receives.specs.View.{ReceiveView, IsReceive}
use Rattle.rdm_sent.specs.Shows.{IsSend}
use Rattle.rdm_lists.specs.Lists.{Member}
use Rattle.rdm_shown.specs.Grounds.{ShowsRegions, ShowsLeases, ShowsHolds}
use Rattle.rdm_shown.specs.Lives.{ShowsLives}
use Rattle.rdm_shown.specs.Tables.{AreLike, AreEntries}
use Rattle.rdm_state.specs.State.{State}

-- the number of a live send
abbrev pub number_of : LiveSend → ℕ
number_of s = s.sent.number

-- the bytes of a send's message, if there is a send
unfoldable pub bytes_of_found : Option LiveSend → List ℕ
bytes_of_found None = []
bytes_of_found (Some s) = s.sent.message.bytes

-- the bytes of the messages of live sends
abbrev pub bytes_of : List LiveSend → BytesOf
bytes_of sends send = bytes_of_found (find (is_send send) sends)

-- The parts show the record: its life; the regions, with what is leased and held; the lives, and what is known of each; what waits in
-- the matcher, and the messages that are early; the live operations, what is owed, and what completed. A place for a completion is
-- reserved for each live operation.
pub record Shows (e : State) (v : Kept) : Type 0 where
  pub own : e.own ≡ v.own
  pub regions : ShowsRegions e.regions v.region_count v.region_size v.home
  pub leases : ShowsLeases e.regions v.receives
  pub holds : ShowsHolds e.regions v.sends
  pub lives : ShowsLives e.lives v.current v.superseded
  pub peers : ShowsPeers e.peers v.peers
  pub first : e.peers.first ≡ v.own.limits.first
  pub posted : e.matcher.waiting.posted ≡ v.posted
  pub arrived : e.matcher.waiting.arrived ≡ v.arrived
  pub early : IsHeldAs e.early v.early v.early_of v.early_count
  pub sends : AreEntries number_of IsSend e.sends.list v.sends
  pub sends_made : e.sends.made ≡ v.send_count
  pub receives : AreLike Receive.Shows e.receives.list v.receives
  pub each_receive : (r : ReceiveView) → Member r e.receives.list → IsReceive r
  pub receives_made : e.receives.made ≡ v.receive_count
  pub owed : owed_in v.own (bytes_of v.sends) e.owed.owed ≡ v.owed
  pub completed : e.completions.list ≡ v.completions
  pub reserved : e.completions.reserved ≡ length v.sends + length v.receives
  pub polled : e.polled ≡ v.poll_count
