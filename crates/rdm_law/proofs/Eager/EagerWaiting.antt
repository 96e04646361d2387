-- What waits for a port of an eager world is built for the endpoint that is open there.
use Rattle.std.proofs.Common.{Bool, ◌≡◌, ℕ, false, List, ◌++◌, Option, Some, None, IsTrue, refl, sym, ap, subst}
use Rattle.rdm_lists.specs.Lists.{Member}
use Rattle.rdm_num.specs.Lives.{life}
use Rattle.rdm_num.specs.declared.numbers.Connid.{Connid}
use Rattle.rdm_num.specs.declared.numbers.Life.{Life}
use Rattle.rdm_num.specs.declared.numbers.MsgNo.{MsgNo}
use Rattle.rdm_hdr.specs.declared.Opt.{Opt}
use Rattle.rdm_pkt.specs.declared.Form.{Form}
use Rattle.rdm_pkt.specs.declared.Packet.{Packet}
use Rattle.rdm_pkt.specs.declared.Packet.TheVariants.{Rtm, Cts, CtsData, Eor, Handshake, Receipt}
use Rattle.rdm_pkt.specs.declared.Form.TheVariants.{Eager, Medium, LongCts, LongRead, Runt}
use Rattle.rdm_pkt.specs.Reading.{packet_in}
use Rattle.rdm_wire.specs.declared.Datagram.{Datagram}
use Rattle.rdm_wire.specs.declared.Body.{Body}
use Rattle.rdm_wire.specs.declared.Body.TheVariants.{Note, Between}
use Rattle.rdm_wire.specs.declared.Load.TheVariants.{Packet as PacketLoad, Ask, Given}
use Rattle.rdm_model.specs.declared.job.Job.{Job}
use Rattle.rdm_model.specs.Deeds.{Deed, Spelled, packet_item, item_of, open_life, of_open_life}
use Rattle.rdm_model.specs.Beginnings.{Own, own_of, life_at}
use Rattle.rdm_model.specs.Jobs.{is_fair, law_ops}
use Rattle.rdm_model.specs.Heard.{heard_head, is_heard}
use Rattle.rdm_model.specs.Scenes.{scene, deeds_at}
use Rattle.rdm_model.specs.Local.{own_scene}
use Rattle.rdm_model.specs.Worlds.{World, scene_in}
use Rattle.rdm_law.proofs.Played.Sound.{waiting_in}
use Rattle.rdm_law.proofs.Eager.EagerDeeds.{IsEagerPacket, IsEagerItem}
use Rattle.rdm_law.proofs.Eager.EagerPorts.{EagerJob, IsEagerBody}
use Rattle.rdm_law.proofs.Eager.EagerPlayed.{EagerWorld}
use Rattle.rdm_law.proofs.Eager.MessageOnce.{HasMessage, waits_unheard}

-- a note, or an item that is built after those deeds
abbrev pub IsBuiltBody : Own → List Deed → Datagram → Body → Type 0
IsBuiltBody own log d (Note note) = Unit {0}
IsBuiltBody own log d (Between from to load) = IsEagerItem own log (life d.src from) (item_of load)

-- what the open life of a port has not heard of
open_unheard : (job : Job) (lives : ℕ → Connid) (i : Life) (w : World) (port : ℕ) (number : MsgNo) (d : Datagram) (o : Option Connid) → IsTrue (is_fair law_ops job) → EagerJob job lives → EagerWorld job lives w
    → Member d (waiting_in w port) → HasMessage i number d → is_heard (of_open_life o (deeds_at job port (w.logs port))) i number.0 ≡ false
unfolding of_open_life is_heard heard_head
open_unheard job lives i w port number d None fair plain p m has = refl
open_unheard job lives i w port number d (Some c) fair plain p m has = waits_unheard job lives i w port c d number fair plain p m has

-- a packet that opens a message is one of the life that pushed it
has_message : (d : Datagram) (from to : Connid) (bytes : List ℕ) (number : MsgNo) (tag : Option ℕ) (confirm : Bool) (opt : Opt) (form : Form) → d.body ≡ Between from to (PacketLoad bytes)
    → packet_in bytes ≡ Some (Rtm number tag confirm opt form) → HasMessage (life d.src from) number d
unfolding item_of packet_item
has_message d from to bytes number tag confirm opt form body packet = record {
  to = to;
  load = PacketLoad bytes;
  src_is = refl;
  body_is = body;
  tag = tag;
  confirm = confirm;
  opt = opt;
  form = form;
  item_is = ap packet_item packet;
}

-- an eager packet is built
packet_built : (job : Job) (lives : ℕ → Connid) (w : World) (port : ℕ) (d : Datagram) (from to : Connid) (bytes : List ℕ) (p : Packet) (o : Option Connid) → IsTrue (is_fair law_ops job)
    → EagerJob job lives → EagerWorld job lives w → Member d (waiting_in w port) → d.body ≡ Between from to (PacketLoad bytes) → packet_in bytes ≡ Some p
    → IsEagerPacket job.limits.first p → IsEagerItem (own_of job (life_at port o)) (of_open_life o (deeds_at job port (w.logs port))) (life d.src from) (Spelled p)
unfolding own_of
packet_built job lives w port d from to bytes (Rtm number tag confirm opt (Eager data')) o fair plain world m body packet h =
    (h.0, h.1, open_unheard job lives (life d.src from) w port number d o fair plain world m (has_message d from to bytes number tag confirm opt (Eager data') body packet))
packet_built job lives w port d from to bytes (Handshake words connid raw) o fair plain world m body packet h = tt
packet_built job lives w port d from to bytes (Rtm number tag confirm opt (Medium size offset data')) o fair plain world m body packet h = h
packet_built job lives w port d from to bytes (Rtm number tag confirm opt (LongCts size send credits data')) o fair plain world m body packet h = h
packet_built job lives w port d from to bytes (Rtm number tag confirm opt (LongRead size send iov)) o fair plain world m body packet h = h
packet_built job lives w port d from to bytes (Rtm number tag confirm opt (Runt size send iov runt offset data')) o fair plain world m body packet h = h
packet_built job lives w port d from to bytes (Cts send recv size connid) o fair plain world m body packet h = h
packet_built job lives w port d from to bytes (CtsData recv offset connid data') o fair plain world m body packet h = h
packet_built job lives w port d from to bytes (Eor send recv connid) o fair plain world m body packet h = h
packet_built job lives w port d from to bytes (Receipt number connid) o fair plain world m body packet h = h

-- what waits is built
body_built : (job : Job) (lives : ℕ → Connid) (w : World) (port : ℕ) (d : Datagram) (body : Body) (o : Option Connid) → IsTrue (is_fair law_ops job) → EagerJob job lives → EagerWorld job lives w
    → Member d (waiting_in w port) → d.body ≡ body → IsEagerBody lives job.limits.first d body
    → IsBuiltBody (own_of job (life_at port o)) (of_open_life o (deeds_at job port (w.logs port))) d body
unfolding item_of packet_item
body_built job lives w port d (Note note) o fair plain world m is h = tt
body_built job lives w port d (Between from to (Ask a)) o fair plain world m is h = elim h [ ]
body_built job lives w port d (Between from to (Given g)) o fair plain world m is h = elim h [ ]
body_built job lives w port d (Between from to (PacketLoad bytes)) o fair plain world m is h =
    let own = own_of job (life_at port o) in
    let log = of_open_life o (deeds_at job port (w.logs port)) in
    let P : Option Packet → Type 0 = λ x. IsEagerItem own log (life d.src from) (packet_item x) in
    subst P (sym h.2.1) (packet_built job lives w port d from to bytes h.2.0 o fair plain world m is h.2.1 h.2.2)

-- each datagram in a queue or a stash is a note, or built for the open life of its port
pub waiting_built : (job : Job) (lives : ℕ → Connid) (w : World) (port : ℕ) (d : Datagram) → IsTrue (is_fair law_ops job) → EagerJob job lives → EagerWorld job lives w
    → Member d (w.stashes port ++ w.queues port) → IsBuiltBody (scene_in job w port).own (scene_in job w port).log d d.body
unfolding scene_in own_scene scene
waiting_built job lives w port d fair plain p m =
    body_built job lives w port d d.body (open_life (deeds_at job port (w.logs port))) fair plain p m refl (p.has.waiting port d m)
