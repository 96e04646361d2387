-- The worlds of an eager job are built.
use Rattle.std.proofs.Common.{ℕ, List, IsTrue}
use Rattle.rdm_num.specs.declared.numbers.Connid.{Connid}
use Rattle.rdm_num.specs.declared.numbers.Life.{Life}
use Rattle.rdm_num.specs.Lives.{life}
use Rattle.rdm_pkt.specs.declared.Packet.TheVariants.{Rtm, Handshake}
use Rattle.rdm_pkt.specs.declared.Form.TheVariants.{Eager}
use Rattle.rdm_wire.specs.declared.Datagram.{Datagram}
use Rattle.rdm_wire.specs.declared.Body.{Body}
use Rattle.rdm_wire.specs.declared.Body.TheVariants.{Note, Between}
use Rattle.rdm_model.specs.declared.job.Job.{Job}
use Rattle.rdm_model.specs.Deeds.{Deed, Item, Spelled, item_of}
use Rattle.rdm_model.specs.Jobs.{is_fair, law_ops}
use Rattle.rdm_model.specs.Beginnings.{Own}
use Rattle.rdm_model.specs.Worlds.{World, new_world, scene_in, after_choices}
use Rattle.rdm_law.proofs.Eager.EagerDeeds as Law
use Rattle.rdm_law.proofs.Eager.EagerWaiting.{waiting_built}
use Rattle.rdm_law.proofs.Eager.EagerWaiting as Waiting
use Rattle.rdm_law.proofs.Eager.EagerPorts.{EagerJob}
use Rattle.rdm_law.proofs.Eager.EagerPlayed.{EagerWorld, new_eager_world, eager_keeps}
use Rattle.rdm_law.proofs.Played.PlayedSteps.{choices_keep}
use Rattle.rdm_ep.specs.Eager.{IsEagerItem}
use Rattle.rdm_port.specs.Built.{IsBuiltBody}
use Rattle.rdm_world.specs.Shows.{StaysBuilt}
use Rattle.rdm_world.proofs.Inboxes.{Holds, holds_keeps, new_holds}

-- what the law calls eager is what the endpoint takes
same_item : (own : Own) (log : List Deed) (from : Life) (item : Item) → Law.IsEagerItem own log from item → IsEagerItem own log from item
same_item own log from (Spelled (Rtm number tag confirm opt (Eager bytes))) h = h
same_item own log from (Spelled (Handshake words connid raw)) h = h
same_item own log from _ h = elim h [ ]

-- so it is with a datagram
same_body : (own : Own) (log : List Deed) (d : Datagram) (body : Body) → Waiting.IsBuiltBody own log d body → IsBuiltBody own log d body
same_body own log d (Note note) h = h
same_body own log d (Between from to load) h = same_item own log (life d.src from) (item_of load) h

-- each world of such a job that choices reach is built
pub eager_stays_built : (job : Job) (lives : ℕ → Connid) → IsTrue (is_fair law_ops job) → EagerJob job lives → StaysBuilt job new_world
eager_stays_built job lives fair plain cs ranks =
    let w = after_choices job new_world cs in
    let eager = choices_keep job (EagerWorld job lives) (eager_keeps job lives fair plain) cs new_world ranks (new_eager_world job lives) in
    record {
      built = λ port d m. same_body (scene_in job w port).own (scene_in job w port).log d d.body (waiting_built job lives w port d fair plain eager m);
      short = choices_keep job (Holds job) (holds_keeps job) cs new_world ranks (new_holds job);
    }
