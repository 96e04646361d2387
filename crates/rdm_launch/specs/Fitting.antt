-- When a port with its passes fits a place.
use Rattle.std.specs.Prelude.{◌≡◌, ℕ, IsTrue, List, [], ◌∷◌, ◌++◌, length, Some, slice_get}
use Rattle.rdm_lists.specs.Lists.{Member}
use Rattle.rdm_wire.specs.declared.Datagram.{Datagram}
use Rattle.rdm_wire.specs.Queues.{IsFor}
use Rattle.rdm_inbox.specs.Passes.{InboxState}
use Rattle.rdm_inbox.specs.Queues.{PassesState, WireState, ArePassesOf, sent_to, taken_by}
use Rattle.rdm_model.specs.declared.job.Job.{Job}
use Rattle.rdm_model.specs.declared.entry.Entry.{Entry}
use Rattle.rdm_model.specs.declared.entry.Act.{Act}
use Rattle.rdm_model.specs.declared.entry.Act.TheVariants.{Next, Push, Handle, Poll}
use Rattle.rdm_model.specs.Jobs.{is_fair, law_ops}
use Rattle.rdm_model.specs.Scenes.{Scene, deeds_at}
use Rattle.rdm_model.specs.Local.{Local, own_scene}
use Rattle.rdm_port.specs.Views.{PortView, IsPortOf, IsSamePort}
use Rattle.rdm_port.specs.Built.{IsBuiltBody}
use Rattle.rdm_launch.specs.Logs.{pushed_to, handled_in}
use Rattle.rdm_launch.specs.Reordered.{IsReordered}

-- a datagram that is handled in that scene is built for its life
abbrev pub IsBuiltAct : Scene → Act → Type 0
IsBuiltAct s (Handle d answer) = IsBuiltBody s.own s.log d d.body
IsBuiltAct s (Next index op answer) = Unit {0}
IsBuiltAct s (Push d) = Unit {0}
IsBuiltAct s (Poll c) = Unit {0}

-- each datagram that the log handled was built for the life that was open then
abbrev pub HandledBuilt : Job → ℕ → List Entry → Type 0
HandledBuilt job port [] = Unit {0}
HandledBuilt job port (e ∷ before) = HandledBuilt job port before × IsBuiltAct (own_scene job port (deeds_at job port before)) e.act

-- the log is right by itself in each fair job of which it is the port, where what it handled was built
abbrev pub IsRight : PortView → Type 0
IsRight p = (job : Job) → IsTrue (is_fair law_ops job) → IsPortOf job p → HandledBuilt job p.number p.log → Local job p.number p.log

-- the port at the place, as it was at the start but for its log and its stash. Its log pushed what its passes sent, and its handled datagrams with its stash are
-- what its passes took
pub record IsAtPlace (tables : List InboxState) (starts : List PortView) (p : PortView) (v : PassesState) (i : ℕ) : Type 0 where
  pub start : PortView
  pub started : slice_get starts i ≡ Some start
  pub same : IsSamePort start p
  pub number : p.number ≡ i
  pub ports : p.ports ≡ length tables
  pub own : v.port ≡ i
  pub pushed : (to : ℕ) → pushed_to to p.log ≡ sent_to v to
  pub taken : IsReordered (handled_in p.log ++ p.stash) (taken_by v)
  pub came : (d : Datagram) → Member d (taken_by v) → IsFor i (length tables) d
  pub right : IsRight p

-- so it fits the place, with passes of these inboxes
abbrev pub FitsPlace : List InboxState → List PortView → PortView → PassesState → ℕ → Type 0
FitsPlace tables starts p v i = IsAtPlace tables starts p v i × ArePassesOf tables v

-- so it is while it has the wire of these inboxes
abbrev pub IsAtWork : List InboxState → List PortView → PortView → WireState → ℕ → Type 0
IsAtWork tables starts p w i = (w.queues.tables ≡ tables) × IsAtPlace tables starts p w.passes i
