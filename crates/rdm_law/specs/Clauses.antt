-- Clauses of the headline that hold of each history, one by one.
use Rattle.std.specs.Prelude.{◌≡◌, ◌≤◌, ◌⊎◌, ℕ, IsFalse, IsTrue, List, ◌∷◌, ◌++◌, length, Some}
use Rattle.rdm_lists.specs.Lists.{Member}
use Rattle.rdm_num.specs.Pieces.{Piece, overlaps}
use Rattle.rdm_num.specs.declared.numbers.Life.{Life}
use Rattle.rdm_wire.specs.declared.Datagram.{Datagram}
use Rattle.rdm_model.specs.declared.job.Job.{Job}
use Rattle.rdm_model.specs.declared.answer.Class.{Class}
use Rattle.rdm_model.specs.declared.answer.Class.TheVariants.{ToOther, FromOther}
use Rattle.rdm_model.specs.declared.answer.Handled.TheVariants.{Dropped}
use Rattle.rdm_model.specs.declared.answer.Next.TheVariants.{Again}
use Rattle.rdm_model.specs.declared.answer.PoolName.{PoolName}
use Rattle.rdm_model.specs.declared.answer.PoolName.TheVariants.{Tx, Rx, Cq}
use Rattle.rdm_model.specs.declared.entry.Entry.{Entry}
use Rattle.rdm_model.specs.declared.entry.Act.TheVariants.{Handle}
use Rattle.rdm_model.specs.Deeds.{Deed, deed_of, log_of}
use Rattle.rdm_model.specs.Beginnings.{Own, Messages, own_of, rank_of}
use Rattle.rdm_model.specs.Currents.{current, is_forgotten}
use Rattle.rdm_model.specs.Heard.{heard_head}
use Rattle.rdm_model.specs.Matches.{receives, matching, pairs}
use Rattle.rdm_model.specs.Notes.{notes}
use Rattle.rdm_model.specs.Parts.{carried_by, carried_pieces}
use Rattle.rdm_model.specs.Receives.{recv_ends}
use Rattle.rdm_model.specs.Regions.{regions}
use Rattle.rdm_model.specs.Sends.{known_word, sends}
use Rattle.rdm_model.specs.Dues.{progress, due}
use Rattle.rdm_model.specs.Completions.{completions, poll_count, tx_count, rx_count, cq_count}
use Rattle.rdm_model.specs.Scenes.{Scene}
use Rattle.rdm_model.specs.Settled.{left_at}
use Rattle.rdm_model.specs.Jobs.{is_fair, law_ops}
use Rattle.rdm_model.specs.Lawful.{Lawful, port_deeds, life_deeds, sends_in, sent_to, sent_scene}

-- the deed brings that piece of message n of a life
abbrev pub Brings : Scene → Deed → Life → ℕ → Piece → Type 0
Brings s d source n p = carried_by (pairs s.own.limits.first s.ms.head s.log) source n d ≡ Some p

-- the piece of message n of a life has come
abbrev pub HasCome : Scene → Life → ℕ → Piece → Type 0
HasCome s source n p = Member p (carried_pieces s.own.limits.first s.ms.head s.log source n)

-- The bytes that a taken datagram has of a message share no place with those that came of it before.
abbrev pub BytesComeOnce : Type 0
BytesComeOnce =
    (job : Job) (newer : List Entry) (e : Entry) (before : List Entry) (source : Life) (n : ℕ) (p q : Piece)
    → Lawful job (newer ++ e ∷ before)
    → Brings (sent_scene job e.port.0 before) (deed_of (rank_of job e.port.0).ops e.act) source n p
    → HasCome (sent_scene job e.port.0 before) source n q
    → IsFalse (overlaps p.offset (length p.bytes) q.offset (length q.bytes))

-- A datagram is dropped as one to another life or as one from another life, and for no other reason.
abbrev pub DropsAreOfOthers : Type 0
DropsAreOfOthers =
    (job : Job) (newer : List Entry) (e : Entry) (before : List Entry) (d : Datagram) (class' : Class)
    → Lawful job (newer ++ e ∷ before)
    → e.act ≡ Handle d (Dropped class')
    → (class' ≡ ToOther) ⊎ (class' ≡ FromOther)

-- a life stands as it stood: its peers, what it heard, its receives and their matches, its sends, its regions, and its completions
pub record StandsAs (own : Own) (ms : Messages) (after before : List Deed) : Type 0 where
  pub currents : (port : ℕ) → current after port ≡ current before port
  pub forgotten : (life : Life) → is_forgotten after life ≡ is_forgotten before life
  pub known : (life : Life) → known_word after life ≡ known_word before life
  pub heard : (life : Life) (n : ℕ) → heard_head after life n ≡ heard_head before life n
  pub receives_are : receives after ≡ receives before
  pub matching_is : matching own.limits.first ms.head after ≡ matching own.limits.first ms.head before
  pub carried : (life : Life) (n : ℕ) → carried_pieces own.limits.first ms.head after life n ≡ carried_pieces own.limits.first ms.head before life n
  pub ends : recv_ends own.limits.first ms.head after ≡ recv_ends own.limits.first ms.head before
  pub regions_are : regions own.limits.first ms after ≡ regions own.limits.first ms before
  pub sends_are : sends own ms after ≡ sends own ms before
  pub pushed : (send : ℕ) → (progress own ms after).packets send ≡ (progress own ms before).packets send
  pub completions_are : completions own ms after ≡ completions own ms before
  pub polled : poll_count after ≡ poll_count before

-- no life's sends and no life's standing changes, by any account of the messages
pub record ChangesNothing (job : Job) (after before : List Entry) : Type 0 where
  pub sent : (life : Life) → sends_in job after life ≡ sends_in job before life
  pub lives : (life : Life) (own : Own) (ms : Messages) → StandsAs own ms (life_deeds job after life) (life_deeds job before life)
  pub notes_are : (ports port : ℕ) → notes ports port (port_deeds job port after) ≡ notes ports port (port_deeds job port before)

-- A dropped datagram changes nothing but its count.
abbrev pub DropsChangeNothing : Type 0
DropsChangeNothing =
    (job : Job) (e : Entry) (before : List Entry) (d : Datagram) (class' : Class)
    → e.act ≡ Handle d (Dropped class')
    → ChangesNothing job (e ∷ before) before

-- what a life owes, and what goes out of it next, is as it was
pub record OwesAs (own : Own) (ms : Messages) (after before : List Deed) : Type 0 where
  pub replies_are : (progress own ms after).replies ≡ (progress own ms before).replies
  pub next_is : due own ms after ≡ due own ms before

-- In a lawful history of a fair job a dropped datagram makes no life owe anything, and takes away nothing of what a life owes.
abbrev pub DropsOweNothing : Type 0
DropsOweNothing =
    (job : Job) (e : Entry) (before : List Entry) (d : Datagram) (class' : Class) (life : Life)
    → IsTrue (is_fair law_ops job)
    → Lawful job before
    → e.act ≡ Handle d (Dropped class')
    → OwesAs (own_of job life) (sent_to job before life) (life_deeds job (e ∷ before) life) (life_deeds job before life)

-- as many of the pool's places are taken as it has
abbrev pub IsFull : Scene → PoolName → Type 0
IsFull s Tx = s.own.limits.tx ≤ tx_count s.own s.ms s.log
IsFull s Rx = s.own.limits.rx ≤ rx_count s.own s.ms.head s.log
IsFull s Cq = s.own.limits.cq ≤ cq_count s.own s.ms s.log

-- An instruction is to be tried again only where the pool that its answer names is full.
abbrev pub AgainIsFull : Type 0
AgainIsFull =
    (job : Job) (history : List Entry) (port : ℕ) (pool : PoolName)
    → left_at job port (sent_scene job port history) (log_of port history) ≡ Some (Again pool)
    → IsFull (sent_scene job port history) pool
