-- What went to a life: a packet of a send, or a reply.
use Rattle.std.proofs.Common.{◌≡◌, ℕ, List, Some, ◌⊎◌, inl, inr}
use Rattle.rdm_num.specs.declared.numbers.Life.{Life}
use Rattle.rdm_pkt.specs.declared.Packet.{Packet}
use Rattle.rdm_wire.specs.declared.Datagram.{Datagram}
use Rattle.rdm_model.specs.declared.job.Job.{Job}
use Rattle.rdm_model.specs.declared.entry.Entry.{Entry}
use Rattle.rdm_model.specs.Deeds.{Deed, Item, Spelled}
use Rattle.rdm_model.specs.Beginnings.{Own, own_of}
use Rattle.rdm_model.specs.Replies.{Reply}
use Rattle.rdm_model.specs.Sends.{Sent}
use Rattle.rdm_model.specs.Dues.{Due, Replies, Sends}
use Rattle.rdm_model.specs.Going.{Goes, due_going}
use Rattle.rdm_model.specs.Local.{heard_by}
use Rattle.rdm_model.specs.Lawful.{life_deeds}
use Rattle.rdm_law.proofs.Replies.Owed.{OwedIn}
use Rattle.rdm_law.proofs.Lives.Lives.{WasDueAt}
use Rattle.rdm_law.proofs.Replies.ReplyDues.{was_due_owed}
use Rattle.rdm_law.proofs.Accounts.Wired.{TakenDue}

-- a packet of a send went to that life
pub record SentIt (own : Own) (log : List Deed) (to : Life) (item : Item) (k : ℕ) : Type 0 where
  pub sent : Sent
  pub packet : Packet
  pub was_due : WasDueAt own (Sends sent packet) k log
  pub to_is : sent.to ≡ to
  pub is : Spelled packet ≡ item

-- a reply went to that life
pub record RepliedIt (own : Own) (log : List Deed) (to : Life) (item : Item) (k : ℕ) : Type 0 where
  pub reply : Reply
  pub was_due : WasDueAt own (Replies reply) k log
  pub owed : OwedIn own (heard_by own.limits.first log) reply log
  pub to_is : reply.to ≡ to
  pub is : reply.item ≡ item

-- a due item gives a packet of a send or a reply
by_due : (own : Own) (log : List Deed) (to : Life) (item : Item) (k : ℕ) (t : Due) → WasDueAt own t k log → due_going (Some t) ≡ Some (Goes to item)
    → SentIt own log to item k ⊎ RepliedIt own log to item k
unfolding due_going
by_due own log to item k (Sends s p) h g = inl (record { sent = s; packet = p; was_due = h; to_is = cc; is = cc })
by_due own log to item k (Replies r) h g = inr (record { reply = r; was_due = h; owed = was_due_owed own r k log h; to_is = cc; is = cc })

-- what went to a life was a packet of a send or a reply
pub went : (job : Job) (history : List Entry) (life' from : Life) (item : Item) (d : Datagram) (t : TakenDue job history life' from item d)
    → SentIt (own_of job from) (life_deeds job history from) life' item t.place ⊎ RepliedIt (own_of job from) (life_deeds job history from) life' item t.place
went job history life' from item d t = by_due (own_of job from) (life_deeds job history from) life' item t.place t.due' t.was_due t.gives
