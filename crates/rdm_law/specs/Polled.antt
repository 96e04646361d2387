-- What a receive that was polled completed with.
use Rattle.std.specs.Prelude.{◌≡◌, ℕ, ◌-◌, ◌⊎◌, IsTrue, List, ◌∷◌, ◌++◌, length, take, Option, Some}
use Rattle.rdm_lists.specs.Lists.{Member}
use Rattle.rdm_num.specs.Lives.{life}
use Rattle.rdm_num.specs.declared.numbers.PortNo.{PortNo}
use Rattle.rdm_num.specs.declared.numbers.Connid.{Connid}
use Rattle.rdm_num.specs.declared.numbers.Life.{Life}
use Rattle.rdm_num.specs.declared.numbers.RecvNo.{RecvNo}
use Rattle.rdm_num.specs.declared.completion.Completion.TheVariants.{Recv}
use Rattle.rdm_num.specs.declared.completion.Outcome.{Outcome}
use Rattle.rdm_num.specs.declared.completion.Outcome.TheVariants.{Took, Cancelled, Gone}
use Rattle.rdm_match.specs.declared.Arrived.{Arrived}
use Rattle.rdm_match.specs.Matcher.{accepts}
use Rattle.rdm_model.specs.declared.job.Job.{Job}
use Rattle.rdm_model.specs.declared.job.Instr.TheVariants.{Cancel}
use Rattle.rdm_model.specs.declared.entry.Entry.{Entry}
use Rattle.rdm_model.specs.declared.entry.Act.TheVariants.{Poll}
use Rattle.rdm_model.specs.Deeds.{Did, open_life}
use Rattle.rdm_model.specs.Currents.{is_forgotten}
use Rattle.rdm_model.specs.Matches.{Receive, receives}
use Rattle.rdm_model.specs.Receives.{receive_numbered}
use Rattle.rdm_model.specs.Sends.{Sent, sends_to}
use Rattle.rdm_model.specs.Lawful.{port_deeds, life_deeds, sends_in}
use Rattle.rdm_law.specs.Matched.{arrived_of, plain_pairs}

-- a receive of that capacity took the message of a send to that port: its tag, its CQ data, and its first bytes that fit
pub record TookOf (job : Job) (history : List Entry) (port : ℕ) (from : Life) (tag cq_data : Option ℕ) (bytes : List ℕ) (excess : ℕ) : Type 0 where
  pub send : Sent
  pub capacity : ℕ
  pub sent : Member send (sends_in job history from)
  pub to_port : send.to.port.0 ≡ port
  pub tag_is : send.message.tag ≡ tag
  pub cq_data_is : send.message.opt.cq_data ≡ cq_data
  pub bytes_are : bytes ≡ take capacity send.message.bytes
  pub excess_is : excess ≡ length send.message.bytes - capacity

-- each receive that completed has what was sent, or its first bytes and the count of the others
abbrev pub PolledWasSent : Job → List Entry → Type 0
PolledWasSent job history =
    (e : Entry) (recv : RecvNo) (from : Life) (tag cq_data : Option ℕ) (bytes : List ℕ) (excess : ℕ)
    → Member e history
    → e.act ≡ Poll (Recv recv (Took from tag cq_data bytes excess))
    → TookOf job history e.port.0 from tag cq_data bytes excess

-- the plain matcher matched the receive of life i to that message
abbrev pub IsMatched : Job → List Entry → Life → Receive → Arrived → Type 0
IsMatched job history i r message = Member (record { recv = r.posted; message = message }) (plain_pairs job history i)

-- a receive of life i took a message of a send to that very life: the one that the plain matcher matched it to, with a tag that it accepts;
-- it has the first bytes that fit into what it asked for, and counts the others
pub record TookMatched (job : Job) (history : List Entry) (i : Life) (r : Receive) (from : Life) (tag cq_data : Option ℕ) (bytes : List ℕ) (excess : ℕ) : Type 0 where
  pub send : Sent
  pub sent : Member send (sends_to (sends_in job history from) i)
  pub matched : IsMatched job history i r (arrived_of from send)
  pub accepted : IsTrue (accepts r.posted (arrived_of from send))
  pub tag_is : tag ≡ send.message.tag
  pub cq_data_is : cq_data ≡ send.message.opt.cq_data
  pub bytes_are : bytes ≡ take r.req.len send.message.bytes
  pub excess_is : excess ≡ length send.message.bytes - r.req.len

-- the life was forgotten, and the receive named it or was matched to a message of it
pub record LostLife (job : Job) (history : List Entry) (i : Life) (r : Receive) : Type 0 where
  pub lost : Life
  pub forgotten : IsTrue (is_forgotten (life_deeds job history i) lost)
  pub concerned : (r.posted.from ≡ Some lost) ⊎ ((message : Arrived) × IsMatched job history i r message × (message.life ≡ lost))

-- how a receive of life i may have ended: with its message; cancelled, by an instruction that did; or gone with a life. There is no other way
abbrev pub EndedAs : Job → List Entry → Life → Receive → Outcome → Type 0
EndedAs job history i r (Took from tag cq_data bytes excess) = TookMatched job history i r from tag cq_data bytes excess
EndedAs job history i r Cancelled = Member (Did (Cancel (record { 0 = r.number }))) (life_deeds job history i)
EndedAs job history i r Gone = LostLife job history i r

-- a polled completion names a receive of the life that its port has open, by its number in that life, and says how that receive ended
pub record PolledOf (job : Job) (history : List Entry) (port : PortNo) (recv : RecvNo) (outcome : Outcome) : Type 0 where
  pub connid : Connid
  pub is_open : open_life (port_deeds job port.0 history) ≡ Some connid
  pub receive : Receive
  pub is_receive : receive_numbered (receives (life_deeds job history (life port connid))) recv.0 ≡ Some receive
  pub ended : EndedAs job history (life port connid) receive outcome

-- each polled receive ended as was polled, by what stood before the poll
abbrev pub PolledAsEnded : Job → List Entry → Type 0
PolledAsEnded job history =
    (newer : List Entry) (e : Entry) (before : List Entry) (recv : RecvNo) (outcome : Outcome)
    → history ≡ newer ++ e ∷ before
    → e.act ≡ Poll (Recv recv outcome)
    → PolledOf job before e.port recv outcome

-- no receive of a life is polled twice
abbrev pub PolledOnce : Job → List Entry → Type 0
PolledOnce job history =
    (newer : List Entry) (e : Entry) (between : List Entry) (f : Entry) (before : List Entry) (recv : RecvNo) (later earlier : Outcome)
    → history ≡ newer ++ e ∷ (between ++ f ∷ before)
    → e.port ≡ f.port
    → open_life (port_deeds job e.port.0 (between ++ f ∷ before)) ≡ open_life (port_deeds job f.port.0 before)
    → e.act ≡ Poll (Recv recv later)
    → f.act ≡ Poll (Recv recv earlier)
    → ⊥

-- the entry polls a receive of the life with that identifier, which is open, and the receive was matched to that message
pub record PollsMatched (job : Job) (before : List Entry) (e : Entry) (connid : Connid) (message : Arrived) : Type 0 where
  pub recv : RecvNo
  pub outcome : Outcome
  pub act_is : e.act ≡ Poll (Recv recv outcome)
  pub is_open : open_life (port_deeds job e.port.0 before) ≡ Some connid
  pub receive : Receive
  pub is_receive : receive_numbered (receives (life_deeds job before (life e.port connid))) recv.0 ≡ Some receive
  pub matched : IsMatched job before (life e.port connid) receive message

-- no message that came to a life is polled twice
abbrev pub MessagePolledOnce : Job → List Entry → Type 0
MessagePolledOnce job history =
    (newer : List Entry) (e : Entry) (between : List Entry) (f : Entry) (before : List Entry) (connid : Connid) (message : Arrived)
    → history ≡ newer ++ e ∷ (between ++ f ∷ before)
    → e.port ≡ f.port
    → PollsMatched job (between ++ f ∷ before) e connid message
    → PollsMatched job before f connid message
    → ⊥
