-- When a send that asks for a receipt completes.
use Rattle.std.specs.Prelude.{◌≡◌, IsTrue, false, List, ◌∷◌, ◌++◌, Some}
use Rattle.rdm_lists.specs.Lists.{Member}
use Rattle.rdm_num.specs.Lives.{life}
use Rattle.rdm_num.specs.declared.numbers.Connid.{Connid}
use Rattle.rdm_num.specs.declared.numbers.SendNo.{SendNo}
use Rattle.rdm_num.specs.declared.completion.Completion.TheVariants.{Send}
use Rattle.rdm_model.specs.declared.job.Job.{Job}
use Rattle.rdm_model.specs.declared.entry.Entry.{Entry}
use Rattle.rdm_model.specs.declared.entry.Act.TheVariants.{Poll}
use Rattle.rdm_model.specs.Deeds.{deed_of, open_life}
use Rattle.rdm_model.specs.Beginnings.{rank_of}
use Rattle.rdm_model.specs.Sends.{Sent}
use Rattle.rdm_model.specs.Lawful.{Confirms, IsReceived, port_deeds, sends_in, sent_scene}

-- each send that asked for a receipt and completes, but for one whose life is forgotten, completes after a receive of the life that
-- it went to took its message
abbrev pub ConfirmedAfterReceived : Job → List Entry → Type 0
ConfirmedAfterReceived job history =
    (newer : List Entry) (e : Entry) (before : List Entry)
    → history ≡ newer ++ e ∷ before
    → Confirms job before (sent_scene job e.port.0 before) (deed_of (rank_of job e.port.0).ops e.act)

-- so where the send of that number, of the life that its port has open, was polled as done and asked for a receipt, a receive of the
-- life that it went to took its message before
abbrev pub ConfirmedWhenPolled : Job → List Entry → Type 0
ConfirmedWhenPolled job history =
    (newer : List Entry) (e : Entry) (before : List Entry) (send : SendNo) (connid : Connid) (t : Sent)
    → history ≡ newer ++ e ∷ before
    → e.act ≡ Poll (Send send false)
    → open_life (port_deeds job e.port.0 before) ≡ Some connid
    → Member t (sends_in job before (life e.port connid))
    → t.number ≡ send.0
    → IsTrue t.message.confirm
    → IsReceived job before t.to (life e.port connid) t.message.no
