use Rattle.std.proofs.Common.{sym, ◌∙◌}
use Rattle.rdm_answers.proofs.Firsts.{greeting_leads, grant_leads, end_leads, receipt_leads, given_leads, ask_leads, no_ask_leads}
use Rattle.rdm_answers.proofs.answer.first_of.Goals as goal
use Rattle.rdm_answers.proofs.answer.first_of.Goals.{in-Greeting+in_ok-from_slice-in-Greeting, in-Asks+in-Some, in-Grant, in-End, in-Receipt, in-Given}

pub returns-in-None : goal.returns-in-None
returns-in-None c = no_ask_leads c.args.own c.args.features c.args.owed.now c.in-Asks.asks c.in-Asks.is (sym c.in-None.is ∙ c.first.ensures)

pub returns : goal.returns
returns c =
    elim c.match-owed.branch [
      | in-Greeting+in_ok-from_slice-in-Greeting w ↦ rw w.item-is (greeting_leads c.args.own c.args.features c.args.owed.now w.in_ok-from_slice-in-Greeting.field-0 w.in-Greeting.raw w.in-Greeting.is w.in_ok-from_slice-in-Greeting.ensures)
      | in-Asks+in-Some w ↦ rw w.item-is (ask_leads c.args.own c.args.features c.args.owed.now w.in-Asks.asks w.in-Some.ask w.in-Asks.is (sym w.in-Some.is ∙ w.first.ensures))
      | in-Grant w ↦ rw w.item-is (grant_leads c.args.own c.args.features c.args.owed.now w.in-Grant.send_id w.in-Grant.recv_id w.in-Grant.size w.in-Grant.is)
      | in-End w ↦ rw w.item-is (end_leads c.args.own c.args.features c.args.owed.now w.in-End.send_id w.in-End.recv_id w.in-End.is)
      | in-Receipt w ↦ rw w.item-is (receipt_leads c.args.own c.args.features c.args.owed.now _ w.in-Receipt.is)
      | in-Given w ↦ rw w.item-is (given_leads c.args.own c.args.features c.args.owed.now _ w.in-Given.is)
    ]
