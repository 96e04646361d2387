use Rattle.rdm_sends.proofs.Coming.{asked_whole}
use Rattle.rdm_sends.proofs.protocol.Protocol.ask.Goals as goal

pub returns-in-Read-clause-whole : goal.returns-in-Read-clause-whole
returns-in-Read-clause-whole c = λ total.
    asked_whole c.args.ask.now c.in-Read.asked c.ask_reserved.new.self c.args.self.now total c.ask_reserved.ensures c.in-Read.is c.requires.may
