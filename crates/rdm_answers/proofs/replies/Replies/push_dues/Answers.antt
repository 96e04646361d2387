use Rattle.rdm_answers.proofs.Received.{three_more}
use Rattle.rdm_answers.proofs.replies.Replies.push_dues.Goals as goal

pub returns-clause-owed : goal.returns-clause-owed
returns-clause-owed c own bytes_of =
    three_more own bytes_of c.args.to c.args.dues _ _ _ _ c.of_asks.result c.of_packet.result c.of_packet-2.result
    (c.push_or_give_back.ensures.owed own bytes_of) (c.push_or_give_back-2.ensures.owed own bytes_of) (c.push_or_give_back-3.ensures.owed own bytes_of)
    c.of_asks.ensures.answer c.of_packet.ensures.answer c.of_packet-2.ensures.answer
