use Rattle.std.proofs.Common.{ap}
use Rattle.rdm_sends.specs.Sending.{SendingView}
use Rattle.rdm_sends.proofs.Coming.{asks_in_room}
use Rattle.rdm_sends.proofs.tests.asks.Goals as goal

pub ask-requires-clause-may : goal.ask-requires-clause-may
ask-requires-clause-may c =
    (asks_in_room c.args.ask.now c.args.sending.now.protocol c.reserve_ask.new.self.protocol (c.may_ask.ensures.may.0 c.if-not-may_ask.false)
    (ap (λ (v : SendingView). v.protocol) c.in_ok-reserve_ask.ensures.ok)).0

pub ask-requires-clause-room : goal.ask-requires-clause-room
ask-requires-clause-room c =
    (asks_in_room c.args.ask.now c.args.sending.now.protocol c.reserve_ask.new.self.protocol (c.may_ask.ensures.may.0 c.if-not-may_ask.false)
    (ap (λ (v : SendingView). v.protocol) c.in_ok-reserve_ask.ensures.ok)).1
