use Rattle.std.proofs.Common.{arith, sym, ◌∙◌}
use Rattle.rdm_rx.proofs.Steps.{ask_gone}
use Rattle.rdm_rx.proofs.asks.Asks.step.Goals as goal

-- the ask lies within the message
pub overflow_add-self : goal.overflow_add-self
overflow_add-self c =
    let self = c.args.self.now in
    let a = ask_gone self.send_id self.recv_id self.ranges 0 self.at c.in-Some.ask (omega arith) (sym c.first.ensures ∙ c.in-Some.is) in
    let w = a.within in
    let f = self.few_bytes in
    omega (arith, w, f)

-- the others are left
pub returns-in-Some : goal.returns-in-Some
returns-in-Some c =
    let self = c.args.self.now in
    let a = ask_gone self.send_id self.recv_id self.ranges 0 self.at c.in-Some.ask (omega arith) (sym c.first.ensures ∙ c.in-Some.is) in
    sym a.others
