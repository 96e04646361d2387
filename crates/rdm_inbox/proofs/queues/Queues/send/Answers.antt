use Rattle.std.proofs.Common.{◌≡◌, ℕ, sym, ◌∙◌, subst, arith, MatchResult}
use Rattle.rdm_inbox.specs.Queues.{after_sent, after_found_full, WasFullAt}
use Rattle.rdm_inbox.proofs.Passing.{some_at, slice_get-name, same_some}
use Rattle.rdm_inbox.proofs.queues.Queues.send.Goals as goal

pub send-requires : goal.send-requires
send-requires g c =
    let o = c.requires.of in let low = c.requires.addressed.1 in let all = o.all in let s = some_at c.args.passes.now.senders c.args.d.dst.0 (omega arith) in
    let is = o.each c.args.d.dst.0 s.0 s.1 in
    (s.0, s.1, same_some s.0.table c.inbox.result.now.table (sym is.named ∙ slice_get-name c.args.self.now.tables c.args.d.dst.0 c.inbox.result.now c.inbox.ensures.at), is.from ∙ sym c.requires.addressed.0, is.to_port)

pub returns : goal.returns
returns g c = subst (λ (n : ℕ). MatchResult c.send.result (λ _. c.send.new.self ≡ after_sent c.args.passes.now c.args.d) (λ back. (back ≡ c.args.d) × (c.send.new.self ≡ after_found_full c.args.passes.now c.args.d.dst.0) × WasFullAt n c.args.passes.now c.args.d.dst.0)) c.inbox.ensures.places.0 c.send.ensures
