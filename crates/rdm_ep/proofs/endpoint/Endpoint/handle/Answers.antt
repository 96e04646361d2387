use Rattle.std.proofs.Common.{sym, subst}
use Rattle.rdm_num.specs.Lives.{life}
use Rattle.rdm_model.specs.Deeds.{item_of}
use Rattle.rdm_ep.specs.declared.state.Verdict.{Verdict}
use Rattle.rdm_ep.specs.Verdicts.{IsFrom, VerdictAs}
use Rattle.rdm_ep.proofs.Decided.{verdict_handles, verdict_from}
use Rattle.rdm_ep.proofs.endpoint.Endpoint.handle.Goals as goal

pub follow-requires : goal.follow-requires
follow-requires c =
    subst (λ (w : Verdict). IsFrom (life c.args.d.now.src c.in-Between.from) w) (sym c.in-Ok.ensures)
    (verdict_from c.args.self.now (life c.args.d.now.src c.in-Between.from) c.in-Between.to (item_of c.in-Between.load))

pub returns : goal.returns
returns c =
    verdict_handles c.args.self.now _ c.args.d.now c.in-Between.from c.in-Between.to c.in-Between.load c.follow.result c.in-Between.is
    (subst (λ (w : Verdict). VerdictAs c.args.self.now c.follow.new.self (life c.args.d.now.src c.in-Between.from) w c.follow.result) c.in-Ok.ensures c.follow.ensures)
