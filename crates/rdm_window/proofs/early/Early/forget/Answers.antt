use Rattle.std.proofs.Common.{◌∙◌, ap, sym}
use Rattle.rdm_window.specs.Early.{Held, without_life}
use Rattle.rdm_window.proofs.Forgotten.{one_forgotten, fewer_held}
use Rattle.rdm_window.proofs.early.Early.forget.Goals as goal

pub loop-no-smaller-in-Some : goal.loop-no-smaller-in-Some
loop-no-smaller-in-Some c = rw c.take.ensures.after (fewer_held c.loop-no.self c.args.life c.in-Some.no c.in-Some.ensures)

pub loop-no-preserved-in-Some : goal.loop-no-preserved-in-Some
loop-no-preserved-in-Some c =
    ap (λ (h : Held). without_life h c.args.life) c.take.ensures.after
    ∙ one_forgotten c.loop-no.self c.args.life c.in-Some.no
    ∙ c.loop-no.invariant

pub returns : goal.returns
returns c = sym c.in_default.ensures ∙ c.loop-no.invariant
