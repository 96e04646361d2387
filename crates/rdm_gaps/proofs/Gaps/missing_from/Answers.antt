use Rattle.std.proofs.Common.{◌-◌, sym, ap, subst, ◌∙◌}
use Rattle.std.specs.List.{All}
use Rattle.rdm_gaps.specs.declared.ranges.Gap.{Gap}
use Rattle.rdm_gaps.specs.Places.{Missing, missing_from}
use Rattle.rdm_gaps.specs.Ranges.{Misses}
use Rattle.rdm_gaps.proofs.Answered.{found}
use Rattle.rdm_gaps.proofs.Runs.{run_missed_all, run_had}
use Rattle.rdm_gaps.proofs.Gaps.missing_from.Goals as goal

pub returns-in-Some : goal.returns-in-Some
returns-in-Some c =
    let f = found c.args.at c.in-Some.i c.index.result.now _ c.self.inside.gaps.items c.deref.ensures.value c.in-Some.ensures c.index.ensures in
    ap (λ (g : Gap). g.end - c.args.at) (sym f.same)
    ∙ sym (run_had c.self.inside.size c.args.at c.in-Some.i c.self.inside.gaps.items c.self.invariant.apart f.below f.has)
    ∙ ap (λ (m : Missing). missing_from m c.args.at) c.self.view_is

pub returns-in-None : goal.returns-in-None
returns-in-None c =
    sym (run_missed_all c.self.inside.size c.args.at c.self.inside.gaps.items c.self.invariant.apart (subst (All (Misses c.args.at)) c.deref.ensures.value c.in-None.ensures))
    ∙ ap (λ (m : Missing). missing_from m c.args.at) c.self.view_is
