use Rattle.std.proofs.Common.{◌≡◌, ◌<◌, ◌+◌, List, [], length, drop, get_or, arith, refl, sym, ◌∙◌, subst}
use Rattle.std.proofs.lemmas.List.{drop_more, drop_all}
use Rattle.rdm_model.specs.declared.job.Choice.{Choice}
use Rattle.rdm_model.specs.declared.job.Choice.TheVariants as ChoiceKind
use Rattle.rdm_model.specs.Jobs.{choice_rank}
use Rattle.rdm_model.specs.Worlds.{after_choices}
use Rattle.rdm_world.specs.Shows.{AreOfRanks}
use Rattle.rdm_world.specs.Steps.{Reaches}
use Rattle.rdm_world.proofs.Playing.{Choosing, choose_start, choose_next, choose_all, choice_at}
use Rattle.rdm_world.proofs.world.World.choose.Goals as goal

pub loop-choice-init : goal.loop-choice-init
loop-choice-init c = record { count = refl; rest = choose_start c.args.job.now c.as_slice-choice-items.result.now c.args.self.now }

pub step-requires : goal.step-requires
step-requires c =
    let same = c.loop-choice.invariant.count in
    let ranks : AreOfRanks (length c.args.self.now.ports) c.as_slice-choice-items.result.now = subst (AreOfRanks (length c.args.self.now.ports)) (sym c.as_slice-choice-items.ensures) c.requires in
    let rank = choice_at (length c.args.self.now.ports) c.as_slice-choice-items.result.now c.loop-choice.choice-index (ChoiceKind.Next 0) ranks c.loop-choice-test.true in
    omega arith

pub returns-in_err-step-clause-count : goal.returns-in_err-step-clause-count
returns-in_err-step-clause-count c = c.in_err-step.ensures.count ∙ c.loop-choice.invariant.count

pub loop-choice-preserved : goal.loop-choice-preserved
loop-choice-preserved c =
    let items = c.as_slice-choice-items.result.now in
    let i = c.loop-choice.choice-index in
    let same = c.loop-choice.invariant.count in
    let ranks : AreOfRanks (length c.args.self.now.ports) items = subst (AreOfRanks (length c.args.self.now.ports)) (sym c.as_slice-choice-items.ensures) c.requires in
    let rank = choice_at (length c.args.self.now.ports) items i (ChoiceKind.Next 0) ranks c.loop-choice-test.true in
    let of_rank : choice_rank (get_or items i (ChoiceKind.Next 0)) < length c.loop-choice.self.ports = omega arith in
    let rest = subst (λ (cs : List Choice). Choosing c.args.job.now cs items c.args.self.now c.loop-choice.self) (drop_more items i (ChoiceKind.Next 0) c.loop-choice-test.true) c.loop-choice.invariant.rest in
    record {
      count = c.in_ok-step.ensures.count ∙ same;
      rest = choose_next c.args.job.now (get_or items i (ChoiceKind.Next 0)) (drop (i + 1) items) items c.args.self.now c.loop-choice.self c.step.new.self c.in_ok-step.field-0 of_rank rest c.in_ok-step.ensures.does;
    }

pub returns-clause-does : goal.returns-clause-does
returns-clause-does c =
    let items = c.as_slice-choice-items.result.now in
    let none : drop c.loop-choice.choice-index items ≡ [] = drop_all c.loop-choice.choice-index items c.loop-choice-test.false in
    let rest = subst (λ (cs : List Choice). Choosing c.args.job.now cs items c.args.self.now c.loop-choice.self) none c.loop-choice.invariant.rest in
    subst (λ (cs : List Choice). Reaches c.args.job.now (λ w. after_choices c.args.job.now w cs) c.args.self.now c.loop-choice.self) c.as_slice-choice-items.ensures
    (choose_all c.args.job.now items c.args.self.now c.loop-choice.self rest)

pub returns-clause-count : goal.returns-clause-count
returns-clause-count c = c.loop-choice.invariant.count
