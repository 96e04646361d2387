use Rattle.std.proofs.Common.{◌≡◌, ◌+◌, ◌-◌, ℕ, suc, arith, refl, ◌∙◌, subst}
use Rattle.rdm_model.specs.Played.{rounds}
use Rattle.rdm_world.specs.Steps.{Reaches}
use Rattle.rdm_world.proofs.Settling.{Settling, settle_start, settle_next, settle_quiet, settle_all}
use Rattle.rdm_world.proofs.world.World.settle.Goals as goal

pub loop-round-init : goal.loop-round-init
loop-round-init c =
    let n : ℕ = c.round_budget-budget.result in
    let all : n ≡ n - 0 = omega arith in
    record { count = refl; rest = subst (λ (k : ℕ). Settling c.args.job.now k n c.args.self.now c.args.self.now) all (settle_start c.args.job.now n c.args.self.now) }

pub loop-round-preserved : goal.loop-round-preserved
loop-round-preserved c =
    let n : ℕ = c.round_budget-budget.result in
    let i : ℕ = c.loop-round._round in
    let more : n - i ≡ suc (n - (i + 1)) = omega arith in
    let rest : Settling c.args.job.now (suc (n - (i + 1))) n c.args.self.now c.loop-round.self =
    subst (λ (k : ℕ). Settling c.args.job.now k n c.args.self.now c.loop-round.self) more c.loop-round.invariant.rest in
    record {
      count = c.in_ok-changed.ensures.count ∙ c.loop-round.invariant.count;
      rest = settle_next c.args.job.now (n - (i + 1)) n c.args.self.now c.loop-round.self c.round.new.self c.in_ok-changed.changed rest c.in_ok-changed.ensures.does c.if-not-changed.false;
    }

pub returns-then-not-changed-clause-does : goal.returns-then-not-changed-clause-does
returns-then-not-changed-clause-does c =
    let n : ℕ = c.round_budget-budget.result in
    let i : ℕ = c.loop-round._round in
    let more : n - i ≡ suc (n - (i + 1)) = omega arith in
    let rest : Settling c.args.job.now (suc (n - (i + 1))) n c.args.self.now c.loop-round.self =
    subst (λ (k : ℕ). Settling c.args.job.now k n c.args.self.now c.loop-round.self) more c.loop-round.invariant.rest in
    let end = settle_quiet c.args.job.now (n - (i + 1)) n c.args.self.now c.loop-round.self c.round.new.self c.in_ok-changed.changed rest c.in_ok-changed.ensures.does c.if-not-changed.true in
    subst (λ (k : ℕ). Reaches c.args.job.now (rounds k c.args.job.now) c.args.self.now c.round.new.self) c.round_budget-budget.ensures end

pub returns-clause-does : goal.returns-clause-does
returns-clause-does c =
    let n : ℕ = c.round_budget-budget.result in
    let none : n - c.loop-round._round ≡ 0 = omega arith in
    let rest : Settling c.args.job.now 0 n c.args.self.now c.loop-round.self =
    subst (λ (k : ℕ). Settling c.args.job.now k n c.args.self.now c.loop-round.self) none c.loop-round.invariant.rest in
    subst (λ (k : ℕ). Reaches c.args.job.now (rounds k c.args.job.now) c.args.self.now c.loop-round.self) c.round_budget-budget.ensures (settle_all c.args.job.now n c.args.self.now c.loop-round.self rest)
