use Rattle.std.proofs.Common.{◌≡◌, ◌<◌, ℕ, length, arith, refl, sym, ◌∙◌, subst}
use Rattle.rdm_world.proofs.Visiting.{no_visits, visits_make, round_makes}
use Rattle.rdm_world.proofs.world.World.round.Goals as goal

pub loop-rank-init : goal.loop-rank-init
loop-rank-init c = record { count = refl; visits = no_visits c.args.self.now }

pub loop-rank-preserved : goal.loop-rank-preserved
loop-rank-preserved c =
    let count : length c.args.self.now.ports ≡ c.len-count.result = rw (← c.self.view_is) (sym c.self.inside.ports.ok.0 ∙ sym c.len-count.ensures) in
    let within : c.loop-rank.rank < length c.args.self.now.ports = subst (λ (n : ℕ). c.loop-rank.rank < n) (sym count) c.loop-rank-test.true in
    record {
      count = c.in_ok-one.ensures.count ∙ c.loop-rank.invariant.count;
      visits = visits_make c.loop-rank.rank c.args.self.now c.loop-rank.self c.visit.new.self c.loop-rank.changed c.in_ok-one.one within c.loop-rank.invariant.visits c.in_ok-one.ensures.does;
    }

pub returns-clause-does : goal.returns-clause-does
returns-clause-does c =
    let count : length c.args.self.now.ports ≡ c.len-count.result = rw (← c.self.view_is) (sym c.self.inside.ports.ok.0 ∙ sym c.len-count.ensures) in
    let end : c.len-count.result ≡ c.loop-rank.rank = omega arith in
    round_makes c.loop-rank.rank c.args.self.now c.loop-rank.self c.loop-rank.changed (count ∙ end) c.loop-rank.invariant.visits
