use Rattle.std.proofs.Common.{◌≡◌, ℕ, length, ◌∙◌}
use Rattle.rdm_world.proofs.Visiting.{visit_makes}
use Rattle.rdm_world.proofs.world.World.visit.Goals as goal

pub returns-clause-does : goal.returns-clause-does
returns-clause-does c =
    let n : ℕ = length c.args.self.now.ports in
    let eb : length c.next.new.self.ports ≡ n = c.in_ok-did.ensures.count in
    let ec : length c.push.new.self.ports ≡ n = c.in_ok-pushed.ensures.count ∙ eb in
    let ed : length c.handle_any.new.self.ports ≡ n = c.in_ok-handled.ensures.count ∙ ec in
    visit_makes c.args.rank c.args.self.now c.next.new.self c.push.new.self c.handle_any.new.self c.poll-polled.new.self c.in_ok-did.did c.in_ok-pushed.pushed c.in_ok-handled.handled
    c.poll-polled.result c.requires eb ec ed c.in_ok-did.ensures.does c.in_ok-pushed.ensures.does c.in_ok-handled.ensures.does c.poll-polled.ensures.does
