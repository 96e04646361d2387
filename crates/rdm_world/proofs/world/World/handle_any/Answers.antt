use Rattle.std.proofs.Common.{◌≡◌, ◌⊎◌, ◌+◌, ◌<◌, ◌≤◌, ℕ, length, true, arith, refl, inl, inr, sym, ◌∙◌, subst}
use Rattle.rdm_world.proofs.Trying.{tries_start, tries_next, tries_end, waits_in}
use Rattle.rdm_world.proofs.world.World.handle_any.Goals as goal
use Rattle.rdm_world.proofs.world.World.handle_any.Goals.{then-handling-via-then-handling, then-handling-via-else-handling+then-waiting-pick}

pub loop-pick-init : goal.loop-pick-init
loop-pick-init c = record { count = refl; some = omega arith; small = omega arith; tries = tries_start c.args.rank c.args.self.now }

pub loop-pick-preserved : goal.loop-pick-preserved
loop-pick-preserved c =
    let count = c.in_ok-handling.ensures.count ∙ c.loop-pick.invariant.count in
    let inside : c.args.rank < length c.self.inside.ports.items = rw (← c.self.view_is) at (subst (λ (n : ℕ). c.args.rank < n) (sym count) c.requires) in
    record {
      count = count;
      some = c.if-waiting-pick.false;
      small = c.waiting-waiting.type_inv;
      tries = tries_next c.args.rank c.loop-pick.pick c.args.self.now c.loop-pick.self c.handle.new.self c.loop-pick.changed c.in_ok-handling.handling c.waiting-waiting.result c.requires
          c.loop-pick.invariant.tries c.in_ok-handling.ensures.does
          (rw (← c.self.view_is) (waits_in (record { ports = c.self.inside.ports.items; wire = c.self.inside.wire }) c.args.rank c.index.result.now c.waiting-waiting.result inside c.index.ensures c.waiting-waiting.ensures))
          c.if-handling.false c.if-waiting-pick.false;
    }

pub returns-then-handling-clause-does : goal.returns-then-handling-clause-does
returns-then-handling-clause-does c =
    let count = c.in_ok-handling.ensures.count ∙ c.loop-pick.invariant.count in
    let inside : c.args.rank < length c.self.inside.ports.items = rw (← c.self.view_is) at (subst (λ (n : ℕ). c.args.rank < n) (sym count) c.requires) in
    let last : (c.in_ok-handling.handling.made ≡ true) ⊎ (c.waiting-waiting.result ≤ c.loop-pick.pick + 1) =
    elim c.then-handling.branch [
      | then-handling-via-then-handling w ↦ inl w.if-handling.true
      | then-handling-via-else-handling+then-waiting-pick w ↦ inr w.if-waiting-pick.true
    ] in
    tries_end c.args.rank c.loop-pick.pick c.args.self.now c.loop-pick.self c.handle.new.self c.loop-pick.changed c.in_ok-handling.handling c.waiting-waiting.result c.requires
    c.loop-pick.invariant.tries c.in_ok-handling.ensures.does
    (rw (← c.self.view_is) (waits_in (record { ports = c.self.inside.ports.items; wire = c.self.inside.wire }) c.args.rank c.index.result.now c.waiting-waiting.result inside c.index.ensures c.waiting-waiting.ensures))
    last

pub returns-clause-does : goal.returns-clause-does
returns-clause-does c = absurd (omega arith)
