use Rattle.std.proofs.Common.{◌≡◌, ℕ, refl, ◌+◌, ◌≤◌, ◌<◌, Bool, arith, ap, sym, ◌∙◌, subst, Option, [], ◌∷◌, ◌++◌}
use Rattle.rdm_wire.specs.Accounts.{Account}
use Rattle.rdm_wire.specs.Flights.{InFlight, Fetches, Moves, IsEmptyAt}
use Rattle.rdm_port.proofs.Fetches.{HasFetched, HasTold, fetched_none, told_none, fetched_more, told_more, fetched_all, fetched_empty}
use Rattle.rdm_port.proofs.fetch.fetch_into.Goals as goal

pub loop-turn-init : goal.loop-turn-init
loop-turn-init g c = record {
  room = omega arith;
  serves = c.requires.serves;
  kept = (refl, refl);
  queues = (refl, refl);
  in_order = refl;
  fetched = (
    [],
    fetched_none (g.W.Wire.in_order c.args.wire.now) c.args.port.0 c.args.stash.now.list (g.W.Wire.held c.args.wire.now),
    told_none (g.W.Wire.ports c.args.wire.now) c.args.port.0 (g.W.Wire.account c.args.wire.now) (g.W.Wire.empties c.args.wire.now),
  );
}

pub loop-turn-preserved : goal.loop-turn-preserved
loop-turn-preserved g c =
    let o = c.loop-turn.invariant.in_order in
    let k = c.loop-turn.invariant.kept in
    let q = c.loop-turn.invariant.queues in
    let f = c.loop-turn.invariant.fetched in
    let e = c.fetch.ensures.kept in
    let m : Moves (Fetches (g.W.Wire.in_order c.args.wire.now) c.args.port.0 (c.in-Some.datagram ∷ [])) (g.W.Wire.held c.loop-turn.wire) (g.W.Wire.held c.fetch.new.self) =
    subst (λ (b : Bool). Moves (Fetches b c.args.port.0 (c.in-Some.datagram ∷ [])) (g.W.Wire.held c.loop-turn.wire) (g.W.Wire.held c.fetch.new.self)) o c.in-Some.ensures.held in
    let came : (c.in-Some.datagram.dst ≡ c.args.port) × (c.in-Some.datagram.src.0 < g.W.Wire.ports c.args.wire.now) =
    (c.in-Some.ensures.came.0, subst (λ (n : ℕ). c.in-Some.datagram.src.0 < n) k.0 c.in-Some.ensures.came.1) in
    let r : c.args.inbox ≤ c.loop-turn.stash.room + c.loop-turn._turn = c.loop-turn.invariant.room in
    let p : c.push.new.self.room + 1 ≡ c.loop-turn.stash.room = c.push.ensures.room in
    record {
      room = omega arith;
      serves = ap (λ f. f c.args.port.0) e.1 ∙ c.loop-turn.invariant.serves;
      kept = (e.0 ∙ k.0, e.1 ∙ k.1);
      queues = (e.2 ∙ q.0, c.fetch.ensures.counts.0 ∙ q.1);
      in_order = e.3 ∙ o;
      fetched = (
        f.0 ++ c.in-Some.datagram ∷ [],
        fetched_more _ _ c.loop-turn._turn f.0 _ _ _ c.in-Some.datagram _ _ _ f.1 c.push.ensures.list m,
        told_more (g.W.Wire.ports c.args.wire.now) c.args.port f.0 c.in-Some.datagram _ _ _ _ _ _ f.2 c.in-Some.ensures.account came c.in-Some.ensures.uncounted,
      );
    }

pub returns-in-None-clause-queues : goal.returns-in-None-clause-queues
returns-in-None-clause-queues g c =
    let q = c.loop-turn.invariant.queues in
    (c.fetch.ensures.kept.2 ∙ q.0, c.fetch.ensures.counts.0 ∙ q.1)

pub returns-in-None-clause-fetched : goal.returns-in-None-clause-fetched
returns-in-None-clause-fetched g c =
    let same = c.in-None.ensures.same in
    let w = c.loop-turn.invariant.fetched in
    fetched_empty _ (g.W.Wire.ports c.args.wire.now) _ c.loop-turn._turn c.args.inbox w.0 _ _ _ _ _ _ _ (g.W.Wire.empties c.loop-turn.wire) _
    (subst (λ (h : Option InFlight). HasFetched (g.W.Wire.in_order c.args.wire.now) c.args.port.0 c.loop-turn._turn w.0 c.args.stash.now.list c.loop-turn.stash.list (g.W.Wire.held c.args.wire.now) h) (sym same.1) w.1)
    (subst (λ (a : Option Account). HasTold (g.W.Wire.ports c.args.wire.now) c.args.port.0 w.0 (g.W.Wire.account c.args.wire.now) a (g.W.Wire.empties c.args.wire.now) (g.W.Wire.empties c.loop-turn.wire)) (sym same.0) w.2)
    (omega arith)
    (subst (IsEmptyAt c.args.port.0) (sym same.1) c.in-None.ensures.exact)
    c.in-None.ensures.none

pub returns-clause-fetched : goal.returns-clause-fetched
returns-clause-fetched g c =
    let w = c.loop-turn.invariant.fetched in
    fetched_all _ (g.W.Wire.ports c.args.wire.now) _ c.loop-turn._turn c.args.inbox w.0 _ _ _ _ _ _ _ _ w.1 w.2 (omega arith)
