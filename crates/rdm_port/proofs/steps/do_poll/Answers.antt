use Rattle.std.proofs.Common.{◌<◌, inl, refl, sym, ap, ◌∙◌, arith}
use Rattle.rdm_port.specs.Kept.{Kept, places_of}
use Rattle.rdm_port.specs.contracts.kept.State.{the_view}
use Rattle.rdm_port.proofs.Polled.{poll_none, poll_worn}
use Rattle.rdm_port.proofs.Rooms.{polled_places}
use Rattle.rdm_port.proofs.StepEnds.{next_stamp, poll_stays, none_waits, one_waits, polled_view, poll_ends}
use Rattle.rdm_port.proofs.Moves.{logs_none}
use Rattle.rdm_port.proofs.steps.do_poll.Goals as goal

pub returns-then-not-has_completion-clause-does : goal.returns-then-not-has_completion-clause-does
returns-then-not-has_completion-clause-does c v number log kept =
    poll_stays v _ _ _ log kept (poll_none v _ kept (none_waits _ (sym c.if-not-has_completion.ensures.waits)))

pub returns-then-state-ge-STAMP_MAX-clause-does : goal.returns-then-state-ge-STAMP_MAX-clause-does
returns-then-state-ge-STAMP_MAX-clause-does c v number log kept =
    let one = one_waits _ (sym c.if-not-has_completion.ensures.waits) in
    let clock = ap (λ (k : Kept). k.clock) c.state.view_is in
    let late = c.if-state-ge-STAMP_MAX.true in
    poll_stays v _ _ _ log kept (poll_worn v _ one.0 kept one.1 (omega arith))

pub returns-clause-does : goal.returns-clause-does
returns-clause-does c v number log kept =
    let k = c.args.state.now in
    let clock = ap (λ (k : Kept). k.clock) c.state.view_is in
    let early = c.if-state-ge-STAMP_MAX.false in
    let fits : k.clock < 9223372036854775807 = omega arith in
    let after = c.state-2.view_is ∙ c.poll.ensures.after in
    let stamp = next_stamp c.saturating_add.result c.state-2.inside.clock k.clock c.saturating_add.ensures (ap (λ (k : Kept). k.clock) after) fits in
    poll_ends v k _ c.in-Some.twin c.into_both-completion.result.0 c.into_both-completion.result.1 c.args.number c.saturating_add.result c.args.log.now.list c.push.new.self.list
    number log kept (sym c.in-Some.ensures.completion) c.into_both-completion.ensures.0 c.into_both-completion.ensures.1 fits stamp c.push.ensures.list
    (polled_view (the_view c.state-2.inside) k c.saturating_add.result after stamp)

pub returns-clause-room : goal.returns-clause-room
returns-clause-room c = λ all had.
    let after = ap (λ (k : Kept). places_of k.endpoint) (c.state-2.view_is ∙ c.poll.ensures.after) in
    let done = ap (λ (k : Kept). k.done) (c.state-2.view_is ∙ c.poll.ensures.after) in
    let less = polled_places c.args.state.now.endpoint c.in-Some.twin (sym c.in-Some.ensures.completion) in
    let some = c.if-not-has_completion.ensures.place refl in
    let left = c.push.ensures.room in
    omega arith

pub returns-then-not-has_completion-clause-moves : goal.returns-then-not-has_completion-clause-moves
returns-then-not-has_completion-clause-moves c = inl refl

pub returns-then-state-ge-STAMP_MAX-clause-moves : goal.returns-then-state-ge-STAMP_MAX-clause-moves
returns-then-state-ge-STAMP_MAX-clause-moves c = inl refl

pub returns-clause-moves : goal.returns-clause-moves
returns-clause-moves c = logs_none _ c.args.log.now.list c.args.log.now.list c.push.new.self.list refl c.push.ensures.list tt
