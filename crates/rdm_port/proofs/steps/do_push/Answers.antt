use Rattle.std.proofs.Common.{rules, option_map, ◌≡◌, ◌<◌, ◌≤◌, ◌+◌, ◌-◌, Some, sym, subst, ap, ◌∙◌, refl, arith}
use Rattle.rdm_port.specs.Kept.{Kept, IsKept, places_of}
use Rattle.rdm_wire.specs.declared.Datagram.{Datagram}
use Rattle.rdm_wire.specs.Accounts.{after_push}
use Rattle.rdm_port.specs.Machine.{departing, after_went}
use Rattle.rdm_port.specs.contracts.kept.State.{the_view}
use Rattle.rdm_port.proofs.PushDoes.{push_idle, push_worn, push_full}
use Rattle.rdm_port.proofs.Rooms.{went_places, went_done, room_left}
use Rattle.rdm_port.proofs.StepEnds.{next_stamp, push_stays, pushed_view, push_ends}
use Rattle.rdm_port.proofs.Moves.{logs_one}
use Rattle.rdm_port.proofs.steps.do_push.Goals as goal

pub returns-in_default-departing-clause-does : goal.returns-in_default-departing-clause-does
returns-in_default-departing-clause-does g c v number log kept =
    push_stays v _ _ _ log kept (push_idle v _ kept (sym c.in-Ok.ensures ∙ c.in_default-departing.is))

pub returns-then-state-ge-STAMP_MAX-clause-does : goal.returns-then-state-ge-STAMP_MAX-clause-does
returns-then-state-ge-STAMP_MAX-clause-does g c v number log kept =
    let clock = ap (λ (k : Kept). k.clock) c.state.view_is in
    let late = c.if-state-ge-STAMP_MAX.true in
    push_stays v _ _ _ log kept (push_worn v _ c.in-Some.departure kept (sym c.in-Ok.ensures ∙ c.in-Some.is) (omega arith))

pub returns-in_default-push-clause-does : goal.returns-in_default-push-clause-does
returns-in_default-push-clause-does g c v number log kept =
    let clock = ap (λ (k : Kept). k.clock) c.state.view_is in
    let early = c.if-state-ge-STAMP_MAX.false in
    push_stays v _ _ _ (log ∙ sym c.in-Ok-reserve.ensures.list) kept (push_full v _ c.in-Some.departure kept (sym c.in-Ok.ensures ∙ c.in-Some.is) (omega arith))

pub returns-clause-does : goal.returns-clause-does
returns-clause-does g c v number log kept =
    let k : Kept = the_view c.state.inside in
    let o = c.in-Some.departure in
    let now = c.state.view_is in
    let own : IsKept v k = subst (IsKept v) (sym now) kept in
    let goes : departing k ≡ Some o = ap departing now ∙ sym c.in-Ok.ensures ∙ c.in-Some.is in
    let fits : k.clock < 9223372036854775807 = c.if-state-ge-STAMP_MAX.false in
    let stamp = c.saturating_add.result in
    let next : stamp ≡ k.clock + 1 = next_stamp stamp k.clock k.clock c.saturating_add.ensures refl fits in
    let copy : c.in-Ok-clone.copy ≡ record { src = c.args.number; number = record { 0 = k.pushed }; stamp = record { 0 = stamp }; dst = o.dst; body = o.body } = (let cases = c.in-Ok-clone.ensures.cases in search rules) in
    let after : the_view c.state-2.inside ≡ after_went o.body k =
    c.state-2.view_is ∙ c.went.ensures ∙ ap (λ (d : Datagram). after_went d.body c.args.state.now) copy ∙ ap (after_went o.body) (sym now) in
    push_ends v k _ o c.args.number stamp c.in-Ok-clone.copy c.reserve.new.self.list c.push-2.new.self.list
    number (log ∙ sym c.in-Ok-reserve.ensures.list) own goes fits next copy c.push-2.ensures.list
    (pushed_view (the_view c.state-2.inside) k o.body stamp c.saturating_add-state-inside.result after next c.saturating_add-state-inside.ensures own.few_pushed fits)

pub returns-clause-room : goal.returns-clause-room
returns-clause-room g c had =
    let k : Kept = c.args.state.now in
    let after : the_view c.state-2.inside ≡ after_went c.in-Ok-clone.copy.body k = c.state-2.view_is ∙ c.went.ensures in
    let same : places_of c.state-2.inside.endpoint ≡ places_of k.endpoint = ap (λ (x : Kept). places_of x.endpoint) after ∙ went_places c.in-Ok-clone.copy.body k in
    let done : c.state-2.inside.done ≡ k.done = ap (λ (x : Kept). x.done) after ∙ went_done c.in-Ok-clone.copy.body k in
    let places : c.in-Some-entries_and_one.places ≡ places_of k.endpoint + (c.args.all - k.done) + 1 = c.in-Some-entries_and_one.ensures in
    let room : c.in-Some-entries_and_one.places ≤ c.reserve.new.self.room = c.in-Ok-reserve.ensures.ok in
    let left : c.push-2.new.self.room + 1 ≡ c.reserve.new.self.room = c.push-2.ensures.room in
    room_left c.args.all (places_of k.endpoint) (places_of c.state-2.inside.endpoint) k.done c.state-2.inside.done c.reserve.new.self.room c.push-2.new.self.room same done (omega arith) left

pub returns-in_default-push-clause-queues : goal.returns-in_default-push-clause-queues
returns-in_default-push-clause-queues g c = (c.push.ensures.kept.2, c.push.ensures.counts.1)

pub returns-in_default-push-clause-moves : goal.returns-in_default-push-clause-moves
returns-in_default-push-clause-moves g c = (c.in-Ok-reserve.ensures.list, c.in_default-push.ensures.same.0)

pub returns-clause-queues : goal.returns-clause-queues
returns-clause-queues g c = (c.push.ensures.kept.2, c.push.ensures.counts.1)

pub returns-clause-moves : goal.returns-clause-moves
returns-clause-moves g c =
    let k : Kept = the_view c.state.inside in
    let o = c.in-Some.departure in
    let d : Datagram = record { src = c.args.number; number = record { 0 = k.pushed }; stamp = record { 0 = c.saturating_add.result }; dst = o.dst; body = o.body } in
    let copy : c.in-Ok-clone.copy ≡ d = (let cases = c.in-Ok-clone.ensures.cases in search rules) in (
      c.in-Ok-clone.copy,
      logs_one _ c.args.log.now.list c.reserve.new.self.list c.push-2.new.self.list c.in-Ok-reserve.ensures.list c.push-2.ensures.list,
      subst (λ (x : Datagram). g.W.Wire.account c.push.new.self ≡ option_map (after_push x) (g.W.Wire.account c.args.wire.now)) (sym copy) c.in-Ok-push.ensures.account,
    )
