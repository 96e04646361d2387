use Rattle.std.proofs.Common.{◌≡◌, refl, sym, ◌∙◌, ap, arith, subst}
use Rattle.std.specs.Prelude.{◌%◌}
use Rattle.rdm_port.specs.Kept.{Kept, places_of}
use Rattle.rdm_port.proofs.HandleDoes.{handle_wants, handle_empty, handle_early, handle_worn}
use Rattle.rdm_port.proofs.HandleEnds.{as_it_stands, empty_is, place_is, found, end_stays, end_goes, KeepsTo}
use Rattle.rdm_port.proofs.Moves.{logs_one, stay_moves, go_moves}
use Rattle.rdm_port.proofs.steps.do_handle.Goals as goal

pub returns-then-count-eq0-clause-does : goal.returns-then-count-eq0-clause-does
returns-then-count-eq0-clause-does c = λ v n l s h.
    as_it_stands v c.args.state.now _ _ c.args.pick _ l s h (handle_empty v c.args.pick (s ∙ empty_is c.args.stash.now.list (sym c.len-count.ensures ∙ c.if-count-eq0.true)))

pub returns-in_default-clause-does : goal.returns-in_default-clause-does
returns-in_default-clause-does c = λ v n l s h. as_it_stands v c.args.state.now _ _ c.args.pick _ l s h (handle_wants v c.args.pick)

pub returns-in_default-reserve-clause-does : goal.returns-in_default-reserve-clause-does
returns-in_default-reserve-clause-does c = λ v n l s h.
    as_it_stands v c.args.state.now _ _ c.args.pick _ (l ∙ sym c.reserve.ensures.list) s h (handle_wants v c.args.pick)

pub returns-in-Ok-true-clause-does : goal.returns-in-Ok-true-clause-does
returns-in-Ok-true-clause-does c = λ v n l s h.
    let q = found v c.args.stash.now.list c.as_slice.result.now c.args.pick c.len-count.result c.index-as_slice-at.result s c.as_slice.ensures c.len-count.ensures c.if-count-eq0.false c.index-as_slice-at.is in
    as_it_stands v c.args.state.now _ _ c.args.pick _ (l ∙ sym c.reserve.ensures.list) s h
    (handle_early v c.args.state.now c.args.pick c.index-as_slice-at.result h q (sym c.in-Ok-true.ensures ∙ c.in-Ok-true.field-0-test))

pub returns-in-Ok-false-clause-does : goal.returns-in-Ok-false-clause-does
returns-in-Ok-false-clause-does c = λ v n l s h.
    let q = found v c.args.stash.now.list c.as_slice.result.now c.args.pick c.len-count.result c.index-as_slice-at.result s c.as_slice.ensures c.len-count.ensures c.if-count-eq0.false c.index-as_slice-at.is in
    let k : c.state.inside.clock ≡ c.args.state.now.clock = ap (λ (x : Kept). x.clock) c.state.view_is in
    let m = c.max-late.ensures in
    let w = c.if-late-ge-STAMP_MAX.true in
    as_it_stands v c.args.state.now _ _ c.args.pick _ (l ∙ sym c.reserve.ensures.list) s h
    (handle_worn v c.args.state.now c.args.pick c.index-as_slice-at.result h q (sym c.in-Ok-false.ensures ∙ c.in-Ok-false.field-0-test) (omega arith))

pub returns-in-Err-clause-does : goal.returns-in-Err-clause-does
returns-in-Err-clause-does c = λ v n l s h.
    as_it_stands v c.args.state.now _ _ c.args.pick _ (l ∙ sym c.reserve.ensures.list) s h (handle_wants v c.args.pick)

pub returns-then-not-is_handling-clause-does : goal.returns-then-not-is_handling-clause-does
returns-then-not-is_handling-clause-does c = λ v n l s h.
    let q = found v c.args.stash.now.list c.as_slice.result.now c.args.pick c.len-count.result c.index-as_slice-at.result s c.as_slice.ensures c.len-count.ensures c.if-count-eq0.false c.index-as_slice-at.is in
    let k : c.state.inside.clock ≡ c.args.state.now.clock = ap (λ (x : Kept). x.clock) c.state.view_is in
    let m = c.max-late.ensures in
    let w = c.if-late-ge-STAMP_MAX.false in
    end_stays v c.args.state.now c.handle-answer.new.self _ _ c.args.pick c.index-as_slice-at.result c.handle-answer.result (l ∙ sym c.reserve.ensures.list) s h q (omega arith)
    c.handle-answer.ensures.handles (sym c.is_handling.ensures ∙ c.if-not-is_handling.true)

pub returns-then-not-is_handling-clause-room : goal.returns-then-not-is_handling-clause-room
returns-then-not-is_handling-clause-room c = λ h. let p = c.handle-answer.ensures.places in let d = c.handle-answer.ensures.done in let r = c.reserve.ensures.kept in omega arith

pub returns-clause-does : goal.returns-clause-does
returns-clause-does c = λ v n l s h.
    let q = found v c.args.stash.now.list c.as_slice.result.now c.args.pick c.len-count.result c.index-as_slice-at.result s c.as_slice.ensures c.len-count.ensures c.if-count-eq0.false c.index-as_slice-at.is in
    let k : c.state.inside.clock ≡ c.args.state.now.clock = ap (λ (x : Kept). x.clock) c.state.view_is in
    let m = c.max-late.ensures in
    let w = c.if-late-ge-STAMP_MAX.false in
    let x = c.saturating_add.ensures in
    subst (λ (y : Kept). KeepsTo v (record y { clock = c.saturating_add.result }) c.push.new.self.list c.remove-datagram.new.self.list c.args.pick c.handle-answer.result) (sym c.state-2.view_is)
    (end_goes v c.args.state.now c.handle-answer.new.self c.args.number c.saturating_add.result (c.args.pick % c.len-count.result) c.push.new.self.list c.reserve.new.self.list
    c.remove-datagram.new.self.list c.args.stash.now.list c.args.pick c.index-as_slice-at.result c.remove-datagram.result c.handle-answer.result n (l ∙ sym c.reserve.ensures.list) s h q (omega arith)
    c.handle-answer.ensures.handles (sym c.is_handling.ensures ∙ c.if-not-is_handling.false) (omega arith)
    (place_is v c.args.stash.now.list c.args.pick c.len-count.result s c.len-count.ensures c.if-count-eq0.false)
    c.remove-datagram.ensures.item c.remove-datagram.ensures.list c.push.ensures.list)

pub returns-clause-room : goal.returns-clause-room
returns-clause-room c = λ h.
    let n : places_of c.state-2.inside.endpoint ≡ places_of c.handle-answer.new.self.endpoint = ap (λ (x : Kept). places_of x.endpoint) c.state-2.view_is in
    let m : c.state-2.inside.done ≡ c.handle-answer.new.self.done = ap (λ (x : Kept). x.done) c.state-2.view_is in
    let p = c.handle-answer.ensures.places in
    let d = c.handle-answer.ensures.done in
    let r = c.in-Ok.ensures.ok in
    let s = c.in-Some.ensures in
    let t = c.push.ensures.room in
    omega arith

pub returns-then-count-eq0-clause-moves : goal.returns-then-count-eq0-clause-moves
returns-then-count-eq0-clause-moves c = λ v n l s h. (refl, refl, empty_is c.args.stash.now.list (sym c.len-count.ensures ∙ c.if-count-eq0.true))

pub returns-in_default-clause-moves : goal.returns-in_default-clause-moves
returns-in_default-clause-moves c = λ v n l s h. (refl, refl)

pub returns-in_default-reserve-clause-moves : goal.returns-in_default-reserve-clause-moves
returns-in_default-reserve-clause-moves c = λ v n l s h. (c.reserve.ensures.list, refl)

pub returns-in-Ok-true-clause-moves : goal.returns-in-Ok-true-clause-moves
returns-in-Ok-true-clause-moves c = λ v n l s h. (c.reserve.ensures.list, refl)

pub returns-in-Ok-false-clause-moves : goal.returns-in-Ok-false-clause-moves
returns-in-Ok-false-clause-moves c = λ v n l s h. (c.reserve.ensures.list, refl)

pub returns-in-Err-clause-moves : goal.returns-in-Err-clause-moves
returns-in-Err-clause-moves c = λ v n l s h. (c.reserve.ensures.list, refl)

pub returns-then-not-is_handling-clause-moves : goal.returns-then-not-is_handling-clause-moves
returns-then-not-is_handling-clause-moves c = λ v n l s h.
    let k : c.state.inside.clock ≡ c.args.state.now.clock = ap (λ (x : Kept). x.clock) c.state.view_is in
    let m = c.max-late.ensures in
    let w = c.if-late-ge-STAMP_MAX.false in
    stay_moves v c.args.state.now c.handle-answer.new.self c.args.log.now.list c.reserve.new.self.list c.args.stash.now.list c.index-as_slice-at.result c.handle-answer.result h (omega arith)
    c.handle-answer.ensures.handles (sym c.is_handling.ensures ∙ c.if-not-is_handling.true) c.reserve.ensures.list

pub returns-clause-moves : goal.returns-clause-moves
returns-clause-moves c = λ v n l s h.
    go_moves c.args.log.now.list c.push.new.self.list c.args.stash.now.list c.remove-datagram.new.self.list c.handle-answer.result (sym c.is_handling.ensures ∙ c.if-not-is_handling.false)
    (record {
      datagram = c.remove-datagram.result;
      place = c.args.pick % c.len-count.result;
      there = c.remove-datagram.ensures.item;
      left_is = c.remove-datagram.ensures.list;
      logged = logs_one _ c.args.log.now.list c.reserve.new.self.list c.push.new.self.list c.reserve.ensures.list c.push.ensures.list;
    })
