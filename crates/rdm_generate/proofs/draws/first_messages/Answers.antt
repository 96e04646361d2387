use Rattle.std.proofs.Common.{◌≡◌, ◌+◌, ◌-◌, refl, ◌∙◌, ap, arith, add-one}
use Rattle.std.proofs.Math.Nat.{sub-zero}
use Rattle.std.proofs.lemmas.List.Sums.{sum_by_push}
use Rattle.rdm_generate.specs.declared.draws.Message.{Message}
use Rattle.rdm_generate.specs.Draws.{state_after, drawn_message, message_of, drawn, first_messages, next_state}
use Rattle.rdm_generate.proofs.Taken.{one_taken, none_taken}
use Rattle.rdm_generate.proofs.draws.first_messages.Goals as goal

pub loop-number-init : goal.loop-number-init
unfolding first_messages state_after
loop-number-init c = record {
  rest = rw (c.new-messages.ensures.items, sub-zero) refl;
  drawn = refl;
  sum = rw c.new-messages.ensures.items (omega arith);
}

pub returns-then-len-room-clause-messages : goal.returns-then-len-room-clause-messages
unfolding state_after
returns-then-len-room-clause-messages c =
    let k = c.loop-number.number in
    let message : c.message_of-message.result ≡ drawn_message c.args.seed k =
    c.message_of-message.ensures ∙ ap (message_of k) (c.drawn.ensures ∙ ap drawn (c.next_state-state.ensures ∙ ap next_state c.loop-number.invariant.drawn)) in
    let long = ap (λ (m : Message). m.len) message in
    none_taken c.loop-number.messages.items c.args.seed k (c.args.count - k) (c.args.count - (k + 1)) c.loop-number.room (omega arith) (omega arith) ∙ c.loop-number.invariant.rest

pub loop-number-preserved : goal.loop-number-preserved
unfolding state_after
loop-number-preserved c =
    let k = c.loop-number.number in
    let message : c.message_of-message.result ≡ drawn_message c.args.seed k =
    c.message_of-message.ensures ∙ ap (message_of k) (c.drawn.ensures ∙ ap drawn (c.next_state-state.ensures ∙ ap next_state c.loop-number.invariant.drawn)) in
    let long = ap (λ (m : Message). m.len) message in
    let pushed = c.in_ok-push.ensures.items in
    let kept = one_taken c.loop-number.messages.items c.args.seed k (c.args.count - k) (c.args.count - (k + 1)) c.loop-number.room (omega arith) (omega arith) in
    record {
      rest = rw (pushed, message, c.from-len.ensures, long) (kept ∙ c.loop-number.invariant.rest);
      drawn = rw (c.next_state-state.ensures, c.loop-number.invariant.drawn, add-one) refl;
      sum = rw (pushed, sum_by_push (λ (m : Message). m.len)) (omega arith);
    }
