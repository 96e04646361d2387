use Rattle.std.proofs.Common.{◌≡◌, Bool, true, false, Option, Result, Ok, refl, sym, ◌∙◌, ap, subst}
use Rattle.std.specs.declared.alloc.AllocError.{AllocError}
use Rattle.std.specs.Prelude.{IfOk, OnOk}
use Rattle.rdm_ep.specs.declared.state.Verdict.TheVariants.{Message}
use Rattle.rdm_model.specs.declared.answer.Entered.{Entered}
use Rattle.rdm_ep.specs.Entering.{entered_by}
use Rattle.rdm_ep.specs.Verdicts.{is_next_in, waits_in, verdict_effect}
use Rattle.rdm_ep.proofs.Decided.{again_answer, took_answer}
use Rattle.rdm_ep.proofs.endpoint.Endpoint.take_message.Goals.{then-is_next, else-is_next}
use Rattle.rdm_ep.proofs.endpoint.Endpoint.take_message.Goals as goal

pub returns-then-waits : goal.returns-then-waits
returns-then-waits c = (again_answer c.args.self.now c.args.inbound (sym c.waits.ensures ∙ c.if-waits.true), refl)

pub returns-in-Ok : goal.returns-in-Ok
returns-in-Ok c =
    let waits : waits_in c.args.self.now c.args.inbound ≡ false = sym c.waits.ensures ∙ c.if-waits.false in
    elim c.if-is_next.branch [
      | then-is_next w ↦
          let next : is_next_in c.args.self.now c.args.inbound ≡ true = sym c.is_next.ensures ∙ w.if-is_next.true in
          let is : w.take_next-taken.result ≡ Ok c.in-Ok.entered = sym w.taken-is ∙ c.in-Ok.is in
          let answer : c.in-Ok.entered ≡ entered_by true c.args.inbound c.args.self.now.held =
          subst (λ (r : Result (Option Entered) AllocError). IfOk r (λ (e : Option Entered). e ≡ entered_by true c.args.inbound c.args.self.now.held)) is w.take_next-taken.ensures.answer in
          let ok = subst (λ (r : Result (Option Entered) AllocError). OnOk r (w.take_next-taken.new.self ≡ verdict_effect c.args.inbound.life (Message c.args.inbound) c.args.self.now)) is w.take_next-taken.ensures.ok in
          (took_answer c.args.self.now c.args.inbound c.in-Ok.entered waits (answer ∙ ap (λ (b : Bool). entered_by b c.args.inbound c.args.self.now.held) (sym next)), w.self-is ∙ ok)
      | else-is_next w ↦
          let next : is_next_in c.args.self.now c.args.inbound ≡ false = sym c.is_next.ensures ∙ w.if-is_next.false in
          let is : w.take_ahead-taken.result ≡ Ok c.in-Ok.entered = sym w.taken-is ∙ c.in-Ok.is in
          let answer : c.in-Ok.entered ≡ entered_by false c.args.inbound c.args.self.now.held =
          subst (λ (r : Result (Option Entered) AllocError). IfOk r (λ (e : Option Entered). e ≡ entered_by false c.args.inbound c.args.self.now.held)) is w.take_ahead-taken.ensures.answer in
          let ok = subst (λ (r : Result (Option Entered) AllocError). OnOk r (w.take_ahead-taken.new.self ≡ verdict_effect c.args.inbound.life (Message c.args.inbound) c.args.self.now)) is w.take_ahead-taken.ensures.ok in
          (took_answer c.args.self.now c.args.inbound c.in-Ok.entered waits (answer ∙ ap (λ (b : Bool). entered_by b c.args.inbound c.args.self.now.held) (sym next)), w.self-is ∙ ok)
    ]
