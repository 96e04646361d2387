use Rattle.std.proofs.Common.{◌≡◌, ℕ, ◌-◌, ◌<◌, ◌≤◌, drop, ap, ◌∙◌, arith}
use Rattle.std.proofs.lemmas.Bool.{false≢true}
use Rattle.rdm_gaps.specs.Places.{run}
use Rattle.rdm_gaps.proofs.Runs.{run_by_missing}
use Rattle.rdm_model.specs.Targets.{is_in_iov}
use Rattle.rdm_tx.proofs.Counts.{missing_run}
use Rattle.rdm_tx.proofs.asked.Asked.may_ask.Goals as goal
use Rattle.rdm_tx.proofs.asked.Asked.may_ask.Goals.{then-ask-eq0-via-then-ask-eq0, then-ask-eq0-via-else-ask-eq0+then-unasked-ask}

-- no byte, or one that was asked for
pub returns-then-ask-eq0 : goal.returns-then-ask-eq0
returns-then-ask-eq0 c =
    let ask = c.args.ask.now in
    let self = c.self.inside in
    let into : c.in-Some.into ≡ ask.at - self.from = omega arith in
    let run_is : c.missing_from-unasked.result ≡ run (drop (ask.at - self.from) self.unasked.places) = c.missing_from-unasked.ensures ∙ ap (λ (at : ℕ). run (drop at self.unasked.places)) into in
    rw (← c.self.view_is) (
      (λ f. absurd (false≢true f)),
      (λ m.
          let some = m.0 in
          let long = run_by_missing (ask.at - self.from) ask.length self.unasked.places m.2 in
          elim c.then-ask-eq0.branch [
            | then-ask-eq0-via-then-ask-eq0 w ↦ absurd (omega (arith, some))
            | then-ask-eq0-via-else-ask-eq0+then-unasked-ask w ↦ absurd (omega (arith, long, run_is))
          ]),
    )

-- all of its bytes are to be read, and it lies in the read list or not
pub returns : goal.returns
returns c =
    let ask = c.args.ask.now in
    let self = c.self.inside in
    let into : c.in-Some.into ≡ ask.at - self.from = omega arith in
    let begun : self.from ≤ ask.at = omega arith in
    let run_is : c.missing_from-unasked.result ≡ run (drop (ask.at - self.from) self.unasked.places) = c.missing_from-unasked.ensures ∙ ap (λ (at : ℕ). run (drop at self.unasked.places)) into in
    let some : 0 < ask.length = omega arith in
    let missing = missing_run (ask.at - self.from) ask.length self.unasked.places some (omega (arith, run_is)) in
    let is : c.is_in_ranges.result ≡ is_in_iov ask 0 self.iov = c.is_in_ranges.ensures ∙ ap (is_in_iov ask 0) c.as_slice.ensures.items in
    rw (← c.self.view_is, is) ((λ t. (some, begun, missing, t)), (λ m. m.3))
