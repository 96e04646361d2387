use Rattle.std.proofs.Common.{◌≡◌, ℕ, ◌+◌, ◌<◌, ◌≤◌, ◌↔◌, false, true, List, IsTrue, length, subst, arith}
use Rattle.rdm_land.specs.declared.spans.Span.{Span}
use Rattle.rdm_land.specs.Landed.{Landed}
use Rattle.rdm_land.specs.Arrivals.{AreWaiting}
use Rattle.rdm_mr.proofs.Overlays.{by_lt}
use Rattle.rdm_land.proofs.Waiting.{waits, says_no}
use Rattle.rdm_land.proofs.landing.Landing.awaits.Goals as goal

pub returns-in_default : goal.returns-in_default
returns-in_default c =
    let f = c.self.inside in
    let i = c.self.invariant in
    let past : length f.gaps.places < c.args.off + c.args.len =
    by_lt (length f.gaps.places) (c.args.off + c.args.len) (λ lt. lt) (λ le. absurd (c.in_default.ensures (omega (arith, le, i.fits, i.length_is)))) in
    subst (λ (l : Landed). IsTrue false ↔ AreWaiting l c.args.off c.args.len) c.self.view_is (says_no (λ w. omega (arith, w.0, past)))

pub returns-then-length-end : goal.returns-then-length-end
returns-then-length-end c =
    let i = c.self.invariant in
    subst (λ (l : Landed). IsTrue false ↔ AreWaiting l c.args.off c.args.len) c.self.view_is
    (says_no (λ w. omega (arith, w.0, c.if-length-end.true, c.in-Some.ensures.1, i.length_is)))

pub returns : goal.returns
returns c =
    let f = c.self.inside in
    let i = c.self.invariant in
    let all = subst (λ end. IsTrue c.all_wait.result ↔ ((k : ℕ) → c.args.off ≤ k → k < end → waits f.gaps.places f.lent.items k ≡ true)) c.in-Some.ensures.1
    (subst (λ (spans : List Span). IsTrue c.all_wait.result ↔ ((k : ℕ) → c.args.off ≤ k → k < c.in-Some.end → waits f.gaps.places spans k ≡ true)) c.deref.ensures.value c.all_wait.ensures) in
    subst (λ (l : Landed). IsTrue c.all_wait.result ↔ AreWaiting l c.args.off c.args.len) c.self.view_is
    (λ t. (omega (arith, c.if-length-end.false, c.in-Some.ensures.1, i.length_is), all.0 t), λ w. all.1 w.1)
