use Rattle.std.proofs.Common.{◌≡◌, ℕ, ◌+◌, ◌<◌, ◌≤◌, ◌↔◌, false, true, List, IsTrue, length, subst, arith}
use Rattle.rdm_land.specs.declared.spans.Span.{Span}
use Rattle.rdm_land.specs.Landed.{Landed, OnlyLent}
use Rattle.rdm_mr.proofs.Overlays.{by_lt}
use Rattle.rdm_land.proofs.Waiting.{waits, says_no, past_end, not_missing, only_where_all_wait}
use Rattle.rdm_land.proofs.landing.Landing.only_lent.Goals as goal
use Rattle.rdm_land.proofs.landing.Landing.only_lent.Goals.{then-length-end-via-then-length-end, then-length-end-via-else-length-end+then-len-missing_from}

pub returns-in_default : goal.returns-in_default
returns-in_default c =
    let f = c.self.inside in
    let i = c.self.invariant in
    let past : length f.gaps.places < c.args.off + c.args.len =
    by_lt (length f.gaps.places) (c.args.off + c.args.len) (λ lt. lt) (λ le. absurd (c.in_default.ensures (omega (arith, le, i.fits, i.length_is)))) in
    subst (λ (l : Landed). IsTrue false ↔ OnlyLent l c.args.off c.args.len) c.self.view_is (says_no (past_end f.gaps.places f.lent.items c.args.off c.args.len _ i.agrees.apart past))

pub returns-then-length-end : goal.returns-then-length-end
returns-then-length-end c =
    let f = c.self.inside in
    let i = c.self.invariant in
    subst (λ (l : Landed). IsTrue false ↔ OnlyLent l c.args.off c.args.len) c.self.view_is (says_no (elim c.then-length-end.branch [
      | then-length-end-via-then-length-end w ↦ past_end f.gaps.places f.lent.items c.args.off c.args.len _ i.agrees.apart (omega (arith, w.if-length-end.true, c.in-Some.ensures.1, i.length_is))
      | then-length-end-via-else-length-end+then-len-missing_from w ↦
          not_missing f.gaps.places f.lent.items c.args.off c.args.len (omega (arith, w.if-length-end.false, c.in-Some.ensures.1, i.length_is)) (omega (arith, w.if-len-missing_from.true, w.missing_from.ensures))
    ]))

pub returns : goal.returns
returns c =
    let f = c.self.inside in
    let i = c.self.invariant in
    let all = subst (λ end. IsTrue c.all_wait.result ↔ ((k : ℕ) → c.args.off ≤ k → k < end → waits f.gaps.places f.lent.items k ≡ true)) c.in-Some.ensures.1
    (subst (λ (spans : List Span). IsTrue c.all_wait.result ↔ ((k : ℕ) → c.args.off ≤ k → k < c.in-Some.end → waits f.gaps.places spans k ≡ true)) c.deref.ensures.value c.all_wait.ensures) in
    subst (λ (l : Landed). IsTrue c.all_wait.result ↔ OnlyLent l c.args.off c.args.len) c.self.view_is
    (only_where_all_wait f.gaps.places f.lent.items c.args.off c.args.len _ i.agrees.apart (omega (arith, c.if-length-end.false, c.in-Some.ensures.1, i.length_is)) (omega (arith, c.if-len-missing_from.false, c.missing_from.ensures)) c.all_wait.result all)
