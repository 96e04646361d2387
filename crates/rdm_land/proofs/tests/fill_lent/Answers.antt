use Rattle.std.proofs.Common.{length, sym, ap, subst, ◌∙◌, arith}
use Rattle.std.specs.List.{length_refill}
use Rattle.rdm_mr.specs.Part.{with_bytes}
use Rattle.rdm_land.specs.Spans.{span}
use Rattle.rdm_land.specs.Landed.{Landed, IsLent, capacity, landed}
use Rattle.rdm_land.proofs.Laws.{without-with_span, capacity-landed}
use Rattle.rdm_land.proofs.tests.fill_lent.Goals as goal

pub land-requires : goal.land-requires
land-requires c =
    let lent = rw c.in-Ok-Some.field-0-is at c.in-Ok-Some.ensures in
    let part = c.in-Ok-Some.part in
    let after = c.lend_and_back-again.ensures ∙ lent.after in
    let is = subst (λ (l : Landed). IsLent l 3 4 part) (sym after) (c.lending_law.ensures.lent c.args.landing.now 3 4 part lent.answer.0 lent.answer.1) in
    let long = length_refill (length part.bytes) part.bytes c.fill.new.self (λ _. length part.bytes) in
    (is.0, is.1, is.2, sym long ∙ is.3)

pub returns-in-Ok-Some-clause-lent : goal.returns-in-Ok-Some-clause-lent
returns-in-Ok-Some-clause-lent c =
    let lent = rw c.in-Ok-Some.field-0-is at c.in-Ok-Some.ensures in
    let back = with_bytes c.in-Ok-Some.part c.fill.new.self in
    ap (λ (l : Landed). l.lent) (c.land.ensures ∙ ap (λ (l : Landed). landed l 3 4 back) (c.lend_and_back-again.ensures ∙ lent.after)) ∙ without-with_span (span 3 4) c.args.landing.now.lent (omega arith)

pub returns-in-Ok-Some-clause-capacity : goal.returns-in-Ok-Some-clause-capacity
returns-in-Ok-Some-clause-capacity c =
    let lent = rw c.in-Ok-Some.field-0-is at c.in-Ok-Some.ensures in
    let part = c.in-Ok-Some.part in
    let back = with_bytes part c.fill.new.self in
    let long = sym (length_refill (length part.bytes) part.bytes c.fill.new.self (λ _. length part.bytes)) in
    ap capacity (c.land.ensures ∙ ap (λ (l : Landed). landed l 3 4 back) (c.lend_and_back-again.ensures ∙ lent.after)) ∙ capacity-landed c.args.landing.now 3 4 part back lent.answer.0 lent.answer.1 (λ _. part.start) long
