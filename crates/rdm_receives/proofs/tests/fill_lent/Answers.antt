use Rattle.std.proofs.Common.{length, refl, sym, ap, subst, ◌∙◌, arith}
use Rattle.std.specs.List.{length_refill}
use Rattle.rdm_mr.specs.Part.{with_bytes}
use Rattle.rdm_land.specs.Spans.{span}
use Rattle.rdm_land.specs.Landed.{Landed, IsLent, capacity, landed}
use Rattle.rdm_land.proofs.Laws.{without-with_span, capacity-landed}
use Rattle.rdm_receives.specs.View.{ReceiveView}
use Rattle.rdm_receives.proofs.tests.fill_lent.Goals as goal

pub land-requires : goal.land-requires
land-requires c =
    let lent = rw c.in-Ok-Some.field-0-is at c.in-Ok-Some.ensures in
    let part = c.in-Ok-Some.part in
    let after = ap (λ (r : ReceiveView). r.landed) lent.after in
    let is = subst (λ (l : Landed). IsLent l 3 4 part) (sym after) (c.lending_law.ensures.lent c.args.receive.now.landed 3 4 part lent.answer.0 lent.answer.1) in
    let long = length_refill (length part.bytes) part.bytes c.fill.new.self (λ _. length part.bytes) in
    (is.0, is.1, is.2, sym long ∙ is.3)

pub returns-in-Ok-Some : goal.returns-in-Ok-Some
returns-in-Ok-Some c =
    let lent = rw c.in-Ok-Some.field-0-is at c.in-Ok-Some.ensures in
    let part = c.in-Ok-Some.part in
    let back = with_bytes part c.fill.new.self in
    let long = sym (length_refill (length part.bytes) part.bytes c.fill.new.self (λ _. length part.bytes)) in
    let after = ap (λ (r : ReceiveView). r.landed) c.land.ensures ∙ ap (λ (r : ReceiveView). landed r.landed 3 4 back) lent.after in
    record {
      start = ap (λ (l : Landed). l.tiles.start) after;
      whole = ap (λ (l : Landed). l.tiles.whole) after;
      places = ap capacity after ∙ capacity-landed c.args.receive.now.landed 3 4 part back lent.answer.0 lent.answer.1 (λ _. part.start) long;
      lent = ap (λ (l : Landed). l.lent) after ∙ without-with_span (span 3 4) c.args.receive.now.landed.lent (omega arith);
    }
