use Rattle.std.proofs.Common.{◌≡◌, ℕ, ◌+◌, ◌<◌, true, false, sym, ap, subst, ◌∙◌, length, arith, Some}
use Rattle.std.specs.Prelude.{◌&&◌}
use Rattle.rdm_bins.specs.Shelf.{item_at, is_in, is_in_at, passes, is_within, below}
use Rattle.rdm_bins.specs.Chains.{IsFirstFrom}
use Rattle.rdm_bins.proofs.Neighbours.{inside}
use Rattle.rdm_bins.proofs.Items.{one_found, none_found}
use Rattle.rdm_bins.proofs.Along.{IsThere, IsBefore, first_there, none_before, up_to_here, nearer, not_in, in_passes, ahead}
use Rattle.rdm_bins.proofs.Below.{below_none, within_kept, none_within}
use Rattle.rdm_bins.proofs.walks.first_chained.Goals.{in-Some-item_of+else-passes, in_default-item_of}
use Rattle.rdm_bins.proofs.walks.first_chained.Goals as goal

pub loop-next-init : goal.loop-next-init
loop-next-init g c =
    let items = c.args.items.now.items in
    let p = g.P.Criterion.test c.args.test.now in
    let here = is_in_at g.bin_of items c.args.bin in
    let first : IsFirstFrom here 0 c.first-next.result = subst (IsFirstFrom here 0) (sym c.first-next.ensures) (c.requires.1.1.chain c.args.bin).begins in
    record {
      there = first_there here 0 c.first-next.result first;
      passed = none_before here (λ k. passes (λ x. is_in g.bin_of c.args.bin (Some x) && p x) (item_at items k)) 0 c.first-next.result first (λ k. not_in g.bin_of c.args.bin p (item_at items k)) (λ k less. absurd (omega arith));
    }

pub returns-then-passes : goal.returns-then-passes
returns-then-passes g c =
    let items = c.args.items.now.items in
    let place = c.in-Some.place in
    let p = g.P.Criterion.test c.args.test.now in
    let there : item_at items place ≡ Some c.in-Some-item_of.item = sym c.item_of.ensures ∙ c.in-Some-item_of.is in
    let here : is_in_at g.bin_of items c.args.bin place ≡ true = subst (IsThere (is_in_at g.bin_of items c.args.bin)) c.in-Some.is c.loop-next.invariant.there in
    let found = one_found 0 place place (λ x. is_in g.bin_of c.args.bin (Some x) && p x) c.in-Some-item_of.item items (omega arith) there
    (in_passes g.bin_of c.args.bin p c.in-Some-item_of.item true (sym (ap (is_in g.bin_of c.args.bin) there) ∙ here) (sym c.passes.ensures ∙ c.if-passes.true))
    (λ k less. c.loop-next.invariant.passed k (subst (IsBefore k) (sym c.in-Some.is) less)) in
    let within : is_within c.args.end place ≡ true = sym c.is_within.ensures ∙ c.if-not-is_within.false in
    sym (ap (below c.args.end) found ∙ within_kept c.args.end (place, c.in-Some-item_of.item) within)

pub returns-then-not-is_within : goal.returns-then-not-is_within
returns-then-not-is_within g c =
    let p = g.P.Criterion.test c.args.test.now in
    sym (none_within c.args.end c.in-Some.place (λ x. is_in g.bin_of c.args.bin (Some x) && p x) c.args.items.now.items (sym c.is_within.ensures ∙ c.if-not-is_within.true)
    (λ k less. c.loop-next.invariant.passed k (subst (IsBefore k) (sym c.in-Some.is) less)))

pub loop-next-smaller : goal.loop-next-smaller
loop-next-smaller g c =
    let items = c.args.items.now.items in
    let size = length items in
    let place = c.in-Some.place in
    let here = is_in_at g.bin_of items c.args.bin in
    let chain = c.requires.1.1.chain c.args.bin in
    let there : here place ≡ true = subst (IsThere here) c.in-Some.is c.loop-next.invariant.there in
    let first : IsFirstFrom here (place + 1) c.after-next.result = subst (IsFirstFrom here (place + 1)) (sym c.after-next.ensures) (chain.goes_on place there) in
    subst (λ o. ahead size c.after-next.result < ahead size o) (sym c.in-Some.is) (nearer here size place c.after-next.result (inside here size place chain.below there) first)

pub loop-next-preserved : goal.loop-next-preserved
loop-next-preserved g c =
    let items = c.args.items.now.items in
    let place = c.in-Some.place in
    let p = g.P.Criterion.test c.args.test.now in
    let here = is_in_at g.bin_of items c.args.bin in
    let passed = λ (k : ℕ). passes (λ x. is_in g.bin_of c.args.bin (Some x) && p x) (item_at items k) in
    let there : here place ≡ true = subst (IsThere here) c.in-Some.is c.loop-next.invariant.there in
    let first : IsFirstFrom here (place + 1) c.after-next.result = subst (IsFirstFrom here (place + 1)) (sym c.after-next.ensures) ((c.requires.1.1.chain c.args.bin).goes_on place there) in
    let fails : passed place ≡ false = elim c.match-item_of.branch [
      | in-Some-item_of+else-passes w ↦
          ap (passes (λ x. is_in g.bin_of c.args.bin (Some x) && p x)) (sym c.item_of.ensures ∙ w.in-Some-item_of.is)
          ∙ in_passes g.bin_of c.args.bin p w.in-Some-item_of.item false (sym (ap (is_in g.bin_of c.args.bin) (sym c.item_of.ensures ∙ w.in-Some-item_of.is)) ∙ there) (sym w.passes.ensures ∙ w.if-passes.false)
      | in_default-item_of w ↦ ap (passes (λ x. is_in g.bin_of c.args.bin (Some x) && p x)) (sym c.item_of.ensures ∙ w.in_default-item_of.is)
    ] in
    record {
      there = first_there here (place + 1) c.after-next.result first;
      passed = none_before here passed (place + 1) c.after-next.result first (λ k. not_in g.bin_of c.args.bin p (item_at items k)) (up_to_here passed place (λ k less. c.loop-next.invariant.passed k (subst (IsBefore k) (sym c.in-Some.is) less)) fails);
    }

pub returns : goal.returns
returns g c =
    let items = c.args.items.now.items in
    let p = g.P.Criterion.test c.args.test.now in
    sym (ap (below c.args.end) (none_found 0 (λ x. is_in g.bin_of c.args.bin (Some x) && p x) items (λ k. c.loop-next.invariant.passed k (subst (IsBefore k) (sym c.in_default.is) tt))) ∙ below_none c.args.end)
