use Rattle.std.proofs.Common.{arith, sym, ◌∙◌}
use Rattle.rdm_match.specs.declared.PostedRecv.{PostedRecv}
use Rattle.rdm_match.specs.Matcher.{accepts}
use Rattle.rdm_match.proofs.Places.{searched, searched_in_vain, found_at, none_without}
use Rattle.rdm_match.proofs.matcher.take_receive.Goals as goal

pub remove-requires : goal.remove-requires
remove-requires c =
    let first = searched (λ (r : PostedRecv). accepts r c.args.a.now) c.args.posted.now.items _ _ _ c.deref.ensures.value c.place_of_taker.ensures c.in_ok-at.was in
    let within = first.within in
    omega arith

pub returns-clause-answer : goal.returns-clause-answer
returns-clause-answer c = found_at (λ (r : PostedRecv). accepts r c.args.a.now) _ _ _ (searched (λ (r : PostedRecv). accepts r c.args.a.now) c.args.posted.now.items _ _ _ c.deref.ensures.value c.place_of_taker.ensures c.in_ok-at.was) c.remove.ensures.value

pub returns-clause-after : goal.returns-clause-after
returns-clause-after c =
    let first = searched (λ (r : PostedRecv). accepts r c.args.a.now) c.args.posted.now.items _ _ _ c.deref.ensures.value c.place_of_taker.ensures c.in_ok-at.was in
    c.remove.ensures.items ∙ sym first.without

pub returns-in_err-at-clause-answer : goal.returns-in_err-at-clause-answer
returns-in_err-at-clause-answer c =
    let none = searched_in_vain (λ (r : PostedRecv). accepts r c.args.a.now) c.args.posted.now.items _ _ c.deref.ensures.value c.place_of_taker.ensures c.in_err-at.was in
    c.from_residual.ensures ∙ sym none

pub returns-in_err-at-clause-after : goal.returns-in_err-at-clause-after
returns-in_err-at-clause-after c =
    let none = searched_in_vain (λ (r : PostedRecv). accepts r c.args.a.now) c.args.posted.now.items _ _ c.deref.ensures.value c.place_of_taker.ensures c.in_err-at.was in
    sym (none_without (λ (r : PostedRecv). accepts r c.args.a.now) _ none)
