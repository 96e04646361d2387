use Rattle.std.proofs.Common.{arith, sym, ◌∙◌}
use Rattle.rdm_match.specs.Matcher.{is_recv}
use Rattle.rdm_match.proofs.Places.{searched, searched_in_vain, found_at, none_without}
use Rattle.rdm_match.proofs.matcher.take_number.Goals as goal

pub remove-requires : goal.remove-requires
remove-requires c =
    let first = searched (is_recv c.args.id.0) c.args.posted.now.items _ _ _ c.deref.ensures.value c.place_of_number.ensures c.in_ok-at.was in
    let within = first.within in
    omega arith

pub returns-clause-answer : goal.returns-clause-answer
returns-clause-answer c = found_at (is_recv c.args.id.0) _ _ _ (searched (is_recv c.args.id.0) c.args.posted.now.items _ _ _ c.deref.ensures.value c.place_of_number.ensures c.in_ok-at.was) c.remove.ensures.value

pub returns-clause-after : goal.returns-clause-after
returns-clause-after c =
    let first = searched (is_recv c.args.id.0) c.args.posted.now.items _ _ _ c.deref.ensures.value c.place_of_number.ensures c.in_ok-at.was in
    c.remove.ensures.items ∙ sym first.without

pub returns-in_err-at-clause-answer : goal.returns-in_err-at-clause-answer
returns-in_err-at-clause-answer c =
    let none = searched_in_vain (is_recv c.args.id.0) c.args.posted.now.items _ _ c.deref.ensures.value c.place_of_number.ensures c.in_err-at.was in
    c.from_residual.ensures ∙ sym none

pub returns-in_err-at-clause-after : goal.returns-in_err-at-clause-after
returns-in_err-at-clause-after c =
    let none = searched_in_vain (is_recv c.args.id.0) c.args.posted.now.items _ _ c.deref.ensures.value c.place_of_number.ensures c.in_err-at.was in
    sym (none_without (is_recv c.args.id.0) _ none)
