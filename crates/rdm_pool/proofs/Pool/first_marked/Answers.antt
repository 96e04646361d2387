use Rattle.std.proofs.Common.{sym, ◌∙◌}
use Rattle.rdm_pool.proofs.Following.{number_before, no_number}
use Rattle.rdm_pool.proofs.Seen.{marked_end, marked_is, none_marked}
use Rattle.rdm_pool.proofs.Pool.first_marked.Goals as goal

pub returns-in_err-end-clause-answer : goal.returns-in_err-end-clause-answer
returns-in_err-end-clause-answer g c =
    let none = no_number _ (c.in_err-end.ensures.answer ∙ marked_end c.self.inside c.self.invariant c.args.from) in
    rw (← c.self.view_is) (c.from_residual.ensures ∙ sym none)

pub returns-in_err-end-clause-none : goal.returns-in_err-end-clause-none
returns-in_err-end-clause-none g c =
    let none = no_number _ (c.in_err-end.ensures.answer ∙ marked_end c.self.inside c.self.invariant c.args.from) in
    rw (← c.self.view_is, c.from_residual.ensures) (none_marked c.self.inside c.args.from none)

pub returns-clause-answer : goal.returns-clause-answer
returns-clause-answer g c = rw (← c.self.view_is) (sym (number_before _ c.in_ok-end.end (c.in_ok-end.ensures.answer ∙ marked_end c.self.inside c.self.invariant c.args.from)))

pub returns-clause-next : goal.returns-clause-next
returns-clause-next g c =
    let is = number_before _ c.in_ok-end.end (c.in_ok-end.ensures.answer ∙ marked_end c.self.inside c.self.invariant c.args.from) in
    rw (← c.self.view_is) (marked_is c.self.inside c.self.invariant c.args.from _ is)
