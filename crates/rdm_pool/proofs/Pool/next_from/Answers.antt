use Rattle.std.proofs.Common.{sym, ◌∙◌}
use Rattle.rdm_pool.proofs.Following.{number_before, no_number, none_is}
use Rattle.rdm_pool.proofs.Seen.{next_end, next_is}
use Rattle.rdm_pool.proofs.Pool.next_from.Goals as goal

pub returns-in_err-end-clause-answer : goal.returns-in_err-end-clause-answer
returns-in_err-end-clause-answer g c =
    let none = no_number _ (c.in_err-end.ensures.answer ∙ next_end c.self.inside c.self.invariant c.args.from) in
    rw (← c.self.view_is) (c.from_residual.ensures ∙ sym none)

pub returns-in_err-end-clause-none : goal.returns-in_err-end-clause-none
returns-in_err-end-clause-none g c =
    let none = no_number _ (c.in_err-end.ensures.answer ∙ next_end c.self.inside c.self.invariant c.args.from) in
    rw (← c.self.view_is, c.from_residual.ensures) (λ other after. none_is _ c.args.from.0 none other.0 after)

pub returns-clause-answer : goal.returns-clause-answer
returns-clause-answer g c = rw (← c.self.view_is) (sym (number_before _ c.in_ok-end.end (c.in_ok-end.ensures.answer ∙ next_end c.self.inside c.self.invariant c.args.from)))

pub returns-clause-next : goal.returns-clause-next
returns-clause-next g c =
    let is = number_before _ c.in_ok-end.end (c.in_ok-end.ensures.answer ∙ next_end c.self.inside c.self.invariant c.args.from) in
    rw (← c.self.view_is) (next_is c.self.inside c.self.invariant c.args.from _ is)
