use Rattle.std.proofs.Common.{sym, ◌∙◌}
use Rattle.rdm_pool.proofs.Seen.{found_under}
use Rattle.rdm_pool.proofs.Pool.get.Goals as goal

pub returns-in-Some : goal.returns-in-Some
returns-in-Some g c =
    let is = rw c.deref.ensures.value at c.in-Some.ensures in
    rw (← c.self.view_is) (c.get.ensures ∙ sym (found_under c.self.inside c.self.invariant c.args.id _ is))

pub returns-in-None : goal.returns-in-None
returns-in-None g c =
    let is = rw c.deref.ensures.value at c.in-None.ensures in
    rw (← c.self.view_is) (sym (found_under c.self.inside c.self.invariant c.args.id _ is))
