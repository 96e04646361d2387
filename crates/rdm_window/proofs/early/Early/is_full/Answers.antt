use Rattle.std.proofs.Common.{ap, sym, ◌∙◌, nat_eq}
use Rattle.rdm_window.specs.Early.{Held}
use Rattle.rdm_window.proofs.Messages.{len_of_entries}
use Rattle.rdm_window.proofs.early.Early.is_full.Goals as goal

pub returns-clause-answer : goal.returns-clause-answer
returns-clause-answer c =
    let count = c.len.ensures.len ∙ sym (len_of_entries _ _ _ c.self.view_is c.len.ensures.ordered) in
    let size = ap (λ (h : Held). h.size) c.self.view_is in
    λ i. nat_eq (count i) (size i)

pub returns-clause-within : goal.returns-clause-within
returns-clause-within c = rw (len_of_entries _ _ _ c.self.view_is c.len.ensures.ordered, ← ap (λ (h : Held). h.size) c.self.view_is) c.self.invariant
