use Rattle.std.proofs.Common.{sym, ◌∙◌}
use Rattle.rdm_window.proofs.Messages.{len_of_entries}
use Rattle.rdm_window.proofs.early.Early.len.Goals as goal

pub returns : goal.returns
returns c = c.len.ensures.len ∙ sym (len_of_entries _ _ _ c.self.view_is c.len.ensures.ordered)
