use Rattle.std.proofs.Common.{◌≡◌}
use Rattle.std.specs.FinMap as map
use Rattle.rdm_window.specs.Early.{without_life}
use Rattle.rdm_window.proofs.early.Early.forget.Given as goal

-- without the life's messages what is held is what is to be held in the end
abbrev pub invariant-loop-no : goal.invariant-loop-no
invariant-loop-no l = without_life l.self l.life ≡ without_life l.fn.self l.life

abbrev pub decreases-loop-no : goal.decreases-loop-no
decreases-loop-no l = map.len l.self.messages
