use Rattle.std.proofs.Common.{◌≡◌, map}
use Rattle.rdm_script.specs.Drafts.{made_rank}
use Rattle.rdm_script.proofs.ranks.make_ranks.Given as goal

abbrev pub invariant-loop-draft : goal.invariant-loop-draft
invariant-loop-draft l = l.ranks.items ≡ map made_rank l.yielded
