use Rattle.std.proofs.Common.{◌≡◌, map}
use Rattle.rdm_script.specs.Drafts.{made}
use Rattle.rdm_script.proofs.ranks.make_ops.Given as goal

abbrev pub invariant-loop-draft : goal.invariant-loop-draft
invariant-loop-draft l = l.ops.items ≡ map made l.yielded
