use Rattle.std.proofs.Common.{arith}
use Rattle.rdm_law.proofs.Played.PlaysRight.{some_inbox}
use Rattle.rdm_world.proofs.Playing.{few_ranks}
use Rattle.rdm_world.proofs.played.play.Goals as goal

pub new-requires-clause-few : goal.new-requires-clause-few
new-requires-clause-few c = few_ranks c.args.job.now c.requires.fair

pub new-requires-clause-inbox : goal.new-requires-clause-inbox
new-requires-clause-inbox c = let some = some_inbox c.args.job.now c.requires.fair in omega arith
