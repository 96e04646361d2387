use Rattle.rdm_inbox.proofs.Sharings.{taken_named, taken_whole, gathered_now, left_now}
use Rattle.rdm_inbox.proofs.queues.Queues.gather.Goals as goal

pub settle-requires-clause-named : goal.settle-requires-clause-named
settle-requires-clause-named c = taken_named c.args.self.now.tables c.args.all.now c.collect.new.all c.requires c.collect.ensures

pub settle-requires-clause-whole : goal.settle-requires-clause-whole
settle-requires-clause-whole c = taken_whole c.args.self.now.tables c.args.all.now c.collect.new.all c.requires c.collect.ensures

pub returns-clause-gathered : goal.returns-clause-gathered
returns-clause-gathered c = gathered_now c.args.self.now.tables c.args.all.now c.collect.new.all c.requires c.collect.ensures c.settle.new.all c.settle.ensures

pub returns-clause-left : goal.returns-clause-left
returns-clause-left c = left_now c.args.self.now.tables c.args.all.now c.collect.new.all c.requires c.collect.ensures c.settle.new.all c.settle.ensures
