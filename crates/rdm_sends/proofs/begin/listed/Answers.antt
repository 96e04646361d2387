use Rattle.std.proofs.Common.{◌∙◌, sym}
use Rattle.rdm_sends.proofs.Begins.{listed_some, listed_none}
use Rattle.rdm_sends.proofs.begin.listed.Goals as goal

pub returns-in-Some-clause-list : goal.returns-in-Some-clause-list
returns-in-Some-clause-list c = listed_some c.args.entries.items c.in-Some.iov c.in-Some.ensures

pub returns-in-None-clause-list : goal.returns-in-None-clause-list
returns-in-None-clause-list c =
    let u = c.unwrap.ensures in
    listed_none c.args.entries.items c.new-one.result.items c.push.new.self.items c.unwrap.result c.in-None.ensures c.new-one.ensures c.push.ensures.items
    (sym c.unwrap.ensures ∙ c.from_array_vec-in-None.ensures)
