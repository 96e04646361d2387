use Rattle.std.proofs.Common.{sym, ◌∙◌, arith}
use Rattle.rdm_regions.specs.Ranges.{range}
use Rattle.rdm_regions.proofs.Leasing.{read_there, read_home, read_bytes}
use Rattle.rdm_regions.proofs.regions.Regions.bytes.Goals as goal

pub index-requires : goal.index-requires
index-requires c =
    let i = c.self.inside in
    let lt = read_there i.regions.items i.held.entries i.leased.entries c.self.invariant c.args.self.now c.self.view_is (range c.args.region.0 c.args.at c.args.len) (sym c.in-None.ensures) in
    omega arith

pub bytes-requires-clause-fits : goal.bytes-requires-clause-fits
bytes-requires-clause-fits c =
    let i = c.self.inside in
    (read_home i.regions.items i.held.entries i.leased.entries c.self.invariant c.args.self.now c.self.view_is (range c.args.region.0 c.args.at c.args.len) (sym c.in-None.ensures) c.index.result.now c.index.ensures).0

pub bytes-requires-clause-home : goal.bytes-requires-clause-home
bytes-requires-clause-home c =
    let i = c.self.inside in
    (read_home i.regions.items i.held.entries i.leased.entries c.self.invariant c.args.self.now c.self.view_is (range c.args.region.0 c.args.at c.args.len) (sym c.in-None.ensures) c.index.result.now c.index.ensures).1

pub returns-in-None : goal.returns-in-None
returns-in-None c =
    let i = c.self.inside in
    let e = read_bytes i.regions.items i.held.entries i.leased.entries c.self.invariant c.args.self.now c.self.view_is (range c.args.region.0 c.args.at c.args.len) (sym c.in-None.ensures) c.index.result.now c.index.ensures in
    (sym c.in-None.ensures, c.bytes.ensures ∙ e)
