use Rattle.std.proofs.Common.{◌≡◌, ◌+◌, List, [], ◌∷◌, ◌++◌, length, vec_len, rules, arith, sym, subst}
use Rattle.rdm_inbox.specs.Queues.{PassesState}
use Rattle.rdm_port.specs.Views.{PortView}
use Rattle.rdm_launch.proofs.Packings.{BothBack, both_none, both_more, both_all, each_last, written_back}
use Rattle.rdm_launch.proofs.packing.unpack.Goals as goal

pub loop-station-init : goal.loop-station-init
loop-station-init g c =
    let n = vec_len c.args.stations in
    record {
      others = c.requires.fits;
      unpacked = subst (λ (ps : List PortView). BothBack g.J.Naming.tables g.J.Naming.starts n ps c.args.all.now.items) (sym c.requires.empty.0) (both_none g.J.Naming.tables g.J.Naming.starts n c.args.all.now.items);
      both = search rules;
      count = search rules;
      room = c.requires.room;
    }

pub loop-station-preserved : goal.loop-station-preserved
loop-station-preserved g c =
    let old = c.loop-station.invariant in
    let n = vec_len c.args.stations in
    let rest = each_last _ _ c.pop.new.self.items c.in-Some.station c.in-Some.ensures.items old.others in
    let left = c.pop.new.self.ok.0 in
    let ports = c.loop-station.ports.ok.0 in
    let all = c.loop-station.all.ok.0 in
    let len = c.pop.ensures.len in
    let p = c.push_reserved.ensures in
    let v = c.push_reserved-in-Some.ensures in
    let both = old.both in
    let count = old.count in
    let last : length c.pop.new.self.items + length c.loop-station.ports.items + 1 ≡ n = (let cases = c.in-Some.ensures.cases in omega arith) in
    record {
      others = rest.0;
      unpacked = subst (λ (ps : List PortView). BothBack g.J.Naming.tables g.J.Naming.starts n ps c.push_reserved-in-Some.new.self.items) (sym p.items)
          (subst (λ (vs : List PassesState). BothBack g.J.Naming.tables g.J.Naming.starts n (c.loop-station.ports.items ++ c.in-Some.station.port ∷ []) vs) (sym v.items)
          (both_more g.J.Naming.tables g.J.Naming.starts n c.loop-station.ports.items c.loop-station.all.items c.in-Some.station.port c.in-Some.station.passes (length c.pop.new.self.items) old.unpacked (omega arith)
          last rest.1));
      both = (let x = p.len in let y = v.len in omega arith);
      count = (let x = p.len in let cases = c.in-Some.ensures.cases in omega arith);
      room = (let x = p.capacity in let y = v.capacity in let r = old.room in (omega arith, omega arith));
    }

pub returns-clause-fits : goal.returns-clause-fits
returns-clause-fits g c =
    let old = c.loop-station.invariant in
    let count = old.count in
    let both = old.both in
    let cases = c.in_default.ensures.cases in
    let ports = c.loop-station.ports.ok.0 in
    let all = c.loop-station.all.ok.0 in
    both_all g.J.Naming.tables g.J.Naming.starts (vec_len c.args.stations) c.loop-station.ports.items _ c.loop-station.all.items _
    (written_back c.loop-station.ports.len c.loop-station.ports.items c.as_mut_slice.result.now c.reverse.new.self _ c.reverse.ensures.after c.as_mut_slice.ensures.value (omega arith))
    (written_back c.loop-station.all.len c.loop-station.all.items c.as_mut_slice-2.result.now c.reverse-2.new.self _ c.reverse-2.ensures.after c.as_mut_slice-2.ensures.value (omega arith))
    old.unpacked (omega arith) (omega arith)
