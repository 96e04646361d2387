use Rattle.std.proofs.Common.{◌≡◌, List, [], ◌∷◌, ◌++◌, length, vec_len, rules, arith, eqb-true, refl, sym, ◌∙◌, subst}
use Rattle.rdm_inbox.specs.Queues.{PassesState}
use Rattle.rdm_port.specs.Views.{PortView}
use Rattle.rdm_launch.specs.Packing.{AllFit}
use Rattle.rdm_launch.proofs.Packings.{back_none, back_more, back_all, written_back, parted}
use Rattle.rdm_launch.proofs.packing.pack.Goals as goal

pub loop-ports-init : goal.loop-ports-init
loop-ports-init g c = record {
  others = c.requires.fits;
  packed = back_none _ _ _ (search rules);
  both = c.requires.count;
  count = search rules;
  room = search rules;
  same = (refl, refl);
}

pub loop-ports-preserved : goal.loop-ports-preserved
loop-ports-preserved g c =
    let old = c.loop-ports.invariant in
    let p = c.take_last-port in
    let v = c.take_last-passes in
    let here = p.ensures.len in
    let there = v.ensures.len in
    let both = old.both in
    let count = old.count in
    let same : length v.new.self.items ≡ length p.new.self.items = omega (arith, p.new.self.ok.0, v.new.self.ok.0) in
    let all : AllFit g.J.Naming.tables g.J.Naming.starts (p.new.self.items ++ p.result ∷ []) (v.new.self.items ++ v.result ∷ []) =
    subst (λ (ps : List PortView). AllFit g.J.Naming.tables g.J.Naming.starts ps (v.new.self.items ++ v.result ∷ [])) p.ensures.items
    (subst (λ (vs : List PassesState). AllFit g.J.Naming.tables g.J.Naming.starts c.loop-ports.ports.items vs) v.ensures.items old.others) in
    let part = parted g.J.Naming.tables g.J.Naming.starts p.new.self.items v.new.self.items p.result v.result same all in
    let more = c.push_reserved.ensures in
    record {
      others = part.others;
      packed = back_more _ _ _ _ _ (length p.new.self.items) more.items old.packed (omega (arith, p.new.self.ok.0, c.loop-ports.stations.ok.0)) part.last;
      both = (omega arith);
      count = (let n = more.len in omega arith);
      room = (let n = more.capacity in let r = old.room in omega arith);
      same = (p.ensures.capacity ∙ old.same.0, v.ensures.capacity ∙ old.same.1);
    }

pub returns-clause-fits : goal.returns-clause-fits
returns-clause-fits g c =
    let old = c.loop-ports.invariant in
    let count = old.count in
    let none : vec_len c.loop-ports.ports ≡ 0 = eqb-true (vec_len c.loop-ports.ports) 0 (sym c.is_empty.ensures ∙ c.loop-ports-test.false) in
    let long = c.loop-ports.stations.ok.0 in (
      back_all _ (vec_len c.args.ports.now) c.loop-ports.stations.items _
          (written_back c.loop-ports.stations.len c.loop-ports.stations.items c.as_mut_slice.result.now c.reverse.new.self _ c.reverse.ensures.after c.as_mut_slice.ensures.value (omega arith)) old.packed (omega arith),
      omega arith,
    )
