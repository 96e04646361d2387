use Rattle.std.proofs.Common.{ℕ, ◌<◌, List, length, arith, sym, ◌∙◌, ap, subst}
use Rattle.rdm_inbox.specs.Passes.{InboxState}
use Rattle.rdm_port.specs.Views.{PortView}
use Rattle.rdm_launch.specs.Packing.{AllFit}
use Rattle.rdm_launch.proofs.Starting.{all_passes}
use Rattle.rdm_launch.proofs.Gathering.{launched}
use Rattle.rdm_launch.proofs.launching.run_named.Goals as goal

pub run-requires-clause-fits : goal.run-requires-clause-fits
run-requires-clause-fits g c = λ κs lives. c.requires.fits

pub close-requires : goal.close-requires
close-requires g c =
    let n = c.in-Ok.ensures.count in
    let here = n.0 in
    let there = n.1 in
    let tables = c.requires.count.1 in
    let ports = c.run.new.ports.ok.0 in
    let all = c.run.new.all.ok.0 in
    all_passes c.args.queues.tables g.J.Naming.starts c.run.new.ports.items c.run.new.all.items
    (subst (λ (t : List InboxState). AllFit t g.J.Naming.starts c.run.new.ports.items c.run.new.all.items) (sym c.requires.named) c.in-Ok.ensures.fits) (omega arith) (omega arith)

pub returns-in-Ok : goal.returns-in-Ok
returns-in-Ok g c =
    let n = c.in-Ok.ensures.count in
    let here = n.0 in
    let there = n.1 in
    let w = c.close.ensures in
    let count = c.requires.count.1 in
    let ports = c.run.new.ports.ok.0 in
    let all = c.run.new.all.ok.0 in
    let first = c.args.ports.ok.0 in
    let tables = ap (λ (t : List InboxState). length t) c.requires.named in
    let starts = ap (λ (ps : List PortView). length ps) c.requires.starts in
    launched g.J.Naming.tables g.J.Naming.starts c.run.new.ports.items c.run.new.all.items c.close.result
    (record { fits = c.in-Ok.ensures.fits; count = omega arith; passes = omega arith; left = w.left; senders = λ port near. w.senders port (subst (λ (n : ℕ). port < n) (sym tables) near) ∙ tables }) (omega arith) (w.count ∙ tables)
