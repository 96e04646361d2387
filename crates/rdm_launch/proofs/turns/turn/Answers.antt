use Rattle.std.proofs.Common.{List, sym, subst}
use Rattle.rdm_inbox.specs.Passes.{InboxState}
use Rattle.rdm_inbox.specs.Queues.{PassesState, WireState, ArePassesOf}
use Rattle.rdm_launch.specs.Fitting.{IsAtPlace, IsAtWork}
use Rattle.rdm_launch.proofs.turns.turn.Goals as goal

pub wire-wire-requires : goal.wire-wire-requires
wire-wire-requires g c = subst (λ (t : List InboxState). ArePassesOf t c.args.station.passes) (sym c.requires.named) c.requires.fits.1

pub do_task-outcome-requires : goal.do_task-outcome-requires
do_task-outcome-requires g c =
    subst (λ (w : WireState). IsAtWork g.J.Naming.tables g.J.Naming.starts c.args.station.port w c.args.station.port.number) (sym c.wire-wire.ensures) (c.requires.named, c.requires.fits.0)

pub returns : goal.returns
returns g c =
    let e = c.do_task-outcome.ensures in
    let same = c.passes-passes.ensures.same in (
      subst (λ (v : PassesState). IsAtPlace g.J.Naming.tables g.J.Naming.starts c.do_task-outcome.new.port v c.args.station.port.number) (sym same) e.1,
      subst (λ (t : List InboxState). ArePassesOf t c.passes-passes.result) e.0 c.passes-passes.ensures.of,
    )
