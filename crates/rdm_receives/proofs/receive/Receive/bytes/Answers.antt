use Rattle.std.proofs.Common.{length, [], ap, ◌∙◌, arith}
use Rattle.rdm_land.proofs.Agreed.{is_whole}
use Rattle.rdm_land.proofs.Came.{came_range}
use Rattle.rdm_receives.specs.View.{ReceiveView}
use Rattle.rdm_receives.proofs.receive.Receive.bytes.Goals as goal

pub unreachable-requires : goal.unreachable-requires
unreachable-requires c =
    let l = c.self.inside.landing in
    let none = ap (λ (r : ReceiveView). r.landed.lent) c.self.view_is ∙ c.requires in
    let whole = is_whole l.missing l.tiles.cells l.lent c.agrees_law.ensures none in
    c.in-None-bytes.ensures (came_range [] [] l.tiles.cells whole 0 c.min-count.result (omega (arith, c.min-count.ensures, c.self.invariant.0)))
