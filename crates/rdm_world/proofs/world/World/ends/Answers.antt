use Rattle.std.proofs.Common.{◌≡◌, ◌<◌, List, length, get_or, map, subst, arith, ◌∙◌, ap}
use Rattle.rdm_lists.specs.Lists.{below}
use Rattle.rdm_port.specs.Views.{PortView}
use Rattle.rdm_model.specs.Beginnings.{port_count}
use Rattle.rdm_model.specs.Played.{end_at}
use Rattle.rdm_world.specs.Views.{WorldView}
use Rattle.rdm_world.proofs.Playing.{end_shown, ends_more, ends_none}
use Rattle.rdm_world.proofs.world.World.ends.Goals as goal

pub loop-port-init : goal.loop-port-init
loop-port-init c = λ job w is. c.new-ends.ensures.items ∙ ends_none job w

pub loop-port-preserved : goal.loop-port-preserved
loop-port-preserved c =
    let ports : c.deref-port-items.result.now ≡ c.args.self.now.ports = c.deref-port-items.ensures.value ∙ ap (λ (v : WorldView). v.ports) c.self.view_is in
    let at = c.port-item.is ∙ ap (λ (ps : List PortView). get_or ps c.loop-port.port-index c.port-item.result) ports in
    let within : c.loop-port.port-index < length c.args.self.now.ports = subst (λ (ps : List PortView). c.loop-port.port-index < length ps) ports c.loop-port-test.true in
    λ job w is.
    c.in_ok-push.ensures.items
    ∙ ends_more job w c.loop-port.port-index c.loop-port.ends.items c.in_ok-ending.field-0 (c.loop-port.invariant job w is)
    (end_shown job w c.args.self.now c.loop-port.port-index c.port-item.result c.in_ok-ending.field-0 is within at c.in_ok-ending.ensures)

pub returns : goal.returns
returns c =
    let ports : c.deref-port-items.result.now ≡ c.args.self.now.ports = c.deref-port-items.ensures.value ∙ ap (λ (v : WorldView). v.ports) c.self.view_is in
    λ job w is.
    (let n = is.count in
    let long : length c.deref-port-items.result.now ≡ port_count job = ap (λ (ps : List PortView). length ps) ports ∙ n in
    let all : c.loop-port.port-index ≡ port_count job = omega arith in
    c.from_vec.ensures ∙ c.loop-port.invariant job w is ∙ ap (λ k. map (end_at job w) (below k)) all)
