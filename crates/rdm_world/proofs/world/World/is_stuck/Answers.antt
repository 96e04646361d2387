use Rattle.std.proofs.Common.{◌≡◌, ◌<◌, not, List, length, get_or, arith, sym, ◌∙◌, ap, subst}
use Rattle.std.specs.Prelude.{is_some}
use Rattle.std.specs.List.{list_any}
use Rattle.rdm_lists.specs.Lists.{below}
use Rattle.rdm_model.specs.Beginnings.{port_count}
use Rattle.rdm_model.specs.Settled.{instruction_left}
use Rattle.rdm_port.specs.Views.{PortView}
use Rattle.rdm_world.specs.Views.{WorldView}
use Rattle.rdm_world.proofs.Playing.{over_shown, any_below, none_below, none_at_all}
use Rattle.rdm_world.proofs.world.World.is_stuck.Goals as goal

pub loop-port-init : goal.loop-port-init
loop-port-init c = λ job w is. none_at_all (λ port. is_some (instruction_left job port (w.logs port)))

pub returns-then-not-is_over : goal.returns-then-not-is_over
returns-then-not-is_over c =
    let ports : c.deref-port-items.result.now ≡ c.args.self.now.ports = c.deref-port-items.ensures.value ∙ ap (λ (v : WorldView). v.ports) c.self.view_is in
    let at = c.port-item.is ∙ ap (λ (ps : List PortView). get_or ps c.loop-port.port-index c.port-item.result) ports in
    let within : c.loop-port.port-index < length c.args.self.now.ports = subst (λ (ps : List PortView). c.loop-port.port-index < length ps) ports c.loop-port-test.true in
    λ job w is.
    (let n = is.count in
    let below_it : c.loop-port.port-index < port_count job = omega arith in
    let left = over_shown job w c.args.self.now c.loop-port.port-index c.port-item.result c.is_over.result is within at c.is_over.ensures ∙ ap not c.if-not-is_over.true in
    sym (any_below (λ port. is_some (instruction_left job port (w.logs port))) (port_count job) c.loop-port.port-index below_it left))

pub loop-port-preserved : goal.loop-port-preserved
loop-port-preserved c =
    let ports : c.deref-port-items.result.now ≡ c.args.self.now.ports = c.deref-port-items.ensures.value ∙ ap (λ (v : WorldView). v.ports) c.self.view_is in
    let at = c.port-item.is ∙ ap (λ (ps : List PortView). get_or ps c.loop-port.port-index c.port-item.result) ports in
    let within : c.loop-port.port-index < length c.args.self.now.ports = subst (λ (ps : List PortView). c.loop-port.port-index < length ps) ports c.loop-port-test.true in
    λ job w is.
    none_below (λ port. is_some (instruction_left job port (w.logs port))) c.loop-port.port-index (c.loop-port.invariant job w is)
    (over_shown job w c.args.self.now c.loop-port.port-index c.port-item.result c.is_over.result is within at c.is_over.ensures ∙ ap not c.if-not-is_over.false)

pub returns : goal.returns
returns c =
    let ports : c.deref-port-items.result.now ≡ c.args.self.now.ports = c.deref-port-items.ensures.value ∙ ap (λ (v : WorldView). v.ports) c.self.view_is in
    λ job w is.
    (let n = is.count in
    let long : length c.deref-port-items.result.now ≡ port_count job = ap (λ (ps : List PortView). length ps) ports ∙ n in
    let all : c.loop-port.port-index ≡ port_count job = omega arith in
    sym (c.loop-port.invariant job w is) ∙ ap (λ k. list_any (λ port. is_some (instruction_left job port (w.logs port))) (below k)) all)
