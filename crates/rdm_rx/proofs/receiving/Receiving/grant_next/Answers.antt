use Rattle.std.proofs.Common.{◌≡◌, ◌<◌, ◌^◌, arith, rules, sym, ap}
use Rattle.rdm_rx.specs.Receiving.{ReceivingView}
use Rattle.rdm_rx.proofs.Windows.{next_within}
use Rattle.rdm_rx.proofs.receiving.Receiving.grant_next.Goals as goal

pub overflow_add-self : goal.overflow_add-self
overflow_add-self c =
    let l = c.self.invariant.1 in
    let g : c.self.inside.granted < 2 ^ 64 = search rules in
    let w = next_within c.args.landed c.args.limits.now c.args.self.now in
    let a : c.args.self.now.granted ≡ c.self.inside.granted = ap (λ (r : ReceivingView). r.granted) (sym c.self.view_is) in
    let b : c.args.self.now.head.length ≡ c.self.inside.head.length = ap (λ (r : ReceivingView). r.head.length) (sym c.self.view_is) in
    let e = c.next_window-size.ensures in
    omega (arith, l, g, w, a, b, e)
