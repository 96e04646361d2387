use Rattle.std.proofs.Common.{length, sym, ap, ◌∙◌}
use Rattle.rdm_num.specs.declared.numbers.OpId.{OpId}
use Rattle.rdm_land.specs.Landed.{Landed, capacity}
use Rattle.rdm_land.proofs.Came.{length-came}
use Rattle.rdm_rx.specs.Receiving.{ReceivingView}
use Rattle.rdm_receives.proofs.receive.Receive.take_message.Goals as goal

pub invariant_of-self : goal.invariant_of-self
invariant_of-self c =
    let places = ap (λ (l : Landed). capacity l) c.arrive.ensures ∙ length-came c.args.gaps.places c.args.bytes.now c.self.inside.landing.tiles.cells in
    let missing = ap (λ (l : Landed). length l.missing) c.arrive.ensures in
    let head = ap (λ (r : ReceivingView). r.head.length) c.new.ensures in
    (places ∙ c.self.invariant.0, (ap (λ (r : ReceivingView). r.recv) c.new.ensures, missing ∙ c.requires.places ∙ sym head))
