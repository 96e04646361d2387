use Rattle.rdm_window.specs.Message.{filled, with_spent}
use Rattle.rdm_window.proofs.Messages.{with_changed}
use Rattle.rdm_window.proofs.early.Early.add_reserved.Goals as goal

pub returns : goal.returns
returns c =
    with_changed c.args.self.now c.args.life c.args.no _ _ c.held_mut.ensures.value (λ m. with_spent (filled m c.args.at c.args.bytes.now)) c.add_reserved.ensures
