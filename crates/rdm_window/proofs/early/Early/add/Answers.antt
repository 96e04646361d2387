use Rattle.std.proofs.lemmas.Result.{on_ok_weaker, on_err_weaker}
use Rattle.rdm_window.specs.Message.{filled}
use Rattle.rdm_window.proofs.Messages.{with_changed, with_same}
use Rattle.rdm_window.proofs.early.Early.add.Goals as goal

pub returns-clause-ok : goal.returns-clause-ok
returns-clause-ok c =
    on_ok_weaker c.add.result (with_changed c.args.self.now c.args.life c.args.no _ _ c.held_mut.ensures.value (λ m. filled m c.args.at c.args.bytes.now)) c.add.ensures.ok

pub returns-clause-err : goal.returns-clause-err
returns-clause-err c =
    on_err_weaker c.add.result (with_same c.args.self.now c.args.life c.args.no _ _ c.held_mut.ensures.value) c.add.ensures.err
