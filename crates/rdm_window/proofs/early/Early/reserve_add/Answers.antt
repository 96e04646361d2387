use Rattle.std.proofs.lemmas.Result.{on_ok_weaker, on_err_weaker}
use Rattle.rdm_window.specs.Message.{with_room}
use Rattle.rdm_window.proofs.Messages.{with_changed, with_same, has_room}
use Rattle.rdm_window.proofs.early.Early.reserve_add.Goals as goal

pub returns-clause-ok : goal.returns-clause-ok
returns-clause-ok c =
    on_ok_weaker c.reserve_add.result (with_changed c.args.self.now c.args.life c.args.no _ _ c.held_mut.ensures.value with_room) c.reserve_add.ensures.ok

pub returns-clause-room : goal.returns-clause-room
returns-clause-room c =
    on_ok_weaker c.reserve_add.result (has_room c.args.self.now c.args.life c.args.no _ _) c.reserve_add.ensures.ok

pub returns-clause-err : goal.returns-clause-err
returns-clause-err c =
    on_err_weaker c.reserve_add.result (with_same c.args.self.now c.args.life c.args.no _ _ c.held_mut.ensures.value) c.reserve_add.ensures.err
