use Rattle.std.proofs.lemmas.Result.{on_ok_weaker, on_err_weaker}
use Rattle.rdm_peers.specs.Accounts.{with_room}
use Rattle.rdm_peers.proofs.Known.{with_changed, with_same, room_made}
use Rattle.rdm_peers.proofs.peers.Peers.reserve_hear.Goals as goal

pub returns-clause-ok : goal.returns-clause-ok
returns-clause-ok c =
    on_ok_weaker c.reserve_hear.result (with_changed c.args.self.now c.args.life _ _ c.account_mut.ensures.value with_room) c.reserve_hear.ensures.ok

pub returns-clause-room : goal.returns-clause-room
returns-clause-room c = on_ok_weaker c.reserve_hear.result (room_made c.args.self.now c.args.life _ _) c.reserve_hear.ensures.ok

pub returns-clause-err : goal.returns-clause-err
returns-clause-err c =
    on_err_weaker c.reserve_hear.result (with_same c.args.self.now c.args.life _ _ c.account_mut.ensures.value) c.reserve_hear.ensures.err
