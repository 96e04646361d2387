use Rattle.std.proofs.Common.{sym, subst, ◌<◌}
use Rattle.rdm_peers.specs.Accounts.{Acquaintance, with_spent}
use Rattle.rdm_peers.proofs.Known.{with_changed, found, roomy_known}
use Rattle.rdm_peers.proofs.peers.Peers.give_back_hear.Goals as goal

pub account_mut-requires : goal.account_mut-requires
account_mut-requires c = roomy_known _ _ c.requires

pub give_back_hear-requires : goal.give_back_hear-requires
give_back_hear-requires c =
    subst (λ (a : Acquaintance). 0 < a.hearing.room) (sym (found c.args.self.now c.args.life _ c.account_mut.ensures.value)) c.requires

pub returns : goal.returns
returns c = with_changed c.args.self.now c.args.life _ _ c.account_mut.ensures.value with_spent c.give_back_hear.ensures
