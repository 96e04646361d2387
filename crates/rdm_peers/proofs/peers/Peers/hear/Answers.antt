use Rattle.std.proofs.Common.{◌<◌, ap, sym, subst, ◌∙◌}
use Rattle.rdm_window.specs.Window.{state_of, IsLeastMissing}
use Rattle.rdm_peers.specs.Accounts.{Acquaintance, with_heard}
use Rattle.rdm_peers.proofs.Known.{with_changed, found, given, roomy_known}
use Rattle.rdm_peers.proofs.peers.Peers.hear.Goals as goal

pub account_mut-requires : goal.account_mut-requires
account_mut-requires c = roomy_known _ _ c.requires.room

pub hear-requires-clause-state : goal.hear-requires-clause-state
hear-requires-clause-state c =
    ap (λ (a : Acquaintance). state_of a.hearing c.args.no.0) (found c.args.self.now c.args.life _ c.account_mut.ensures.value) ∙ c.requires.state

pub hear-requires-clause-room : goal.hear-requires-clause-room
hear-requires-clause-room c =
    subst (λ (a : Acquaintance). 0 < a.hearing.room) (sym (found c.args.self.now c.args.life _ c.account_mut.ensures.value)) c.requires.room

pub returns-clause-after : goal.returns-clause-after
returns-clause-after c =
    with_changed c.args.self.now c.args.life _ _ c.account_mut.ensures.value (with_heard c.args.no.0 c.hear.result) c.hear.ensures.after

pub returns-clause-least : goal.returns-clause-least
returns-clause-least c =
    subst (λ (a : Acquaintance). IsLeastMissing a.hearing) (sym (given c.args.self.now c.args.life _)) c.hear.ensures.least
