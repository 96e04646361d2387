use Rattle.std.proofs.Common.{ap, sym, refl, ◌∙◌}
use Rattle.std.specs.Option.{option_copied}
use Rattle.rdm_peer.specs.Account.{wants_raw}
use Rattle.rdm_peers.specs.Accounts.{Acquaintance}
use Rattle.rdm_peers.proofs.Strangers.{is_stranger}
use Rattle.rdm_peers.proofs.peers.Peers.wants_raw.Goals as goal

pub returns-in-None : goal.returns-in-None
unfolding wants_raw
returns-in-None c =
    ap (λ (a : Acquaintance). wants_raw a.peer.known) (is_stranger c.args.self.now c.args.life _ refl (sym (ap option_copied c.in-None.is) ∙ c.get.ensures))
