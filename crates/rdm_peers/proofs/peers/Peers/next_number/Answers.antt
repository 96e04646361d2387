use Rattle.std.proofs.Common.{ap, sym, ◌∙◌}
use Rattle.std.specs.Option.{option_copied}
use Rattle.rdm_peer.specs.Account.{number_given}
use Rattle.rdm_peers.specs.Accounts.{Acquaintance}
use Rattle.rdm_peers.specs.Table.{Known}
use Rattle.rdm_peers.proofs.Strangers.{is_stranger, first_given}
use Rattle.rdm_peers.proofs.peers.Peers.next_number.Goals as goal

pub returns-in-None : goal.returns-in-None
returns-in-None c =
    first_given c.self.inside.first c.self.invariant
    ∙ ap (λ (a : Acquaintance). number_given a.peer) (is_stranger c.args.self.now c.args.life _ (ap (λ (k : Known). k.first) c.self.view_is) (sym (ap option_copied c.in-None.is) ∙ c.get.ensures))
