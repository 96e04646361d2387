use Rattle.std.proofs.Common.{ap, sym, ◌∙◌}
use Rattle.std.specs.Option.{option_copied}
use Rattle.rdm_window.specs.Window.{state_of}
use Rattle.rdm_peers.specs.Accounts.{Acquaintance}
use Rattle.rdm_peers.specs.Table.{Known}
use Rattle.rdm_peers.proofs.Strangers.{is_stranger, below_entered, others_new}
use Rattle.rdm_peers.proofs.peers.Peers.heard.Goals as goal

pub returns-in-None : goal.returns-in-None
returns-in-None c =
    below_entered c.self.inside.first c.args.no.0 c.if-no-self.true
    ∙ ap (λ (a : Acquaintance). state_of a.hearing c.args.no.0) (is_stranger c.args.self.now c.args.life _ (ap (λ (k : Known). k.first) c.self.view_is) (sym (ap option_copied c.in-None.is) ∙ c.get.ensures))

pub returns-in-None-2 : goal.returns-in-None-2
returns-in-None-2 c =
    others_new c.self.inside.first c.args.no.0 c.if-no-self.false
    ∙ ap (λ (a : Acquaintance). state_of a.hearing c.args.no.0) (is_stranger c.args.self.now c.args.life _ (ap (λ (k : Known). k.first) c.self.view_is) (sym (ap option_copied c.in-None.is) ∙ c.get.ensures))
