use Rattle.std.proofs.Common.{◌≡◌, ◌∙◌, refl, sym, ap, Some}
use Rattle.std.specs.Option.{option_copied_mut, is_some}
use Rattle.rdm_peers.specs.Table.{account_at}
use Rattle.rdm_peers.proofs.Known.{account_is_lookup, known_with, not_there}
use Rattle.rdm_peers.proofs.peers.Peers.account_mut.Goals as goal

pub unreachable-requires : goal.unreachable-requires
unreachable-requires c =
    let at = (rw c.key.ensures at c.get_mut.ensures.value) ∙ account_is_lookup _ _ _ c.self.view_is c.args.life in
    not_there _ c.requires (sym at ∙ ap option_copied_mut c.in-None.is)

pub returns : goal.returns
returns c =
    let was : Some c.in-Some.account.now ≡ account_at c.args.self.now c.args.life =
    (rw c.key.ensures at c.in-Some.ensures.value) ∙ account_is_lookup _ _ _ c.self.view_is c.args.life in
    let there = sym (ap is_some c.in-Some.ensures.value) in (
      (refl, λ w. known_with _ _ _ c.self.view_is (c.get_mut.follows.lender w).entries c.args.life w (rw c.key.ensures at ((c.get_mut.follows.holds w).3 there).0)),
      record { writes_back = tt; value = was },
    )
