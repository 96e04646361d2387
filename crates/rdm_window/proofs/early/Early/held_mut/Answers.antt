use Rattle.std.proofs.Common.{◌≡◌, ◌∙◌, refl, sym, ap, Some}
use Rattle.std.specs.Option.{option_copied_mut, is_some}
use Rattle.rdm_window.specs.Early.{message_at}
use Rattle.rdm_window.proofs.Messages.{message_is_lookup, held_with, not_there}
use Rattle.rdm_window.proofs.early.Early.held_mut.Goals as goal

pub unreachable-requires : goal.unreachable-requires
unreachable-requires c =
    let at = (rw c.key.ensures at c.get_mut.ensures.value) ∙ message_is_lookup _ _ _ c.self.view_is c.args.life c.args.no in
    not_there _ c.requires (sym at ∙ ap option_copied_mut c.in-None.is)

pub returns : goal.returns
returns c =
    let was : Some c.in-Some.message.now ≡ message_at c.args.self.now c.args.life c.args.no =
    (rw c.key.ensures at c.in-Some.ensures.value) ∙ message_is_lookup _ _ _ c.self.view_is c.args.life c.args.no in
    let there = sym (ap is_some c.in-Some.ensures.value) in (
      (refl, λ w. held_with _ _ _ c.self.view_is (c.get_mut.follows.lender w).entries c.args.life c.args.no w (rw c.key.ensures at ((c.get_mut.follows.holds w).3 there).0)),
      record { writes_back = tt; value = was },
    )
