use Rattle.std.proofs.Common.{ap, sym, ◌∙◌}
use Rattle.std.specs.Prelude.{option_map}
use Rattle.std.specs.Option.{option_copied}
use Rattle.rdm_num.specs.Lives.{life}
use Rattle.rdm_av.proofs.HeldLives.{current_is_lookup}
use Rattle.rdm_av.proofs.Av.current.Goals as goal

pub returns-in-Some : goal.returns-in-Some
returns-in-Some c =
    sym (current_is_lookup _ _ _ _ c.self.view_is c.args.port ∙ ap (option_map (life c.args.port)) (sym c.get.ensures.value ∙ ap option_copied c.in-Some.is))

pub returns-in-None : goal.returns-in-None
returns-in-None c =
    sym (current_is_lookup _ _ _ _ c.self.view_is c.args.port ∙ ap (option_map (life c.args.port)) (sym c.get.ensures.value ∙ ap option_copied c.in-None.is))
