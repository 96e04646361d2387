use Rattle.std.proofs.Common.{ap, ◌∙◌, ◌-◌}
use Rattle.rdm_matched.specs.Matches.{Matches, with_match}
use Rattle.rdm_matched.proofs.Kept.{put_is}
use Rattle.rdm_matched.proofs.Matched.put.Goals as goal

pub returns : goal.returns
returns c =
    put_is _ _ _ c.self.view_is c.args.life c.args.no _ c.args.recv (c.self.inside.room - 1) (rw c.key.ensures at c.in-Ok.ensures.updates.0)
    ∙ ap (λ (m : Matches). record (with_match c.args.self.now c.args.life c.args.no c.args.recv) { room = m.room - 1 }) c.self.view_is
