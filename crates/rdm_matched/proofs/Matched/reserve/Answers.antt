use Rattle.std.proofs.Common.{◌≡◌, ◌+◌, ap, ◌∙◌, arith}
use Rattle.rdm_matched.specs.Matches.{with_room}
use Rattle.rdm_matched.proofs.Kept.{matches_in, matches_same}
use Rattle.rdm_matched.proofs.Matched.reserve.Goals as goal

pub returns-clause-ok : goal.returns-clause-ok
returns-clause-ok c =
    let room : c.in_ok-room.room ≡ c.self.inside.room + 1 = grind arith in
    (λ i. matches_in (room i) (matches_same c.self.inside.receives.entries _ c.reserve.ensures.entries.2 i))
    ∙ ap with_room c.self.view_is
