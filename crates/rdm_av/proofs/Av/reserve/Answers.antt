use Rattle.std.proofs.Common.{◌≡◌, ◌+◌, arith, ap, ◌∙◌}
use Rattle.std.proofs.lemmas.Result.{MatchResult-from_err}
use Rattle.rdm_av.specs.Lives.{with_room}
use Rattle.rdm_av.proofs.HeldLives.{lives_of, map_same, set_same}
use Rattle.rdm_av.proofs.Av.reserve.Goals as goal

pub returns-in_err-reserve-2-clause-err : goal.returns-in_err-reserve-2-clause-err
returns-in_err-reserve-2-clause-err c =
    MatchResult-from_err c.from_residual-in_err-reserve-2.result _ _ c.from_residual-in_err-reserve-2.ensures.0 (λ _.
    (λ i. lives_of (map_same c.self.inside.current.entries _ c.reserve.ensures.entries.2 i) (set_same c.self.inside.superseded.keys _ c.reserve-2.ensures.keys.2 i) c.self.inside.room)
    ∙ c.self.view_is)

pub returns-clause-ok : goal.returns-clause-ok
returns-clause-ok c =
    let room : c.in_ok-room.room ≡ c.self.inside.room + 1 = grind arith in
    (λ i. lives_of (map_same c.self.inside.current.entries _ c.reserve.ensures.entries.2 i) (set_same c.self.inside.superseded.keys _ c.reserve-2.ensures.keys.2 i) (room i))
    ∙ ap with_room c.self.view_is
