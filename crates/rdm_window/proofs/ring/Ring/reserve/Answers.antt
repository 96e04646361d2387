use Rattle.std.proofs.Common.{◌≡◌, ◌+◌, arith, ap, ◌∙◌}
use Rattle.rdm_window.specs.Marks.{with_room}
use Rattle.rdm_window.proofs.Marked.{marks_of, marks_same}
use Rattle.rdm_window.proofs.ring.Ring.reserve.Goals as goal

pub returns-clause-ok : goal.returns-clause-ok
returns-clause-ok c =
    let r = c.self.inside in
    let room : c.in_ok-room.room ≡ r.room + 1 = grind arith in
    marks_same r.next r.flags r.later.keys _ c.in_ok-room.room c.reserve.ensures.keys.2
    ∙ ap (marks_of r.next r.flags r.later.keys) room
    ∙ ap with_room c.self.view_is
