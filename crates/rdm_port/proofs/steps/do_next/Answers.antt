use Rattle.std.proofs.Common.{◌≡◌, List, length, true, Some, refl, ap, ◌∙◌, sym, arith, inl}
use Rattle.std.specs.Prelude.{slice_get}
use Rattle.rdm_model.specs.declared.job.Instr.{Instr}
use Rattle.rdm_model.specs.Answers.{is_entry}
use Rattle.rdm_port.specs.Views.{PortView}
use Rattle.rdm_port.specs.Kept.{Kept, IsKept, places_of}
use Rattle.rdm_port.specs.Nexts.{NextTakesNone}
use Rattle.rdm_port.proofs.NextRoom.{entry_places}
use Rattle.rdm_port.proofs.NextSpares.{Spared, spared_next, unless_not, entry_is, entry_not}
use Rattle.rdm_port.proofs.NextSteps.{ended_as, stays_as, wants_as, goes_as, counted_as, entry_as, entry_counts, reads, reads_none, owned}
use Rattle.rdm_port.proofs.Moves.{logs_none}
use Rattle.rdm_port.proofs.steps.do_next.Goals as goal
use Rattle.rdm_port.proofs.steps.do_next.Goals.{In-Some}

-- the instruction that is read is the next one
left : (c : In-Some) (v : PortView) → v.rank.ops ≡ c.args.ops.now → slice_get v.rank.ops c.args.state.now.done ≡ Some c.in-Some.instr.now
left c v ops =
    reads v.rank.ops c.args.ops.now c.as_slice.result.now c.args.state.now _ c.in-Some.instr.now ops c.as_slice.ensures c.state.view_is c.in-Some.ensures.lookup.3.0
    (c.in-Some.ensures.lookup.3.1 c.in-Some.instr.now)

pub returns-in_default-clause-does : goal.returns-in_default-clause-does
returns-in_default-clause-does c = λ v o ops log k.
    ended_as v c.args.state.now c.args.log.now.list log k
    (reads_none v.rank.ops c.args.ops.now c.as_slice.result.now c.args.state.now _ ops c.as_slice.ensures c.state.view_is c.in_default.ensures.lookup.3)

pub returns-then-not-is_entry-clause-does : goal.returns-then-not-is_entry-clause-does
returns-then-not-is_entry-clause-does c = λ v o ops log k.
    stays_as v c.args.state.now c.in-Some.instr.now c.answer_now-answer.result c.args.log.now.list log k
    (left (goal.at.returns-then-not-is_entry-clause-does c).In-Some v ops) (c.answer_now-answer.ensures.says v o.number o.limits)
    (sym c.if-not-is_entry.ensures)

pub returns-in_default-take_room-clause-does : goal.returns-in_default-take_room-clause-does
returns-in_default-take_room-clause-does c = λ v o ops log k.
    wants_as v c.args.state.now c.args.state.now c.in-Some.instr.now c.take_room.new.log.list (log ∙ sym c.in_default-take_room.ensures.list) refl k
    (left (goal.at.returns-in_default-take_room-clause-does c).In-Some v ops)

pub returns-in_default-follow-clause-does : goal.returns-in_default-follow-clause-does
returns-in_default-follow-clause-does c = λ v o ops log k.
    wants_as v c.args.state.now c.follow.new.self c.in-Some.instr.now c.take_room.new.log.list (log ∙ sym c.in-Ok.ensures.list) c.in_default-follow.ensures.err k
    (left (goal.at.returns-in_default-follow-clause-does c).In-Some v ops)

pub returns-clause-does : goal.returns-clause-does
returns-clause-does c = λ v o ops log k.
    let state = c.args.state.now in
    let instr = c.in-Some.instr.now in
    let answer = c.answer_now-answer.result in
    let says = c.answer_now-answer.ensures.says v o.number o.limits in
    let enters : is_entry answer ≡ true = sym c.if-not-is_entry.ensures in
    let n = counted_as v state _ instr answer c.saturating_add-state-inside.result c.saturating_add-now.result k says enters (c.state-2.view_is ∙ c.in-Ok-follow.ensures.ok v o)
    c.saturating_add-state-inside.ensures c.saturating_add-now.ensures in
    goes_as v state _ instr answer c.push.new.self.list
    (entry_as v state instr answer c.saturating_add-now.result c.args.owner.now.number c.state-2.inside.done c.op_of.result c.args.log.now.list c.take_room.new.log.list
    c.push.new.self.list log c.in-Ok.ensures.list c.push.ensures.list n.now o.number n.was c.op_of.ensures)
    n.counts k
    (left (goal.at.returns-clause-does c).In-Some v ops) says enters

pub returns-clause-room : goal.returns-clause-room
returns-clause-room c =
    let v = owned c.args.owner.now in
    let most = entry_places v.0 c.args.state.now c.in-Some.instr.now c.answer_now-answer.result in
    let after = c.state-2.view_is ∙ c.in-Ok-follow.ensures.ok v.0 v.1 in
    let same = ap (λ (s : Kept). places_of s.endpoint) after in
    let was = ap (λ (s : Kept). s.done) after ∙ (entry_counts v.0 c.args.state.now c.in-Some.instr.now c.answer_now-answer.result).done in
    let now = c.saturating_add-state-inside.ensures in
    let all = ap (λ (xs : List Instr). length xs) c.as_slice.ensures in
    let all' = ap (λ (xs : List Instr). length xs) c.as_slice-2.ensures in
    let within = c.in-Some.ensures.lookup.3.0 in
    let at = ap (λ (s : Kept). s.done) c.state.view_is in
    let taken = c.in-Ok.ensures.ok in
    let pushed = c.push.ensures.room in
    omega arith

-- the instruction that is done takes no memory
spares : (c : In-Some) (v : PortView) → v.rank.ops ≡ c.args.ops.now → IsKept v c.args.state.now → NextTakesNone v → Spared v c.args.state.now c.in-Some.instr.now
spares c v ops k t = spared_next v c.args.state.now c.in-Some.instr.now k (left c v ops) t

pub returns-in_default-clause-spared : goal.returns-in_default-clause-spared
returns-in_default-clause-spared c = λ v ops k t m. cc m

pub returns-then-not-is_entry-clause-spared : goal.returns-then-not-is_entry-clause-spared
returns-then-not-is_entry-clause-spared c = λ v ops k t.
    let s = spares (goal.at.returns-then-not-is_entry-clause-spared c).In-Some v ops k t in
    unless_not c.args.state.now c.answer_now-answer.result _ (c.answer_now-answer.ensures.spared v s.takes) s.answers

pub returns-in_default-take_room-clause-spared : goal.returns-in_default-take_room-clause-spared
returns-in_default-take_room-clause-spared c = λ v ops k t.
    let s = spares (goal.at.returns-in_default-take_room-clause-spared c).In-Some v ops k t in
    cc (c.in_default-take_room.ensures.spared s.takes)

pub returns-in_default-follow-clause-spared : goal.returns-in_default-follow-clause-spared
returns-in_default-follow-clause-spared c = λ v ops k t.
    let s = spares (goal.at.returns-in_default-follow-clause-spared c).In-Some v ops k t in
    cc (c.in_default-follow.ensures.spared s.takes v (entry_is c.args.state.now c.answer_now-answer.result _ (c.answer_now-answer.ensures.spared v s.takes) (sym c.if-not-is_entry.ensures)))

pub returns-clause-spared : goal.returns-clause-spared
returns-clause-spared c = λ v ops k t. entry_not c.answer_now-answer.result (sym c.if-not-is_entry.ensures)

pub returns-in_default-clause-moves : goal.returns-in_default-clause-moves
returns-in_default-clause-moves c = inl refl

pub returns-then-not-is_entry-clause-moves : goal.returns-then-not-is_entry-clause-moves
returns-then-not-is_entry-clause-moves c = inl refl

pub returns-in_default-take_room-clause-moves : goal.returns-in_default-take_room-clause-moves
returns-in_default-take_room-clause-moves c = inl c.in_default-take_room.ensures.list

pub returns-in_default-follow-clause-moves : goal.returns-in_default-follow-clause-moves
returns-in_default-follow-clause-moves c = inl c.in-Ok.ensures.list

pub returns-clause-moves : goal.returns-clause-moves
returns-clause-moves c = logs_none _ c.args.log.now.list c.take_room.new.log.list c.push.new.self.list c.in-Ok.ensures.list c.push.ensures.list tt
