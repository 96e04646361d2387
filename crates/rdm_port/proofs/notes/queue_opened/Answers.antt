use Rattle.std.proofs.Common.{◌≡◌, ◌+◌, ◌∷◌, [], suc, refl, arith, append_assoc}
use Rattle.std.proofs.lemmas.Bool.{eq-eqb, ne_eqb}
use Rattle.std.proofs.lemmas.List.{append-nil}
use Rattle.rdm_port.proofs.Queued.{opened_below, opened_none, opened_all, opened_more, opened_note, opened_skips}
use Rattle.rdm_port.proofs.notes.queue_opened.Goals as goal
use Rattle.rdm_port.proofs.notes.queue_opened.Goals.{then-port-number, else-port-number}

pub loop-port-init : goal.loop-port-init
loop-port-init c = (rw (opened_none c.args.number.0 c.args.connid, append-nil) refl, omega arith, omega arith)

pub loop-port-preserved : goal.loop-port-preserved
loop-port-preserved c =
    elim c.if-port-number.branch [
      | then-port-number w ↦
          let next : c.loop-port.port + 1 ≡ suc c.loop-port.port = omega arith in
          let more = opened_more c.args.number.0 c.loop-port.port c.args.connid (ne_eqb c.loop-port.port c.args.number.0 w.if-port-number.true) in
          let join = append_assoc c.args.notes.now.items (opened_below c.args.number.0 c.args.connid c.loop-port.port) (opened_note c.args.connid c.loop-port.port ∷ []) in
          let was = c.loop-port.invariant.0 in
          let len = c.loop-port.invariant.1 in
          let cap = c.loop-port.invariant.2 in
          (cc (w.notes-is, w.push_reserved.ensures.items), rw w.notes-is (omega (arith, w.push_reserved.ensures.len)), rw w.notes-is (omega (arith, w.push_reserved.ensures.capacity)))
      | else-port-number w ↦
          let next : c.loop-port.port + 1 ≡ suc c.loop-port.port = omega arith in
          let skips = opened_skips c.args.number.0 c.loop-port.port c.args.connid (eq-eqb c.loop-port.port c.args.number.0 w.if-port-number.false) in
          let was = c.loop-port.invariant.0 in
          let len = c.loop-port.invariant.1 in
          let cap = c.loop-port.invariant.2 in
          (cc (w.notes-is), rw w.notes-is (omega arith), rw w.notes-is cap)
    ]

pub returns : goal.returns
returns c =
    let end : c.loop-port.port ≡ c.args.ports = omega arith in
    rw (← opened_all c.args.number.0 c.args.ports c.args.connid, ← end) c.loop-port.invariant.0
