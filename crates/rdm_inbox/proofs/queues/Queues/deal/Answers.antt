use Rattle.std.proofs.Common.{◌≡◌, [], ◌∷◌, ◌+◌, sym, ap, ◌∙◌, subst, arith, length, set, get_or, vec_len}
use Rattle.std.specs.Prelude.{slice_get}
use Rattle.rdm_inbox.specs.Sharing.{AreDealt}
use Rattle.rdm_inbox.proofs.Pointwise.{slice_get-read}
use Rattle.rdm_inbox.proofs.Dealing.{dealt_start, dealt_named, dealt_some, dealt_more}
use Rattle.rdm_inbox.proofs.queues.Queues.deal.Goals as goal
use Rattle.rdm_lists.proofs.Places.{slice_get-push, slice_get-append}

pub loop-row-init : goal.loop-row-init
loop-row-init c = record {
  rows = c.requires.rows.0;
  few = let n = c.requires.rows.1 in omega arith;
  dealt = subst (λ n. AreDealt c.args.all.now n c.args.all.now) (sym c.requires.rows.1) (dealt_start c.args.self.now.tables c.args.all.now c.requires.gathered);
}

pub part_row-requires-clause-named : goal.part_row-requires-clause-named
part_row-requires-clause-named c = dealt_named c.args.self.now.tables c.args.all.now c.requires.gathered c.loop-row.all (vec_len c.loop-row.rows) c.loop-row.invariant.dealt

pub part_row-requires-clause-some : goal.part_row-requires-clause-some
part_row-requires-clause-some c =
    let n = c.in-Some.ensures.cases in
    dealt_some c.args.self.now.tables c.args.all.now c.requires.gathered c.loop-row.all (vec_len c.loop-row.rows) c.loop-row.invariant.dealt (omega arith) c.loop-row.invariant.few

pub part_row-requires-clause-room : goal.part_row-requires-clause-room
part_row-requires-clause-room c =
    let is = c.loop-row.invariant.rows (length c.pop.new.self.items) c.in-Some.row (ap (λ l. slice_get l (length c.pop.new.self.items)) c.in-Some.ensures.items ∙ slice_get-push c.pop.new.self.items c.in-Some.row) in
    let room = is.1 in let long = c.loop-row.auto.all in (is.0, omega arith)

pub loop-row-preserved : goal.loop-row-preserved
loop-row-preserved c =
    let k = c.len-port.result in let e = c.len-port.ensures in let n = c.in-Some.ensures.cases in let few = c.loop-row.invariant.few in
    let more : vec_len c.loop-row.rows ≡ k + 1 = omega arith in let long = c.part_row.auto.all in record {
      rows = λ port row at. c.loop-row.invariant.rows port row (ap (λ l. slice_get l port) c.in-Some.ensures.items ∙ slice_get-append c.pop.new.self.items (c.in-Some.row ∷ []) port row at);
      few = omega arith;
      dealt = subst (λ i. AreDealt c.args.all.now i (set c.part_row.new.all k c.give.new.self)) e
          (dealt_more c.args.self.now.tables c.args.all.now c.requires.gathered c.loop-row.all c.part_row.new.all k (get_or c.part_row.new.all k c.index-all-port.result) c.give.new.self c.part_row.new.row.items
          (subst (λ i. AreDealt c.args.all.now i c.loop-row.all) more c.loop-row.invariant.dealt) (omega arith) c.part_row.ensures.left c.part_row.auto.all c.part_row.ensures.row
          (slice_get-read c.part_row.new.all k c.index-all-port.result (let same = c.loop-row.auto.all in omega arith)) c.give.ensures);
    }
