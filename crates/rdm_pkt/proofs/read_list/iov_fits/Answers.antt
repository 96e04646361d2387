use Rattle.std.proofs.Common.{sym, ◌∙◌}
use Rattle.rdm_num.specs.declared.lists.IovEntry.{IovEntry}
use Rattle.rdm_pkt.proofs.ReadLists.{iov-none, iov-many, iov-bad, iov-long, iov-all}
use Rattle.rdm_pkt.proofs.Forms.{is-empty, not-empty}
use Rattle.rdm_pkt.proofs.read_list.iov_fits.Goals as goal

-- what an index beyond the list would give
abbrev nothing : IovEntry
nothing = record { offset = 0; length = 0; key = 0 }

pub returns-then-is_empty : goal.returns-then-is_empty
returns-then-is_empty c = sym (iov-none c.args.iov.now c.args.size (is-empty _ c.is_empty.result c.is_empty.ensures c.if-is_empty.true))

pub returns-then-iov-gt4 : goal.returns-then-iov-gt4
returns-then-iov-gt4 c = sym (iov-many c.args.iov.now c.args.size c.if-iov-gt4.true)

pub returns-then-not-entry_fits : goal.returns-then-not-entry_fits
returns-then-not-entry_fits c =
    sym (iov-bad c.args.iov.now c.args.size c.loop-entry.entry-index nothing c.loop-entry-test.true (sym c.entry_fits.ensures ∙ c.if-not-entry_fits.true))

pub returns-then-entry-left : goal.returns-then-entry-left
returns-then-entry-left c =
    sym (iov-long c.args.iov.now c.args.size c.loop-entry.entry-index c.loop-entry.left nothing c.loop-entry-test.true c.loop-entry.invariant.sum c.if-entry-left.true)

pub returns : goal.returns
returns c =
    sym (iov-all c.args.iov.now c.args.size c.loop-entry.left c.loop-entry.entry-index (not-empty _ c.is_empty.result c.is_empty.ensures c.if-is_empty.false) c.if-iov-gt4.false c.loop-entry-test.false c.loop-entry.invariant.good c.loop-entry.invariant.sum)
