use Rattle.std.proofs.Common.{◌≡◌, ◌≤◌, true, length, sym, subst, arith}
use Rattle.rdm_hdr.specs.Fields.{fields_fit}
use Rattle.rdm_pkt.specs.declared.Form.{Form}
use Rattle.rdm_pkt.specs.Grammar.{form_fields, last_fields}
use Rattle.rdm_pkt.proofs.PacketSizes.{form-few, iov_count}
use Rattle.rdm_pkt.proofs.Rows.{fit-nothing}
use Rattle.rdm_pkt.proofs.InRange.{fit_medium, fit_long_cts, fit_long_read, fit_runt, fit_last}
use Rattle.rdm_pkt.proofs.ranges.form_in_range.Goals as goal

pub returns-in-Medium-clause-header : goal.returns-in-Medium-clause-header
returns-in-Medium-clause-header c =
    subst (λ (f : Form). fields_fit (form_fields f) ≡ true) (sym c.in-Medium.is) (fit_medium c.in-Medium.msg_length c.in-Medium.offset c.in-Medium.bytes (omega arith) (omega arith))

pub returns-in-Medium-clause-last : goal.returns-in-Medium-clause-last
unfolding last_fields
returns-in-Medium-clause-last c =
    subst (λ (f : Form). fields_fit (last_fields f) ≡ true) (sym c.in-Medium.is) (rw c.as_slice-in-Medium.ensures at c.bytes_in_range-in-Medium.ensures)

pub returns-in-LongCts-clause-header : goal.returns-in-LongCts-clause-header
returns-in-LongCts-clause-header c =
    subst (λ (f : Form). fields_fit (form_fields f) ≡ true) (sym c.in-LongCts.is) (fit_long_cts c.in-LongCts.msg_length c.in-LongCts.send_id c.in-LongCts.credit_request c.in-LongCts.bytes (omega arith) (omega arith) (omega arith))

pub returns-in-LongCts-clause-last : goal.returns-in-LongCts-clause-last
unfolding last_fields
returns-in-LongCts-clause-last c =
    subst (λ (f : Form). fields_fit (last_fields f) ≡ true) (sym c.in-LongCts.is) (rw c.as_slice-in-LongCts.ensures at c.bytes_in_range-in-LongCts.ensures)

pub returns-in-LongRead-clause-header : goal.returns-in-LongRead-clause-header
returns-in-LongRead-clause-header c =
    let few : length c.in-LongRead.iov ≤ 4 = subst (λ (f : Form). iov_count f ≤ 4) c.in-LongRead.is (form-few c.args.form.now c.requires) in
    subst (λ (f : Form). fields_fit (form_fields f) ≡ true) (sym c.in-LongRead.is) (fit_long_read c.in-LongRead.msg_length c.in-LongRead.send_id c.in-LongRead.iov (omega arith) (omega arith) few)

pub returns-in-LongRead-clause-last : goal.returns-in-LongRead-clause-last
unfolding last_fields
returns-in-LongRead-clause-last c =
    subst (λ (f : Form). fields_fit (last_fields f) ≡ true) (sym c.in-LongRead.is) (rw c.as_slice-in-LongRead.ensures.items at c.iov_in_range.ensures)

pub returns-in-Runt-clause-header : goal.returns-in-Runt-clause-header
returns-in-Runt-clause-header c =
    let few : length c.in-Runt.iov ≤ 4 = subst (λ (f : Form). iov_count f ≤ 4) c.in-Runt.is (form-few c.args.form.now c.requires) in
    subst (λ (f : Form). fields_fit (form_fields f) ≡ true) (sym c.in-Runt.is) (fit_runt c.in-Runt.msg_length c.in-Runt.send_id c.in-Runt.iov c.in-Runt.runt_length c.in-Runt.offset c.in-Runt.bytes (omega arith) (omega arith) few (omega arith) (omega arith))

pub returns-in-Runt-clause-last : goal.returns-in-Runt-clause-last
unfolding last_fields
returns-in-Runt-clause-last c =
    subst (λ (f : Form). fields_fit (last_fields f) ≡ true) (sym c.in-Runt.is) (fit_last c.in-Runt.iov c.in-Runt.bytes (rw c.as_slice-in-Runt.ensures.items at c.iov_in_range-in-Runt.ensures) (rw c.as_slice-in-Runt-2.ensures at c.bytes_in_range-in-Runt.ensures))

pub returns-in-Eager-clause-header : goal.returns-in-Eager-clause-header
unfolding form_fields
returns-in-Eager-clause-header c = subst (λ (f : Form). fields_fit (form_fields f) ≡ true) (sym c.in-Eager.is) fit-nothing

pub returns-in-Eager-clause-last : goal.returns-in-Eager-clause-last
unfolding last_fields
returns-in-Eager-clause-last c =
    subst (λ (f : Form). fields_fit (last_fields f) ≡ true) (sym c.in-Eager.is) (rw c.as_slice.ensures at c.bytes_in_range.ensures)
